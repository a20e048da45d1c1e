-- The kernel of an accepted file is lawful (`kernel_lawful`), so its solid has what the theorems ask (`valid_solid`).
use Rattle.std.specs.Prelude.{Ok}
use mathlib.Core.Path.{◌≡◌}
use mathlib.Core.Bool.{Bool, true, false, cond}
use mathlib.Core.List.{List}
use Prim.Native.Nat.{ℕ}
use lib.Dec.{eqb}
use Rattle.part.specs.declared.Summary.{Summary}
use Rattle.part.specs.File.{summary, check_file}
use Rattle.part.proofs.Accepted.{accepted_file}
use Rattle.field.specs.Kernel.{quartic, sextic}
use Rattle.field.specs.Lawful.{Lawful}
use Rattle.field.specs.Solid.{kernel_of, solid_of, Valid}
use Rattle.field.proofs.Kernels.{quartic_lawful, sextic_lawful}

pub kernel_lawful : (part : Summary) → Lawful (kernel_of part)
unfolding kernel_of
kernel_lawful part = go (eqb part.version 2)
  where
    go : (b : Bool) → Lawful (cond b sextic quartic)
    go true = sextic_lawful
    go false = quartic_lawful

pub valid_solid : (file : List ℕ) {part : Summary} → check_file file ≡ Ok part → Valid (solid_of file)
valid_solid file e = record { lawful = kernel_lawful (summary file); tree = (accepted_file file e).tree }
