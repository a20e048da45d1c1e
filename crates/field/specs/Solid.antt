-- The solid that a part file describes (document 01, "The field"): "The solid is where the field is at least the iso-value." The exact field, the
-- bounds, the tolerance and the marks are functions of it.
use Rattle.std.specs.Prelude.{List, cond, ℕ, eqb}
use Rattle.record.specs.declared.Node.{Node}
use Rattle.part.specs.declared.Summary.{Summary}
use Rattle.part.specs.Accepted.{Tree}
use Rattle.part.specs.File.{iso, nodes, summary}
use Rattle.field.specs.Kernel.{Kernel, quartic, sextic}
use Rattle.field.specs.Lawful.{Lawful}

pub record Solid : Type 0 where
  pub kernel : Kernel
  pub iso : ℕ
  pub nodes : List Node

-- the kernel of an accepted file's points: "Part files with version 2 mean degree 6 for all their points; version 1 is read as before" (document 02,
-- P9), degree 4
unfoldable pub kernel_of : Summary → Kernel
kernel_of part = cond (eqb part.version 2) sextic quartic

-- the solid of a file
abbrev pub solid_of : List ℕ → Solid
solid_of file = record { kernel = kernel_of (summary file); iso = iso file; nodes = nodes file }

-- what the theorems ask of a solid; an accepted file's has it (`valid_solid`)
pub record Valid (solid : Solid) : Type 0 where
  pub lawful : Lawful solid.kernel
  pub tree : Tree solid.nodes
