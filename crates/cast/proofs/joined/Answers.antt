use mathlib.Core.Path.{ap}
use Prim.Native.Nat.{ℕ, ◌+◌}
use Rattle.cast.proofs.Columns.{shifted, joined_fits}
use Rattle.cast.proofs.joined.Goals as goal

pub overflow_add-result : goal.overflow_add-result
overflow_add-result c = let p = c.requires in record { fits = joined_fits p.0 p.1 p.2 }

pub returns : goal.returns
returns c = let p = c.requires in ap (λ (m : ℕ). c.args.low + m) (shifted p.0 p.1 p.2)
