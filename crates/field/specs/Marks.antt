-- The state of a span, a tick's mark, and what a mark says of the exact field at a place of the tick (document 01, "Marks and probes"; demand 3).
use Rattle.std.specs.Prelude.{◌≡◌, ℕ, pos}
use Rattle.exact.specs.Fraction.{Fraction, ◌over◌, Proper, ◌≼◌, ◌≺◌, apart}
use Rattle.field.specs.Vectors.{Ray}
use Rattle.field.specs.declared.Span.{Span}
use Rattle.field.specs.Ray.{tick}
use Rattle.field.specs.Solid.{Solid}
use Rattle.field.specs.Bounds.{empty_mark, crossing_mark, inside_mark, tree_bounds, state_of}

-- the state of a span of a ray
unfoldable pub span_state : Solid → Ray → Span → ℕ
span_state solid ray s = state_of solid.iso (tree_bounds solid ray s)

-- "A tick's mark is the one these rules give it, handed over or not": the state of tick t of T, "judged alone"
unfoldable pub mark_of : Solid → Ray → ℕ → ℕ → ℕ
mark_of solid ray T t = span_state solid ray (tick t T)

pub record SoundMark (iso mark : ℕ) (field tolerance : Fraction) : Type 0 where
  pub proper : Proper field × Proper tolerance
  -- "If the tick is marked empty, the exact field there is below the iso-value."
  pub empty : mark ≡ empty_mark → field ≺ pos iso over 1
  -- "If it is marked inside, the exact field is at or above the iso-value."
  pub inside : mark ≡ inside_mark → pos iso over 1 ≼ field
  -- "If it is marked crossing, the exact field differs from the iso-value by at most" the tolerance
  pub crossing : mark ≡ crossing_mark → apart field (pos iso) ≼ tolerance
