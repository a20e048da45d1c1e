-- Theorem 5. Demand 3 for a tick judged alone, at every place of it, for every solid and every number of ticks: an empty tick's field is below the
-- iso-value, an inside tick's is at or above it, and a crossing tick's differs from it by at most what demand 3 allows (`marks`); with the documents'
-- own figures, of 1,024 ticks and either degree, `marks_1024`.
use mathlib.Core.Path.{◌≡◌}
use Prim.Native.Nat.{ℕ, ◌≤◌}
use native.Mathlib.Omega.{arith}
use Rattle.exact.specs.Fraction.{Fraction}
use Rattle.exact.proofs.Fractions.{≼_trans}
use Rattle.part.specs.declared.Summary.{Summary}
use Rattle.field.specs.Vectors.{Ray}
use Rattle.field.specs.Ray.{tick, Place}
use Rattle.field.specs.Tree.{items}
use Rattle.field.specs.Solid.{Solid, kernel_of, Valid}
use Rattle.field.specs.Field.{field_at}
use Rattle.field.specs.Bounds.{tree_bounds}
use Rattle.field.specs.Tolerance.{sum_over, demanded, demanded_in1024}
use Rattle.field.specs.Marks.{span_state, mark_of, SoundMark}
use Rattle.field.proofs.Width.{tick_ordered}
use Rattle.field.proofs.States.{state_sound}
use Rattle.field.proofs.Demanded.{Same, demanded_1024}
use Rattle.field.proofs.Enclosure.{enclosure}
use Rattle.field.proofs.Tolerance.{narrow_tick}

-- what a mark says with one tolerance it says with another that is the same
pub sound_same : {iso mark : ℕ} {field x y : Fraction} → SoundMark iso mark field x → Same x y → SoundMark iso mark field y
sound_same m d = record {
  proper = (m.proper.0, d.proper);
  empty = m.empty;
  inside = m.inside;
  crossing = λ g. ≼_trans m.proper.1 (m.crossing g) d.at_most;
}

module _ (solid : Solid) (valid : Valid solid) (ray : Ray) where
  pub marks : (t : ℕ) {T : ℕ} → 1 ≤ T → (x : Place (tick t T))
      → SoundMark solid.iso (mark_of solid ray T t) (field_at solid ray x.n x.m) (demanded solid ray T)
  unfolding span_state mark_of
  marks t {T} hT x =
      state_sound solid.iso (tree_bounds solid ray (tick t T)) (field_at solid ray x.n x.m) (demanded solid ray T)
      (enclosure solid valid ray (tick_ordered t hT) x) (narrow_tick solid valid ray t hT)

  -- with the documents' own figures
  pub marks_1024 : (part : Summary) → solid.kernel ≡ kernel_of part → (t : ℕ) (x : Place (tick t 1024))
      → SoundMark solid.iso (mark_of solid ray 1024 t) (field_at solid ray x.n x.m) (sum_over (demanded_in1024 part ray) (items solid.nodes))
  marks_1024 part degree t x = sound_same (marks t (omega arith) x) (demanded_1024 solid valid.tree part degree ray)
