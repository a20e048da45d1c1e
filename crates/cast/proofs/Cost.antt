-- A ray that starts in a crossing tick (document 02, P7): its first hit takes exactly 11 probes, the figure of tick 0 (`crossing_start`), and with a
-- smaller budget it is spent there (`crossing_start_spent`). So at tick 0 the figure is met.
use Rattle.std.specs.Prelude.{Ok}
use mathlib.Core.Path.{◌≡◌, ap, ◌∙◌}
use mathlib.Core.List.{List}
use Prim.Native.Nat.{ℕ, ◌^◌, ◌≤◌, ◌<◌}
use native.Mathlib.Omega.{arith}
use lib.Pow.{pow_pos}
use Rattle.record.specs.Questions.{first_no}
use Rattle.field.specs.Vectors.{Ray}
use Rattle.field.specs.Solid.{solid_of}
use Rattle.field.specs.Bounds.{crossing_mark}
use Rattle.field.specs.Marks.{mark_of}
use Rattle.loading.specs.Loading.{ray_questions}
use Rattle.halving.specs.declared.FirstHit.TheVariants.{Hit, Spent}
use Rattle.halving.specs.Halving.{Nested}
use Rattle.halving.proofs.Cost.{crossing_hit, crossing_spent}
use Rattle.cast.specs.Ticks.{exponent, hit_cost, ray_state}
use Rattle.cast.specs.Calls.{hit_after, first_hit}
use Rattle.cast.proofs.Ticks.{ray_nested, tick_mark}
use Rattle.cast.proofs.Demands.{ray_valid}

module _ (file : List ℕ) (ray : Ray) (accepted : first_no (ray_questions file ray) ≡ Ok tt)
    (crossing : mark_of (solid_of file) ray (2 ^ exponent) 0 ≡ crossing_mark) (budget : ℕ) where
  abbrev st : ℕ → ℕ → ℕ
  st = ray_state (solid_of file) ray (2 ^ exponent)

  nested : Nested st
  nested = ray_nested (solid_of file) (ray_valid file ray accepted) ray (pow_pos exponent)

  begins : st 0 1 ≡ crossing_mark
  begins = tick_mark (solid_of file) ray (2 ^ exponent) 0 ∙ crossing

  pub crossing_start : hit_cost exponent 0 ≤ budget → first_hit file ray budget ≡ Ok (Hit 0 crossing_mark (hit_cost exponent 0))
  unfolding first_hit hit_after
  crossing_start enough = rw accepted (ap Ok (crossing_hit st budget nested 0 begins exponent 0 (omega arith)))

  pub crossing_start_spent : budget < hit_cost exponent 0 → first_hit file ray budget ≡ Ok (Spent 0 budget)
  unfolding first_hit hit_after
  crossing_start_spent few = rw accepted (ap Ok (crossing_spent st budget nested 0 begins exponent 0 (omega arith) (omega arith)))
