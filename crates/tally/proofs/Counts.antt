-- Laws of the running totals.
use Rattle.std.specs.Prelude.{Some, None, Ok, Err}
use mathlib.Core.Path.{◌≡◌, refl, ◌∙◌}
use Prim.Native.Nat.{ℕ, ◌+◌, ◌≤◌}
use native.Mathlib.Omega.{arith}
use Rattle.halving.specs.Answers.{HitAnswer}
use Rattle.halving.specs.declared.FirstHit.TheVariants as found
use Rattle.view.specs.Call.{view_of}
use Rattle.tally.specs.declared.Totals.{Totals}
use Rattle.tally.specs.Counts.{ceiling, capped, after_tally, hit_tally, view_tally, Total, casts_total, probes_total, refusals_total, total, adds}
use Rattle.tally.specs.Counts.{Tally}

module _ (i : Total) (t : Totals) (tally : Tally) where
  -- a total after a tally: what there was and what it adds, up to the ceiling
  pub tally_adds : total i t ≤ ceiling → total i (after_tally t tally) ≡ capped (total i t + adds i tally)
  unfolding total adds after_tally capped
  tally_adds h = go i tally h
    where
      go : (i : Total) (tally : Tally) → total i t ≤ ceiling → total i (after_tally t tally) ≡ capped (total i t + adds i tally)
      go casts_total (Some p) h = refl
      go probes_total (Some p) h = refl
      go refusals_total (Some p) h = omega arith
      go casts_total None h = omega arith
      go probes_total None h = omega arith
      go refusals_total None h = refl

  -- below the ceiling it is the sum itself
  pub tally_exact : total i t + adds i tally ≤ ceiling → total i (after_tally t tally) ≡ total i t + adds i tally
  unfolding capped
  tally_exact h = tally_adds (omega arith) ∙ omega arith

  -- at the ceiling it stays there, whatever is added
  pub tally_stays : total i t ≡ ceiling → total i (after_tally t tally) ≡ ceiling
  unfolding capped
  tally_stays e = tally_adds (omega (arith, e)) ∙ omega (arith, e)

-- ---- a viewer's first hit adds what a first hit does

pub view_tally_lem : (ticks : ℕ) (a : HitAnswer) → view_tally (view_of ticks a) ≡ hit_tally a
unfolding view_tally view_of hit_tally
view_tally_lem ticks (Err refusal) = refl
view_tally_lem ticks (Ok (found.Hit tick mark probes)) = refl
view_tally_lem ticks (Ok (found.Clear probes)) = refl
view_tally_lem ticks (Ok (found.Spent tick probes)) = refl
