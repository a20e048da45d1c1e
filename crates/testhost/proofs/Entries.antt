-- A performed call's number fits its width, and what an entry hands back is what the call and the totals say.
use mathlib.Core.Path.{◌≡◌, ap, ◌∙◌}
use mathlib.Core.List.{List}
use Prim.Native.Nat.{ℕ}
use native.Mathlib.Omega.{arith}
use lib.ListN.{length}
use Rattle.field.specs.Solid.{solid_of}
use Rattle.cast.specs.Ticks.{exponent}
use Rattle.view.specs.Ray.{ViewRay}
use Rattle.view.specs.declared.ViewAnswer.{ViewAnswer}
use Rattle.view.specs.Call.{viewer_first_hit}
use Rattle.tally.specs.declared.Totals.{Totals}
use Rattle.totals.specs.declared.Call.{Call}
use Rattle.totals.specs.declared.Call.TheVariants as call
use Rattle.totals.specs.declared.Answer.{Answer}
use Rattle.totals.specs.Calls.{answer_to, bytes_left, Demanded, Performed, totals_after, view_to, Viewed, totals_after_view}
use Rattle.totals.specs.Numbers.{number_of, NumberFits}
use Rattle.tally.specs.Lent.{totals_in, totals_out}
use Rattle.numbers.proofs.Numbers.{cast_number_fits, hit_number_fits, column_number_fits}
use Rattle.testhost.specs.Entries.{view_call_of}

pub number_fits : (file : List ℕ) (c : Call) (lent : List ℕ) (r : Answer) (after : List ℕ) → Performed file c lent r after → NumberFits r
unfolding NumberFits answer_to Demanded
number_fits file (call.FullCast ray budget) lent r after p =
    rw p.answer (cast_number_fits _ _ budget (omega arith) _ p.demands.counted)
number_fits file (call.FirstHit ray budget) lent r after p =
    rw p.answer (hit_number_fits (solid_of file) ray exponent (omega arith) budget _ p.demands.alone p.demands.counted)
number_fits file (call.Column ray) lent r after p =
    rw p.answer (column_number_fits (solid_of file) ray exponent (omega arith) _ p.demands.counted)
number_fits file (call.MarchingCast ray budget) lent r after p =
    rw p.answer (cast_number_fits _ _ budget (omega arith) _ p.demands.marks.counted)

-- an entry's call c is the contract's c', and t the totals that it was handed in l
module _ (file : List ℕ) {t u : Totals} (l : List ℕ) {l' : List ℕ} (in_is : t ≡ totals_in l) (put : l' ≡ totals_out u) where
  pub called : {n : ℕ} {c c' : Call} (lent after : List ℕ) (a : Answer) → c ≡ c'
      → Performed file c lent a after → u ≡ totals_after file c (length lent) t → n ≡ number_of a
      → (n ≡ number_of (answer_to file c' (length lent)))
      × ((after ≡ bytes_left file c' lent) × (l' ≡ totals_out (totals_after file c' (length lent) (totals_in l))))
  called lent after a same p counted number =
      rw (← same, ← in_is, ← counted) (number ∙ ap number_of p.answer, (p.bytes, put))

  pub viewed : {ray ray' : ViewRay} (budget : ℕ) (a : ViewAnswer) → ray ≡ ray'
      → Viewed file (view_call_of ray budget) a → u ≡ totals_after_view file (view_call_of ray budget) t
      → (a ≡ viewer_first_hit file ray' budget) × (l' ≡ totals_out (totals_after_view file (view_call_of ray' budget) (totals_in l)))
  unfolding view_to
  viewed budget a same v counted = rw (← same, ← in_is, ← counted) (v.answer, put)
