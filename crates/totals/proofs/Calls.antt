-- What each call promises is what `Performed` or `Viewed` says of it, and of a saved record `Answered`. And laws of a call and the totals after it.
use Rattle.std.specs.Prelude.{Err, None}
use mathlib.Core.Path.{◌≡◌, sym, ◌∙◌, refl, ap}
use mathlib.Core.List.{List}
use Prim.Native.Nat.{ℕ, ◌^◌}
use lib.ListN.{length}
use Rattle.record.specs.Questions.{Question, first_no}
use Rattle.record.specs.declared.Refusal.{Refusal}
use Rattle.field.specs.Vectors.{Ray}
use Rattle.halving.specs.Answers.{CastAnswer, HitAnswer}
use Rattle.cast.proofs.Calls.{CastPromised, HitPromised, ColumnPromised}
use Rattle.march.proofs.Calls.{MarchPromised}
use Rattle.view.specs.Demands.{ViewDemands}
use Rattle.tally.specs.Saved.{read_saved, SavedSays, after_saved, Saved}
use Rattle.cast.specs.Ticks.{exponent}
use Rattle.cast.specs.Column.{column_bytes, ColumnAnswer}
use Rattle.loading.specs.Loading.{ray_questions}
use Rattle.cast.specs.Questions.{buffer_questions}
use Rattle.cast.specs.Calls.{cast_after, full_cast, hit_after, first_hit, column_after, column_answer}
use Rattle.march.specs.Calls.{marching_cast}
use Rattle.view.specs.declared.ViewAnswer.{ViewAnswer}
use Rattle.view.specs.Call.{view_questions, view_of, viewer_ticks, viewer_first_hit}
use Rattle.tally.specs.declared.Totals.{Totals}
use Rattle.tally.specs.Counts.{after_tally, cast_tally, hit_tally, column_tally, view_tally}
use Rattle.totals.specs.declared.Call.{Call}
use Rattle.totals.specs.declared.Call.TheVariants as call
use Rattle.totals.specs.declared.Answer.{Answer}
use Rattle.totals.specs.declared.Answer.TheVariants as answer
use Rattle.totals.specs.declared.ViewCall.{ViewCall}
use Rattle.totals.specs.Calls.{answer_to, bytes_left, Demanded, Performed, tally_of, totals_after, view_to, Viewed, totals_after_view}
use Rattle.totals.specs.Calls.{Answered, totals_restored}

module _ (file : List ℕ) (ray : Ray) (lent : List ℕ) {c : Call} where
  pub cast_performed : (budget : ℕ) (w : CastAnswer) (after : List ℕ)
      → c ≡ call.FullCast ray budget → CastPromised file ray budget lent w after → Performed file c lent (answer.FullCast w) after
  unfolding answer_to bytes_left Demanded
  cast_performed budget w after is (a, (bytes, demands)) =
      rw is (record { answer = ap answer.FullCast a; bytes = bytes; demands = rw (← a) demands })

  pub hit_performed : (budget : ℕ) (f : HitAnswer)
      → c ≡ call.FirstHit ray budget → HitPromised file ray budget f → Performed file c lent (answer.FirstHit f) lent
  unfolding answer_to bytes_left Demanded
  hit_performed budget f is (a, demands) =
      rw is (record { answer = ap answer.FirstHit a; bytes = refl; demands = rw (← a) demands })

  pub column_performed : (w : ColumnAnswer) (after : List ℕ)
      → c ≡ call.Column ray → ColumnPromised file ray lent w after → Performed file c lent (answer.Column w) after
  unfolding answer_to bytes_left Demanded
  column_performed w after is (a, (bytes, demands)) =
      rw is (record { answer = ap answer.Column a; bytes = bytes; demands = rw (← a) demands })

  pub march_performed : (budget : ℕ) (w : CastAnswer) (after : List ℕ)
      → c ≡ call.MarchingCast ray budget → MarchPromised file ray budget lent w after → Performed file c lent (answer.MarchingCast w) after
  unfolding answer_to bytes_left Demanded
  march_performed budget w after is (a, (bytes, demands)) =
      rw is (record { answer = ap answer.MarchingCast a; bytes = bytes; demands = rw (← a) demands })

module _ (file : List ℕ) (c : ViewCall) {r : ViewAnswer} where
  pub viewed : (r ≡ viewer_first_hit file c.ray c.budget) × ViewDemands file c.ray exponent c.budget r → Viewed file c r
  unfolding view_to
  viewed (a, demands) = record { answer = a; demands = demands }

pub answered : {saved : List ℕ} {r : Saved} → r ≡ read_saved saved → SavedSays saved r → Answered saved r
answered is says = record { answer = is; says = says }

-- the totals that an answer's tally makes are those after the call
pub totals_after_lem : {file : List ℕ} {c : Call} {lent : List ℕ} {r : Answer} {after : List ℕ} (t : Totals) {t' : Totals}
    → Performed file c lent r after → t' ≡ after_tally t (tally_of r) → t' ≡ totals_after file c (length lent) t
unfolding totals_after
totals_after_lem t p e = e ∙ ap (λ (r : Answer). after_tally t (tally_of r)) p.answer

pub totals_after_view_lem : {file : List ℕ} {c : ViewCall} {r : ViewAnswer} (t : Totals) {t' : Totals}
    → Viewed file c r → t' ≡ after_tally t (view_tally r) → t' ≡ totals_after_view file c t
unfolding totals_after_view
totals_after_view_lem t v e = e ∙ ap (λ (r : ViewAnswer). after_tally t (view_tally r)) v.answer

pub totals_restored_lem : {saved : List ℕ} {r : Saved} (t : Totals) {t' : Totals}
    → Answered saved r → t' ≡ after_saved t r → t' ≡ totals_restored saved t
unfolding totals_restored
totals_restored_lem t a e = e ∙ ap (after_saved t) a.answer

-- ---- laws

-- two runs that differ only in the totals, t and u, get equal answers and equal bytes
pub same_answers : (file : List ℕ) (c : Call) (lent : List ℕ) (t u : Totals) {t' u' : Totals} {r r' : Answer} {after after' : List ℕ}
    → Performed file c lent r after × (t' ≡ totals_after file c (length lent) t)
    → Performed file c lent r' after' × (u' ≡ totals_after file c (length lent) u) → (r ≡ r') × (after ≡ after')
same_answers file c lent t u (p, _) (q, _) = (p.answer ∙ sym q.answer, p.bytes ∙ sym q.bytes)

pub same_views : (file : List ℕ) (c : ViewCall) (t u : Totals) {t' u' : Totals} {r r' : ViewAnswer}
    → Viewed file c r × (t' ≡ totals_after_view file c t) → Viewed file c r' × (u' ≡ totals_after_view file c u) → r ≡ r'
same_views file c t u (v, _) (w, _) = v.answer ∙ sym w.answer

-- the questions of a call
abbrev pub questions_of : List ℕ → Call → ℕ → List Question
questions_of file (call.FullCast ray budget) room = buffer_questions file ray (2 ^ exponent) room
questions_of file (call.FirstHit ray budget) room = ray_questions file ray
questions_of file (call.Column ray) room = buffer_questions file ray column_bytes room
questions_of file (call.MarchingCast ray budget) room = buffer_questions file ray (2 ^ exponent) room

module _ (file : List ℕ) {refusal : Refusal} (t : Totals) where
  -- a call that its questions refuse counts as a refusal
  pub refused_counts : (c : Call) (room : ℕ) → first_no (questions_of file c room) ≡ Err refusal → totals_after file c room t ≡ after_tally t None
  unfolding
      totals_after answer_to tally_of cast_tally hit_tally column_tally full_cast cast_after first_hit hit_after column_answer column_after
      marching_cast
  refused_counts (call.FullCast ray budget) room e = rw e
  refused_counts (call.FirstHit ray budget) room e = rw e
  refused_counts (call.Column ray) room e = rw e
  refused_counts (call.MarchingCast ray budget) room e = rw e

  pub refused_view_counts : (c : ViewCall) → first_no (view_questions file c.ray) ≡ Err refusal → totals_after_view file c t ≡ after_tally t None
  unfolding totals_after_view view_to view_tally viewer_first_hit viewer_ticks view_of hit_after
  refused_view_counts c e = rw e
