-- "Every ray that was answered before has its old answer" (document 02, P8), its bytes too, and so has every call that was refused with another
-- number than 13 (`kept`, `kept_view`); and 13 was answered of equal ends alone (`equal_ends`, `equal_view_ends`). A question that is answered yes
-- leaves the first no of the others as it is, and one that comes after a no is not heard.
use Rattle.std.specs.Prelude.{Err}
use mathlib.Core.Path.{◌≡◌, refl, sym, ap, ◌∙◌}
use mathlib.Core.Logic.{inl, inr}
use mathlib.Core.List.{List, [], ◌∷◌, ◌++◌, append-nil}
use mathlib.Core.Bool.{Bool, true, false, not, ◌&&◌}
use Prim.Native.Nat.{ℕ, ◌^◌}
use native.Mathlib.Omega.{arith}
use lib.Dec.{leb}
use lib.ListN.{length}
use Rattle.exact.specs.Range.{eq_ℤ}
use Rattle.exact.proofs.Tests.{eq_ℤ_true, both_true}
use Rattle.record.specs.Questions.{Question, number, first_no}
use Rattle.record.proofs.Questions.{no_is_not_yes}
use Rattle.record.specs.declared.Refusal.TheVariants as no
use Rattle.part.specs.File.{file_questions}
use Rattle.field.specs.Vectors.{Ray}
use Rattle.field.specs.Ray.{constant_ray}
use Rattle.loading.specs.Loading.{ray_questions}
use Rattle.cast.specs.Ticks.{exponent}
use Rattle.cast.specs.Column.{column_bytes}
use Rattle.cast.specs.Questions.{buffer_questions}
use Rattle.cast.specs.Calls.{full_cast, marks_left, first_hit, column_answer, bits_left}
use Rattle.cast.proofs.Demands.{ray_refusal}
use Rattle.march.specs.Calls.{marching_cast, marched_left}
use Rattle.view.specs.Ray.{ViewRay}
use Rattle.view.specs.Ray.{steps_ray}
use Rattle.view.specs.Call.{float_questions, view_questions, viewer_ticks, viewer_first_hit}
use Rattle.view.proofs.Call.{view_refusal}
use Rattle.totals.specs.declared.Call.{Call}
use Rattle.totals.specs.declared.Call.TheVariants as call
use Rattle.totals.specs.Calls.{answer_to, bytes_left}
use Rattle.earlier.proofs.Questions.{same_verdict, unheard, its_own}
use Rattle.earlier.specs.Calls.{ends_differ, ray_of, room_questions, earlier_questions, answer_by, bytes_by, earlier_answer, earlier_bytes}
use Rattle.earlier.specs.Calls.{earlier_view_questions, earlier_view}

-- a first no that is not 13 is that of the other questions
kept_verdict : (before : List Question) (b : Bool) (later : List Question) → (first_no (before ++ (no.Ends, b) ∷ later) ≡ Err no.Ends → ⊥)
    → first_no (before ++ later) ≡ first_no (before ++ (no.Ends, b) ∷ later)
kept_verdict before b later not_13 = sym (unheard before no.Ends later) ∙ same_verdict before no.Ends later b true (λ e. refl) not_13

-- ends that do not differ are one place
one_end : (ray : Ray) → ends_differ ray ≡ false → ray ≡ constant_ray ray.start
unfolding ends_differ
one_end ray e =
    let p = ray.start in
    let q = ray.end in
    let x = eq_ℤ p.x q.x in
    let y = eq_ℤ p.y q.y in
    let z = eq_ℤ p.z q.z in
    let b = both_true (x && y) z (is_true (x && y && z) e) in
    let c = both_true x y b.0 in
    λ i. record {
      start = p;
      end = record {
        x = sym (eq_ℤ_true p.x q.x c.0) i;
        y = sym (eq_ℤ_true p.y q.y c.1) i;
        z = sym (eq_ℤ_true p.z q.z b.1) i;
      };
    }
  where
    is_true : (b : Bool) → not b ≡ false → b ≡ true
    is_true true h = refl
    is_true false h = sym h

-- ---- full cast, first hit, column and marching cast

-- the call, by the verdict on its questions: 1 to 12, then 14 of a buffer
by_verdict : (file : List ℕ) (c : Call) (lent : List ℕ) → let v = first_no (ray_questions file (ray_of c) ++ room_questions c (length lent)) in
    (answer_to file c (length lent) ≡ answer_by v file c) × (bytes_left file c lent ≡ bytes_by v file c lent)
unfolding
    answer_to answer_by bytes_left bytes_by ray_of room_questions buffer_questions full_cast marks_left first_hit column_answer bits_left
    marching_cast marched_left
by_verdict file (call.FullCast ray budget) lent = (refl, refl)
by_verdict file (call.FirstHit ray budget) lent = (rw (append-nil (ray_questions file ray)), refl)
by_verdict file (call.Column ray) lent = (refl, refl)
by_verdict file (call.MarchingCast ray budget) lent = (refl, refl)

-- a buffer's question is 14
only_14 : (b : Bool) → first_no ((no.Buffer, b) ∷ []) ≡ Err no.Ends → ⊥
unfolding first_no
only_14 true e = no_is_not_yes (sym e)
only_14 false e = let z : no.Buffer ≡ no.Ends = cc in omega (arith, ap number z)

room_14 : (c : Call) (room : ℕ) → first_no (room_questions c room) ≡ Err no.Ends → ⊥
unfolding room_questions first_no
room_14 (call.FullCast ray budget) room e = only_14 (leb (2 ^ exponent) room) e
room_14 (call.FirstHit ray budget) room e = no_is_not_yes (sym e)
room_14 (call.Column ray) room e = only_14 (leb column_bytes room) e
room_14 (call.MarchingCast ray budget) room e = only_14 (leb (2 ^ exponent) room) e

module _ (file : List ℕ) (c : Call) where
  abbrev asked : List Question
  asked = ray_questions file (ray_of c)

  pub kept : (lent : List ℕ) → (first_no (earlier_questions file c (length lent)) ≡ Err no.Ends → ⊥)
      → (answer_to file c (length lent) ≡ earlier_answer file c (length lent)) × (bytes_left file c lent ≡ earlier_bytes file c lent)
  kept lent not_13 =
      let v = kept_verdict asked (ends_differ (ray_of c)) (room_questions c (length lent)) not_13 in
      rw (sym v) (by_verdict file c lent)

  pub equal_ends : (room : ℕ) → first_no (earlier_questions file c room) ≡ Err no.Ends → ray_of c ≡ constant_ray (ray_of c).start
  equal_ends room e =
      one_end (ray_of c) (its_own asked no.Ends (room_questions c room) (ends_differ (ray_of c))
      (λ f. let n = ray_refusal file (ray_of c) f in omega (arith, n.1)) (room_14 c room) e)

-- ---- viewer's first hit

module _ (file : List ℕ) (ray : ViewRay) where
  abbrev view_asked : List Question
  view_asked = file_questions file ++ float_questions ray

  pub kept_view : (budget : ℕ) → (first_no (earlier_view_questions file ray) ≡ Err no.Ends → ⊥)
      → viewer_first_hit file ray budget ≡ earlier_view file ray budget
  unfolding viewer_first_hit viewer_ticks view_questions
  kept_view budget not_13 =
      let v = kept_verdict view_asked (ends_differ (steps_ray ray)) [] not_13 in
      rw (sym v, append-nil view_asked)

  pub equal_view_ends : first_no (earlier_view_questions file ray) ≡ Err no.Ends → steps_ray ray ≡ constant_ray (steps_ray ray).start
  unfolding view_questions first_no
  equal_view_ends e =
      one_end (steps_ray ray) (its_own view_asked no.Ends [] (ends_differ (steps_ray ray))
      (λ f. elim (view_refusal file ray f) [ inl n ↦ omega (arith, n.1) | inr n ↦ omega (arith, ap number n) ]) (λ f. no_is_not_yes (sym f)) e)
