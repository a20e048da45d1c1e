-- Demands 2 and 3 on the calls' definitions (`cast_demands`, `hit_demands`, `column_demands`): each looked-at tick is marked as if judged alone, the
-- probes are counted as document 01 says, a first hit's in the full cast's order, refusals have its numbers, and at every place of every looked-at
-- tick the mark holds of the exact field, at its middle the column's bit. A hit costs at most its figure, and with such a budget it is found
-- (document 02, P7). A refused call looks at no tick; of an accepted one the solid is valid, so the laws of the halvings and of a tick judged alone
-- apply.
use Rattle.std.specs.Prelude.{Ok, Err}
use mathlib.Core.Path.{◌≡◌, refl, sym, ap, ◌∙◌}
use mathlib.Core.List.{List, [], ◌∷◌, ◌++◌}
use mathlib.Core.Logic.{◌⊎◌, inl, inr}
use mathlib.Core.Bool.{Bool, true, false}
use Prim.Native.Nat.{ℕ, ◌-◌, ◌/◌, ◌%◌, ◌^◌, ◌≤◌, ◌<◌}
use native.Mathlib.Omega.{arith, pow_step}
use native.Mathlib.Nat.{zero-add}
use native.Mathlib.Decide.{dec_lt}
use lib.ListN.{length, take, drop, get_or, replicate, length-append, get_or-append}
use lib.Seq.{get_or-take, length-take-le}
use lib.Dec.{leb}
use lib.Pow.{pow_pos}
use Rattle.record.specs.Questions.{Question, first_no, next, Verdict}
use Rattle.part.specs.File.{summary, file_questions, answer_of}
use Rattle.record.proofs.Questions.{first_no-append, no_is_not_yes, numbered_append, no_numbered, yes_append}
use Rattle.record.specs.declared.Refusal.{Refusal}
use Rattle.record.specs.declared.Refusal.TheVariants as no
use Rattle.part.proofs.File.{file_numbered}
use Rattle.field.specs.Vectors.{Ray}
use Rattle.field.specs.Solid.{Solid, Valid, solid_of}
use Rattle.field.specs.Bounds.{not_looked_at}
use Rattle.field.specs.Marks.{mark_of}
use Rattle.field.proofs.Marks.{marks}
use Rattle.loading.specs.Loading.{ray_in_range, ray_questions, check_ray}
use Rattle.loading.proofs.Loading.{accepted_ray}
use Rattle.halving.specs.declared.Cast.{Cast}
use Rattle.halving.specs.declared.Cast.TheVariants as cast
use Rattle.halving.specs.declared.FirstHit.{FirstHit}
use Rattle.halving.specs.declared.FirstHit.TheVariants as found
use Rattle.halving.specs.Answers.{HitAnswer, cast_reaches, hit_reaches}
use Rattle.halving.specs.Halving.{cast_looked_at, handed}
use Rattle.halving.specs.FirstHit.{hit_looked_at}
use Rattle.halving.proofs.Halving.{Walked, walked, count_below, length_marks}
use Rattle.halving.proofs.FirstHits.{Found, hits}
use Rattle.halving.proofs.SameOrder.{spent_alike, clear_alike, hit_known}
use Rattle.halving.proofs.Cost.{hit_cost_lem, spent_cost}
use Rattle.cast.specs.Column.{column_bytes, middle_solid, bit_of, packed, column_looked_at}
use Rattle.cast.specs.Ticks.{exponent, enough, ray_state}
use Rattle.cast.specs.Questions.{buffer_questions}
use Rattle.cast.specs.Calls.{ray_probes, ray_marks, ray_walk, ray_hit, cast_after, full_cast, marks_after, marks_left}
use Rattle.cast.specs.Calls.{hit_after, first_hit, column_after, column_answer, bits_after, bits_left}
use Rattle.cast.specs.Demands.{Sound, Alone, AloneBits, Middles, Empty, AloneHit, FirstNotEmpty, HitAt}
use Rattle.cast.specs.Demands.{RayRefusal, BufferRefusal, Counted, CountedHit, SameOrder, PromptHit, FoundHit, CountedColumn}
use Rattle.cast.specs.Demands.{MarkDemands, CastDemands, HitDemands, ColumnDemands}
use Rattle.cast.proofs.Bits.{bit_few, length-packed, packed-bit}
use Rattle.cast.proofs.Middles.{middle_says}
use Rattle.cast.proofs.Ticks.{ray_nested, tick_mark, ray_marks_at}

-- ---- accepted calls

pub ray_valid : (file : List ℕ) (ray : Ray) → first_no (ray_questions file ray) ≡ Ok tt → Valid (solid_of file)
unfolding check_ray answer_of
ray_valid file ray v =
    let e : check_ray file ray ≡ Ok (summary file) = ap (λ (v : Verdict). answer_of v file) v in
    (accepted_ray file ray e).valid

pub buffer_valid : (file : List ℕ) (ray : Ray) (need room : ℕ) → first_no (buffer_questions file ray need room) ≡ Ok tt → Valid (solid_of file)
unfolding buffer_questions
buffer_valid file ray need room v = ray_valid file ray (yes_append (ray_questions file ray) ((no.Buffer, leb need room) ∷ []) v).0

-- ---- refusal numbers

pub ray_refusal : (file : List ℕ) (ray : Ray) {e : Refusal} → first_no (ray_questions file ray) ≡ Err e → RayRefusal e
unfolding ray_questions
ray_refusal file ray e =
    no_numbered 1 12 (ray_questions file ray)
    (numbered_append 1 12 (file_questions file) ((no.Coordinates, ray_in_range ray) ∷ []) (file_numbered 12 (omega arith) file)
    (omega arith, omega arith, tt)) e

-- of a list with one question more
last_no : (qs : List Question) (refusal : Refusal) (b : Bool) {e : Refusal} → first_no (qs ++ (refusal, b) ∷ []) ≡ Err e
    → (first_no qs ≡ Err e) ⊎ (e ≡ refusal)
unfolding first_no next
last_no qs refusal b {e} eq = go (first_no qs) b (sym (first_no-append qs ((refusal, b) ∷ [])) ∙ eq)
  where
    go : (v : Verdict) (b : Bool) → next v (first_no ((refusal, b) ∷ [])) ≡ Err e → (v ≡ Err e) ⊎ (e ≡ refusal)
    go (Ok tt) true h = no_is_not_yes (sym h)
    go (Ok tt) false h = inr cc
    go (Err m) b h = inl h

pub buffer_refusal : (file : List ℕ) (ray : Ray) (need room : ℕ) {e : Refusal} → first_no (buffer_questions file ray need room) ≡ Err e
    → BufferRefusal e
unfolding buffer_questions
buffer_refusal file ray need room e = elim (last_no (ray_questions file ray) no.Buffer (leb need room) e) [
  | inl f ↦ inl (ray_refusal file ray f)
  | inr f ↦ inr f
]

module _ (solid : Solid) (ray : Ray) where
  -- ---- demand 3

  sound : Valid solid → {T : ℕ} → 1 ≤ T → (limit : ℕ) → Sound solid ray T limit
  unfolding Sound
  sound valid hT limit t h x = marks solid valid ray t hT x

  pub no_ticks : (T : ℕ) → Sound solid ray T 0
  unfolding Sound
  no_ticks T t h x = absurd (omega arith)

  -- ---- a cast of T ticks that answers w, with the marks ms of all of them, if it is not refused

  module _ (T count most budget : ℕ) (w : Cast) (ms : List ℕ) (counted : Counted T count most budget (Ok w)) (long : length ms ≡ T)
      (own : Valid solid → (t : ℕ) → t < T → get_or ms t not_looked_at ≡ mark_of solid ray T t) where
    -- it looks at no more ticks than there are
    looked_few : cast_looked_at T w ≤ T
    unfolding Counted cast_looked_at
    looked_few = go w counted
      where
        go : (w : Cast) → Counted T count most budget (Ok w) → cast_looked_at T w ≤ T
        go (cast.Complete p) c = omega arith
        go (cast.Spent t p) (before, is, more, few) = omega arith

    handed-alone : Valid solid → (lent : List ℕ) → Alone solid ray T (cast_looked_at T w) (marks_after (Ok tt) T w ms lent)
    unfolding marks_after handed Alone
    handed-alone valid lent t h =
        let looked = cast_looked_at T w in
        let written = take looked ms in
        let full : length written ≡ looked = length-take-le looked ms (omega (arith, looked_few, long)) in
        let rest = replicate {A = ℕ} (T - looked) not_looked_at in
        get_or-append (written ++ rest) (drop T lent) not_looked_at t (omega (arith, full, length-append written rest))
        ∙ get_or-append written rest not_looked_at t (omega (arith, full))
        ∙ get_or-take looked ms t not_looked_at h
        ∙ own valid t (omega (arith, looked_few))

    -- its demands, by the verdict of its questions
    pub marks_by : 1 ≤ T → (v : Verdict) (lent : List ℕ) → (v ≡ Ok tt → Valid solid) → ((e : Refusal) → v ≡ Err e → BufferRefusal e)
        → MarkDemands solid ray T count most budget (cast_after v w) (marks_after v T w ms lent)
    unfolding cast_after marks_after cast_reaches Alone Counted
    marks_by hT (Ok tt) lent valid refusal = record {
      alone = handed-alone (valid refl) lent;
      counted = counted;
      sound = sound (valid refl) hT (cast_looked_at T w);
    }
    marks_by hT (Err n) lent valid refusal = record { alone = λ t h. absurd (omega arith); counted = refusal n refl; sound = no_ticks T }

  -- ---- a ray of 2^k ticks

  module _ (k : ℕ) where
    abbrev st : ℕ → ℕ → ℕ
    st = ray_state solid ray (2 ^ k)

    at_most : ray_probes solid ray k ≤ enough (2 ^ k)
    at_most = omega (arith, count_below st k 0, pow_step 2 k)

    module _ (budget : ℕ) where
      pub ray_walked : Walked st budget k 0 0 (ray_walk solid ray k budget)
      ray_walked = walked st budget k 0 0 (omega arith)

      walk-counted : (w : Cast) → Walked st budget k 0 0 w → Counted (2 ^ k) (ray_probes solid ray k) (enough (2 ^ k)) budget (Ok w)
      unfolding Counted
      walk-counted (cast.Complete p) (is, in-budget) = (omega arith, omega arith, at_most)
      walk-counted (cast.Spent t p) (is, more, from, before) = (omega arith, is, omega arith, at_most)

      found_counted : (f : FirstHit) → Found st budget k 0 0 f → CountedHit solid ray k budget (Ok f)
      unfolding CountedHit
      found_counted (found.Hit t s p) (from, before, is, some, empty, few, in-budget) = (in-budget, omega arith, at_most)
      found_counted (found.Clear p) (empty, is, in-budget) = (omega arith, omega arith, at_most)
      found_counted (found.Spent t p) (from, before, empty, all, more) = (all, omega arith, at_most)

      found_alone : (f : FirstHit) → Found st budget k 0 0 f → AloneHit solid ray (2 ^ k) (Ok f)
      unfolding AloneHit Empty
      found_alone (found.Hit t s p) (from, before, is, some, empty, few, in-budget) =
          (omega arith, sym (tick_mark solid ray (2 ^ k) t) ∙ is, some, λ j h. sym (tick_mark solid ray (2 ^ k) j) ∙ empty j (omega arith) h)
      found_alone (found.Clear p) (empty, is, in-budget) = λ j h. sym (tick_mark solid ray (2 ^ k) j) ∙ empty j (omega arith) (omega arith)
      found_alone (found.Spent t p) (from, before, empty, all, more) =
          (omega arith, λ j h. sym (tick_mark solid ray (2 ^ k) j) ∙ empty j (omega arith) h)

      hit_order : (f : FirstHit) → ray_hit solid ray k budget ≡ f → SameOrder solid ray k budget (Ok f)
      unfolding SameOrder
      hit_order (found.Hit t s p) e = λ b. rw zero-add at (hit_known st budget k 0 0 e b)
      hit_order (found.Clear p) e = clear_alike st budget k 0 0 e
      hit_order (found.Spent t p) e = spent_alike st budget k 0 0 e

      hit_prompt : (f : FirstHit) → ray_hit solid ray k budget ≡ f → PromptHit k budget (Ok f)
      unfolding PromptHit
      hit_prompt (found.Hit t s p) e = omega (arith, hit_cost_lem st budget k e)
      hit_prompt (found.Clear p) e = tt
      hit_prompt (found.Spent t p) e = omega (arith, spent_cost st budget k e)

      -- of any answer that is right of the ticks and prompt: no tick before the first that is not empty is a hit, and none after it is reached
      hit_in_time : (f : HitAnswer) → AloneHit solid ray (2 ^ k) f → PromptHit k budget f → FoundHit solid ray k budget f
      unfolding AloneHit Empty PromptHit FoundHit FirstNotEmpty HitAt
      hit_in_time (Err n) alone prompt h first few = tt
      hit_in_time (Ok (found.Hit t s p)) (before, is, some, empty) prompt h (within, empties, not) few =
          let same : t ≡ h = elim (dec_lt t h) [
            | yes l ↦ absurd (omega (arith, empties t l, is))
            | no g ↦ elim (dec_lt h t) [ yes l ↦ absurd (not (empty h l)) | no g' ↦ omega arith ]
          ] in
          (same, sym is ∙ ap (λ (t : ℕ). mark_of solid ray (2 ^ k) t) same)
      hit_in_time (Ok (found.Clear p)) empty prompt h (within, empties, not) few = not (empty h within)
      hit_in_time (Ok (found.Spent t p)) (before, empty) prompt h (within, empties, not) few =
          elim (dec_lt h t) [ yes l ↦ not (empty h l) | no g ↦ absurd (omega arith) ]

      pub ray_found : Valid solid → Found st budget k 0 0 (ray_hit solid ray k budget)
      ray_found valid = hits st budget (ray_nested solid valid ray (pow_pos k)) k 0 0 (omega arith)

      -- ---- the demands of a call, by the verdict of its questions

      pub cast_by : (v : Verdict) (lent : List ℕ) → (v ≡ Ok tt → Valid solid) → ((e : Refusal) → v ≡ Err e → BufferRefusal e)
          → CastDemands solid ray k budget (cast_after v (ray_walk solid ray k budget))
          (marks_after v (2 ^ k) (ray_walk solid ray k budget) (ray_marks solid ray k) lent)
      cast_by =
          marks_by (2 ^ k) (ray_probes solid ray k) (enough (2 ^ k)) budget (ray_walk solid ray k budget) (ray_marks solid ray k)
          (walk-counted (ray_walk solid ray k budget) ray_walked) (length_marks st k 0)
          (λ valid t h. ray_marks_at solid valid ray k t not_looked_at h) (pow_pos k)

      pub hit_by : (v : Verdict) → (v ≡ Ok tt → Valid solid) → ((e : Refusal) → v ≡ Err e → RayRefusal e)
          → HitDemands solid ray k budget (hit_after v solid ray k budget)
      unfolding hit_after hit_reaches AloneHit CountedHit SameOrder PromptHit
      hit_by (Ok tt) valid refusal =
          let f = ray_hit solid ray k budget in
          let alone = found_alone f (ray_found (valid refl)) in
          record {
            alone = alone;
            counted = found_counted f (ray_found (valid refl));
            order = hit_order f refl;
            prompt = hit_prompt f refl;
            in_time = hit_in_time (Ok f) alone (hit_prompt f refl);
            sound = sound (valid refl) (pow_pos k) (hit_looked_at (2 ^ k) f);
          }
      hit_by (Err n) valid refusal = record {
        alone = tt;
        counted = refusal n refl;
        order = tt;
        prompt = tt;
        in_time = hit_in_time (Err n) tt tt;
        sound = no_ticks (2 ^ k);
      }

  -- ---- a column has 2^exponent ticks

  column_alone : (lent : List ℕ) → AloneBits solid ray (2 ^ exponent) (2 ^ exponent) (bits_after (Ok tt) solid ray lent)
  unfolding bits_after AloneBits bit_of
  column_alone lent t h =
      let bit = bit_of solid ray (2 ^ exponent) in
      ap (λ (byte : ℕ). byte / 2 ^ (t % 8) % 2)
      (get_or-append (packed bit column_bytes) (drop column_bytes lent) 0 (t / 8) (omega (arith, length-packed bit column_bytes)))
      ∙ packed-bit bit (λ i. bit_few (mark_of solid ray (2 ^ exponent) i) (middle_solid solid ray (2 ^ exponent) i)) column_bytes t (omega arith)

  column_by : (v : Verdict) (lent : List ℕ) → (v ≡ Ok tt → Valid solid) → ((e : Refusal) → v ≡ Err e → BufferRefusal e)
      → ColumnDemands solid ray exponent (column_after v solid ray) (bits_after v solid ray lent)
  unfolding column_after bits_after column_looked_at AloneBits CountedColumn Middles
  column_by (Ok tt) lent valid refusal = record {
    alone = column_alone lent;
    counted = (refl, at_most exponent);
    sound = sound (valid refl) (pow_pos exponent) (2 ^ exponent);
    middles = λ t h. middle_says solid (valid refl) ray t (pow_pos exponent);
  }
  column_by (Err n) lent valid refusal = record {
    alone = λ t h. absurd (omega arith);
    counted = refusal n refl;
    sound = no_ticks (2 ^ exponent);
    middles = λ t h. absurd (omega arith);
  }

  -- a first hit looks at no more ticks than there are
  pub hit_within : (T : ℕ) (f : HitAnswer) → AloneHit solid ray T f → hit_reaches T f ≤ T
  unfolding AloneHit hit_looked_at hit_reaches
  hit_within T (Err n) alone = omega arith
  hit_within T (Ok (found.Hit t s p)) (before, is, some, empty) = omega arith
  hit_within T (Ok (found.Clear p)) alone = omega arith
  hit_within T (Ok (found.Spent t p)) (before, empty) = omega arith

-- ---- document 01's calls

module _ (file : List ℕ) (ray : Ray) where
  pub cast_demands : (budget : ℕ) (lent : List ℕ)
      → CastDemands (solid_of file) ray exponent budget (full_cast file ray budget (length lent)) (marks_left file ray budget lent)
  unfolding full_cast marks_left
  cast_demands budget lent =
      cast_by (solid_of file) ray exponent budget (first_no (buffer_questions file ray (2 ^ exponent) (length lent))) lent
      (buffer_valid file ray (2 ^ exponent) (length lent)) (λ n e. buffer_refusal file ray (2 ^ exponent) (length lent) e)

  pub hit_demands : (budget : ℕ) → HitDemands (solid_of file) ray exponent budget (first_hit file ray budget)
  unfolding first_hit
  hit_demands budget =
      hit_by (solid_of file) ray exponent budget (first_no (ray_questions file ray)) (ray_valid file ray) (λ n e. ray_refusal file ray e)

  pub column_demands : (lent : List ℕ) → ColumnDemands (solid_of file) ray exponent (column_answer file ray (length lent)) (bits_left file ray lent)
  unfolding column_answer bits_left
  column_demands lent =
      column_by (solid_of file) ray (first_no (buffer_questions file ray column_bytes (length lent))) lent
      (buffer_valid file ray column_bytes (length lent)) (λ n e. buffer_refusal file ray column_bytes (length lent) e)
