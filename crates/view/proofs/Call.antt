-- The viewer's first hit: its verdict (`view_verdict`) is a first hit's on the ray in steps, or 15; so its answer is a first hit's with places as
-- floats (`ticks_found`), and demands 2 and 3 of it are a first hit's, for every power of two ticks to 2^23 (`view_demands`); `view_promised` is of
-- the call.
use Rattle.std.proofs.Common.{◌≡◌, ℕ, ◌^◌, ◌≤◌, Bool, true, false, cond, ◌&&◌, ◌⊎◌, List, [], ◌∷◌, sym, refl, ◌∙◌, inl, inr, arith, lit≤, Ok, Err}
use Rattle.record.specs.Questions.{number, first_no, next, Verdict}
use Rattle.part.specs.File.{file_questions, check_file}
use Rattle.part.specs.declared.Summary.{Summary}
use Rattle.record.proofs.Questions.{first_no-append, no_is_not_yes, no_numbered}
use Rattle.record.specs.declared.Refusal.{Refusal}
use Rattle.record.specs.declared.Refusal.TheVariants as no
use Rattle.part.proofs.File.{answer_accepted, answer_refused, file_numbered}
use Rattle.field.specs.Vectors.{Ray}
use Rattle.field.specs.Solid.{solid_of}
use Rattle.loading.specs.Loading.{ray_questions}
use Rattle.loading.proofs.Loading.{ray_verdict}
use Rattle.halving.specs.declared.FirstHit.{FirstHit}
use Rattle.halving.specs.Answers.{HitAnswer, hit_reaches}
use Rattle.halving.specs.declared.FirstHit.TheVariants as found
use Rattle.cast.specs.Ticks.{exponent, ray_state}
use Rattle.cast.specs.Calls.{ray_hit, hit_after, first_hit}
use Rattle.cast.specs.Demands.{Sound, AloneHit, HitAt, CountedHit, SameOrder, PromptHit, FoundHit}
use Rattle.cast.proofs.Demands.{ray_valid, no_ticks, ray_found, hit_by, hit_within}
use Rattle.view.specs.Ray.{whole, end_whole, ray_whole, steps_ray}
use Rattle.view.specs.Call.{float_questions, view_questions, view_of, viewer_ticks, viewer_first_hit}
use Rattle.view.specs.Demands.{in_ticks, CountedView, ViewDemands}
use Rattle.view.specs.Ray.{ViewRay}
use Rattle.view.specs.declared.ViewAnswer.{ViewAnswer}
use Rattle.view.proofs.Coordinates.{ray_in}
use Rattle.view.proofs.Places.{in_ticks_lem, exact_places}

-- ---- the verdict

six : (a b c d e f : Bool)
    → first_no
    ((no.Millimetres, a) ∷ (no.Millimetres, b) ∷ (no.Millimetres, c) ∷ (no.Millimetres, d) ∷ (no.Millimetres, e) ∷ (no.Millimetres, f) ∷ [])
    ≡ cond ((a && b && c) && (d && e && f)) (Ok tt) (Err no.Millimetres)
unfolding first_no
six true true true true true true = refl
six true true true true true false = refl
six true true true true false f = refl
six true true true false e f = refl
six true true false d e f = refl
six true false c d e f = refl
six false b c d e f = refl

module _ (file : List ℕ) (ray : ViewRay) where
  view_verdict : first_no (view_questions file ray) ≡ next (first_no (file_questions file)) (cond (ray_whole ray) (Ok tt) (Err no.Millimetres))
  unfolding view_questions float_questions ray_whole end_whole
  view_verdict = rw (
    first_no-append (file_questions file) (float_questions ray),
    six (whole ray.start.x) (whole ray.start.y) (whole ray.start.z) (whole ray.end.x) (whole ray.end.y) (whole ray.end.z),
  )

  -- whole steps are in question 12's range
  hit_verdict : first_no (ray_questions file (steps_ray ray)) ≡ next (first_no (file_questions file)) (Ok tt)
  hit_verdict = rw (ray_verdict file (steps_ray ray), ray_in ray)

  -- an accepted call is an accepted first hit's
  hit_yes : first_no (view_questions file ray) ≡ Ok tt → first_no (ray_questions file (steps_ray ray)) ≡ Ok tt
  unfolding next
  hit_yes e = hit_verdict ∙ go (first_no (file_questions file)) (ray_whole ray) (sym view_verdict ∙ e)
    where
      go : (v : Verdict) (b : Bool) → next v (cond b (Ok tt) (Err no.Millimetres)) ≡ Ok tt → next v (Ok tt) ≡ Ok tt
      go (Ok tt) b h = refl
      go (Err n) b h = h

  -- a refused one's refusal
  abbrev pub ViewRefusal : Refusal → Type 0
  ViewRefusal e = ((1 ≤ number e) × (number e ≤ 11)) ⊎ (e ≡ no.Millimetres)

  pub view_refusal : {e : Refusal} → first_no (view_questions file ray) ≡ Err e → ViewRefusal e
  unfolding next
  view_refusal {e} eq = go (first_no (file_questions file)) refl (ray_whole ray) (sym view_verdict ∙ eq)
    where
      go : (v : Verdict) → first_no (file_questions file) ≡ v → (b : Bool) → next v (cond b (Ok tt) (Err no.Millimetres)) ≡ Err e → ViewRefusal e
      go (Ok tt) f true h = no_is_not_yes (sym h)
      go (Ok tt) f false h = inr cc
      go (Err m) f b h = inl (no_numbered 1 11 (file_questions file) (file_numbered 11 (omega arith) file) (f ∙ h))

  abbrev steps : Ray
  steps = steps_ray ray

  module _ (budget : ℕ) where
    -- ---- the answer in ticks

    -- floats that are whole steps: a first hit's
    pub ticks_found : ray_whole ray ≡ true → viewer_ticks exponent file ray budget ≡ first_hit file steps budget
    unfolding viewer_ticks first_hit
    ticks_found w = rw (view_verdict, hit_verdict, w)

    -- floats that are not: the file's refusal, or 15
    pub ticks_refused : ray_whole ray ≡ false → {e : Refusal} → check_file file ≡ Err e → viewer_ticks exponent file ray budget ≡ Err e
    unfolding viewer_ticks hit_after check_file next
    ticks_refused w e = rw (view_verdict, w, answer_refused (first_no (file_questions file)) file e)

    pub ticks_15 : ray_whole ray ≡ false → {part : Summary} → check_file file ≡ Ok part
        → viewer_ticks exponent file ray budget ≡ Err no.Millimetres
    unfolding viewer_ticks hit_after check_file next
    ticks_15 w e = rw (view_verdict, w, answer_accepted (first_no (file_questions file)) file e)

  -- ---- demands 2 and 3, and the exact places, with 2^k ticks

  module _ (k budget : ℕ) where
    counted : (f : FirstHit) → CountedHit (solid_of file) steps k budget (Ok f) → CountedView file ray k budget (view_of (2 ^ k) (Ok f))
    unfolding CountedView CountedHit in_ticks view_of
    counted (found.Hit t s p) c = c
    counted (found.Clear p) c = c
    counted (found.Spent t p) c = c

    -- of an answer in ticks
    pub record DemandsMet (a : HitAnswer) : Type 0 where
      pub alone : AloneHit (solid_of file) steps (2 ^ k) a
      pub counted : CountedView file ray k budget (view_of (2 ^ k) a)
      pub order : SameOrder (solid_of file) steps k budget a
      pub prompt : PromptHit k budget a
      pub in_time : FoundHit (solid_of file) steps k budget a
      pub sound : Sound (solid_of file) steps (2 ^ k) (hit_reaches (2 ^ k) a)

    ticks_demands : DemandsMet (viewer_ticks k file ray budget)
    unfolding viewer_ticks hit_after AloneHit HitAt CountedView SameOrder PromptHit FoundHit view_of hit_reaches
    ticks_demands = go (first_no (view_questions file ray)) refl
      where
        go : (v : Verdict) → first_no (view_questions file ray) ≡ v → DemandsMet (hit_after v (solid_of file) steps k budget)
        go (Ok tt) e =
            let valid = ray_valid file steps (hit_yes e) in
            let d = hit_by (solid_of file) steps k budget (Ok tt) (λ y. valid) (λ n f. no_is_not_yes (sym f)) in
            let a = ray_hit (solid_of file) steps k budget in
            record {
              alone = d.alone;
              counted = counted a d.counted;
              order = d.order;
              prompt = d.prompt;
              in_time = d.in_time;
              sound = d.sound;
            }
        go (Err n) e = record {
          alone = tt;
          counted = view_refusal e;
          order = tt;
          prompt = tt;
          in_time = λ h first few. tt;
          sound = no_ticks (solid_of file) steps (2 ^ k);
        }

    -- a power of two for which places are floats exactly
    pub view_demands : k ≤ 23 → ViewDemands file ray k budget (view_of (2 ^ k) (viewer_ticks k file ray budget))
    view_demands few =
        let d = ticks_demands in
        let f = viewer_ticks k file ray budget in
        let near = hit_within (solid_of file) steps (2 ^ k) f d.alone in
        let back = in_ticks_lem k few f near in
        record {
          ticks = back;
          exact = exact_places k few f near;
          alone = rw back d.alone;
          counted = d.counted;
          order = rw back d.order;
          prompt = rw back d.prompt;
          in_time = rw back d.in_time;
          sound = rw back d.sound;
        }

  -- ---- the call, in ticks and with its places

  module _ (budget : ℕ) where
    pub ticks_promised : {a : HitAnswer} → a ≡ viewer_ticks exponent file ray budget
        → (a ≡ viewer_ticks exponent file ray budget) × ViewDemands file ray exponent budget (view_of (2 ^ exponent) a)
    ticks_promised e = (e, rw e (view_demands exponent budget (lit≤ tt)))

    pub ticks_within : {a : HitAnswer} → a ≡ viewer_ticks exponent file ray budget → hit_reaches (2 ^ exponent) a ≤ 2 ^ exponent
    ticks_within e = rw e (hit_within (solid_of file) steps (2 ^ exponent) _ (ticks_demands exponent budget).alone)

    pub view_promised : {a : ViewAnswer} → a ≡ viewer_first_hit file ray budget
        → (a ≡ viewer_first_hit file ray budget) × ViewDemands file ray exponent budget a
    unfolding viewer_first_hit
    view_promised e = (e, rw e (view_demands exponent budget (lit≤ tt)))
