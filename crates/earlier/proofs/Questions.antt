-- A question among others whose answer is changed from no to yes: what a list answered with it, but its own number, it answers still
-- (`same_verdict`); and that number was its own, where no other question has it (`its_own`).
use Rattle.std.specs.Prelude.{Ok, Err}
use mathlib.Core.Path.{◌≡◌, refl, sym, ◌∙◌}
use mathlib.Core.List.{List, ◌∷◌, ◌++◌}
use mathlib.Core.Bool.{Bool, true, false, true≢false}
use Rattle.record.specs.Questions.{Question, first_no, next, Verdict}
use Rattle.record.proofs.Questions.{first_no-append}
use Rattle.record.specs.declared.Refusal.{Refusal}

module _ (before : List Question) (refusal : Refusal) (later : List Question) where
  -- the verdict with an answer b to it
  abbrev pub with_answer : Bool → Verdict
  with_answer b = first_no (before ++ (refusal, b) ∷ later)

  split : (b : Bool) → with_answer b ≡ next (first_no before) (first_no ((refusal, b) ∷ later))
  split b = first_no-append before ((refusal, b) ∷ later)

  -- a first no that is not its own stays, if a yes stays yes
  pub same_verdict : (b c : Bool) → (b ≡ true → c ≡ true) → (with_answer b ≡ Err refusal → ⊥) → with_answer c ≡ with_answer b
  unfolding first_no next
  same_verdict b c kept not_own = split c ∙ sym (go (first_no before) b c kept (λ e. not_own (split b ∙ e))) ∙ sym (split b)
    where
      go : (v : Verdict) (b c : Bool) → (b ≡ true → c ≡ true) → (next v (first_no ((refusal, b) ∷ later)) ≡ Err refusal → ⊥)
          → next v (first_no ((refusal, b) ∷ later)) ≡ next v (first_no ((refusal, c) ∷ later))
      go (Ok tt) true true k h = refl
      go (Ok tt) true false k h = absurd (true≢false (sym (k refl)))
      go (Ok tt) false c k h = absurd (h refl)
      go (Err n) b c k h = refl

  -- one that is answered yes is not heard
  pub unheard : with_answer true ≡ first_no (before ++ later)
  unfolding first_no next
  unheard = split true ∙ sym (first_no-append before later)

  pub its_own : (b : Bool) → (first_no before ≡ Err refusal → ⊥) → (first_no later ≡ Err refusal → ⊥) → with_answer b ≡ Err refusal → b ≡ false
  unfolding first_no next
  its_own b not-before not-later e = go (first_no before) b not-before (sym (split b) ∙ e)
    where
      go : (v : Verdict) (b : Bool) → (v ≡ Err refusal → ⊥) → next v (first_no ((refusal, b) ∷ later)) ≡ Err refusal → b ≡ false
      go (Ok tt) true not-v h = absurd (not-later h)
      go (Ok tt) false not-v h = refl
      go (Err n) b not-v h = absurd (not-v h)

  -- where all before it are answered yes, its no decides
  pub decides : first_no before ≡ Ok tt → with_answer false ≡ Err refusal
  unfolding first_no next
  decides e = split false ∙ rw e
