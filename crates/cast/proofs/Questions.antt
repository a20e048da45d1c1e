-- A list of questions with one more: what it is answered, by what the shorter one is.
-- `also_asked (ray_questions file ray) file no.Buffer b` takes the answer of questions 1 to 12 to that of 14 too.
use Rattle.std.specs.Prelude.{Ok, Err}
use mathlib.Core.Path.{◌≡◌, refl}
use mathlib.Core.List.{List, [], ◌∷◌, ◌++◌}
use mathlib.Core.Bool.{Bool, true, false, cond}
use Prim.Native.Nat.{ℕ}
use Rattle.record.specs.Questions.{Question, first_no, next}
use Rattle.record.specs.declared.Refusal.{Refusal}
use Rattle.part.specs.File.{answer_of}
use Rattle.part.specs.declared.Summary.{Summary}
use Rattle.record.proofs.Questions.{first_no-append, yes_append}
use Rattle.part.proofs.File.{answer_accepted, answer_refused}

-- a list that is answered no, with more questions after it
pub refused_before : (qs more : List Question) (file : List ℕ) {e : Refusal} → answer_of (first_no qs) file ≡ Err e
    → answer_of (first_no (qs ++ more)) file ≡ Err e
unfolding answer_of next
refused_before qs more file h = rw (first_no-append qs more, answer_refused (first_no qs) file h)

-- a list that is answered yes, with one question more
pub also_asked : (qs : List Question) (refusal : Refusal) (b : Bool) (file : List ℕ) {part : Summary} → answer_of (first_no qs) file ≡ Ok part
    → answer_of (first_no (qs ++ (refusal, b) ∷ [])) file ≡ cond b (answer_of (first_no qs) file) (Err refusal)
unfolding answer_of next first_no
also_asked qs refusal b file h =
    rw (first_no-append qs ((refusal, b) ∷ []), answer_accepted (first_no qs) file h) (go b)
  where
    go : (b : Bool) → answer_of (next (Ok tt) (first_no ((refusal, b) ∷ []))) file ≡ cond b (answer_of (Ok tt) file) (Err refusal)
    go true = refl
    go false = refl

-- a list that is answered yes with more questions after it
pub asked_before : (qs more : List Question) (file : List ℕ) {part : Summary} → answer_of (first_no (qs ++ more)) file ≡ Ok part
    → answer_of (first_no qs) file ≡ Ok part
asked_before qs more file e =
    let v = answer_accepted (first_no (qs ++ more)) file e in
    rw (yes_append qs more v).0 (rw v at e)
