-- From the check's answer back to its questions; the numbers that they have (`file_numbered`).
-- `accepted file e` says that every question of the file is answered yes, from `e : check_file file ≡ Accepted part`.
use Rattle.std.specs.Prelude.{Ok, Err}
use Prim.Native.Nat.{ℕ, ◌≤◌}
use native.Mathlib.Omega.{arith}
use mathlib.Core.Path.{◌≡◌, refl}
use mathlib.Core.List.{List, [], ◌∷◌}
use Rattle.record.specs.Questions.{first_no, Verdict}
use Rattle.record.specs.Nodes.{held_after}
use Rattle.record.specs.Record.{node_questions, record_questions}
use Rattle.record.specs.declared.Record.{Record}
use Rattle.record.specs.declared.Refusal.{Refusal}
use Rattle.record.proofs.Questions.{Numbered, numbered_append}
use Rattle.part.specs.File.{trailer_questions, records, records_questions, file_questions, answer_of, check_file}
use Rattle.part.specs.declared.Summary.{Summary}

pub answer_accepted : (v : Verdict) (file : List ℕ) {part : Summary} → answer_of v file ≡ Ok part → v ≡ Ok tt
unfolding answer_of
answer_accepted (Ok tt) file e = refl
answer_accepted (Err m) file e = let z : ◌≡◌ {A = ℕ} 0 1 = cc in absurd (omega arith)

pub answer_refused : (v : Verdict) (file : List ℕ) {e : Refusal} → answer_of v file ≡ Err e → v ≡ Err e
unfolding answer_of
answer_refused (Ok tt) file e = let z : ◌≡◌ {A = ℕ} 0 1 = cc in absurd (omega arith)
answer_refused (Err m) file e = cc

pub accepted : (file : List ℕ) {part : Summary} → check_file file ≡ Ok part → first_no (file_questions file) ≡ Ok tt
unfolding check_file
accepted file e = answer_accepted (first_no (file_questions file)) file e

pub refused : (file : List ℕ) {e : Refusal} → check_file file ≡ Err e → first_no (file_questions file) ≡ Err e
unfolding check_file
refused file e = answer_refused (first_no (file_questions file)) file e

-- ---- the refusal numbers of a file are 1 to 11, those of its records 6 to 11

module _ (j k : ℕ) (low : j ≤ 6) (h : 11 ≤ k) where
  pub records_numbered : (rs : List Record) (held : ℕ) → Numbered j k (records_questions rs held)
  unfolding records_questions record_questions node_questions
  records_numbered [] held = (omega arith, omega arith, tt)
  records_numbered (r ∷ later) held =
      numbered_append j k (record_questions r held) (records_questions later (held_after r.node held))
      (omega arith, omega arith, (omega arith, omega arith, (omega arith, omega arith, (omega arith, omega arith, (omega arith, omega arith, tt)))))
      (records_numbered later (held_after r.node held))

pub file_numbered : (k : ℕ) → 11 ≤ k → (file : List ℕ) → Numbered 1 k (file_questions file)
unfolding file_questions trailer_questions
file_numbered k h file =
    numbered_append 1 k (trailer_questions file) (records_questions (records file) 0)
    (omega arith, omega arith, (omega arith, omega arith, (omega arith, omega arith, (omega arith, omega arith, (omega arith, omega arith, tt)))))
    (records_numbered 1 k (omega arith) h (records file) 0)
