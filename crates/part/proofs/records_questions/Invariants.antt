use Rattle.std.proofs.Common.{◌≡◌, ℕ, ◌+◌, ◌-◌, ◌*◌, List}
use Rattle.record.specs.Questions.{first_no, Verdict}
use Rattle.part.specs.File.{records_from, records_questions}
use Rattle.part.proofs.records_questions.Given as goal

-- the answer about so many records from a place on, with the values held before them
abbrev pub row : List ℕ → ℕ → ℕ → ℕ → Verdict
row file left at held = first_no (records_questions (records_from file left at) held)

-- what is left of the records, with the values held, is answered as the whole row is
abbrev pub invariant-loop-k : goal.invariant-loop-k
invariant-loop-k l = row l.file (l.n - l.k) (l.first + 12 * l.k) l.held ≡ row l.file l.n l.first 0
