use Rattle.std.proofs.Common.{◌≡◌, ℕ, ◌-◌, ◌*◌, List, map}
use lib.IntN.{ℤ}
use Rattle.record.specs.Questions.{first_no, Verdict}
use Rattle.part.specs.File.{records_questions}
use Rattle.writer.specs.Given.{nodes_in, record_of}
use Rattle.writer.proofs.nodes_questions.Given as goal

-- the answer about so many nodes from a place on, with the values held before them
abbrev pub row : List ℤ → ℕ → ℕ → ℕ → Verdict
row l left at held = first_no (records_questions (map record_of (nodes_in l left at)) held)

-- what is left of the nodes, with the values held, is answered as the whole row is
abbrev pub invariant-loop-k : goal.invariant-loop-k
invariant-loop-k l = row l.numbers (l.n - l.k) (6 * l.k) l.held ≡ row l.numbers l.n 0 0
