-- Questions in order (document 01): the first no decides.
use Rattle.std.specs.Prelude.{ℕ, List, [], ◌∷◌, Bool, cond, Result, Ok, Err}
use Rattle.record.specs.declared.Refusal.{Refusal}
use Rattle.record.specs.declared.Refusal.TheVariants as no

-- the documents' number of a question, which is the refusal number where the answer is no
abbrev pub number : Refusal → ℕ
number no.Length = 1
number no.Mark = 2
number no.Version = 3
number no.Distance = 4
number no.Iso = 5
number no.Kind = 6
number no.ZeroBytes = 7
number no.Point = 8
number no.Operands = 9
number no.Depth = 10
number no.Root = 11
number no.Coordinates = 12
number no.Ends = 13
number no.Buffer = 14
number no.Millimetres = 15
number no.Numbers = 16
number no.Room = 17
number no.SavedLength = 18

-- a question: what its no refuses, and whether the answer is yes
abbrev pub Question : Type 0
Question = Refusal × Bool

-- yes to all, or what the first no refuses
abbrev pub Verdict : Type 0
Verdict = Result (Unit {0}) Refusal

-- one question's
abbrev pub asked : Refusal → Bool → Verdict
asked refusal test = cond test (Ok tt) (Err refusal)

unfoldable pub first_no : List Question → Verdict
first_no [] = Ok tt
first_no (q ∷ later) = cond q.1 (first_no later) (Err q.0)

-- a verdict, and where it is yes a later one
unfoldable pub next : Verdict → Verdict → Verdict
next (Ok tt) later = later
next (Err refusal) later = Err refusal
