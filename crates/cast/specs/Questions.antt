-- The questions of the casting calls (document 01, "Questions, in order"; document 02, P8): a first hit asks 1 to 12, a full cast or column 14 too.
-- "question 13 now never says no", so it is in no list: a ray's ends may coincide.
use Rattle.std.specs.Prelude.{ℕ, List, [], ◌∷◌, ◌++◌, leb}
use Rattle.record.specs.Questions.{Question, first_no}
use Rattle.record.specs.declared.Refusal.TheVariants as no
use Rattle.part.specs.File.{answer_of, Checked}
use Rattle.field.specs.Vectors.{Ray}
use Rattle.loading.specs.Loading.{ray_questions}

-- questions 1 to 12, then 14: "Has the buffer at least 1,024 bytes for marks, 128 for a column?"
unfoldable pub buffer_questions : List ℕ → Ray → ℕ → ℕ → List Question
buffer_questions file ray need room = ray_questions file ray ++ (no.Buffer, leb need room) ∷ []

-- the node count and the iso-value, or the refusal
unfoldable pub check_buffer : List ℕ → Ray → ℕ → ℕ → Checked
check_buffer file ray need room = answer_of (first_no (buffer_questions file ray need room)) file
