-- The marching full cast (document 02, P5) as a function of the file's bytes, the ray, the budget and the lent buffer: "budget, spent, buffers and
-- questions work as in the full cast". What a ray of a solid gives is stated for 2^k ticks; the call has 2^exponent.
use Rattle.std.specs.Prelude.{ℕ, ◌^◌, List, length}
use Rattle.record.specs.Questions.{first_no}
use Rattle.field.specs.Vectors.{Ray}
use Rattle.field.specs.Solid.{Solid, solid_of}
use Rattle.halving.specs.declared.Cast.{Cast}
use Rattle.halving.specs.Answers.{CastAnswer}
use Rattle.cast.specs.Ticks.{exponent, ray_state}
use Rattle.cast.specs.Questions.{buffer_questions}
use Rattle.cast.specs.Calls.{cast_after, marks_after}
use Rattle.march.specs.Marching.{march_count, march_marks, march}

-- ---- a ray of 2^k ticks, with no refusal

-- "the whole ray's probe count"
abbrev pub march_probes : Solid → Ray → ℕ → ℕ
march_probes solid ray k = march_count (ray_state solid ray (2 ^ k)) (2 ^ k)

-- the marks of its ticks
abbrev pub marched_marks : Solid → Ray → ℕ → List ℕ
marched_marks solid ray k = march_marks (ray_state solid ray (2 ^ k)) (2 ^ k)

abbrev pub ray_march : Solid → Ray → ℕ → ℕ → Cast
ray_march solid ray k budget = march (ray_state solid ray (2 ^ k)) (2 ^ k) budget

-- ---- the call: its answer, and the buffer afterwards

unfoldable pub marching_cast : List ℕ → Ray → ℕ → ℕ → CastAnswer
marching_cast file ray budget room =
    cast_after (first_no (buffer_questions file ray (2 ^ exponent) room)) (ray_march (solid_of file) ray exponent budget)

unfoldable pub marched_left : List ℕ → Ray → ℕ → List ℕ → List ℕ
marched_left file ray budget lent =
    marks_after (first_no (buffer_questions file ray (2 ^ exponent) (length lent)))
    (2 ^ exponent) (ray_march (solid_of file) ray exponent budget) (marched_marks (solid_of file) ray exponent) lent
