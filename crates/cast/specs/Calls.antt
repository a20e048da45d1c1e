-- The casting calls (document 01, "Calls") as functions of the file's bytes, the ray, the budget and the lent buffer: what each answers, by the first
-- no of its questions, and what it leaves in the buffer. What a ray of a solid gives is stated for 2^k ticks; document 01's calls have 2^exponent.
use Rattle.std.specs.Prelude.{ℕ, ◌^◌, List, ◌++◌, length, drop, Ok, Err}
use Rattle.record.specs.Questions.{first_no, Verdict}
use Rattle.field.specs.Vectors.{Ray}
use Rattle.field.specs.Solid.{Solid, solid_of}
use Rattle.loading.specs.Loading.{ray_questions}
use Rattle.halving.specs.declared.Cast.{Cast}
use Rattle.halving.specs.declared.FirstHit.{FirstHit}
use Rattle.halving.specs.Answers.{CastAnswer, HitAnswer}
use Rattle.halving.specs.Halving.{probe_count, span_marks, walk, handed}
use Rattle.halving.specs.FirstHit.{hit}
use Rattle.cast.specs.Column.{column_bytes, bit_of, packed, ColumnAnswer}
use Rattle.cast.specs.Ticks.{exponent, ray_state}
use Rattle.cast.specs.Questions.{buffer_questions}

-- ---- a ray of 2^k ticks, with no refusal

-- "the probe count of the whole ray"
abbrev pub ray_probes : Solid → Ray → ℕ → ℕ
ray_probes solid ray k = probe_count (ray_state solid ray (2 ^ k)) k 0

-- the marks of its ticks
abbrev pub ray_marks : Solid → Ray → ℕ → List ℕ
ray_marks solid ray k = span_marks (ray_state solid ray (2 ^ k)) k 0

abbrev pub ray_walk : Solid → Ray → ℕ → ℕ → Cast
ray_walk solid ray k budget = walk (ray_state solid ray (2 ^ k)) budget k 0 0

abbrev pub ray_hit : Solid → Ray → ℕ → ℕ → FirstHit
ray_hit solid ray k budget = hit (ray_state solid ray (2 ^ k)) budget k 0 0

-- ---- "Full cast: 1,024 mark bytes, probes, complete or spent with the tick reached."

-- the answer, by the verdict on its questions, of a cast that gives w if it is not refused
unfoldable pub cast_after : Verdict → Cast → CastAnswer
cast_after (Ok tt) w = Ok w
cast_after (Err refusal) w = Err refusal

unfoldable pub full_cast : List ℕ → Ray → ℕ → ℕ → CastAnswer
full_cast file ray budget room =
    cast_after (first_no (buffer_questions file ray (2 ^ exponent) room)) (ray_walk (solid_of file) ray exponent budget)

-- the buffer afterwards, of such a cast of T ticks whose marks are ms: the marks handed over, and "Bytes past that are never written"; "output bytes
-- keep their contents" if it is refused
unfoldable pub marks_after : Verdict → ℕ → Cast → List ℕ → List ℕ → List ℕ
marks_after (Ok tt) T w ms lent = handed T w ms ++ drop T lent
marks_after (Err refusal) T w ms lent = lent

unfoldable pub marks_left : List ℕ → Ray → ℕ → List ℕ → List ℕ
marks_left file ray budget lent =
    marks_after (first_no (buffer_questions file ray (2 ^ exponent) (length lent)))
    (2 ^ exponent) (ray_walk (solid_of file) ray exponent budget) (ray_marks (solid_of file) ray exponent) lent

-- ---- "First hit"

unfoldable pub hit_after : Verdict → Solid → Ray → ℕ → ℕ → HitAnswer
hit_after (Ok tt) solid ray k budget = Ok (ray_hit solid ray k budget)
hit_after (Err refusal) solid ray k budget = Err refusal

unfoldable pub first_hit : List ℕ → Ray → ℕ → HitAnswer
first_hit file ray budget = hit_after (first_no (ray_questions file ray)) (solid_of file) ray exponent budget

-- ---- "Column: 128 bytes […] and the probes, which are the full cast's. It has no budget and is never spent."

unfoldable pub column_after : Verdict → Solid → Ray → ColumnAnswer
column_after (Ok tt) solid ray = Ok (ray_probes solid ray exponent)
column_after (Err refusal) solid ray = Err refusal

unfoldable pub column_answer : List ℕ → Ray → ℕ → ColumnAnswer
column_answer file ray room = column_after (first_no (buffer_questions file ray column_bytes room)) (solid_of file) ray

unfoldable pub bits_after : Verdict → Solid → Ray → List ℕ → List ℕ
bits_after (Ok tt) solid ray lent = packed (bit_of solid ray (2 ^ exponent)) column_bytes ++ drop column_bytes lent
bits_after (Err refusal) solid ray lent = lent

unfoldable pub bits_left : List ℕ → Ray → List ℕ → List ℕ
bits_left file ray lent = bits_after (first_no (buffer_questions file ray column_bytes (length lent))) (solid_of file) ray lent
