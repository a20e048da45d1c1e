-- The casting calls with document 01's question 13, which "now never says no" (document 02, P8): what each answered and left, by the first no of its
-- questions. But for their questions they are made as the calls are (`cast`, `march`, `view`).
use Rattle.std.specs.Prelude.{List, [], ◌∷◌, ◌++◌, Bool, not, ◌&&◌, ℕ, ◌^◌, leb, length}
use Rattle.exact.specs.Range.{eq_ℤ}
use Rattle.record.specs.Questions.{Question, first_no, Verdict}
use Rattle.record.specs.declared.Refusal.TheVariants as no
use Rattle.part.specs.File.{file_questions}
use Rattle.field.specs.Vectors.{Position}
use Rattle.field.specs.Vectors.{Ray}
use Rattle.field.specs.Solid.{solid_of}
use Rattle.loading.specs.Loading.{ray_questions}
use Rattle.cast.specs.Ticks.{exponent}
use Rattle.cast.specs.Column.{column_bytes}
use Rattle.cast.specs.Calls.{ray_marks, ray_walk, cast_after, marks_after, hit_after, column_after, bits_after}
use Rattle.march.specs.Calls.{marched_marks, ray_march}
use Rattle.view.specs.Ray.{ViewRay}
use Rattle.view.specs.declared.ViewAnswer.{ViewAnswer}
use Rattle.view.specs.Ray.{steps_ray}
use Rattle.view.specs.Call.{float_questions, view_of}
use Rattle.totals.specs.declared.Call.{Call}
use Rattle.totals.specs.declared.Call.TheVariants as call
use Rattle.totals.specs.declared.Answer.{Answer}
use Rattle.totals.specs.declared.Answer.TheVariants as answer

abbrev same_position : Position → Position → Bool
same_position p q = eq_ℤ p.x q.x && eq_ℤ p.y q.y && eq_ℤ p.z q.z

-- 13: "Do the ray's ends differ?"
unfoldable pub ends_differ : Ray → Bool
ends_differ ray = not (same_position ray.start ray.end)

-- ---- full cast, first hit, column and marching cast

unfoldable pub ray_of : Call → Ray
ray_of (call.FullCast ray budget) = ray
ray_of (call.FirstHit ray budget) = ray
ray_of (call.Column ray) = ray
ray_of (call.MarchingCast ray budget) = ray

-- 14, of a buffer of so many bytes: "Has the buffer at least 1,024 bytes for marks, 128 for a column?"
unfoldable pub room_questions : Call → ℕ → List Question
room_questions (call.FullCast ray budget) room = (no.Buffer, leb (2 ^ exponent) room) ∷ []
room_questions (call.FirstHit ray budget) room = []
room_questions (call.Column ray) room = (no.Buffer, leb column_bytes room) ∷ []
room_questions (call.MarchingCast ray budget) room = (no.Buffer, leb (2 ^ exponent) room) ∷ []

-- "A first hit asks 1 to 13, a full cast or column 1 to 14."
abbrev pub earlier_questions : List ℕ → Call → ℕ → List Question
earlier_questions file c room = ray_questions file (ray_of c) ++ (no.Ends, ends_differ (ray_of c)) ∷ room_questions c room

-- the answer by a verdict on a call's questions, and the lent buffer afterwards
unfoldable pub answer_by : Verdict → List ℕ → Call → Answer
answer_by v file (call.FullCast ray budget) = answer.FullCast (cast_after v (ray_walk (solid_of file) ray exponent budget))
answer_by v file (call.FirstHit ray budget) = answer.FirstHit (hit_after v (solid_of file) ray exponent budget)
answer_by v file (call.Column ray) = answer.Column (column_after v (solid_of file) ray)
answer_by v file (call.MarchingCast ray budget) = answer.MarchingCast (cast_after v (ray_march (solid_of file) ray exponent budget))

unfoldable pub bytes_by : Verdict → List ℕ → Call → List ℕ → List ℕ
bytes_by v file (call.FullCast ray budget) lent =
    marks_after v (2 ^ exponent) (ray_walk (solid_of file) ray exponent budget) (ray_marks (solid_of file) ray exponent) lent
bytes_by v file (call.FirstHit ray budget) lent = lent
bytes_by v file (call.Column ray) lent = bits_after v (solid_of file) ray lent
bytes_by v file (call.MarchingCast ray budget) lent =
    marks_after v (2 ^ exponent) (ray_march (solid_of file) ray exponent budget) (marched_marks (solid_of file) ray exponent) lent

-- what the call answered, and what it left in the buffer
abbrev pub earlier_answer : List ℕ → Call → ℕ → Answer
earlier_answer file c room = answer_by (first_no (earlier_questions file c room)) file c

abbrev pub earlier_bytes : List ℕ → Call → List ℕ → List ℕ
earlier_bytes file c lent = bytes_by (first_no (earlier_questions file c (length lent))) file c lent

-- ---- viewer's first hit

-- "The viewer's call asks 1 to 11, then 15, then 13."
abbrev pub earlier_view_questions : List ℕ → ViewRay → List Question
earlier_view_questions file ray = (file_questions file ++ float_questions ray) ++ (no.Ends, ends_differ (steps_ray ray)) ∷ []

abbrev pub earlier_view : List ℕ → ViewRay → ℕ → ViewAnswer
earlier_view file ray budget =
    view_of (2 ^ exponent) (hit_after (first_no (earlier_view_questions file ray)) (solid_of file) (steps_ray ray) exponent budget)
