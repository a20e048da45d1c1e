-- The viewer's first hit (document 01, "Calls") as a function of the file's bytes, the ray and the budget: what it answers, by the first no of its
-- questions.
use Rattle.std.specs.Prelude.{ℕ, ◌^◌, List, [], ◌∷◌, ◌++◌, Ok, Err}
use Rattle.record.specs.Questions.{Question, first_no}
use Rattle.record.specs.declared.Refusal.TheVariants as no
use Rattle.part.specs.File.{file_questions}
use Rattle.field.specs.Solid.{solid_of}
use Rattle.halving.specs.declared.FirstHit.TheVariants as found
use Rattle.halving.specs.Answers.{HitAnswer}
use Rattle.cast.specs.Ticks.{exponent}
use Rattle.cast.specs.Calls.{hit_after}
use Rattle.view.specs.Floats.{place_of}
use Rattle.view.specs.Ray.{whole, steps_ray}
use Rattle.view.specs.Ray.{ViewRay}
use Rattle.view.specs.declared.ViewAnswer.{ViewAnswer}
use Rattle.view.specs.declared.ViewAnswer.TheVariants as view

-- question 15 on the six floats: A's three, then B's
unfoldable pub float_questions : ViewRay → List Question
float_questions ray =
    (no.Millimetres, whole ray.start.x)
    ∷ (no.Millimetres, whole ray.start.y)
    ∷ (no.Millimetres, whole ray.start.z)
    ∷ (no.Millimetres, whole ray.end.x)
    ∷ (no.Millimetres, whole ray.end.y)
    ∷ (no.Millimetres, whole ray.end.z)
    ∷ []

-- "The viewer's call asks 1 to 11, then 15"; its 13 "now never says no" (document 02, P8) and is not asked
unfoldable pub view_questions : List ℕ → ViewRay → List Question
view_questions file ray = file_questions file ++ float_questions ray

-- the viewer's values for each case of a first hit: "entry as a float equal to h/1024 exactly with the mark of tick h, or spent with the tick reached
-- over 1024, or refused with a number; unless refused, the probes come with it"
unfoldable pub view_of : ℕ → HitAnswer → ViewAnswer
view_of ticks (Err refusal) = view.Refused refusal
view_of ticks (Ok (found.Hit tick mark probes)) = view.Hit (place_of ticks tick) mark probes
view_of ticks (Ok (found.Clear probes)) = view.Clear probes
view_of ticks (Ok (found.Spent tick probes)) = view.Spent (place_of ticks tick) probes

-- the answer in 2^k ticks: a first hit's on the ray in steps, by the viewer's own questions
unfoldable pub viewer_ticks : ℕ → List ℕ → ViewRay → ℕ → HitAnswer
viewer_ticks k file ray budget = hit_after (first_no (view_questions file ray)) (solid_of file) (steps_ray ray) k budget

-- "Viewer's first hit"
unfoldable pub viewer_first_hit : List ℕ → ViewRay → ℕ → ViewAnswer
viewer_first_hit file ray budget = view_of (2 ^ exponent) (viewer_ticks exponent file ray budget)
