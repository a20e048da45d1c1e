-- What the viewer's first hit promises beside its equation: exact places, and demands 2 and 3 of its answer in ticks.
use Rattle.std.specs.Prelude.{◌≡◌, ℕ, ◌^◌, ◌≤◌, ◌⊎◌, List, pos, Ok, Err}
use Rattle.record.specs.Questions.{number}
use Rattle.record.specs.declared.Refusal.TheVariants as no
use Rattle.field.specs.Solid.{solid_of}
use Rattle.halving.specs.declared.FirstHit.TheVariants as found
use Rattle.halving.specs.Answers.{HitAnswer, hit_reaches}
use Rattle.cast.specs.Demands.{Sound, AloneHit, CountedHit, SameOrder, PromptHit, FoundHit}
use Rattle.view.specs.Floats.{Equals, tick_at}
use Rattle.view.specs.Ray.{steps_ray}
use Rattle.view.specs.Call.{viewer_ticks}
use Rattle.view.specs.Ray.{ViewRay}
use Rattle.view.specs.declared.ViewAnswer.{ViewAnswer}
use Rattle.view.specs.declared.ViewAnswer.TheVariants as view

-- the answer in ticks: a first hit's
unfoldable pub in_ticks : ℕ → ViewAnswer → HitAnswer
in_ticks ticks (view.Refused refusal) = Err refusal
in_ticks ticks (view.Hit entry mark probes) = Ok (found.Hit (tick_at ticks entry) mark probes)
in_ticks ticks (view.Clear probes) = Ok (found.Clear probes)
in_ticks ticks (view.Spent place probes) = Ok (found.Spent (tick_at ticks place) probes)

-- "entry as a float equal to h/1024 exactly", and "spent with the tick reached over 1024"
unfoldable pub ExactPlace : ℕ → ViewAnswer → Type 0
ExactPlace ticks (view.Refused refusal) = Unit {0}
ExactPlace ticks (view.Hit entry mark probes) = Equals entry (pos (tick_at ticks entry)) ticks
ExactPlace ticks (view.Clear probes) = Unit {0}
ExactPlace ticks (view.Spent place probes) = Equals place (pos (tick_at ticks place)) ticks

module _ (file : List ℕ) (ray : ViewRay) (k budget : ℕ) where
  -- the probes are a first hit's. A refusal is 1 to 11 or 15.
  unfoldable pub CountedView : ViewAnswer → Type 0
  CountedView (view.Refused refusal) = ((1 ≤ number refusal) × (number refusal ≤ 11)) ⊎ (refusal ≡ no.Millimetres)
  CountedView (view.Hit entry mark probes) = CountedHit (solid_of file) (steps_ray ray) k budget (in_ticks (2 ^ k) (view.Hit entry mark probes))
  CountedView (view.Clear probes) = CountedHit (solid_of file) (steps_ray ray) k budget (in_ticks (2 ^ k) (view.Clear probes))
  CountedView (view.Spent place probes) = CountedHit (solid_of file) (steps_ray ray) k budget (in_ticks (2 ^ k) (view.Spent place probes))

  -- what the call promises of its answer beside its equation, with 2^k ticks
  pub record ViewDemands (answer : ViewAnswer) : Type 0 where
    pub ticks : in_ticks (2 ^ k) answer ≡ viewer_ticks k file ray budget
    pub exact : ExactPlace (2 ^ k) answer
    pub alone : AloneHit (solid_of file) (steps_ray ray) (2 ^ k) (in_ticks (2 ^ k) answer)
    pub counted : CountedView answer
    pub order : SameOrder (solid_of file) (steps_ray ray) k budget (in_ticks (2 ^ k) answer)
    pub prompt : PromptHit k budget (in_ticks (2 ^ k) answer)
    pub in_time : FoundHit (solid_of file) (steps_ray ray) k budget (in_ticks (2 ^ k) answer)
    pub sound : Sound (solid_of file) (steps_ray ray) (2 ^ k) (hit_reaches (2 ^ k) (in_ticks (2 ^ k) answer))
