use Rattle.std.proofs.Common.{◌∙◌}
use Rattle.view.specs.Call.{viewer_first_hit}
use Rattle.view.proofs.Call.{ticks_within}
use Rattle.view.proofs.viewer_first_hit.Goals as goal

pub view_of-requires-clause-answer_bound : goal.view_of-requires-clause-answer_bound
view_of-requires-clause-answer_bound c = ticks_within _ _ _ c.viewer_ticks.ensures.answer

pub returns-clause-answer : goal.returns-clause-answer
unfolding viewer_first_hit
returns-clause-answer c = c.view_of.ensures ∙ rw c.viewer_ticks.ensures.answer
