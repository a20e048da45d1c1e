use Rattle.std.proofs.Common.{rules}
use Rattle.view.specs.Ray.{whole, coordinate_of, end_whole, position_of, end_steps}
use Rattle.view.proofs.end_in_steps.Goals as goal

pub returns-in_err-in_steps : goal.returns-in_err-in_steps
unfolding end_steps end_whole position_of whole coordinate_of
returns-in_err-in_steps c = search rules

pub returns-in_err-in_steps-2 : goal.returns-in_err-in_steps-2
unfolding end_steps end_whole position_of whole coordinate_of
returns-in_err-in_steps-2 c = search rules

pub returns-in_err-in_steps-3 : goal.returns-in_err-in_steps-3
unfolding end_steps end_whole position_of whole coordinate_of
returns-in_err-in_steps-3 c = search rules

pub returns : goal.returns
unfolding end_steps end_whole position_of whole coordinate_of
returns c = search rules
