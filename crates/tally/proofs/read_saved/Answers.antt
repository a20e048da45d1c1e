use Rattle.std.proofs.Common.{rules}
use Rattle.record.specs.Questions.{first_no}
use Rattle.tally.specs.Saved.{saved_questions, saved_by, read_saved, SavedSays}
use Rattle.tally.proofs.read_saved.Goals as goal

pub returns-in_err-ask : goal.returns-in_err-ask
unfolding read_saved saved_by saved_questions SavedSays first_no
returns-in_err-ask c = search rules

pub returns : goal.returns
unfolding read_saved saved_by saved_questions SavedSays first_no
returns c = search rules
