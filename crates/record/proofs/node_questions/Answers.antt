use Rattle.std.proofs.Common.{sym, ap, ◌∙◌, Err}
use Rattle.record.specs.Questions.{first_no}
use Rattle.record.specs.Nodes.{for_point, for_operator}
use Rattle.record.specs.Record.{node_questions}
use Rattle.record.proofs.Questions.{passed_on, asked_yes, asked_no}
use Rattle.record.proofs.node_questions.Goals as goal

pub returns-in_err-ask : goal.returns-in_err-ask
unfolding node_questions for_point for_operator first_no
returns-in_err-ask c =
    let no = asked_no _ _ (sym c.ask.ensures ∙ c.in_err-ask.was) in
    passed_on c.from_residual.result c.from_residual.ensures.1 ∙ ap Err no.1
    ∙ (rw (sym c.is_point.ensures ∙ c.if-is_point.true, sym c.in_range.ensures ∙ no.0))

pub returns-in_ok-ask : goal.returns-in_ok-ask
unfolding node_questions for_point for_operator first_no
returns-in_ok-ask c =
    let yes = asked_yes _ _ (sym c.ask.ensures ∙ c.in_ok-ask.was) in
    rw (sym c.is_point.ensures ∙ c.if-is_point.true, sym c.in_range.ensures ∙ yes) c.ask-then-is_point.ensures

pub returns-else-is_point : goal.returns-else-is_point
unfolding node_questions for_point for_operator first_no
returns-else-is_point c = rw (sym c.is_point.ensures ∙ c.if-is_point.false) c.ask-else-is_point.ensures
