use Rattle.std.proofs.Common.{sym, ◌∙◌, ap, true, false, Err}
use Rattle.record.proofs.Questions.{passed_on, asked_yes, asked_no}
use Rattle.loading.specs.Loading.{check_ray, ray_questions}
use Rattle.cast.specs.Questions.{buffer_questions, check_buffer}
use Rattle.cast.proofs.Questions.{refused_before, also_asked}
use Rattle.cast.proofs.load_buffer.Goals as goal

pub returns-in_err-part-clause-answer : goal.returns-in_err-part-clause-answer
unfolding check_ray buffer_questions check_buffer
returns-in_err-part-clause-answer c =
    passed_on c.from_residual.result c.from_residual.ensures.1
    ∙ sym (refused_before (ray_questions c.args.file.now c.args.ray) _ c.args.file.now (sym c.load_ray.ensures.answer ∙ c.in_err-part.was))

pub returns-in_err-ask-clause-answer : goal.returns-in_err-ask-clause-answer
unfolding check_ray buffer_questions check_buffer
returns-in_err-ask-clause-answer c =
    let no = asked_no _ _ (sym c.ask.ensures ∙ c.in_err-ask.was) in
    passed_on c.from_residual-in_err-ask.result c.from_residual-in_err-ask.ensures.1 ∙ ap Err no.1
    ∙ (rw no.0
    (sym (also_asked (ray_questions c.args.file.now c.args.ray) _ false c.args.file.now (sym c.load_ray.ensures.answer ∙ c.in_ok-part.was))))

pub returns-clause-answer : goal.returns-clause-answer
unfolding check_ray buffer_questions check_buffer
returns-clause-answer c =
    let yes = asked_yes _ _ (sym c.ask.ensures ∙ c.in_ok-ask.was) in
    let e = sym c.load_ray.ensures.answer ∙ c.in_ok-part.was in
    sym e ∙ (rw yes (sym (also_asked (ray_questions c.args.file.now c.args.ray) _ true c.args.file.now e)))
