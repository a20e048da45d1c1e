use Rattle.std.proofs.Common.{sym, ◌∙◌}
use Rattle.record.proofs.Questions.{passed_on}
use Rattle.view.proofs.Coordinates.{ray_whole_lem, ray_not_whole}
use Rattle.view.proofs.Call.{ticks_found, ticks_refused, ticks_15, ticks_promised}
use Rattle.view.proofs.viewer_ticks.Goals as goal

pub returns-in-Some : goal.returns-in-Some
returns-in-Some c =
    let k = ray_whole_lem _ (sym c.ray_in_steps.ensures ∙ c.in-Some.is) in
    let p = ticks_promised _ _ _ (c.first_hit.ensures.answer ∙ rw k.1 (sym (ticks_found _ _ _ k.0))) in
    record { answer = p.0; demands = p.1 }

-- a float that is not whole steps
pub returns-in_err-check-in-None : goal.returns-in_err-check-in-None
returns-in_err-check-in-None c =
    let fraction = ray_not_whole _ (sym c.ray_in_steps.ensures ∙ c.in-None.is) in
    let p = ticks_promised _ _ _
    (passed_on c.from_residual.result c.from_residual.ensures.1
    ∙ sym (ticks_refused _ _ _ fraction (sym c.check.ensures.answer ∙ c.in_err-check-in-None.was))) in
    record { answer = p.0; demands = p.1 }

pub returns-in_ok-check-in-None : goal.returns-in_ok-check-in-None
returns-in_ok-check-in-None c =
    let fraction = ray_not_whole _ (sym c.ray_in_steps.ensures ∙ c.in-None.is) in
    let p = ticks_promised _ _ _ (sym (ticks_15 _ _ _ fraction (sym c.check.ensures.answer ∙ c.in_ok-check-in-None.was))) in
    record { answer = p.0; demands = p.1 }
