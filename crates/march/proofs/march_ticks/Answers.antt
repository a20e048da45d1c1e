-- The marks that the march stored, then 3 from the tick reached on, are what is handed over.
use Rattle.halving.specs.Answers.{cast_reaches}
use Rattle.halving.specs.Search.{state_in}
use Rattle.march.proofs.Turns.{reached_within, march-handed}
use Rattle.march.proofs.march_ticks.Goals as goal

pub mark_rest-requires-clause-answer_bound : goal.mark_rest-requires-clause-answer_bound
unfolding cast_reaches
mark_rest-requires-clause-answer_bound c =
    let a = c.args in
    reached_within (state_in a.s.now) a.s.now.ticks a.s.now.budget _ c.march_on-cast.ensures.answer

pub returns-clause-bytes : goal.returns-clause-bytes
unfolding cast_reaches
returns-clause-bytes c =
    let a = c.args in
    march-handed (state_in a.s.now) a.s.now.ticks a.s.now.budget _ c.march_on-cast.ensures.answer
    _ _ _ c.requires.ticks_in_bounds c.march_on-cast.ensures.bytes c.mark_rest.ensures
