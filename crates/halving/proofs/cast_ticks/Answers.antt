-- The marks that the cast stored, then 3 from the tick reached on, are what is handed over.
use Rattle.halving.specs.Answers.{cast_reaches}
use Rattle.halving.specs.Search.{state_in}
use Rattle.halving.proofs.Span.{reached_within, walk-handed}
use Rattle.halving.proofs.cast_ticks.Goals as goal

pub mark_rest-requires-clause-answer_bound : goal.mark_rest-requires-clause-answer_bound
unfolding cast_reaches
mark_rest-requires-clause-answer_bound c =
    let a = c.args in
    reached_within (state_in a.s.now) a.s.now.budget a.level a.s.now.ticks c.requires.halvable.size _ c.cast_span-cast.ensures.answer

pub returns-clause-bytes : goal.returns-clause-bytes
unfolding cast_reaches
returns-clause-bytes c =
    let a = c.args in
    walk-handed (state_in a.s.now) a.s.now.budget a.level a.s.now.ticks c.requires.halvable.size _ c.cast_span-cast.ensures.answer
    _ _ _ c.requires.ticks_in_bounds c.cast_span-cast.ensures.bytes c.mark_rest.ensures
