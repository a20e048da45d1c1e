use Rattle.halving.proofs.+cast_span.Given as goal

abbrev pub decreases-cast_span : goal.decreases-cast_span
decreases-cast_span l = l.level
