use Rattle.halving.proofs.+hit_span.Given as goal

abbrev pub decreases-hit_span : goal.decreases-hit_span
decreases-hit_span l = l.level
