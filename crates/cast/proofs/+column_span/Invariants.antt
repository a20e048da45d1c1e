use Rattle.cast.proofs.+column_span.Given as goal

abbrev pub decreases-column_span : goal.decreases-column_span
decreases-column_span l = l.level
