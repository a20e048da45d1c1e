use Rattle.cast.proofs.+byte_span.Given as goal

abbrev pub decreases-byte_span : goal.decreases-byte_span
decreases-byte_span l = l.level
