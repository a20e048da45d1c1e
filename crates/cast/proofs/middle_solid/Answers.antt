-- The middle is a place of the ray in twice as many ticks.
use native.Mathlib.Omega.{arith}
use Rattle.halving.proofs.Within.{span_ranges}
use Rattle.cast.specs.Column.{middle_in}
use Rattle.cast.proofs.middle_solid.Goals as goal

pub span_solid-requires : goal.span_solid-requires
span_solid-requires c = c.args.s.now.searchable.probe _ (span_ranges (omega arith) (omega arith) (omega arith) (omega arith))

pub returns : goal.returns
unfolding middle_in
returns c = c.span_solid.ensures
