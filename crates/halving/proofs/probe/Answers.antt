use Rattle.std.proofs.Common.{arith}
use Rattle.halving.specs.Search.{state_in}
use Rattle.halving.proofs.Within.{span_ranges}
use Rattle.halving.proofs.probe.Goals as goal

pub span_state-requires : goal.span_state-requires
span_state-requires c =
    let p = c.args.s.now.searchable in
    p.probe _ (span_ranges (omega arith) (omega arith) p.ticks_low p.ticks_high)

pub returns : goal.returns
unfolding state_in
returns c = c.span_state.ensures
