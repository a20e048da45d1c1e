use Rattle.std.proofs.Common.{◌-◌}
use Rattle.halving.specs.Search.{state_in}
use Rattle.march.proofs.Turns.{Left}
use Rattle.march.proofs.march_on.Given as goal

abbrev pub invariant-loop-at : goal.invariant-loop-at
invariant-loop-at l = Left (state_in l.s) l.s.ticks l.s.budget l.fn.out l.out l.at l.made

abbrev pub decreases-loop-at : goal.decreases-loop-at
decreases-loop-at l = l.s.budget - l.made
