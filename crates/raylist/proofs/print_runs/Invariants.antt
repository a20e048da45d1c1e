use Rattle.std.proofs.Common.{length, ◌-◌, ◌≤◌}
use Rattle.raylist.proofs.print_runs.Given as goal

abbrev pub invariant-loop-first : goal.invariant-loop-first
invariant-loop-first g l = l.first ≤ length l.marks

abbrev pub decreases-loop-first : goal.decreases-loop-first
decreases-loop-first g l = length l.marks - l.first
