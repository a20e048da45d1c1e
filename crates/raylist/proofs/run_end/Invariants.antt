-- `run_end`: the ticks passed have the first one's mark.
use Rattle.std.proofs.Common.{◌≡◌, ◌≤◌, ◌<◌, ℕ, get_or}
use Rattle.raylist.proofs.run_end.Given as goal

abbrev pub invariant-loop-after : goal.invariant-loop-after
invariant-loop-after l = (t : ℕ) → l.first ≤ t → t < l.after → get_or l.marks t 0 ≡ get_or l.marks l.first 0
