use Rattle.std.proofs.Math.Bool.{and_assoc}
use Rattle.record.proofs.Bytes.{zeros-after}
use Rattle.record.proofs.are_zero_after.Goals as goal

pub returns : goal.returns
returns c = rw zeros-after (simp (and_assoc, c.u16_at.ensures.0, c.u32_at.ensures, c.u32_at-2.ensures))
