use Rattle.std.proofs.Common.{arith}
use Rattle.exact.proofs.Buffers.{sets-part}
use Rattle.writer.proofs.put_bytes.Goals as goal

pub returns : goal.returns
returns c =
    let a = c.args in
    sets-part a.bytes.now a.out.now _ a.to _ c.copy_from_slice.ensures.after (omega arith) (omega arith)
