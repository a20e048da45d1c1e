use Rattle.std.proofs.Common.{refl, ap, ◌∙◌, ◌++◌, ◌+◌, ◌*◌, arith}
use lib.Seq.{sets}
use Rattle.exact.proofs.Buffers.{sets-then}
use Rattle.part.specs.File.{file_mark}
use Rattle.writer.specs.Bytes.{u16_bytes, u32_bytes, size, trailer_bytes}
use Rattle.writer.proofs.Numbers.{le_low, le_u32}
use Rattle.writer.proofs.put_trailer.Goals as goal

pub returns : goal.returns
unfolding trailer_bytes size u16_bytes u32_bytes
returns c =
    let a = c.args in
    let out = a.out.now in
    let i = u16_bytes a.iso in
    let v = i ++ u16_bytes a.version in
    let s = u32_bytes (12 * a.count + 12) in
    let d = v ++ s in
    let e = c.put_bytes.ensures ∙ ap (sets out a.to) (c.to_le_bytes.ensures ∙ le_low a.iso) in
    let f = sets-then i (u16_bytes a.version) out a.to e c.put_bytes-2.ensures (c.to_le_bytes-2.ensures ∙ le_low a.version) (omega arith) in
    let g = sets-then v s out a.to f c.put_bytes-3.ensures (c.to_le_bytes-3.ensures ∙ le_u32 (12 * a.count + 12)) (omega arith) in
    sets-then d file_mark out a.to g c.put_bytes-4.ensures refl (omega arith)
