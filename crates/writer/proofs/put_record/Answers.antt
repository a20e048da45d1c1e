use mir.Syntax.{w32}
use mir.Val.{SFits}
use mir.Facts.{to_z-of_z}
use lib.Seq.{sets}
use lib.IntN.{nat_abs}
use Rattle.std.proofs.Common.{rules, ◌∙◌, [], ◌∷◌, ◌++◌, arith}
use Rattle.exact.proofs.Buffers.{sets-then}
use Rattle.writer.specs.Bytes.{u16_bytes, i16_bytes, record_bytes}
use Rattle.writer.proofs.Numbers.{le_i16}
use Rattle.writer.proofs.put_record.Goals as goal

pub returns : goal.returns
unfolding record_bytes u16_bytes i16_bytes
returns c =
    let n = c.args.n in
    let out = c.args.out.now in
    let to = c.args.to in
    let q = c.requires.storable in
    let kind : SFits w32 n.kind = search rules in
    let radius : SFits w32 n.radius = search rules in
    let k = nat_abs n.kind ∷ 0 ∷ [] in
    let r = k ++ u16_bytes (nat_abs n.radius) in
    let x = r ++ i16_bytes n.x in
    let y = x ++ i16_bytes n.y in
    let z = y ++ i16_bytes n.z in
    let a = c.put_bytes.ensures ∙ (λ i. sets out to (nat_abs (to_z-of_z kind i) ∷ 0 ∷ [])) in
    let b = sets-then k (u16_bytes (nat_abs n.radius)) out to a c.put_bytes-2.ensures
    (c.to_le_bytes.ensures ∙ (λ i. u16_bytes (nat_abs (to_z-of_z radius i)))) (omega arith) in
    let d = sets-then r (i16_bytes n.x) out to b c.put_bytes-3.ensures (c.to_le_bytes-2.ensures ∙ le_i16 n.x q.x) (omega arith) in
    let e = sets-then x (i16_bytes n.y) out to d c.put_bytes-4.ensures (c.to_le_bytes-3.ensures ∙ le_i16 n.y q.y) (omega arith) in
    let f = sets-then y (i16_bytes n.z) out to e c.put_bytes-5.ensures (c.to_le_bytes-4.ensures ∙ le_i16 n.z q.z) (omega arith) in
    sets-then z (i16_bytes n.weight) out to f c.put_bytes-6.ensures (c.to_le_bytes-5.ensures ∙ le_i16 n.weight q.weight) (omega arith)
