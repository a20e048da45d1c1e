-- `foot_inside`: each side of the two tests is at most 2³⁸ in size, so the tests compare the exact numbers.
use mathlib.Core.Path.{subst, ap₂}
use Prim.Native.Nat.{ℕ, ◌^◌, ◌≤◌}
use lib.IntN.{ℤ, pos, neg_ℤ, ◌-ℤ◌, ◌*ℤ◌, +ℤ_idl}
use lib.Signed.{lt_z}
use mir.Syntax.{w64}
use mir.Val.{to_z}
use Rattle.exact.specs.Range.{Small}
use Rattle.exact.proofs.Machine.{Holds, back, param, lit, read, fit, from_u, lt_of, ◌⊟◌, ◌⊠◌}
use Rattle.field.specs.Bounds.{foot_inside}
use Rattle.points.proofs.foot_inside.Goals as goal

-- a number of ticks times x, as the code multiplies
place : {n : ℕ} {x : ℤ} → n ≤ 4096 → Small (2 ^ 26) x → Holds w64 (2 ^ 38) (to_z w64 n *ℤ back w64 x) (pos n *ℤ x)
place n x = from_u n tt ⊠ param x tt

foot : {m : ℤ} {n : ℕ} → Small (2 ^ 26) m → n ≤ 4096
    → Holds w64 (2 ^ 38) (pos 0 -ℤ back w64 (back w64 m *ℤ to_z w64 n)) (neg_ℤ (m *ℤ pos n))
foot {m} {n} x k = subst (Holds w64 (2 ^ 38) _) (+ℤ_idl (neg_ℤ (m *ℤ pos n))) (lit (pos 0) ⊟ read (param x tt ⊠ from_u k tt) tt)

pub overflow_sub-foot : goal.overflow_sub-foot
overflow_sub-foot c = fit (foot c.requires.prepared_ranges.m_small c.requires.span_ranges.ticks_high) tt

pub overflow_mul-s : goal.overflow_mul-s
overflow_mul-s c = fit (place c.requires.span_ranges.from_high c.requires.prepared_ranges.a_small) tt

pub overflow_mul-result : goal.overflow_mul-result
overflow_mul-result c = fit (place c.requires.span_ranges.to_high c.requires.prepared_ranges.a_small) tt

pub returns-then-s-a : goal.returns-then-s-a
unfolding foot_inside
returns-then-s-a c =
    let r = c.requires.prepared_ranges in
    let h = c.requires.span_ranges in
    let f = read (foot r.m_small h.ticks_high) tt in
    rw (lt_of (read (place h.from_high r.a_small) tt) f c.if-s-a.true)
    (ap₂ lt_z f.is (read (place h.to_high r.a_small) tt).is)

pub returns-else-s-a : goal.returns-else-s-a
unfolding foot_inside
returns-else-s-a c =
    let r = c.requires.prepared_ranges in
    let h = c.requires.span_ranges in
    let f = read (foot r.m_small h.ticks_high) tt in
    rw (lt_of (read (place h.from_high r.a_small) tt) f c.if-s-a.false) c.if-s-a.false
