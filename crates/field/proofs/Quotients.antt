-- The two quotients q of a point over a span: what is asked of their divisors, and that each is at most 65536.
use mathlib.Core.Path.{◌≡◌}
use mathlib.Core.Logic.{inl, inr}
use mathlib.Core.Bool.{true}
use Prim.Native.Nat.{ℕ, zero, suc, ◌*◌, ◌-◌, ◌^◌, ◌≤◌, ◌<◌, min}
use native.Mathlib.Nat.{le_trans, mul-le-mul, mul-pos, div-le_of_le-mul, sub-eq-zero_of_le, zero-div, mul-zero}
use native.Mathlib.Omega.{arith}
use lib.Dec.{lit≤}
use lib.IntN.{ℤ, pos, negsuc, nat_abs, neg_ℤ, ◌*ℤ◌}
use lib.Signed.{lt_z, ◌<ℤ◌, clash_ℤ}
use Rattle.exact.proofs.Ring.{◌⊗◌, #, ◌≔◌, ring}
use Rattle.exact.proofs.Order.{≤ℤ_of_eq, <ℤ_trans}
use Rattle.exact.proofs.Tests.{both_true, cond_is, lt_z_true}
use Rattle.exact.proofs.Rounding.{ceil_least}
use Rattle.field.specs.declared.Prepared.{Prepared}
use Rattle.field.specs.declared.Span.{Span}
use Rattle.field.specs.Bounds.{distance_at, foot_inside, foot_distance, low_q, high_q, scaled_square, qlo, qhi}

-- ---- the divisors r² k, where k is the square of the ticks or a

-- a is not 0 where i a < j a
pub span_positive : (i j : ℕ) (a : ℤ) → (pos i *ℤ a) <ℤ (pos j *ℤ a) → 0 < nat_abs a
span_positive i j (pos zero) l = clash_ℤ l (≤ℤ_of_eq (ring 2 (λ i j. j ⊗ # 0 ≔ i ⊗ # 0) tt (pos i) (pos j)))
span_positive i j (pos (suc n)) l = omega arith
span_positive i j (negsuc n) l = omega arith

-- a span whose ends are on both sides of a place has a length, so a is not 0
pub foot_positive : (a : ℤ) (p : Prepared) (s : Span) → foot_inside a p s ≡ true → 0 < nat_abs a
unfolding foot_inside
foot_positive a p s e =
    let foot : ℤ = neg_ℤ (p.m *ℤ pos s.ticks) in
    let b = both_true (lt_z (pos s.from *ℤ a) foot) (lt_z foot (pos s.to *ℤ a)) e in
    span_positive s.from s.to a
    (<ℤ_trans (lt_z_true (pos s.from *ℤ a) foot b.0) (lt_z_true foot (pos s.to *ℤ a) b.1))

pub square_le : {n k : ℕ} → n ≤ k → n * n ≤ k * k
square_le h = mul-le-mul h h

pub ticks_square : {n : ℕ} → 0 < n → n ≤ 4096 → (0 < n * n) × (n * n ≤ 2 ^ 26)
ticks_square l h = (mul-pos l l, le_trans (square_le h) (lit≤ tt))

-- ---- the quotients

pub low_q_zero : (s d : ℕ) → s ≤ d → low_q s d ≡ 0
unfolding low_q
low_q_zero s d h = simp (sub-eq-zero_of_le h, mul-zero, zero-div)

pub low_q_le : (s d : ℕ) → low_q s d ≤ 65536
unfolding low_q
low_q_le s d = div-le_of_le-mul s (omega arith)

pub high_q_zero : (s d : ℕ) → 0 < s → s ≤ d → high_q s d ≡ 0
unfolding high_q
high_q_zero s d p h = omega (arith, ceil_least (65536 * (s - d)) s 0 p (omega arith))

pub high_q_le : (s d : ℕ) → 0 < s → high_q s d ≤ 65536
unfolding high_q
high_q_le s d h = ceil_least (65536 * (s - d)) s 65536 h (omega arith)

pub qlo-le : (a : ℤ) (p : Prepared) (s : Span) → qlo a p s ≤ 65536
unfolding qlo
qlo-le a p s = low_q_le _ _

pub qhi-le : (a : ℤ) (p : Prepared) (s : Span) → 0 < nat_abs p.square → 0 < s.ticks → qhi a p s ≤ 65536
unfolding qhi
qhi-le a p s square ticks =
    elim (cond_is (foot_inside a p s) (high_q (scaled_square p (nat_abs a)) (foot_distance a p))
    (high_q (scaled_square p (s.ticks * s.ticks)) (min (distance_at a p s.from s.ticks) (distance_at a p s.to s.ticks)))) [
      | inl e ↦ rw e.1 (high_q_le _ _ (mul-pos square (foot_positive a p s e.0)))
      | inr e ↦ rw e.1 (high_q_le _ _ (mul-pos square (mul-pos ticks ticks)))
    ]
