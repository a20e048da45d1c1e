-- Vectors of three integers: their squares, their inner product and the sum of their sizes.
-- `nn_square3 x y z : pos 0 ≤ℤ square3 x y z`.
use mathlib.Core.Path.{sym, ap}
use mathlib.Core.Logic.{inl, inr}
use Prim.Native.Nat.{◌+◌}
use native.Mathlib.Nat.{le_trans, le_refl, add-le-add}
use lib.IntN.{ℤ, pos, nat_abs, ◌+ℤ◌, ◌*ℤ◌}
use lib.Signed.{◌≤ℤ◌, ◌<ℤ◌, clash_ℤ}
use Rattle.exact.specs.Vector.{dot3, square3, size3}
use Rattle.exact.proofs.Ring.{◌⊕◌, ◌⊖◌, ◌⊗◌, #, ◌≔◌, ring}
use Rattle.exact.proofs.Order.{nn_add, nn_sq, nn_pos, ≤ℤ_trans, ≤ℤ_of_eq, le_or_lt, add_mono, mul_mono_r, pos_mono}
use Rattle.exact.proofs.Absolute.{nat_abs-add, nat_abs_mul, nat_abs_sq}
use Rattle.exact.proofs.Certificates.{◌≦◌by◌, le, lt, nn}

pub nn_square3 : (x y z : ℤ) → pos 0 ≤ℤ square3 x y z
nn_square3 x y z = nn_add (nn_add (nn_sq x) (nn_sq y)) (nn_sq z)

pub nn_size3 : (x y z : ℤ) → pos 0 ≤ℤ size3 x y z
nn_size3 x y z = nn_pos (nat_abs x + nat_abs y + nat_abs z)

-- ---- each coordinate is from −b to b

abbrev pub Each3 : ℤ → ℤ → ℤ → ℤ → Type 0
Each3 b x y z = (pos (nat_abs x) ≤ℤ b) × (pos (nat_abs y) ≤ℤ b) × (pos (nat_abs z) ≤ℤ b)

-- the inner product is then at most b times the sum of the other vector's sizes
pub dot3-le : (u v w x y z b : ℤ) → Each3 b u v w → pos (nat_abs (dot3 u v w x y z)) ≤ℤ (b *ℤ size3 x y z)
dot3-le u v w x y z b h =
    ≤ℤ_trans (pos_mono (le_trans (nat_abs-add (u *ℤ x +ℤ v *ℤ y) (w *ℤ z)) (add-le-add (nat_abs-add (u *ℤ x) (v *ℤ y)) (le_refl (nat_abs (w *ℤ z))))))
    (≤ℤ_trans (add_mono (add_mono (one u x h.0) (one v y h.1)) (one w z h.2))
    (≤ℤ_of_eq (ring 4 (λ b x y z. b ⊗ x ⊕ b ⊗ y ⊕ b ⊗ z ≔ b ⊗ (x ⊕ y ⊕ z)) tt b (pos (nat_abs x)) (pos (nat_abs y)) (pos (nat_abs z)))))
  where
    one : (u x : ℤ) → pos (nat_abs u) ≤ℤ b → pos (nat_abs (u *ℤ x)) ≤ℤ (b *ℤ pos (nat_abs x))
    one u x h = ≤ℤ_trans (≤ℤ_of_eq (ap pos (nat_abs_mul u x))) (mul_mono_r h (nn_pos (nat_abs x)))

-- the square root keeps the order
root_le : (u b : ℤ) → pos 0 ≤ℤ b → (u *ℤ u) ≤ℤ (b *ℤ b) → u ≤ℤ b
root_le u b hb h = elim (le_or_lt u b) [ inl l ↦ l | inr l ↦ clash_ℤ (strict l) h ]
  where
    strict : b <ℤ u → (b *ℤ b) <ℤ (u *ℤ u)
    strict l =
        lt 2 (λ u b. b ⊗ b ≦ u ⊗ u by (u ⊖ b ⊖ # 1) ⊗ (u ⊖ b ⊖ # 1 ⊕ # 2 ⊗ b ⊕ # 2) ⊕ # 2 ⊗ b) tt u b (search nn depth 8)

-- in the ball of radius b each coordinate is from −b to b
pub square3_each : (x y z b : ℤ) → pos 0 ≤ℤ b → square3 x y z ≤ℤ (b *ℤ b) → Each3 b x y z
square3_each x y z b hb h = (
  one x (≤ℤ_trans (le 3 (λ x y z. x ⊗ x ≦ x ⊗ x ⊕ y ⊗ y ⊕ z ⊗ z by y ⊗ y ⊕ z ⊗ z) tt x y z (search nn)) h),
  one y (≤ℤ_trans (le 3 (λ x y z. y ⊗ y ≦ x ⊗ x ⊕ y ⊗ y ⊕ z ⊗ z by x ⊗ x ⊕ z ⊗ z) tt x y z (search nn)) h),
  one z (≤ℤ_trans (le 3 (λ x y z. z ⊗ z ≦ x ⊗ x ⊕ y ⊗ y ⊕ z ⊗ z by x ⊗ x ⊕ y ⊗ y) tt x y z (search nn)) h),
)
  where
    one : (x : ℤ) → (x *ℤ x) ≤ℤ (b *ℤ b) → pos (nat_abs x) ≤ℤ b
    one x h = root_le (pos (nat_abs x)) b hb (≤ℤ_trans (≤ℤ_of_eq (nat_abs_sq x)) h)

-- the square is at most the square of the sum of the sizes
pub square3-le-size3 : (x y z : ℤ) → square3 x y z ≤ℤ (size3 x y z *ℤ size3 x y z)
square3-le-size3 x y z =
    ≤ℤ_trans (add_mono (add_mono (≤ℤ_of_eq (sym (nat_abs_sq x))) (≤ℤ_of_eq (sym (nat_abs_sq y)))) (≤ℤ_of_eq (sym (nat_abs_sq z))))
    (le 3 (λ x y z. x ⊗ x ⊕ y ⊗ y ⊕ z ⊗ z ≦ (x ⊕ y ⊕ z) ⊗ (x ⊕ y ⊕ z) by # 2 ⊗ (x ⊗ y) ⊕ # 2 ⊗ (x ⊗ z) ⊕ # 2 ⊗ (y ⊗ z)) tt
    (pos (nat_abs x)) (pos (nat_abs y)) (pos (nat_abs z)) (search nn))
