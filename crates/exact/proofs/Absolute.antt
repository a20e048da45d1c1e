-- The size of an integer, `nat_abs` of `lib.IntN`, under the operations and the order.
-- `nat_abs-add a b : nat_abs (a +ℤ b) ≤ nat_abs a + nat_abs b`.
use mathlib.Core.Path.{◌≡◌, refl}
use mathlib.Core.Logic.{◌⊎◌, inl, inr}
use Prim.Native.Nat.{zero, suc, ◌+◌, ◌*◌, ◌≤◌}
use native.Mathlib.Omega.{arith}
use lib.IntN.{ℤ, pos, negsuc, neg_ℤ, nat_abs, ◌+ℤ◌, ◌-ℤ◌, ◌*ℤ◌}
use lib.Signed.{mag, ◌≤ℤ◌, pos-nat_abs, yes_non_neg}
use Rattle.exact.proofs.Linear.{cross, uncross, uncross_eq, add_parts, neg_parts, sub_parts, nat_abs_parts}

pub nat_abs-neg : (a : ℤ) → nat_abs (neg_ℤ a) ≡ nat_abs a
nat_abs-neg (pos zero) = refl
nat_abs-neg (pos (suc n)) = refl
nat_abs-neg (negsuc n) = refl

pub nat_abs_mul : (a b : ℤ) → nat_abs (a *ℤ b) ≡ nat_abs a * nat_abs b
nat_abs_mul (pos a) (pos b) = refl
nat_abs_mul (pos a) (negsuc b) = nat_abs-neg (pos (a * suc b))
nat_abs_mul (negsuc a) (pos b) = nat_abs-neg (pos (suc a * b))
nat_abs_mul (negsuc a) (negsuc b) = refl

pub neg-le-nat_abs : (a : ℤ) → neg_ℤ a ≤ℤ pos (nat_abs a)
neg-le-nat_abs a = uncross (omega (arith, neg_parts a, nat_abs_parts a))

pub nat_abs_bound : (a k : ℤ) → a ≤ℤ k → neg_ℤ a ≤ℤ k → pos (nat_abs a) ≤ℤ k
nat_abs_bound a k h l = uncross (omega (arith, cross h, cross l, neg_parts a, nat_abs_parts a))

pub nat_abs-add : (a b : ℤ) → nat_abs (a +ℤ b) ≤ nat_abs a + nat_abs b
nat_abs-add a b = omega (arith, add_parts a b, nat_abs_parts a, nat_abs_parts b, nat_abs_parts (a +ℤ b))

pub nat_abs-sub : (a b : ℤ) → nat_abs (a -ℤ b) ≤ nat_abs a + nat_abs b
nat_abs-sub a b = omega (arith, sub_parts a b, nat_abs_parts a, nat_abs_parts b, nat_abs_parts (a -ℤ b))

-- of a number that is not negative, and of one that is not positive
pub pos-nat_abs_nn : {a : ℤ} → pos 0 ≤ℤ a → pos (nat_abs a) ≡ a
pos-nat_abs_nn {a} h = pos-nat_abs a (yes_non_neg h)

pub pos-nat_abs-neg : {a : ℤ} → a ≤ℤ pos 0 → pos (nat_abs a) ≡ neg_ℤ a
pos-nat_abs-neg {a} h = uncross_eq (pos (nat_abs a)) (neg_ℤ a) (omega (arith, cross h, neg_parts a, nat_abs_parts a))

pub nat_abs_is : (a : ℤ) → (pos (nat_abs a) ≡ a) ⊎ (pos (nat_abs a) ≡ neg_ℤ a)
nat_abs_is (pos n) = inl refl
nat_abs_is (negsuc n) = inr refl

pub nat_abs_sq : (a : ℤ) → pos (nat_abs a * nat_abs a) ≡ a *ℤ a
nat_abs_sq (pos n) = refl
nat_abs_sq (negsuc n) = refl

-- what the range of a signed width bounds
pub mag_le-nat_abs : (a : ℤ) → mag a ≤ nat_abs a
mag_le-nat_abs (pos n) = omega arith
mag_le-nat_abs (negsuc n) = omega arith
