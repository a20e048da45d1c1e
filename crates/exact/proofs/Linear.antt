-- Linear facts about ℤ by `omega`: an integer is the difference of two natural numbers, `up` and `down`, and the order and the sum are theirs.
-- `uncross (omega (arith, cross h, cross k)) : a ≤ℤ c`, from `h : a ≤ℤ b` and `k : b ≤ℤ c`.
-- Where a sum, a difference or a size is spoken of, its `add_parts`, `sub_parts` or `nat_abs_parts` goes into the list.
use mathlib.Core.Path.{◌≡◌, refl, ap}
use mathlib.Core.Bool.{Bool, true, false, cond}
use Prim.Native.Nat.{ℕ, zero, suc, ◌+◌, ◌-◌, ◌≤◌, ◌<◌, max}
use native.Mathlib.Omega.{arith}
use borrow.Author.Tests.{ltb-true, ltb-false}
use lib.Dec.{ltb, leb→le, le→leb, ltb→lt, lt→ltb}
use lib.IntN.{ℤ, pos, negsuc, neg_ℤ, nat_abs, sub_ℕ, ◌+ℤ◌, ◌-ℤ◌}
use lib.Signed.{◌≤ℤ◌, ◌<ℤ◌, le_z_yes, lt_z_yes}

-- z = up z − down z, one of them 0
abbrev pub up : ℤ → ℕ
up (pos n) = n
up (negsuc n) = 0

abbrev pub down : ℤ → ℕ
down (pos n) = 0
down (negsuc n) = suc n

-- ---- the order, and back

pub cross : {a b : ℤ} → a ≤ℤ b → up a + down b ≤ up b + down a
cross {a = pos a} {b = pos b} h = omega (arith, leb→le a b h.le)
cross {a = pos a} {b = negsuc b} h = absurd h.le
cross {a = negsuc a} {b = pos b} h = omega arith
cross {a = negsuc a} {b = negsuc b} h = omega (arith, leb→le b a h.le)

pub uncross : {a b : ℤ} → up a + down b ≤ up b + down a → a ≤ℤ b
uncross {a = pos a} {b = pos b} h = le_z_yes (le→leb a b (omega arith))
uncross {a = pos a} {b = negsuc b} h = absurd (omega (arith, h))
uncross {a = negsuc a} {b = pos b} h = le_z_yes tt
uncross {a = negsuc a} {b = negsuc b} h = le_z_yes (le→leb b a (omega arith))

pub cross_lt : {a b : ℤ} → a <ℤ b → up a + down b < up b + down a
cross_lt {a = pos a} {b = pos b} h = omega (arith, ltb→lt a b h.lt)
cross_lt {a = pos a} {b = negsuc b} h = absurd h.lt
cross_lt {a = negsuc a} {b = pos b} h = omega arith
cross_lt {a = negsuc a} {b = negsuc b} h = omega (arith, ltb→lt b a h.lt)

pub uncross_lt : {a b : ℤ} → up a + down b < up b + down a → a <ℤ b
uncross_lt {a = pos a} {b = pos b} h = lt_z_yes (lt→ltb a b (omega arith))
uncross_lt {a = pos a} {b = negsuc b} h = absurd (omega (arith, h))
uncross_lt {a = negsuc a} {b = pos b} h = lt_z_yes tt
uncross_lt {a = negsuc a} {b = negsuc b} h = lt_z_yes (lt→ltb b a (omega arith))

pub uncross_eq : (a b : ℤ) → up a + down b ≡ up b + down a → a ≡ b
uncross_eq (pos a) (pos b) h = ap pos (let e : a ≡ b = omega arith in e)
uncross_eq (pos a) (negsuc b) h = absurd (omega (arith, h))
uncross_eq (negsuc a) (pos b) h = absurd (omega (arith, h))
uncross_eq (negsuc a) (negsuc b) h = ap negsuc (let e : a ≡ b = omega arith in e)

-- ---- the parts of a sum, of a difference and of a size

sub_ℕ_parts : (a b : ℕ) → up (sub_ℕ a b) + b ≡ a + down (sub_ℕ a b)
sub_ℕ_parts a b = go (ltb a b) refl
  where
    go : (t : Bool) → ltb a b ≡ t → up (cond t (negsuc (b - suc a)) (pos (a - b))) + b ≡ a + down (cond t (negsuc (b - suc a)) (pos (a - b)))
    go true e = omega (arith, ltb-true a b e)
    go false e = omega (arith, ltb-false a b e)

pub add_parts : (a b : ℤ) → up (a +ℤ b) + (down a + down b) ≡ up a + up b + down (a +ℤ b)
add_parts (pos a) (pos b) = omega arith
add_parts (pos a) (negsuc b) = omega (arith, sub_ℕ_parts a (suc b))
add_parts (negsuc a) (pos b) = omega (arith, sub_ℕ_parts b (suc a))
add_parts (negsuc a) (negsuc b) = omega arith

pub neg_parts : (a : ℤ) → up (neg_ℤ a) + up a ≡ down a + down (neg_ℤ a)
neg_parts (pos zero) = refl
neg_parts (pos (suc n)) = omega arith
neg_parts (negsuc n) = omega arith

pub sub_parts : (a b : ℤ) → up (a -ℤ b) + (down a + up b) ≡ up a + down b + down (a -ℤ b)
sub_parts a b = omega (arith, add_parts a (neg_ℤ b), neg_parts b)

-- it is both the sum of the parts and the greater, for one part is 0
pub nat_abs_parts : (a : ℤ) → (nat_abs a ≡ up a + down a) × (nat_abs a ≡ max (up a) (down a))
nat_abs_parts (pos n) = (omega arith, omega arith)
nat_abs_parts (negsuc n) = (omega arith, omega arith)
