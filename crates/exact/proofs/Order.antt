-- ℤ (`lib.IntN`, with the order of `lib.Signed`) as an ordered ring, and the embedding `pos` of ℕ.
-- `mul_mono_r h k : (a *ℤ c) ≤ℤ (b *ℤ c)`, from `h : a ≤ℤ b` and `k : pos 0 ≤ℤ c`. What is linear comes from `Linear`; the rest names a
-- difference that is not negative (`le_by`) and has the identity from the solver of `Ring`. Longer ones: `Certificates`.
use mathlib.Core.Path.{◌≡◌, sym, ap, subst}
use mathlib.Core.Logic.{◌⊎◌, inl, inr}
use mathlib.Core.Bool.{not}
use Prim.Native.Nat.{ℕ, suc, ◌+◌, ◌*◌, ◌-◌, ◌≤◌, ◌<◌}
use native.Mathlib.Decide.{dec_le}
use native.Mathlib.Omega.{arith}
use lib.Dec.{T, T_not}
use lib.IntN.{ℤ, pos, negsuc, neg_ℤ, nat_abs, ◌+ℤ◌, ◌-ℤ◌, ◌*ℤ◌}
use lib.Signed.{le_z, ◌≤ℤ◌, ◌<ℤ◌, ≤ℤ_refl, clash_ℤ}
use Rattle.exact.proofs.Ring.{◌⊕◌, ◌⊖◌, ◌⊗◌, #, ◌≔◌, ring}
use Rattle.exact.proofs.Linear.{up, down, cross, uncross, cross_lt, uncross_lt, uncross_eq, add_parts, neg_parts, sub_parts}

-- ---- the laws of order

pub ≤ℤ_of_eq : {a b : ℤ} → a ≡ b → a ≤ℤ b
≤ℤ_of_eq {a} e = subst (λ (x : ℤ). a ≤ℤ x) e (≤ℤ_refl a)

pub ≤ℤ_trans : {a b c : ℤ} → a ≤ℤ b → b ≤ℤ c → a ≤ℤ c
≤ℤ_trans h k = uncross (omega (arith, cross h, cross k))

pub ≤ℤ_antisymm : {a b : ℤ} → a ≤ℤ b → b ≤ℤ a → a ≡ b
≤ℤ_antisymm {a} {b} h k = uncross_eq a b (omega (arith, cross h, cross k))

pub <ℤ-le : {a b : ℤ} → a <ℤ b → a ≤ℤ b
<ℤ-le h = uncross (omega (arith, cross_lt h))

pub ≤ℤ-<ℤ_trans : {a b c : ℤ} → a ≤ℤ b → b <ℤ c → a <ℤ c
≤ℤ-<ℤ_trans h k = uncross_lt (omega (arith, cross h, cross_lt k))

pub <ℤ_trans : {a b c : ℤ} → a <ℤ b → b <ℤ c → a <ℤ c
<ℤ_trans h k = ≤ℤ-<ℤ_trans (<ℤ-le h) k

pub le_or_lt : (a b : ℤ) → (a ≤ℤ b) ⊎ (b <ℤ a)
le_or_lt a b = elim (dec_le (up a + down b) (up b + down a)) [
  | yes h ↦ inl (uncross h)
  | no n ↦ inr (uncross_lt (omega (arith, n)))
]

pub ≤ℤ-total : (a b : ℤ) → (a ≤ℤ b) ⊎ (b ≤ℤ a)
≤ℤ-total a b = elim (le_or_lt a b) [ inl h ↦ inl h | inr h ↦ inr (<ℤ-le h) ]

-- a test that failed
pub le_z_no : {a b : ℤ} → T (not (le_z a b)) → b <ℤ a
le_z_no {a} {b} t = elim (le_or_lt a b) [ inl h ↦ absurd (T_not (le_z a b) t h.le) | inr h ↦ h ]

-- a < b is a + 1 ≤ b
pub lt-suc-le : {a b : ℤ} → a <ℤ b → (a +ℤ pos 1) ≤ℤ b
lt-suc-le {a} h = uncross (omega (arith, cross_lt h, add_parts a (pos 1)))

pub suc-le-lt : {a b : ℤ} → (a +ℤ pos 1) ≤ℤ b → a <ℤ b
suc-le-lt {a} h = uncross_lt (omega (arith, cross h, add_parts a (pos 1)))

-- ---- not negative

pub nn_pos : (n : ℕ) → pos 0 ≤ℤ pos n
nn_pos n = uncross (omega arith)

pub nn_add : {a b : ℤ} → pos 0 ≤ℤ a → pos 0 ≤ℤ b → pos 0 ≤ℤ (a +ℤ b)
nn_add {a} {b} h k = uncross (omega (arith, cross h, cross k, add_parts a b))

pub nn_mul : {a b : ℤ} → pos 0 ≤ℤ a → pos 0 ≤ℤ b → pos 0 ≤ℤ (a *ℤ b)
nn_mul {a = pos a} {b = pos b} h k = nn_pos (a * b)
nn_mul {a = pos a} {b = negsuc b} h k = absurd k.le
nn_mul {a = negsuc a} {b} h k = absurd h.le

pub nn_sq : (a : ℤ) → pos 0 ≤ℤ (a *ℤ a)
nn_sq (pos a) = nn_pos (a * a)
nn_sq (negsuc a) = nn_pos (suc a * suc a)

-- a difference: b − a, and b − a − 1
pub sub_nn : {a b : ℤ} → a ≤ℤ b → pos 0 ≤ℤ (b -ℤ a)
sub_nn {a} {b} h = uncross (omega (arith, cross h, sub_parts b a))

pub lt_nn : {a b : ℤ} → a <ℤ b → pos 0 ≤ℤ (b -ℤ a -ℤ pos 1)
lt_nn {a} {b} h = uncross (omega (arith, cross_lt h, sub_parts b a, sub_parts (b -ℤ a) (pos 1)))

-- a ≤ b: b is a and something that is not negative; a < b: and 1 more
pub le_by : (a : ℤ) {b : ℤ} (d : ℤ) → pos 0 ≤ℤ d → b ≡ a +ℤ d → a ≤ℤ b
le_by a {b} d h e = rw e (uncross (omega (arith, cross h, add_parts a d)))

pub lt_by : (a : ℤ) {b : ℤ} (d : ℤ) → pos 0 ≤ℤ d → b ≡ a +ℤ pos 1 +ℤ d → a <ℤ b
lt_by a d h e = suc-le-lt (le_by (a +ℤ pos 1) d h e)

-- ---- the operations

pub add_mono : {a b c d : ℤ} → a ≤ℤ b → c ≤ℤ d → (a +ℤ c) ≤ℤ (b +ℤ d)
add_mono {a} {b} {c} {d} h k = uncross (omega (arith, cross h, cross k, add_parts a c, add_parts b d))

pub neg_mono : {a b : ℤ} → a ≤ℤ b → neg_ℤ b ≤ℤ neg_ℤ a
neg_mono {a} {b} h = uncross (omega (arith, cross h, neg_parts a, neg_parts b))

pub sub_mono : {a b c d : ℤ} → a ≤ℤ b → d ≤ℤ c → (a -ℤ c) ≤ℤ (b -ℤ d)
sub_mono h k = add_mono h (neg_mono k)

pub mul_mono_r : {a b c : ℤ} → a ≤ℤ b → pos 0 ≤ℤ c → (a *ℤ c) ≤ℤ (b *ℤ c)
mul_mono_r {a} {b} {c} h k =
    le_by (a *ℤ c) ((b -ℤ a) *ℤ c) (nn_mul (sub_nn h) k) (ring 3 (λ a b c. b ⊗ c ≔ a ⊗ c ⊕ (b ⊖ a) ⊗ c) tt a b c)

pub mul_mono_l : {a b c : ℤ} → pos 0 ≤ℤ c → a ≤ℤ b → (c *ℤ a) ≤ℤ (c *ℤ b)
mul_mono_l {a} {b} {c} k h =
    le_by (c *ℤ a) (c *ℤ (b -ℤ a)) (nn_mul k (sub_nn h)) (ring 3 (λ a b c. c ⊗ b ≔ c ⊗ a ⊕ c ⊗ (b ⊖ a)) tt a b c)

pub mul_anti_l : {a b c : ℤ} → c ≤ℤ pos 0 → a ≤ℤ b → (c *ℤ b) ≤ℤ (c *ℤ a)
mul_anti_l {a} {b} {c} k h =
    le_by (c *ℤ b) ((pos 0 -ℤ c) *ℤ (b -ℤ a)) (nn_mul (sub_nn k) (sub_nn h)) (ring 3 (λ a b c. c ⊗ a ≔ c ⊗ b ⊕ (# 0 ⊖ c) ⊗ (b ⊖ a)) tt a b c)

pub mul_mono_lt : {a b c : ℤ} → a <ℤ b → pos 0 <ℤ c → (a *ℤ c) <ℤ (b *ℤ c)
mul_mono_lt {a} {b} {c} l k =
    lt_by (a *ℤ c) ((b -ℤ a -ℤ pos 1) *ℤ c +ℤ (c -ℤ pos 0 -ℤ pos 1)) (nn_add (nn_mul (lt_nn l) (<ℤ-le k)) (lt_nn k))
    (ring 3 (λ a b c. b ⊗ c ≔ a ⊗ c ⊕ # 1 ⊕ ((b ⊖ a ⊖ # 1) ⊗ c ⊕ (c ⊖ # 0 ⊖ # 1))) tt a b c)

-- a positive factor may be taken away
pub mul_cancel_le : {a b c : ℤ} → pos 0 <ℤ c → (a *ℤ c) ≤ℤ (b *ℤ c) → a ≤ℤ b
mul_cancel_le {a} {b} k h = elim (le_or_lt a b) [ inl l ↦ l | inr l ↦ clash_ℤ (mul_mono_lt l k) h ]

pub mul_cancel_eq : {a b c : ℤ} → pos 0 <ℤ c → a *ℤ c ≡ b *ℤ c → a ≡ b
mul_cancel_eq k e = ≤ℤ_antisymm (mul_cancel_le k (≤ℤ_of_eq e)) (mul_cancel_le k (≤ℤ_of_eq (sym e)))

-- ---- the embedding of ℕ

pub pos_inj : {a b : ℕ} → pos a ≡ pos b → a ≡ b
pos_inj e = ap nat_abs e

pub pos_mono : {a b : ℕ} → a ≤ b → pos a ≤ℤ pos b
pos_mono h = uncross (omega arith)

pub pos_reflect : {a b : ℕ} → pos a ≤ℤ pos b → a ≤ b
pos_reflect h = omega (arith, cross h)

pub pos_mono_lt : {a b : ℕ} → a < b → pos a <ℤ pos b
pos_mono_lt h = uncross_lt (omega arith)

pub pos_reflect_lt : {a b : ℕ} → pos a <ℤ pos b → a < b
pos_reflect_lt h = omega (arith, cross_lt h)

pub pos-sub : (a b : ℕ) → b ≤ a → pos (a - b) ≡ pos a -ℤ pos b
pos-sub a b h = uncross_eq (pos (a - b)) (pos a -ℤ pos b) (omega (arith, sub_parts (pos a) (pos b)))

pub le-pos_monus : (a b : ℕ) → (pos a -ℤ pos b) ≤ℤ pos (a - b)
le-pos_monus a b = uncross (omega (arith, sub_parts (pos a) (pos b)))
