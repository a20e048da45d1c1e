-- Tests as facts, and back: `both_true`, `between_true` and the like take a test that is true (or false) to what it says.
-- `between_true 24 65536 n e : (24 ≤ n) × (n ≤ 65536)`, from `e : between 24 65536 n ≡ true`.
-- Tests of one pair of natural numbers are in `borrow.Author.Tests` (`leb-true`, `le-leb`, ..).
use mathlib.Core.Path.{◌≡◌, refl, sym, ap, subst, ◌∙◌}
use mathlib.Core.Logic.{◌⊎◌, inl, inr}
use mathlib.Core.Bool.{Bool, true, false, not, cond, ◌&&◌, ◌||◌, and-true, false≢true}
use Prim.Native.Nat.{ℕ, zero, suc, ◌≤◌, ◌<◌}
use borrow.Author.Tests.{leb-true, le-leb, eqb-true, eq-eqb}
use lib.Dec.{T, leb, leb-zero, leb-suc-zero, leb-suc-suc}
use lib.IntN.{ℤ, pos, negsuc, neg_ℤ, nat_abs}
use lib.Signed.{le_z, lt_z, ◌≤ℤ◌, ◌<ℤ◌, le_z_yes, lt_z_yes, lt_z_no, clash_ℤ}
use Rattle.exact.specs.Range.{between, between_ℤ, eq_ℤ, Small}
use Rattle.exact.proofs.Order.{≤ℤ_of_eq, ≤ℤ_trans, ≤ℤ_antisymm, <ℤ-le, le_or_lt, nn_pos, pos_reflect, le_z_no}
use Rattle.exact.proofs.Absolute.{pos-nat_abs_nn}

-- ---- any test

pub both_true : (a b : Bool) → (a && b) ≡ true → (a ≡ true) × (b ≡ true)
both_true true b e = (refl, e)
both_true false b e = absurd (false≢true e)

pub true_both : {a b : Bool} → a ≡ true → b ≡ true → (a && b) ≡ true
true_both e f = rw (e, f)

-- two tests that are true together are one
pub same_test : (a b : Bool) → (a ≡ true → b ≡ true) → (b ≡ true → a ≡ true) → a ≡ b
same_test true b h k = sym (h refl)
same_test false true h k = k refl
same_test false false h k = refl

-- which of two a test picks
pub cond_is {ℓ} : {A : Type ℓ} (t : Bool) (x y : A) → ((t ≡ true) × (cond t x y ≡ x)) ⊎ ((t ≡ false) × (cond t x y ≡ y))
cond_is true x y = inl (refl, refl)
cond_is false x y = inr (refl, refl)

-- with what the test says, either way
pub cond_by {ℓ} : {A : Type ℓ} {P Q : Type 0} (t : Bool) (x y : A) → (t ≡ true → P) → (t ≡ false → Q)
    → (P × (cond t x y ≡ x)) ⊎ (Q × (cond t x y ≡ y))
cond_by true x y f g = inl (f refl, refl)
cond_by false x y f g = inr (g refl, refl)

-- ---- integers: equality, and the order

pub eq_ℤ_true : (a b : ℤ) → eq_ℤ a b ≡ true → a ≡ b
eq_ℤ_true (pos a) (pos b) e = ap pos (eqb-true a b e)
eq_ℤ_true (pos a) (negsuc b) e = absurd (false≢true e)
eq_ℤ_true (negsuc a) (pos b) e = absurd (false≢true e)
eq_ℤ_true (negsuc a) (negsuc b) e = ap negsuc (eqb-true a b e)

pub eq_ℤ_refl : (a : ℤ) → eq_ℤ a a ≡ true
eq_ℤ_refl (pos a) = eq-eqb a a refl
eq_ℤ_refl (negsuc a) = eq-eqb a a refl

pub le_z_true : (a b : ℤ) → le_z a b ≡ true → a ≤ℤ b
le_z_true a b e = le_z_yes (rw e tt)

pub le_z_false : (a b : ℤ) → le_z a b ≡ false → b <ℤ a
le_z_false a b e = le_z_no (rw e tt)

pub lt_z_true : (a b : ℤ) → lt_z a b ≡ true → a <ℤ b
lt_z_true a b e = lt_z_yes (rw e tt)

pub lt_z_false : (a b : ℤ) → lt_z a b ≡ false → b ≤ℤ a
lt_z_false a b e = lt_z_no (rw e tt)

is_true : (t : Bool) → T t → t ≡ true
is_true true h = refl
is_true false h = absurd h

is_false : (t : Bool) → (t ≡ true → ⊥) → t ≡ false
is_false true h = absurd (h refl)
is_false false h = refl

pub le-le_z : (a b : ℤ) → a ≤ℤ b → le_z a b ≡ true
le-le_z a b h = is_true (le_z a b) h.le

pub lt-le_z : (a b : ℤ) → b <ℤ a → le_z a b ≡ false
lt-le_z a b h = is_false (le_z a b) (λ e. clash_ℤ h (le_z_true a b e))

pub lt-lt_z : (a b : ℤ) → a <ℤ b → lt_z a b ≡ true
lt-lt_z a b h = is_true (lt_z a b) h.lt

pub le-lt_z : (a b : ℤ) → b ≤ℤ a → lt_z a b ≡ false
le-lt_z a b h = is_false (lt_z a b) (λ e. clash_ℤ (lt_z_true a b e) h)

-- the three comparisons by one
pub lt_not_le : (a b : ℤ) → lt_z a b ≡ not (le_z b a)
lt_not_le a b = elim (le_or_lt b a) [ inl h ↦ rw (le-le_z b a h, le-lt_z a b h) | inr h ↦ rw (lt-le_z b a h, lt-lt_z a b h) ]

pub eq_both : (a b : ℤ) → eq_ℤ a b ≡ (le_z a b && le_z b a)
eq_both a b = same_test (eq_ℤ a b) (le_z a b && le_z b a) one two
  where
    one : eq_ℤ a b ≡ true → (le_z a b && le_z b a) ≡ true
    one h = let e = eq_ℤ_true a b h in true_both (le-le_z a b (≤ℤ_of_eq e)) (le-le_z b a (≤ℤ_of_eq (sym e)))

    two : (le_z a b && le_z b a) ≡ true → eq_ℤ a b ≡ true
    two h =
        let p = both_true (le_z a b) (le_z b a) h in
        subst (λ (z : ℤ). eq_ℤ a z ≡ true) (≤ℤ_antisymm (le_z_true a b p.0) (le_z_true b a p.1)) (eq_ℤ_refl a)

pub lt_or_eq : (a b : ℤ) → (lt_z a b || eq_ℤ a b) ≡ le_z a b
lt_or_eq a b = rw (lt_not_le a b, eq_both a b) (go (le_z a b) (le_z b a) (λ e. le-le_z a b (<ℤ-le (le_z_false b a e))))
  where
    go : (p q : Bool) → (q ≡ false → p ≡ true) → (not q || (p && q)) ≡ p
    go p true h = and-true p
    go p false h = sym (h refl)

-- ---- ranges

pub between_true : (lo hi n : ℕ) → between lo hi n ≡ true → (lo ≤ n) × (n ≤ hi)
between_true lo hi n e = let p = both_true (leb lo n) (leb n hi) e in (leb-true lo n p.0, leb-true n hi p.1)

pub true_between : (lo hi n : ℕ) → lo ≤ n → n ≤ hi → between lo hi n ≡ true
true_between lo hi n h k = true_both (le-leb lo n h) (le-leb n hi k)

pub between_ℤ_true : (lo hi z : ℤ) → between_ℤ lo hi z ≡ true → (lo ≤ℤ z) × (z ≤ℤ hi)
between_ℤ_true lo hi z e = let p = both_true (le_z lo z) (le_z z hi) e in (le_z_true lo z p.0, le_z_true z hi p.1)

-- ---- from −k to k

pub within : (k : ℕ) (z : ℤ) → between_ℤ (neg_ℤ (pos k)) (pos k) z ≡ leb (nat_abs z) k
within zero (pos n) = rw (leb-zero n)
within zero (negsuc n) = sym (leb-suc-zero n)
within (suc k) (pos n) = refl
within (suc k) (negsuc n) = and-true (leb n k) ∙ sym (leb-suc-suc n k)

pub within_small : (k : ℕ) (z : ℤ) → between_ℤ (neg_ℤ (pos k)) (pos k) z ≡ true → Small k z
within_small k z e = record { abs = leb-true (nat_abs z) k (sym (within k z) ∙ e) }

-- ---- from 1 to k

pub positive_small : {k : ℕ} {z : ℤ} → pos 1 ≤ℤ z → z ≤ℤ pos k → (0 < nat_abs z) × Small k z
positive_small {k} {z} l h =
    let e : pos (nat_abs z) ≡ z = pos-nat_abs_nn (≤ℤ_trans (nn_pos 1) l) in
    (pos_reflect (≤ℤ_trans l (≤ℤ_of_eq (sym e))), record { abs = pos_reflect (≤ℤ_trans (≤ℤ_of_eq e) h) })
