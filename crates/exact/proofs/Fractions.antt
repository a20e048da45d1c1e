-- Fractions: their order, and what `plus`, `less`, `greater` and `lesser` do to it. Laws that pass over a fraction ask that it be `Proper`.
-- `≼_trans p h k : x ≼ z`, from `h : x ≼ y`, `k : y ≼ z` and `p : Proper y`.
use mathlib.Core.Path.{◌≡◌, refl, ap₂}
use mathlib.Core.Logic.{◌⊎◌, ⊎_swap}
use mathlib.Core.Bool.{true, false}
use Prim.Native.Nat.{ℕ}
use native.Mathlib.Nat.{mul-pos, mul_comm, mul_assoc, mul-one}
use lib.IntN.{ℤ, pos, ◌+ℤ◌, ◌-ℤ◌, ◌*ℤ◌}
use lib.Signed.{◌≤ℤ◌, ≤ℤ_refl}
use Rattle.exact.specs.Fraction.{Fraction, ◌over◌, Proper, ◌≼◌, at_most, plus, less, greater, lesser}
use Rattle.exact.proofs.Ring.{◌⊕◌, ◌⊖◌, ◌⊗◌, #, ◌≔◌, ring}
use Rattle.exact.proofs.Order.{nn_add, nn_mul, nn_pos, <ℤ-le, ≤ℤ_of_eq, mul_cancel_le, pos_mono_lt}
use Rattle.exact.proofs.Certificates.{◌≦◌by◌, le, nn}
use Rattle.exact.proofs.Tests.{cond_by, le_z_true, le_z_false}
use Rattle.exact.proofs.Picks.{Picks, picked, later_l, later_r}

-- ---- the order

pub ≼_refl : (x : Fraction) → x ≼ x
≼_refl x = record { cross = ≤ℤ_refl (x.num *ℤ pos x.den) }

pub ≼_trans : {x y z : Fraction} → Proper y → x ≼ y → y ≼ z → x ≼ z
≼_trans {x} {y} {z} p h k = record {
  cross = mul_cancel_le (pos_mono_lt p)
      (le 6 (λ a b c d e f. a ⊗ f ⊗ d ≦ e ⊗ b ⊗ d by f ⊗ (c ⊗ b ⊖ a ⊗ d) ⊕ b ⊗ (e ⊗ d ⊖ c ⊗ f)) tt
      x.num (pos x.den) y.num (pos y.den) z.num (pos z.den) (search (nn, h.cross, k.cross)));
}

-- of one denominator
pub ≼-over : {a b : ℤ} (d : ℕ) → a ≤ℤ b → a over d ≼ b over d
≼-over {a} {b} d h = record { cross = le 3 (λ a b d. a ⊗ d ≦ b ⊗ d by (b ⊖ a) ⊗ d) tt a b (pos d) (search nn) }

-- ---- the sum: a commutative monoid, as it is written

over-eq : {a b : ℤ} {c d : ℕ} → a ≡ b → c ≡ d → a over c ≡ b over d
over-eq p q = ap₂ (λ (n : ℤ) (d : ℕ). n over d) p q

pub plus_assoc : (x y z : Fraction) → plus (plus x y) z ≡ plus x (plus y z)
unfolding plus
plus_assoc x y z =
    over-eq (ring 6 (λ a b c d e f. (a ⊗ d ⊕ c ⊗ b) ⊗ f ⊕ e ⊗ (b ⊗ d) ≔ a ⊗ (d ⊗ f) ⊕ (c ⊗ f ⊕ e ⊗ d) ⊗ b) tt
    x.num (pos x.den) y.num (pos y.den) z.num (pos z.den))
    (mul_assoc x.den y.den z.den)

pub plus_comm : (x y : Fraction) → plus x y ≡ plus y x
unfolding plus
plus_comm x y =
    over-eq (ring 4 (λ a b c d. a ⊗ d ⊕ c ⊗ b ≔ c ⊗ b ⊕ a ⊗ d) tt x.num (pos x.den) y.num (pos y.den)) (mul_comm x.den y.den)

pub plus_none : (x : Fraction) → plus x (pos 0 over 1) ≡ x
unfolding plus
plus_none x = over-eq (ring 2 (λ a b. a ⊗ # 1 ⊕ # 0 ⊗ b ≔ a) tt x.num (pos x.den)) (mul-one x.den)

-- ---- the sum and the order

pub plus_proper : (x y : Fraction) → Proper x → Proper y → Proper (plus x y)
unfolding plus
plus_proper x y p q = mul-pos p q

pub plus_mono : {x y x' y' : Fraction} → x ≼ x' → y ≼ y' → plus x y ≼ plus x' y'
unfolding plus
plus_mono {x} {y} {x'} {y'} h k = record {
  cross = le 8 (λ a b c d e f g i. (a ⊗ d ⊕ c ⊗ b) ⊗ (f ⊗ i) ≦ (e ⊗ i ⊕ g ⊗ f) ⊗ (b ⊗ d) by d ⊗ i ⊗ (e ⊗ b ⊖ a ⊗ f) ⊕ b ⊗ f ⊗ (g ⊗ d ⊖ c ⊗ i)) tt
      x.num (pos x.den) y.num (pos y.den) x'.num (pos x'.den) y'.num (pos y'.den) (search (nn, h.cross, k.cross) depth 8);
}

-- of one denominator, either way
pub plus-over : (a b : ℤ) (d : ℕ) → ((a +ℤ b) over d ≼ plus (a over d) (b over d)) × (plus (a over d) (b over d) ≼ (a +ℤ b) over d)
unfolding plus
plus-over a b d = (
  record { cross = ≤ℤ_of_eq (ring 3 (λ a b d. (a ⊕ b) ⊗ (d ⊗ d) ≔ (a ⊗ d ⊕ b ⊗ d) ⊗ d) tt a b (pos d)) },
  record { cross = ≤ℤ_of_eq (ring 3 (λ a b d. (a ⊗ d ⊕ b ⊗ d) ⊗ d ≔ (a ⊕ b) ⊗ (d ⊗ d)) tt a b (pos d)) },
)

-- of two that are not negative the sum is at least each
pub plus_up : (x y : Fraction) → pos 0 ≤ℤ x.num → pos 0 ≤ℤ y.num → (x ≼ plus x y) × (y ≼ plus x y)
unfolding plus
plus_up x y h k = (
  record { cross = le 4 (λ a b c d. a ⊗ (b ⊗ d) ≦ (a ⊗ d ⊕ c ⊗ b) ⊗ b by c ⊗ b ⊗ b) tt x.num (pos x.den) y.num (pos y.den) (search nn) },
  record { cross = le 4 (λ a b c d. c ⊗ (b ⊗ d) ≦ (a ⊗ d ⊕ c ⊗ b) ⊗ d by a ⊗ d ⊗ d) tt x.num (pos x.den) y.num (pos y.den) (search nn) },
)

pub plus_nn : (x y : Fraction) → pos 0 ≤ℤ x.num → pos 0 ≤ℤ y.num → pos 0 ≤ℤ (plus x y).num
unfolding plus
plus_nn x y h k = nn_add (nn_mul h (nn_pos y.den)) (nn_mul k (nn_pos x.den))

-- ---- the difference from an integer and the order

pub less_proper : (n : ℤ) (x : Fraction) → Proper x → Proper (less n x)
unfolding less
less_proper n x p = p

pub less_anti : {x y : Fraction} (n : ℤ) → x ≼ y → less n y ≼ less n x
unfolding less
less_anti {x} {y} n h = record {
  cross = le 5 (λ n a b c d. (n ⊗ d ⊖ c) ⊗ b ≦ (n ⊗ b ⊖ a) ⊗ d by c ⊗ b ⊖ a ⊗ d) tt
      n x.num (pos x.den) y.num (pos y.den) (search (nn, h.cross));
}

-- of the same denominator
pub less-over : (n z : ℤ) (d : ℕ) → less n (z over d) ≡ (n *ℤ pos d -ℤ z) over d
unfolding less
less-over n z d = refl

-- ---- the greater and the lesser: one of the two, and which

pub at_most_true : (x y : Fraction) → at_most x y ≡ true → x ≼ y
at_most_true x y e = record { cross = le_z_true (x.num *ℤ pos y.den) (y.num *ℤ pos x.den) e }

pub at_most_false : (x y : Fraction) → at_most x y ≡ false → y ≼ x
at_most_false x y e = record { cross = <ℤ-le (le_z_false (x.num *ℤ pos y.den) (y.num *ℤ pos x.den) e) }

pub greater_is : (x y : Fraction) → ((x ≼ y) × (greater x y ≡ y)) ⊎ ((y ≼ x) × (greater x y ≡ x))
unfolding greater
greater_is x y = cond_by (at_most x y) y x (at_most_true x y) (at_most_false x y)

pub lesser_is : (x y : Fraction) → ((x ≼ y) × (lesser x y ≡ x)) ⊎ ((y ≼ x) × (lesser x y ≡ y))
unfolding lesser
lesser_is x y = cond_by (at_most x y) x y (at_most_true x y) (at_most_false x y)

pub greater_picks : Picks (λ (x y : Fraction). x ≼ y) greater
greater_picks = record { same = ≼_refl; is = greater_is }

pub lesser_picks : Picks (λ (x y : Fraction). y ≼ x) lesser
lesser_picks = record { same = ≼_refl; is = λ x y. ⊎_swap (lesser_is x y) }

pub greater_mono : {x y x' y' : Fraction} → Proper x' → Proper y' → x ≼ x' → y ≼ y' → greater x y ≼ greater x' y'
greater_mono {x} {y} {x'} {y'} p q h k =
    picked greater_picks (λ (z : Fraction). z ≼ greater x' y') x y
    (≼_trans p h (later_l greater_picks x' y')) (≼_trans q k (later_r greater_picks x' y'))

pub lesser_mono : {x y x' y' : Fraction} → Proper x → Proper y → x ≼ x' → y ≼ y' → lesser x y ≼ lesser x' y'
lesser_mono {x} {y} {x'} {y'} p q h k =
    picked lesser_picks (λ (z : Fraction). lesser x y ≼ z) x' y'
    (≼_trans p (later_l lesser_picks x y) h) (≼_trans q (later_r lesser_picks x y) k)
