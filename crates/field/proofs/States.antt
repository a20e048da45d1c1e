-- The state of bounds: what it says of them (`empty_high`, `inside_low`) and of a number that they enclose (`crossing_near`, `state_sound`), and
-- which bounds have it (`empty_state`, `inside_state`). What the sum of two bounds says of such a number: `sum_high`, `sum_low`.
use mathlib.Core.Path.{◌≡◌, refl, sym, subst}
use mathlib.Core.Logic.{◌⊎◌, inl, inr}
use mathlib.Core.Bool.{Bool, true, false, cond}
use Prim.Native.Nat.{ℕ, ◌*◌}
use native.Mathlib.Omega.{arith}
use lib.IntN.{ℤ, pos, nat_abs, ◌+ℤ◌, ◌-ℤ◌, ◌*ℤ◌}
use lib.Signed.{le_z, lt_z, ◌≤ℤ◌, ◌<ℤ◌, clash_ℤ}
use Rattle.exact.specs.Fraction.{Fraction, ◌over◌, ◌≼◌, ◌≺◌, plus, apart}
use Rattle.exact.proofs.Ring.{◌⊕◌, ◌⊖◌, ⊝◌, ◌⊗◌, #}
use Rattle.exact.proofs.Order.{nn_pos, <ℤ-le, ≤ℤ_trans, mul_cancel_le, mul_mono_lt, le_or_lt, pos_mono_lt}
use Rattle.exact.proofs.Linear.{cross, uncross, cross_lt, uncross_lt, add_parts}
use Rattle.exact.proofs.Absolute.{nat_abs_is}
use Rattle.exact.proofs.Fractions.{≼_trans}
use Rattle.exact.proofs.Certificates.{◌≦◌by◌, le, nn}
use Rattle.exact.proofs.Tests.{le_z_true, le_z_false, lt_z_true, lt_z_false, le-le_z, lt-lt_z, le-lt_z}
use Rattle.field.specs.declared.Bounds.{Bounds}
use Rattle.field.specs.Kernel.{fixed_one}
use Rattle.field.specs.Bounds.{Encloses, NoWider, empty_mark, crossing_mark, inside_mark, level, state_of}
use Rattle.field.specs.Marks.{SoundMark}
use Rattle.field.proofs.Points.{one-pos}

-- a number picked by two tests, with what the tests were
picked : (t u : Bool) {x y z n : ℕ} → cond t x (cond u y z) ≡ n
    → ((t ≡ true) × (x ≡ n)) ⊎ (((u ≡ true) × (y ≡ n)) ⊎ ((t ≡ false) × (u ≡ false) × (z ≡ n)))
picked true u e = inl (refl, e)
picked false true e = inr (inl (refl, e))
picked false false e = inr (inr (refl, refl, e))

pub empty_high : (iso : ℕ) (b : Bounds) → state_of iso b ≡ empty_mark → b.high <ℤ level iso
unfolding state_of
empty_high iso b g = elim (picked (lt_z b.high (level iso)) (le_z (level iso) b.low) g) [
  | inl k ↦ lt_z_true b.high (level iso) k.0
  | inr k ↦ absurd (elim k [ inl k ↦ omega (arith, k.1) | inr k ↦ omega (arith, k.2) ])
]

pub inside_low : (iso : ℕ) (b : Bounds) → state_of iso b ≡ inside_mark → level iso ≤ℤ b.low
unfolding state_of
inside_low iso b g = elim (picked (lt_z b.high (level iso)) (le_z (level iso) b.low) g) [
  | inl k ↦ absurd (omega (arith, k.1))
  | inr k ↦ elim k [ inl k ↦ le_z_true (level iso) b.low k.0 | inr k ↦ absurd (omega (arith, k.2)) ]
]

-- bounds that enclose something are in order
pub ends_ordered : {b : Bounds} {x : Fraction} → Encloses b x → b.low ≤ℤ b.high
ends_ordered e = mul_cancel_le (pos_mono_lt one-pos) (≼_trans e.proper e.above e.below).cross

-- ---- the three claims, from the bounds l and h: n/d is the field, z/c the tolerance, s the unit, i the iso-value
module _ (l h n d z c s i : ℤ) (hd : pos 0 <ℤ d) (hc : pos 0 ≤ℤ c) (hs : pos 0 <ℤ s) (lo : (l *ℤ d) ≤ℤ (n *ℤ s)) (hi : (n *ℤ s) ≤ℤ (h *ℤ d)) where
  below : h <ℤ (i *ℤ s) → (n *ℤ pos 1) <ℤ (i *ℤ d)
  below k = elim (le_or_lt (i *ℤ d) (n *ℤ pos 1)) [
    | inl e ↦ clash_ℤ (mul_mono_lt k hd) (≤ℤ_trans (le 4 (λ i s d n. i ⊗ s ⊗ d ≦ n ⊗ s by s ⊗ (n ⊗ # 1 ⊖ i ⊗ d)) tt i s d n (search nn)) hi)
    | inr e ↦ e
  ]

  above : (i *ℤ s) ≤ℤ l → (i *ℤ d) ≤ℤ (n *ℤ pos 1)
  above k = mul_cancel_le hs (le 5 (λ i s d n l. i ⊗ d ⊗ s ≦ n ⊗ # 1 ⊗ s by d ⊗ (l ⊖ i ⊗ s) ⊕ (n ⊗ s ⊖ l ⊗ d)) tt i s d n l (search nn))

  near : l ≤ℤ (i *ℤ s) → (i *ℤ s) ≤ℤ h → ((h -ℤ l) *ℤ c) ≤ℤ (z *ℤ s) → (pos (nat_abs (n -ℤ i *ℤ d)) *ℤ c) ≤ℤ (z *ℤ d)
  near p q w = elim (nat_abs_is (n -ℤ i *ℤ d)) [
    | inl e ↦ subst (λ (v : ℤ). (v *ℤ c) ≤ℤ (z *ℤ d)) (sym e)
        (mul_cancel_le hs (le 8 (λ l h n d z c s i. (n ⊖ i ⊗ d) ⊗ c ⊗ s ≦ z ⊗ d ⊗ s
        by d ⊗ (z ⊗ s ⊖ (h ⊖ l) ⊗ c) ⊕ d ⊗ c ⊗ (i ⊗ s ⊖ l) ⊕ c ⊗ (h ⊗ d ⊖ n ⊗ s)) tt l h n d z c s i (search nn depth 8)))
    | inr e ↦ subst (λ (v : ℤ). (v *ℤ c) ≤ℤ (z *ℤ d)) (sym e)
        (mul_cancel_le hs (le 8 (λ l h n d z c s i. ⊝ (n ⊖ i ⊗ d) ⊗ c ⊗ s ≦ z ⊗ d ⊗ s
        by d ⊗ (z ⊗ s ⊖ (h ⊖ l) ⊗ c) ⊕ d ⊗ c ⊗ (h ⊖ i ⊗ s) ⊕ c ⊗ (n ⊗ s ⊖ l ⊗ d)) tt l h n d z c s i (search nn depth 8)))
  ]

  -- to within the tolerance, the field is at least an iso-value that the high reaches, and below one that the low does not
  at_least : (i *ℤ s) ≤ℤ h → ((h -ℤ l) *ℤ c) ≤ℤ (z *ℤ s) → (i *ℤ (d *ℤ c)) ≤ℤ ((n *ℤ c +ℤ z *ℤ d) *ℤ pos 1)
  at_least p w = mul_cancel_le hs (le 8 (λ l h n d z c s i. i ⊗ (d ⊗ c) ⊗ s ≦ (n ⊗ c ⊕ z ⊗ d) ⊗ # 1 ⊗ s
      by c ⊗ (n ⊗ s ⊖ l ⊗ d) ⊕ d ⊗ (z ⊗ s ⊖ (h ⊖ l) ⊗ c) ⊕ d ⊗ c ⊗ (h ⊖ i ⊗ s)) tt l h n d z c s i (search nn depth 8))

  at_most : pos 0 <ℤ c → l <ℤ (i *ℤ s) → ((h -ℤ l) *ℤ c) ≤ℤ (z *ℤ s) → (n *ℤ (pos 1 *ℤ c)) <ℤ ((i *ℤ c +ℤ z *ℤ pos 1) *ℤ d)
  at_most k p w = elim (le_or_lt ((i *ℤ c +ℤ z *ℤ pos 1) *ℤ d) (n *ℤ (pos 1 *ℤ c))) [
    | inl e ↦ clash_ℤ (mul_mono_lt (mul_mono_lt p hd) k)
        (le 8 (λ l h n d z c s i. i ⊗ s ⊗ d ⊗ c ≦ l ⊗ d ⊗ c
        by s ⊗ (n ⊗ (# 1 ⊗ c) ⊖ (i ⊗ c ⊕ z ⊗ # 1) ⊗ d) ⊕ c ⊗ (h ⊗ d ⊖ n ⊗ s) ⊕ d ⊗ (z ⊗ s ⊖ (h ⊖ l) ⊗ c)) tt l h n d z c s i (search nn depth 8))
    | inr e ↦ e
  ]

-- bounds that enclose the field and are no wider than the tolerance
module _ (iso : ℕ) (b : Bounds) (x y : Fraction) (e : Encloses b x) (w : NoWider b y) where
  dx : pos 0 <ℤ pos x.den
  dx = pos_mono_lt e.proper

  dy : pos 0 ≤ℤ pos y.den
  dy = nn_pos y.den

  ds : pos 0 <ℤ pos fixed_one
  ds = pos_mono_lt one-pos

  -- demand 3's distance
  crossing_near : state_of iso b ≡ crossing_mark → apart x (pos iso) ≼ y
  unfolding state_of
  crossing_near g = elim (picked (lt_z b.high (level iso)) (le_z (level iso) b.low) g) [
    | inl k ↦ absurd (omega (arith, k.1))
    | inr k ↦ elim k [
      | inl k ↦ absurd (omega (arith, k.1))
      | inr k ↦ record {
        cross = near b.low b.high x.num (pos x.den) y.num (pos y.den) (pos fixed_one) (pos iso)
            dx dy ds e.above.cross e.below.cross (<ℤ-le (le_z_false (level iso) b.low k.1))
            (lt_z_false b.high (level iso) k.0) w.width.cross;
      }
    ]
  ]

  pub state_sound : SoundMark iso (state_of iso b) x y
  state_sound = record {
    proper = (e.proper, w.proper);
    empty = λ g. record {
      cross = below b.low b.high x.num (pos x.den) y.num (pos y.den) (pos fixed_one) (pos iso)
          dx dy ds e.above.cross e.below.cross (empty_high iso b g);
    };
    inside = λ g. record {
      cross = above b.low b.high x.num (pos x.den) y.num (pos y.den) (pos fixed_one) (pos iso)
          dx dy ds e.above.cross e.below.cross (inside_low iso b g);
    };
    crossing = crossing_near;
  }

  -- ---- bounds that add up to twice the iso-value or more, and such as do not

  pub sum_high : level (2 * iso) ≤ℤ (b.low +ℤ b.high) → pos iso over 1 ≼ plus x y
  unfolding plus
  sum_high k = record {
    cross = at_least b.low b.high x.num (pos x.den) y.num (pos y.den) (pos fixed_one) (pos iso)
        dx dy ds e.above.cross e.below.cross
        (uncross (omega (arith, cross k, cross (ends_ordered e), add_parts b.low b.high))) w.width.cross;
  }

  pub sum_low : (b.low +ℤ b.high) <ℤ level (2 * iso) → x ≺ plus (pos iso over 1) y
  unfolding plus
  sum_low k = record {
    cross = at_most b.low b.high x.num (pos x.den) y.num (pos y.den) (pos fixed_one) (pos iso)
        dx dy ds e.above.cross e.below.cross (pos_mono_lt w.proper)
        (uncross_lt (omega (arith, cross_lt k, cross (ends_ordered e), add_parts b.low b.high))) w.width.cross;
  }

-- ---- which state bounds have

pub empty_state : (iso : ℕ) (b : Bounds) → b.high <ℤ level iso → state_of iso b ≡ 0
unfolding state_of
empty_state iso b h = rw (lt-lt_z b.high (level iso) h)

pub inside_state : (iso : ℕ) (b : Bounds) → b.low ≤ℤ b.high → level iso ≤ℤ b.low → state_of iso b ≡ 2
unfolding state_of
inside_state iso b o h = rw (le-lt_z b.high (level iso) (≤ℤ_trans h o), le-le_z (level iso) b.low h)

-- one of the three
pub three_states : (iso : ℕ) (b : Bounds) → (state_of iso b ≡ empty_mark) ⊎ ((state_of iso b ≡ inside_mark) ⊎ (state_of iso b ≡ crossing_mark))
unfolding state_of
three_states iso b = elim (picked (lt_z b.high (level iso)) (le_z (level iso) b.low) {x = empty_mark} {y = inside_mark} {z = crossing_mark} refl) [
  | inl k ↦ inl (sym k.1)
  | inr k ↦ inr (elim k [ inl k ↦ inl (sym k.1) | inr k ↦ inr (sym k.2) ])
]
