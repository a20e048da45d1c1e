-- Floats compared by their exact values (`le_values`, `lt_values`, `eq_values`): x is a/c and y is b/d, so x ≤ y exactly where a·d ≤ b·c.
use Rattle.std.proofs.Common.{◌≡◌, ℕ, zero, suc, ◌+◌, ◌*◌, ◌<◌, Bool, true, false, not, eqb, ℤ, pos, ◌*ℤ◌, ◌≤ℤ◌, sym, refl, ap, ◌∙◌, subst}
use Rattle.std.proofs.Common.{mul_comm, mul-pos, zero-add, arith, lt-ltb}
use mathlib.Core.Bool.{and-true, and-false}
use lib.Dec.{leb-suc-zero, leb-suc-suc, eqb-zero-suc, eqb-suc-zero, eqb-suc-suc}
use lib.Signed.{lt_z, le_z}
use lib.Ieee.{Float, nan, inf, fin, up, down, below, level, lt, eq, le}
use lib.Ieee.Fits.{down_pos}
use Rattle.exact.specs.Range.{eq_ℤ}
use Rattle.exact.proofs.Tests.{same_test, le_z_true, le-le_z, lt_not_le, eq_both, lt_or_eq}
use Rattle.exact.proofs.Ring.{ring, ◌⊗◌, ◌≔◌}
use Rattle.exact.proofs.Order.{mul_mono_r, mul_cancel_le, nn_pos, pos_mono_lt}
use Rattle.view.specs.Floats.{signed, Equals}
use Rattle.view.proofs.Floats.{signed-times}

-- ---- the library's comparisons of signed numbers are those of the integers

below_is : (s t : Bool) (a b : ℕ) → below s a t b ≡ lt_z (signed s a) (signed t b)
below_is false false a b = refl
below_is false true a zero = sym (leb-suc-zero a)
below_is false true a (suc b) = refl
below_is true false zero b = simp (zero-add)
below_is true false (suc a) b = lt-ltb 0 (suc a + b) (omega arith)
below_is true true zero zero = refl
below_is true true zero (suc b) = leb-suc-zero (suc b)
below_is true true (suc a) zero = lt-ltb 0 (suc a) (omega arith)
below_is true true (suc a) (suc b) = leb-suc-suc (suc b) a

level_is : (s t : Bool) (a b : ℕ) → level s a t b ≡ eq_ℤ (signed s a) (signed t b)
level_is false false a b = and-true (eqb a b)
level_is true true zero zero = refl
level_is true true zero (suc b) = simp eqb-zero-suc
level_is true true (suc a) zero = simp eqb-suc-zero
level_is true true (suc a) (suc b) = and-true (eqb (suc a) (suc b)) ∙ eqb-suc-suc a b
level_is false true zero zero = refl
level_is false true zero (suc b) = simp eqb-zero-suc
level_is false true (suc a) zero = simp eqb-suc-zero
level_is false true (suc a) (suc b) = simp (eqb-suc-suc, eqb-suc-zero, and-false)
level_is true false zero b = and-true (eqb 0 b)
level_is true false (suc a) zero = simp eqb-suc-zero
level_is true false (suc a) (suc b) = simp (eqb-suc-suc, eqb-suc-zero, and-false)

-- ---- a comparison of products by positive numbers

scaled_le : {a b x y : ℤ} {k l : ℕ} → 0 < k → 0 < l → a *ℤ pos k ≡ x *ℤ pos l → b *ℤ pos k ≡ y *ℤ pos l → a ≤ℤ b → x ≤ℤ y
scaled_le {a} {b} {x} {y} {k} {l} k-pos l-pos ea eb h =
    mul_cancel_le (pos_mono_lt l-pos) (subst (λ (z : ℤ). z ≤ℤ (y *ℤ pos l)) ea (subst (λ (z : ℤ). (a *ℤ pos k) ≤ℤ z) eb (mul_mono_r h (nn_pos k))))

same_le : (a b x y : ℤ) (k l : ℕ) → 0 < k → 0 < l → a *ℤ pos k ≡ x *ℤ pos l → b *ℤ pos k ≡ y *ℤ pos l → le_z a b ≡ le_z x y
same_le a b x y k l k-pos l-pos ea eb =
    same_test (le_z a b) (le_z x y) (λ h. le-le_z x y (scaled_le k-pos l-pos ea eb (le_z_true a b h)))
    (λ h. le-le_z a b (scaled_le l-pos k-pos (sym ea) (sym eb) (le_z_true x y h)))

-- ---- floats

-- x = a/c, where x is ±m/n: ±m times f, over the denominators
over : (s : Bool) (m n f c d : ℕ) (a : ℤ) → signed s (m * c) ≡ a *ℤ pos n → signed s (m * f) *ℤ pos (c * d) ≡ a *ℤ pos d *ℤ pos (n * f)
over s m n f c d a h =
    ap (λ (z : ℤ). z *ℤ pos (c * d)) (signed-times s m f)
    ∙ ring 4 (λ u f c d. u ⊗ f ⊗ (c ⊗ d) ≔ u ⊗ c ⊗ (f ⊗ d)) tt (signed s m) (pos f) (pos c) (pos d)
    ∙ ap (λ (z : ℤ). z *ℤ pos (f * d)) (sym (signed-times s m c) ∙ h)
    ∙ ring 4 (λ a n f d. a ⊗ n ⊗ (f ⊗ d) ≔ a ⊗ d ⊗ (n ⊗ f)) tt a (pos n) (pos f) (pos d)

compared : (a b : ℤ) (c d : ℕ) → 0 < c → 0 < d → (s t : Bool) (m n : ℕ) (e g : ℤ) → Equals (fin s m e) a c → Equals (fin t n g) b d
    → le_z (signed s (m * up e * down g)) (signed t (n * up g * down e)) ≡ le_z (a *ℤ pos d) (b *ℤ pos c)
compared a b c d c_pos d-pos s t m n e g x y =
    same_le (signed s (m * up e * down g)) (signed t (n * up g * down e)) (a *ℤ pos d) (b *ℤ pos c) (c * d) (down e * down g)
    (mul-pos c_pos d-pos) (mul-pos (down_pos e) (down_pos g)) (over s (m * up e) (down e) (down g) c d a x)
    (ap (λ (k : ℕ). signed t (n * up g * down e) *ℤ pos k) (mul_comm c d) ∙ over t (n * up g) (down g) (down e) d c b y
    ∙ ap (λ (k : ℕ). b *ℤ pos c *ℤ pos k) (mul_comm (down g) (down e)))

module _ (a b : ℤ) (c d : ℕ) (c_pos : 0 < c) (d-pos : 0 < d) where
  -- floats that have values are finite
  finite : (test : Float → Float → Bool) {r : Bool}
      → ((s t : Bool) (m n : ℕ) (e g : ℤ) → Equals (fin s m e) a c → Equals (fin t n g) b d → test (fin s m e) (fin t n g) ≡ r)
      → (x y : Float) → Equals x a c → Equals y b d → test x y ≡ r
  finite test f nan y h k = absurd h
  finite test f (inf s) y h k = absurd h
  finite test f (fin s m e) nan h k = absurd k
  finite test f (fin s m e) (inf t) h k = absurd k
  finite test f (fin s m e) (fin t n g) h k = f s t m n e g h k

  pub le_values : (x y : Float) → Equals x a c → Equals y b d → le x y ≡ le_z (a *ℤ pos d) (b *ℤ pos c)
  unfolding le lt eq
  le_values = finite le (λ s t m n e g h k.
      let p = m * up e * down g in
      let q = n * up g * down e in
      rw (below_is s t p q, level_is s t p q) (lt_or_eq (signed s p) (signed t q) ∙ compared a b c d c_pos d-pos s t m n e g h k))

  pub lt_values : (x y : Float) → Equals x a c → Equals y b d → lt x y ≡ lt_z (a *ℤ pos d) (b *ℤ pos c)
  unfolding lt
  lt_values = finite lt (λ s t m n e g h k.
      let p = m * up e * down g in
      let q = n * up g * down e in
      below_is s t p q ∙ lt_not_le (signed s p) (signed t q)
      ∙ ap not (compared b a d c d-pos c_pos t s n m g e k h) ∙ sym (lt_not_le (a *ℤ pos d) (b *ℤ pos c)))

  pub eq_values : (x y : Float) → Equals x a c → Equals y b d → eq x y ≡ eq_ℤ (a *ℤ pos d) (b *ℤ pos c)
  unfolding eq
  eq_values = finite eq (λ s t m n e g h k.
      let p = m * up e * down g in
      let q = n * up g * down e in
      level_is s t p q ∙ eq_both (signed s p) (signed t q)
      ∙ rw (compared a b c d c_pos d-pos s t m n e g h k, compared b a d c d-pos c_pos t s n m g e k h) (sym (eq_both (a *ℤ pos d) (b *ℤ pos c))))
