-- What `steps_of` answers, and how the code finds it: the tests of the product's range (`range_test`), its truncation (`truncated`) and the
-- comparison with the truncation cast back (`whole_test`). `exactly`: it answers n exactly where 64 times the float's exact value is n.
use Rattle.std.proofs.Common.{◌≡◌, ℕ, zero, suc, ◌-◌, ◌*◌, ◌/◌, ◌%◌, ◌^◌, ◌<◌, ◌≤◌, min, Bool, true, false, cond, ◌&&◌, T, eqb, leb, ◌⊎◌, ℤ, pos}
use Rattle.std.proofs.Common.{negsuc, ◌*ℤ◌, neg_ℤ, nat_abs, ◌≤ℤ◌, sym, refl, ap, ◌∙◌, inl, inr, le_trans, le_of_eq, lt_of_lt_of_le, Some, None}
use Rattle.std.proofs.Common.{le_of_suc-le-suc, lt_of_le_of_lt, le_of_lt, mul-le-mul_right, div-lt_iff_lt-mul, mul-lt-mul_of_pos_right}
use Rattle.std.proofs.Common.{not-le_of_lt, mul-div_cancel, arith, lit<, lit≤, le→leb, lt→ltb, eq-eqb, eqb-true, le-leb, leb-false, leb-true}
use mathlib.Core.Bool.{false≢true}
use native.Mathlib.Nat.{mul-mod_left}
use lib.Dec.{eqb-zero-suc, eqb-suc-zero, eqb-suc-suc}
use lib.Ieee.{Float, nan, inf, fin, binary32, up, down, round, mul, eq, lt, le, fits, of_int, to_signed, in_float}
use lib.Ieee.Fits.{down_pos}
use lib.Ieee.Exact.{HasValue}
use lib.Ieee.Nearest.{div_same}
use lib.Ieee.Back.{round_whole}
use borrow.Author.Tests.{eqb-false}
use Rattle.exact.specs.Range.{eq_ℤ, Small}
use Rattle.exact.proofs.IntegerRing.{*ℤ_idr}
use Rattle.exact.proofs.Tests.{both_true, cond_is, same_test, le-le_z, lt-lt_z, between_ℤ_true, within}
use Rattle.exact.proofs.Order.{≤ℤ-<ℤ_trans, mul_cancel_eq, pos_mono_lt}
use Rattle.exact.proofs.Naturals.{whole_quotient}
use Rattle.exact.proofs.Absolute.{nat_abs_mul}
use Rattle.record.specs.Nodes.{coordinate}
use Rattle.view.specs.Floats.{signed, Equals}
use Rattle.view.specs.Steps.{times64, whole_steps, steps_of, InSteps, Exactly}
use Rattle.view.proofs.Floats.{abs_signed, signed-times, equals}
use Rattle.view.proofs.Compare.{le_values, lt_values, eq_values}
use Rattle.view.proofs.Scaling.{scaled}

-- ---- the definition's two answers, of ±num/den

same_signed : (s : Bool) (a b : ℕ) → eq_ℤ (signed s a) (signed s b) ≡ eqb a b
same_signed false a b = refl
same_signed true zero zero = refl
same_signed true zero (suc b) = sym (eqb-zero-suc b)
same_signed true (suc a) zero = sym (eqb-suc-zero a)
same_signed true (suc a) (suc b) = sym (eqb-suc-suc a b)

coordinate_is : (s : Bool) (q : ℕ) → coordinate (signed s q) ≡ leb q 2047
unfolding coordinate
coordinate_is s q = within 2047 (signed s q) ∙ ap (λ (n : ℕ). leb n 2047) (abs_signed s q)

bounded : (s : Bool) (n k : ℕ) → n ≤ k → (neg_ℤ (pos k) ≤ℤ signed s n) × (signed s n ≤ℤ pos k)
bounded s n k h = between_ℤ_true (neg_ℤ (pos k)) (pos k) (signed s n) (within k (signed s n) ∙ rw (abs_signed s n) (le-leb n k h))

below : (num den : ℕ) → 0 < den → num ≤ 2047 * den → num / den ≤ 2047
below num den D h = le_of_suc-le-suc ((div-lt_iff_lt-mul D).1 (lt_of_le_of_lt h (mul-lt-mul_of_pos_right (lit< tt) D)))

module _ (s : Bool) (num den : ℕ) where
  granted : 0 < den → num % den ≡ 0 → num ≤ 2047 * den → whole_steps s num den ≡ Some (signed s (num / den))
  unfolding whole_steps
  granted D r h = rw (eq-eqb (num % den) 0 r, coordinate_is s (num / den), le-leb (num / den) 2047 (below num den D h))

  refused : (num % den ≡ 0 → num ≤ 2047 * den → ⊥) → whole_steps s num den ≡ None
  unfolding whole_steps
  refused never =
      rw (coordinate_is s (num / den)) (go (eqb (num % den) 0) (leb (num / den) 2047) (eqb-true (num % den) 0) (leb-true (num / den) 2047))
    where
      go : (p q : Bool) → (p ≡ true → num % den ≡ 0) → (q ≡ true → num / den ≤ 2047) → cond (p && q) (Some (signed s (num / den))) None ≡ None
      go true true x y = let r = x refl in absurd (never r (le_trans (le_of_eq (whole_quotient num den r)) (mul-le-mul_right den (y refl))))
      go true false x y = refl
      go false q x y = refl

-- ---- the product, and its range

abbrev pub top : Float
top = fin false 2047 (pos 0)

abbrev pub bottom : Float
bottom = fin true 2047 (pos 0)

abbrev pub inside : Float → Bool
inside y = le bottom y && le y top

-- the product is ±num/den exactly, and `steps_of` speaks of that fraction
pub record Product (x : Float) : Type 0 where
  pub s : Bool
  pub num : ℕ
  pub den : ℕ
  pub den_pos : 0 < den
  pub value : HasValue (times64 x) s num den
  pub steps : steps_of x ≡ whole_steps s num den

past : (num den : ℕ) → 0 < den → 2 ^ 128 * den ≤ num → 2047 * den < num
past num den D h = lt_of_lt_of_le (mul-lt-mul_of_pos_right (lit< tt) D) h

outside : (s : Bool) → inside (inf s) ≡ false
unfolding le lt eq
outside true = refl
outside false = refl

-- or it is out of range
product : (x : Float) → T (fits binary32 x) → Product x ⊎ ((inside (times64 x) ≡ false) × (steps_of x ≡ None))
unfolding times64 mul steps_of le lt eq
product nan F = inr (refl, refl)
product (inf true) F = inr (refl, refl)
product (inf false) F = inr (refl, refl)
product (fin s m e) F =
    elim (scaled s m e F) [
      | inl v ↦ inl (record { s = s; num = m * up e * 64; den = down e; den_pos = down_pos e; value = v; steps = refl })
      | inr k ↦ inr (
        rw k.0 (outside s),
        refused s (m * up e * 64) (down e) (λ r h. not-le_of_lt (past (m * up e * 64) (down e) (down_pos e) k.1) h),
      )
    ]

module _ (y : Float) (s : Bool) (num den : ℕ) (den_pos : 0 < den) (v : HasValue y s num den) where
  abbrev is : Equals y (signed s num) den
  is = equals y s num den v

  range_test : inside y ≡ leb num (2047 * den)
  range_test =
      rw (
        le_values (neg_ℤ (pos 2047)) (signed s num) 1 den (lit< tt) den_pos bottom y refl is,
        le_values (signed s num) (pos 2047) den 1 den_pos (lit< tt) y top is refl,
        *ℤ_idr (signed s num),
        ← signed-times true 2047 den,
      ) (within (2047 * den) (signed s num) ∙ ap (λ (n : ℕ). leb n (2047 * den)) (abs_signed s num))

  module _ (few : num ≤ 2047 * den) where
    -- ---- the truncation

    few_steps : num / den ≤ 2047
    few_steps = below num den den_pos few

    -- what it asks: from −2^63 on and below 2^63
    asked : T (le (fin true 1 (pos 63)) y) × T (lt y (fin false 1 (pos 63)))
    asked =
        let wide : 2047 * den < 2 ^ 63 * den = mul-lt-mul_of_pos_right (lit< tt) den_pos in
        let l : le (fin true 1 (pos 63)) y ≡ true =
        le_values (neg_ℤ (pos (2 ^ 63))) (signed s num) 1 den (lit< tt) den_pos (fin true 1 (pos 63)) y refl is
        ∙ rw (*ℤ_idr (signed s num), ← signed-times true (2 ^ 63) den)
        (le-le_z _ _ (bounded s num (2 ^ 63 * den) (le_trans few (le_of_lt wide))).0) in
        let u : lt y (fin false 1 (pos 63)) ≡ true =
        lt_values (signed s num) (pos (2 ^ 63)) den 1 den_pos (lit< tt) y (fin false 1 (pos 63)) is refl
        ∙ rw (*ℤ_idr (signed s num)) (lt-lt_z _ _ (≤ℤ-<ℤ_trans (bounded s num (2047 * den) few).1 (pos_mono_lt wide))) in
        (rw l tt, rw u tt)

    -- and what it gives
    truncated : to_signed 63 y ≡ signed s (num / den)
    unfolding to_signed
    truncated = cut y v
      where
        low_min : (n k : ℕ) → n ≤ 2047 → 2047 ≤ k → min n k ≡ n
        low_min n k h l = omega arith

        go : (t : Bool) (n : ℕ) → n ≤ 2047 → cond t (neg_ℤ (pos (min n (2 ^ 63)))) (pos (min n (2 ^ 63 - 1))) ≡ signed t n
        go true n h = ap (λ (k : ℕ). neg_ℤ (pos k)) (low_min n (2 ^ 63) h (lit≤ tt))
        go false n h = ap pos (low_min n (2 ^ 63 - 1) h (lit≤ tt))

        cut : (y : Float) → HasValue y s num den → to_signed 63 y ≡ signed s (num / den)
        cut nan v = absurd v
        cut (inf t) v = absurd v
        cut (fin t m e) v =
            rw (div_same (m * up e) (down e) num den (down_pos e) den_pos v.1, v.0) (go s (num / den) few_steps)

    -- ---- the truncation cast back

    -- as a float it has its value
    own : (t : Bool) (q : ℕ) → q ≤ 2 ^ 24 → Equals (of_int binary32 (signed t q)) (signed t q) 1
    unfolding of_int
    own false q h = equals (round binary32 false q 1) false q 1 (round_whole binary32 false q h)
    own true zero h = equals (round binary32 false 0 1) false 0 1 (round_whole binary32 false 0 h)
    own true (suc k) h = equals (round binary32 true (suc k) 1) true (suc k) 1 (round_whole binary32 true (suc k) h)

    whole_test : eq (of_int binary32 (signed s (num / den))) y ≡ eqb (num % den) 0
    whole_test =
        let q = num / den in
        eq_values (signed s q) (signed s num) 1 den (lit< tt) den_pos (of_int binary32 (signed s q)) y (own s q (le_trans few_steps (lit≤ tt))) is
        ∙ rw (*ℤ_idr (signed s num), ← signed-times s q den) (same_signed s (q * den) num)
        ∙ same_test (eqb (q * den) num) (eqb (num % den) 0)
        (λ h. eq-eqb (num % den) 0 (ap (λ (z : ℕ). z % den) (sym (eqb-true (q * den) num h)) ∙ mul-mod_left q den))
        (λ h. eq-eqb (q * den) num (sym (whole_quotient num den (eqb-true (num % den) 0 h))))

-- ---- the tests passed and failed

-- a product in range
pub record Ranged (x : Float) : Type 0 where
  pub of : Product x
  pub few : of.num ≤ 2047 * of.den

test_is : {x : Float} (p : Product x) → inside (times64 x) ≡ leb p.num (2047 * p.den)
test_is {x} p = range_test (times64 x) p.s p.num p.den p.den_pos p.value

pub ranged : (x : Float) → T (fits binary32 x) → inside (times64 x) ≡ true → Ranged x
ranged x F h =
    elim (product x F) [
      | inl p ↦ record { of = p; few = leb-true p.num (2047 * p.den) (sym (test_is p) ∙ h) }
      | inr k ↦ absurd (false≢true (sym k.0 ∙ h))
    ]

pub unranged : (x : Float) → T (fits binary32 x) → inside (times64 x) ≡ false → steps_of x ≡ None
unranged x F h =
    elim (product x F) [
      | inl p ↦ p.steps ∙ refused p.s p.num p.den (λ r few. not-le_of_lt (leb-false p.num (2047 * p.den) (sym (test_is p) ∙ h)) few)
      | inr k ↦ k.1
    ]

-- ---- a product in range, and the float y that holds it

-- the product without its fraction
abbrev pub cut_of : {x : Float} → Ranged x → ℤ
cut_of r = signed r.of.s (r.of.num / r.of.den)

module _ {x y : Float} (is : y ≡ times64 x) (r : Ranged x) where
  abbrev p : Product x
  p = r.of

  value : HasValue y p.s p.num p.den
  value = rw is p.value

  pub truncates : T (le (fin true 1 (pos 63)) y) × T (lt y (fin false 1 (pos 63)))
  truncates = asked y p.s p.num p.den p.den_pos value r.few

  pub cut_is : to_signed 63 y ≡ cut_of r
  cut_is = truncated y p.s p.num p.den p.den_pos value r.few

  test : eq (of_int binary32 (cut_of r)) y ≡ eqb (p.num % p.den) 0
  test = whole_test y p.s p.num p.den p.den_pos value r.few

  pub whole_yes : eq (of_int binary32 (cut_of r)) y ≡ true → Some (cut_of r) ≡ steps_of x
  whole_yes h = sym (p.steps ∙ granted p.s p.num p.den p.den_pos (eqb-true (p.num % p.den) 0 (sym test ∙ h)) r.few)

  pub whole_no : eq (of_int binary32 (cut_of r)) y ≡ false → None ≡ steps_of x
  whole_no h = sym (p.steps ∙ refused p.s p.num p.den (λ z few. eqb-false (p.num % p.den) 0 (sym test ∙ h) z))

pub cut_small : {x : Float} (r : Ranged x) → Small 2047 (cut_of r)
cut_small r =
    let p = r.of in
    record { abs = le_trans (le_of_eq (abs_signed p.s (p.num / p.den))) (below p.num p.den p.den_pos r.few) }

pub castable : (z : ℤ) → Small 2047 z → T (in_float binary32 z)
unfolding in_float
castable (pos n) h = le→leb n (2 ^ 24) (le_trans h.abs (lit≤ tt))
castable (negsuc n) h = lt→ltb n (2 ^ 24) (le_trans h.abs (lit≤ tt))

-- ---- both ways

apart : {X : Type 0} {n : ℤ} → None ≡ Some n → X
apart h = let z : ◌≡◌ {A = ℕ} 0 1 = cc in absurd (omega arith)

module _ (s : Bool) (m : ℕ) (e n : ℤ) where
  abbrev num : ℕ
  num = m * up e * 64

  only : whole_steps s num (down e) ≡ Some n → InSteps (fin s m e) n
  unfolding whole_steps
  only h =
      let q = signed s (num / down e) in
      elim (cond_is (eqb (num % down e) 0 && coordinate q) (Some q) None) [
        | inl k ↦ (
            let is : q ≡ n = cc in
            let b = both_true (eqb (num % down e) 0) (coordinate q) k.0 in
            let w = whole_quotient num (down e) (eqb-true (num % down e) 0 b.0) in
            (ap (signed s) w ∙ signed-times s (num / down e) (down e) ∙ ap (λ (z : ℤ). z *ℤ pos (down e)) is, rw (← is) b.1))
        | inr k ↦ apart (sym k.1 ∙ h)
      ]

  all : InSteps (fin s m e) n → whole_steps s num (down e) ≡ Some n
  unfolding whole_steps
  all h =
      let w : num ≡ nat_abs n * down e = sym (abs_signed s num) ∙ ap nat_abs h.0 ∙ nat_abs_mul n (pos (down e)) in
      let r : num % down e ≡ 0 = ap (λ (z : ℕ). z % down e) w ∙ mul-mod_left (nat_abs n) (down e) in
      let q : num / down e ≡ nat_abs n = ap (λ (z : ℕ). z / down e) w ∙ mul-div_cancel (nat_abs n) (down_pos e) in
      let is : signed s (nat_abs n) ≡ n =
      mul_cancel_eq (pos_mono_lt (down_pos e)) (sym (signed-times s (nat_abs n) (down e)) ∙ ap (signed s) (sym w) ∙ h.0) in
      rw (eq-eqb (num % down e) 0 r, q, is, h.1)

pub exactly : (x : Float) → Exactly x (steps_of x)
unfolding steps_of
exactly nan n = (λ h. apart h, λ h. absurd h.0)
exactly (inf s) n = (λ h. apart h, λ h. absurd h.0)
exactly (fin s m e) n = (only s m e n, all s m e n)
