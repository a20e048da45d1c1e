-- A float times 64 is exact, or it is an infinity and out of range (`scaled`).
use Rattle.std.proofs.Common.{◌≡◌, ℕ, zero, suc, ◌+◌, ◌*◌, ◌%◌, ◌^◌, ◌<◌, ◌≤◌, Bool, true, false, cond, ◌&&◌, T, eqb, ltb, leb, ◌⊎◌, ℤ, pos, negsuc}
use Rattle.std.proofs.Common.{sym, refl, ap, ◌∙◌, subst, inl, inr, le_trans, le_of_eq, zero-lt-suc, one-mul, mul-one, eqb→eq, ltb→lt, leb→le}
use Rattle.std.proofs.Common.{pow_pos}
use lib.Ieee.{Float, nan, inf, fin, Format, binary32, prec, emax, low, up, down, odd, units, round, mul, neg, eq, lt, le, fits}
use lib.Ieee.Fits.{and_l, and_r, round_is, down_pos}
use lib.Ieee.Exact.{HasValue}
use lib.Ieee.Order.{round_mono}
use Rattle.exact.proofs.Order.{le_or_lt, pos_reflect, pos_reflect_lt}
use Rattle.view.specs.Steps.{times64}
use Rattle.view.proofs.Rounding.{exact}

-- ---- a number that fits a format

digits : (f : Format) (s : Bool) (m : ℕ) (e : ℤ) → T (fits f (fin s m e)) → m < 2 ^ prec f
unfolding fits
digits f s zero e t = pow_pos (prec f)
digits f s (suc m) e t =
    ltb→lt (suc m) (2 ^ prec f) (and_r (eqb (suc m % 2) 1) (ltb (suc m) (2 ^ prec f))
    (and_l (eqb (suc m % 2) 1 && ltb (suc m) (2 ^ prec f)) (leb (down e) (2 ^ low f))
    (and_l (eqb (suc m % 2) 1 && ltb (suc m) (2 ^ prec f) && leb (down e) (2 ^ low f)) (ltb (suc m * up e) (2 ^ suc (emax f) * down e)) t)))

reach : (f : Format) (s : Bool) (m : ℕ) (e : ℤ) → T (fits f (fin s m e)) → down e ≤ 2 ^ low f
unfolding fits
reach f s zero (pos k) t = pow_pos (low f)
reach f s zero (negsuc k) t = le_trans (le_of_eq (sym (one-mul (2 ^ suc k)) ∙ eqb→eq (1 * 2 ^ suc k) 1 t)) (pow_pos (low f))
reach f s (suc m) e t =
    leb→le (down e) (2 ^ low f) (and_r (eqb (suc m % 2) 1 && ltb (suc m) (2 ^ prec f)) (leb (down e) (2 ^ low f))
    (and_l (eqb (suc m % 2) 1 && ltb (suc m) (2 ^ prec f) && leb (down e) (2 ^ low f)) (ltb (suc m * up e) (2 ^ suc (emax f) * down e)) t))

-- ---- rounding past the format's range

-- a negative fraction rounds as the positive one does
odd_neg : (d q k l : ℕ) → odd d true q k l ≡ neg (odd d false q k l)
unfolding odd neg
odd_neg d zero k l = refl
odd_neg d (suc q) k l = refl

units-neg : (f : Format) (q k : ℕ) → units f true q k ≡ neg (units f false q k)
unfolding units neg
units-neg f q k = go (ltb (q * 2 ^ k) (2 ^ (low f + suc (emax f))))
  where
    go : (b : Bool) → cond b (odd (suc (prec f)) true q k (low f)) (inf true) ≡ neg (cond b (odd (suc (prec f)) false q k (low f)) (inf false))
    go true = odd_neg (suc (prec f)) q k (low f)
    go false = refl

round_neg : (f : Format) (a c : ℕ) → round f true a c ≡ neg (round f false a c)
round_neg f a c = round_is f true a c ∙ units-neg f _ _ ∙ ap neg (sym (round_is f false a c))

top_only : (y : Float) → T (le (inf false) y) → y ≡ inf false
unfolding le lt eq
top_only nan t = absurd t
top_only (inf true) t = absurd t
top_only (inf false) t = refl
top_only (fin s m e) t = absurd t

overflow_up : (a c : ℕ) → 0 < c → 2 ^ 128 * c ≤ a → round binary32 false a c ≡ inf false
unfolding round
overflow_up a c C h =
    let big : round binary32 false (2 ^ 128) 1 ≡ inf false = refl in
    top_only (round binary32 false a c)
    (subst (λ (y : Float). T (le y (round binary32 false a c))) big
    (round_mono binary32 (2 ^ 128) 1 a c (zero-lt-suc 0) C (le_trans h (le_of_eq (sym (mul-one a))))))

overflows : (s : Bool) (a c : ℕ) → 0 < c → 2 ^ 128 * c ≤ a → round binary32 s a c ≡ inf s
unfolding neg
overflows false a c C h = overflow_up a c C h
overflows true a c C h = round_neg binary32 a c ∙ ap neg (overflow_up a c C h)

-- ---- the product

product_is : (s : Bool) (m : ℕ) (e : ℤ) → times64 (fin s m e) ≡ round binary32 s (m * up e * 64) (down e)
unfolding times64 mul
product_is true m e = ap (λ (z : ℕ). round binary32 true (m * up e * 64) z) (mul-one (down e))
product_is false m e = ap (λ (z : ℕ). round binary32 false (m * up e * 64) z) (mul-one (down e))

pub scaled : (s : Bool) (m : ℕ) (e : ℤ) → T (fits binary32 (fin s m e))
    → HasValue (times64 (fin s m e)) s (m * up e * 64) (down e) ⊎ ((times64 (fin s m e) ≡ inf s) × (2 ^ 128 * down e ≤ m * up e * 64))
scaled s m e F =
    elim (le_or_lt (pos (2 ^ 128 * down e)) (pos (m * up e * 64))) [
      | inl h ↦ inr (product_is s m e ∙ overflows s (m * up e * 64) (down e) (down_pos e) (pos_reflect h), pos_reflect h)
      | inr h ↦ inl (rw (product_is s m e) (exact binary32 s m e 6 (digits binary32 s m e F) (reach binary32 s m e F) (pos_reflect_lt h)))
    ]
