-- A place as a float: the quotient of two whole floats is the fraction rounded once; over a power of two it is the fraction exactly, and the tick
-- is got back from it.
use Rattle.std.proofs.Common.{◌≡◌, ℕ, zero, suc, ◌*◌, ◌/◌, ◌^◌, ◌<◌, ◌≤◌, Bool, true, false, cond, eqb, pos, negsuc, nat_abs, sym, refl, ap, ◌∙◌}
use Rattle.std.proofs.Common.{subst, true≢false, le_trans, le_of_eq, lt_of_lt_of_le, le-add_right, lt_of_le_of_lt, lt_irrefl, mul_assoc, mul_comm}
use Rattle.std.proofs.Common.{mul-le-mul_left, mul-pos, mul-one, mul-div_cancel, lit<, lit≤, pow_pos, pow_mono, ne_eqb, Ok, Err}
use lib.Ieee.{Float, nan, inf, fin, binary32, up, down, round, div, of_int}
use lib.Ieee.Fits.{down_pos}
use lib.Ieee.Exact.{HasValue}
use lib.Ieee.Scale.{round_same}
use lib.Ieee.Back.{round_whole}
use lib.Ieee.Positive.{first_pos}
use Rattle.halving.specs.FirstHit.{hit_looked_at}
use Rattle.halving.specs.Answers.{HitAnswer, hit_reaches}
use Rattle.halving.specs.declared.FirstHit.TheVariants as found
use Rattle.view.specs.Floats.{Equals, place_of, tick_at}
use Rattle.view.specs.Call.{view_of}
use Rattle.view.specs.Demands.{in_ticks, ExactPlace}
use Rattle.view.proofs.Rounding.{fraction}
use Rattle.view.proofs.Floats.{abs_signed, equals}

-- ---- the quotient

-- a quotient of two whole values, whatever digits they are written with
quotient : (x y : Float) (a b : ℕ) → 0 < b → HasValue x false a 1 → HasValue y false b 1 → div binary32 x y ≡ round binary32 false a b
unfolding div
quotient nan y a b B v w = absurd v
quotient (inf s) y a b B v w = absurd v
quotient (fin true m e) y a b B v w = absurd (true≢false v.0)
quotient (fin false m e) nan a b B v w = absurd w
quotient (fin false m e) (inf t) a b B v w = absurd w
quotient (fin false m e) (fin true n d) a b B v w = absurd (true≢false w.0)
quotient (fin false m e) (fin false n d) a b B v w =
    let p : m * up e ≡ a * down e = sym (mul-one (m * up e)) ∙ v.1 in
    let q : n * up d ≡ b * down d = sym (mul-one (n * up d)) ∙ w.1 in
    let U : 0 < n * up d = subst (λ (z : ℕ). 0 < z) (sym q) (mul-pos B (down_pos d)) in
    let N : n ≡ 0 → ⊥ = λ z. lt_irrefl 0 (subst (λ (k : ℕ). 0 < k) z (first_pos n (up d) U)) in
    ap (λ (t : Bool). cond t (cond (eqb m 0) nan (inf false)) (round binary32 false (m * up e * down d) (n * up d * down e))) (ne_eqb n 0 N)
    ∙ round_same binary32 false (m * up e * down d) (n * up d * down e) a b (mul-pos U (down_pos e)) B
    (ap (λ (z : ℕ). z * down d * b) p ∙ mul_assoc (a * down e) (down d) b ∙ ap (λ (z : ℕ). a * down e * z) (mul_comm (down d) b ∙ sym q)
    ∙ mul_assoc a (down e) (n * up d) ∙ ap (λ (z : ℕ). a * z) (mul_comm (down e) (n * up d)))

pub divided : (a b : ℕ) → a ≤ 2 ^ 24 → b ≤ 2 ^ 24 → 0 < b → div binary32 (of_int binary32 (pos a)) (of_int binary32 (pos b)) ≡ place_of b a
unfolding of_int place_of
divided a b H K B =
    quotient (round binary32 false a 1) (round binary32 false b 1) a b B (round_whole binary32 false a H) (round_whole binary32 false b K)

-- ---- places of a power of two ticks

place_value : (k h : ℕ) → k ≤ 149 → h < 2 ^ 24 → HasValue (place_of (2 ^ k) h) false h (2 ^ k)
unfolding place_of
place_value zero h K H = fraction binary32 false h (pos 0) H (lit≤ tt) (lt_of_lt_of_le H (lit≤ tt))
place_value (suc k) h K H =
    fraction binary32 false h (negsuc k) H (pow_mono K)
    (lt_of_lt_of_le H (le_trans (lit≤ tt) (le_trans (le_of_eq (sym (mul-one (2 ^ 128)))) (mul-le-mul_left (2 ^ 128) (pow_pos (suc k))))))

-- h / 2 ^ k exactly
pub place_exact : (k h : ℕ) → k ≤ 149 → h < 2 ^ 24 → Equals (place_of (2 ^ k) h) (pos h) (2 ^ k)
place_exact k h K H = equals (place_of (2 ^ k) h) false h (2 ^ k) (place_value k h K H)

-- ---- and back

tick_at_lem : (y : Float) (h ticks : ℕ) → Equals y (pos h) ticks → tick_at ticks y ≡ h
unfolding tick_at
tick_at_lem nan h ticks v = absurd v
tick_at_lem (inf s) h ticks v = absurd v
tick_at_lem (fin s m e) h ticks v = ap (λ (z : ℕ). z / down e) (sym (abs_signed s (m * up e * ticks)) ∙ ap nat_abs v) ∙ mul-div_cancel h (down_pos e)

-- ---- the answer

module _ (k : ℕ) (few : k ≤ 23) where
  place_is : (h : ℕ) → h ≤ 2 ^ k → Equals (place_of (2 ^ k) h) (pos h) (2 ^ k)
  place_is h near = place_exact k h (le_trans few (lit≤ tt)) (lt_of_le_of_lt near (lt_of_le_of_lt (pow_mono few) (lit< tt)))

  tick_is : (h : ℕ) → h ≤ 2 ^ k → tick_at (2 ^ k) (place_of (2 ^ k) h) ≡ h
  tick_is h near = tick_at_lem (place_of (2 ^ k) h) h (2 ^ k) (place_is h near)

  at_tick : (h : ℕ) → h ≤ 2 ^ k → Equals (place_of (2 ^ k) h) (pos (tick_at (2 ^ k) (place_of (2 ^ k) h))) (2 ^ k)
  at_tick h near = rw (tick_is h near) (place_is h near)

  pub in_ticks_lem : (a : HitAnswer) → hit_reaches (2 ^ k) a ≤ 2 ^ k → in_ticks (2 ^ k) (view_of (2 ^ k) a) ≡ a
  unfolding hit_reaches hit_looked_at in_ticks view_of
  in_ticks_lem (Err refusal) h = refl
  in_ticks_lem (Ok (found.Hit tick mark probes)) h = ap (λ (t : ℕ). Ok (found.Hit t mark probes)) (tick_is tick (le_trans (le-add_right tick 1) h))
  in_ticks_lem (Ok (found.Clear probes)) h = refl
  in_ticks_lem (Ok (found.Spent tick probes)) h = ap (λ (t : ℕ). Ok (found.Spent t probes)) (tick_is tick h)

  pub exact_places : (a : HitAnswer) → hit_reaches (2 ^ k) a ≤ 2 ^ k → ExactPlace (2 ^ k) (view_of (2 ^ k) a)
  unfolding hit_reaches hit_looked_at ExactPlace view_of
  exact_places (Err refusal) h = tt
  exact_places (Ok (found.Hit tick mark probes)) h = at_tick tick (le_trans (le-add_right tick 1) h)
  exact_places (Ok (found.Clear probes)) h = tt
  exact_places (Ok (found.Spent tick probes)) h = at_tick tick h
