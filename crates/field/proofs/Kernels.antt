-- Both kernels are lawful: `quartic_lawful`, `sextic_lawful`. This is all that theorems 1 to 5 need to know of a degree.
use mathlib.Core.Path.{◌≡◌, refl, sym, ap, subst}
use mathlib.Core.Logic.{inl, inr}
use Prim.Native.Nat.{ℕ, zero, suc, ◌+◌, ◌*◌, ◌-◌, ◌/◌, ◌^◌, ◌≤◌}
use native.Mathlib.Nat.{le_of_eq, le_trans, mul_assoc, mul-le-mul, mul-le-mul_right, div-mul-le_self, pow-zero, pow-suc, pow-le-pow_left}
use native.Mathlib.Omega.{arith}
use lib.IntN.{pos}
use Rattle.exact.specs.Rounding.{ceil}
use Rattle.exact.specs.Fraction.{plus}
use Rattle.exact.proofs.Ring.{◌⊕◌, ◌⊖◌, ◌⊗◌, #, ◌≔◌, ring}
use Rattle.exact.proofs.Order.{nn_add, nn_mul, nn_pos, sub_nn, pos_mono, pos_reflect, pos_inj}
use Rattle.exact.proofs.Certificates.{◌≦◌by◌, le}
use Rattle.exact.proofs.Naturals.{≤-total, pow_two, pow_three}
use Rattle.exact.proofs.Rounding.{le-ceil, floor_within, ceil_within}
use Rattle.field.specs.Lawful.{Lawful}
use Rattle.field.specs.Kernel.{fixed_one, quartic, sextic}

-- ---- of every power

-- h^(n+1) − l^(n+1) ≤ (n + 1) · 65536ⁿ · (h − l)
powers : (n l h : ℕ) → h ≤ 65536 → h ^ suc n ≤ l ^ suc n + suc n * 65536 ^ n * (h - l)
powers n l h b = elim (≤-total h l) [
  | inl k ↦ (let f : h ^ suc n ≤ l ^ suc n = pow-le-pow_left k (suc n) in omega arith)
  | inr k ↦
      let e : h ≡ l + (h - l) = omega arith in
      subst (λ (x : ℕ). x ^ suc n ≤ l ^ suc n + suc n * 65536 ^ n * (h - l)) (sym e) (more n l (h - l) (omega arith))
]
  where
    step : (x y c m l g : ℕ) → x ≤ y + m * c * g → x ≤ c * 65536 → l ≤ 65536 → x * (l + g) ≤ y * l + (m + 1) * (c * 65536) * g
    step x y c m l g h₁ h₂ h₃ =
        pos_reflect (le 6 (λ x y c m l g. x ⊗ (l ⊕ g) ≦ y ⊗ l ⊕ (m ⊕ # 1) ⊗ (c ⊗ # 65536) ⊗ g
        by l ⊗ (y ⊕ m ⊗ c ⊗ g ⊖ x) ⊕ g ⊗ (c ⊗ # 65536 ⊖ x) ⊕ m ⊗ c ⊗ g ⊗ (# 65536 ⊖ l)) tt (pos x) (pos y) (pos c) (pos m) (pos l) (pos g)
        (nn_add (nn_add (nn_mul (nn_pos l) (sub_nn (pos_mono h₁))) (nn_mul (nn_pos g) (sub_nn (pos_mono h₂))))
        (nn_mul (nn_pos (m * c * g)) (sub_nn (pos_mono h₃)))))

    more : (n l g : ℕ) → l + g ≤ 65536 → (l + g) ^ suc n ≤ l ^ suc n + suc n * 65536 ^ n * g
    more zero l g b = rw (pow-suc (l + g) 0, pow-suc l 0, pow-zero (l + g), pow-zero l, pow-zero 65536) (omega arith)
    more (suc n) l g b =
        let f : (l + g) ^ suc n ≤ 65536 ^ n * 65536 = le_trans (pow-le-pow_left b (suc n)) (le_of_eq (pow-suc 65536 n)) in
        let e : suc (suc n) ≡ suc n + 1 = omega arith in
        rw (pow-suc (l + g) (suc n), pow-suc l (suc n), pow-suc 65536 n, e)
        (step ((l + g) ^ suc n) (l ^ suc n) (65536 ^ n) (suc n) l g (more n l g b) f (omega arith))

-- a difference of sizes of at most c g + e, times t
spread : (v c g e t : ℕ) → v ≤ c * g + e → v * t ≤ c * (g * t) + e * t
spread v c g e t h =
    le_trans (mul-le-mul_right t h)
    (le_of_eq (pos_inj (ring 4 (λ c g e t. (c ⊗ g ⊕ e) ⊗ t ≔ c ⊗ (g ⊗ t) ⊕ e ⊗ t) tt (pos c) (pos g) (pos e) (pos t))))

-- ---- degree 4

pub quartic_lawful : Lawful quartic
unfolding plus
quartic_lawful = record {
  down = λ q. le_of_eq (ap (λ (x : ℕ). x * fixed_one) (sym (pow_two q)));
  up = λ q. le_of_eq (ap (λ (x : ℕ). x * fixed_one) (pow_two q));
  small = λ h. (mul-le-mul h h, mul-le-mul h h);
  none = (refl, refl);
  low_rises = λ h. mul-le-mul h h;
  high_rises = λ h. mul-le-mul h h;
  slack_proper = omega arith;
  slack_nn = nn_pos 1;
  narrow = λ qlo qhi S t a b h.
      let g = qhi - qlo in
      let k = spread _ 131072 g 0 t (apart (qlo * qlo) (qhi * qhi) g (squares qlo qhi b)) in
      record { cross = pos_mono (last S t (g * t) (qhi * qhi - qlo * qlo) h k) };
}
  where
    squares : (l h : ℕ) → h ≤ 65536 → h * h ≤ l * l + 131072 * (h - l)
    squares l h b = rw (pow_two h, pow_two l) at (powers 1 l h b)

    apart : (x y g : ℕ) → y ≤ x + 131072 * g → y - x ≤ 131072 * g + 0
    apart x y g h = omega arith

    last : (S t u v : ℕ) → u ≤ 131072 * S + 2 * t → v * t ≤ 131072 * u + 0 * t → v * (t * 16384) ≤ (4 * S * 16384 + 1 * t) * fixed_one
    last S t u v h k = rw (sym (mul_assoc v t 16384)) (omega arith)

-- ---- degree 6

floor_rises : {x y : ℕ} → x ≤ y → x / 65536 ≤ y / 65536
floor_rises h = omega arith

ceil_rises : {x y : ℕ} → x ≤ y → ceil x 65536 ≤ ceil y 65536
unfolding ceil
ceil_rises h = omega arith

pub sextic_lawful : Lawful sextic
unfolding plus ceil
sextic_lawful = record {
  down = λ q.
      le_trans (le_of_eq (sym (mul_assoc (q * q * q / 65536) 65536 fixed_one)))
      (le_trans (mul-le-mul_right fixed_one (div-mul-le_self (q * q * q) 65536)) (le_of_eq (ap (λ (x : ℕ). x * fixed_one) (sym (pow_three q)))));
  up = λ q.
      le_trans (le_of_eq (ap (λ (x : ℕ). x * fixed_one) (pow_three q)))
      (le_trans (mul-le-mul_right fixed_one (le-ceil (q * q * q) 65536 (omega arith)))
      (le_of_eq (mul_assoc (ceil (q * q * q) 65536) 65536 fixed_one)));
  small = λ h. let k = mul-le-mul (mul-le-mul h h) h in (floor_rises k, ceil_rises k);
  none = (refl, refl);
  low_rises = λ h. floor_rises (mul-le-mul (mul-le-mul h h) h);
  high_rises = λ h. ceil_rises (mul-le-mul (mul-le-mul h h) h);
  slack_proper = omega arith;
  slack_nn = nn_pos 7;
  narrow = λ qlo qhi S t a b h.
      let g = qhi - qlo in
      let x = qlo * qlo * qlo in
      let y = qhi * qhi * qhi in
      let k = spread _ 196608 g 2 t (apart x y g (floor_within x 65536 (omega arith)) (ceil_within y 65536) (cubes qlo qhi b)) in
      record { cross = pos_mono (last S t (g * t) (ceil y 65536 - x / 65536) h k) };
}
  where
    cubes : (l h : ℕ) → h ≤ 65536 → h * h * h ≤ l * l * l + 12884901888 * (h - l)
    cubes l h b = rw (pow_three h, pow_three l) at (powers 2 l h b)

    apart : (x y g : ℕ) → x ≤ x / 65536 * 65536 + 65536 → ceil y 65536 * 65536 ≤ y + 65536 → y ≤ x + 12884901888 * g
        → ceil y 65536 - x / 65536 ≤ 196608 * g + 2
    apart x y g p q h = omega arith

    last : (S t u v : ℕ) → u ≤ 131072 * S + 2 * t → v * t ≤ 196608 * u + 2 * t → v * (t * 65536) ≤ (6 * S * 65536 + 7 * t) * fixed_one
    last S t u v h k = rw (sym (mul_assoc v t 65536)) (omega arith)
