-- The squared distance along a ray, over the places n/d of a span from i/T to j/T: it is greatest at an end (`dist-max`), nowhere below
-- (e a − m²)/a (`dist_foot`, met at the foot of the perpendicular, −m/a), and least at an end where the foot is not strictly inside (`dist-min`).
-- `dist_foot e m a n d : ((e *ℤ a -ℤ m *ℤ m) *ℤ (d *ℤ d)) ≤ℤ (a *ℤ dist e m a n d)`.
use mathlib.Core.Path.{◌≡◌, sym, ◌∙◌, ap, ap₂}
use mathlib.Core.Logic.{◌⊎◌, inl, inr}
use Prim.Native.Nat.{ℕ, ◌*◌, ◌≤◌, max, min}
use lib.IntN.{ℤ, pos, neg_ℤ, ◌+ℤ◌, ◌-ℤ◌, ◌*ℤ◌}
use lib.Signed.{◌≤ℤ◌}
use Rattle.exact.specs.Extrema.{max_ℤ, min_ℤ}
use Rattle.exact.specs.Vector.{dot3, square3}
use Rattle.exact.specs.Distance.{quad, dist}
use Rattle.exact.proofs.Ring.{Ex, ◌⊕◌, ◌⊖◌, ⊝◌, ◌⊗◌, #, ◌≔◌, ring}
use Rattle.exact.proofs.Order.{nn_sq, nn_pos, ≤ℤ_trans, ≤ℤ_of_eq, mul_mono_l, pos_mono, pos_reflect}
use Rattle.exact.proofs.Extrema.{le-max_l, le-max_r, max-le, min-le_l, min-le_r, pos-max, pos-min}
use Rattle.exact.proofs.Certificates.{◌≦◌by◌, le, nn}
use Rattle.exact.proofs.Convex.{quad_e, quad-max, quad_rising, quad_falling}

-- `dist` as an expression of the solver
abbrev pub dist_e : Ex → Ex → Ex → Ex → Ex → Ex
dist_e e m a n d = e ⊗ d ⊗ d ⊕ # 2 ⊗ m ⊗ n ⊗ d ⊕ a ⊗ n ⊗ n

-- the foot of the perpendicular, at −m/a, is not strictly inside the span
abbrev pub FootOutside : ℤ → ℤ → ℤ → ℤ → ℤ → Type 0
FootOutside m a i j T = (neg_ℤ (m *ℤ T) ≤ℤ (i *ℤ a)) ⊎ ((j *ℤ a) ≤ℤ neg_ℤ (m *ℤ T))

-- d² dist(t/T) and T² dist(n/d) are one quadratic, at t d and at T n
abbrev common : ℤ → ℤ → ℤ → ℤ → ℤ → ℤ → ℤ
common e m a T d x = quad (e *ℤ T *ℤ T *ℤ d *ℤ d) (pos 2 *ℤ m *ℤ d *ℤ T) a x

at_tick : (e m a t T d : ℤ) → d *ℤ d *ℤ dist e m a t T ≡ common e m a T d (t *ℤ d)
at_tick = ring 6 (λ e m a t T d. d ⊗ d ⊗ dist_e e m a t T ≔ quad_e (e ⊗ T ⊗ T ⊗ d ⊗ d) (# 2 ⊗ m ⊗ d ⊗ T) a (t ⊗ d)) tt

at_place : (e m a n d T : ℤ) → T *ℤ T *ℤ dist e m a n d ≡ common e m a T d (T *ℤ n)
at_place = ring 6 (λ e m a n d T. T ⊗ T ⊗ dist_e e m a n d ≔ quad_e (e ⊗ T ⊗ T ⊗ d ⊗ d) (# 2 ⊗ m ⊗ d ⊗ T) a (T ⊗ n)) tt

module _ (e m a i j T n d : ℤ) (ha : pos 0 ≤ℤ a) (hi : (i *ℤ d) ≤ℤ (T *ℤ n)) (hj : (T *ℤ n) ≤ℤ (j *ℤ d)) where
  pub dist-max : (T *ℤ T *ℤ dist e m a n d) ≤ℤ (d *ℤ d *ℤ max_ℤ (dist e m a i T) (dist e m a j T))
  dist-max =
      ≤ℤ_trans (≤ℤ_of_eq (at_place e m a n d T))
      (≤ℤ_trans (quad-max (e *ℤ T *ℤ T *ℤ d *ℤ d) (pos 2 *ℤ m *ℤ d *ℤ T) a (i *ℤ d) (T *ℤ n) (j *ℤ d) ha hi hj)
      (max-le
      (≤ℤ_trans (≤ℤ_of_eq (sym (at_tick e m a i T d))) (mul_mono_l (nn_sq d) (le-max_l (dist e m a i T) (dist e m a j T))))
      (≤ℤ_trans (≤ℤ_of_eq (sym (at_tick e m a j T d))) (mul_mono_l (nn_sq d) (le-max_r (dist e m a i T) (dist e m a j T))))))

  rises : pos 0 ≤ℤ d → neg_ℤ (m *ℤ T) ≤ℤ (i *ℤ a) → pos 0 ≤ℤ (pos 2 *ℤ m *ℤ d *ℤ T +ℤ pos 2 *ℤ a *ℤ (i *ℤ d))
  rises hd h =
      le 5 (λ m a i T d. # 0 ≦ # 2 ⊗ m ⊗ d ⊗ T ⊕ # 2 ⊗ a ⊗ (i ⊗ d) by # 2 ⊗ d ⊗ (i ⊗ a ⊖ ⊝ (m ⊗ T))) tt m a i T d (search nn)

  falls : pos 0 ≤ℤ d → (j *ℤ a) ≤ℤ neg_ℤ (m *ℤ T) → (pos 2 *ℤ m *ℤ d *ℤ T +ℤ pos 2 *ℤ a *ℤ (j *ℤ d)) ≤ℤ pos 0
  falls hd h =
      le 5 (λ m a j T d. # 2 ⊗ m ⊗ d ⊗ T ⊕ # 2 ⊗ a ⊗ (j ⊗ d) ≦ # 0 by # 2 ⊗ d ⊗ (⊝ (m ⊗ T) ⊖ j ⊗ a)) tt m a j T d (search nn)

  pub dist-min : pos 0 ≤ℤ d → FootOutside m a i j T → (d *ℤ d *ℤ min_ℤ (dist e m a i T) (dist e m a j T)) ≤ℤ (T *ℤ T *ℤ dist e m a n d)
  dist-min hd (inl h) =
      ≤ℤ_trans (mul_mono_l (nn_sq d) (min-le_l (dist e m a i T) (dist e m a j T)))
      (≤ℤ_trans (≤ℤ_of_eq (at_tick e m a i T d))
      (≤ℤ_trans (quad_rising (e *ℤ T *ℤ T *ℤ d *ℤ d) (pos 2 *ℤ m *ℤ d *ℤ T) a (i *ℤ d) (T *ℤ n) ha hi (rises hd h))
      (≤ℤ_of_eq (sym (at_place e m a n d T)))))
  dist-min hd (inr h) =
      ≤ℤ_trans (mul_mono_l (nn_sq d) (min-le_r (dist e m a i T) (dist e m a j T)))
      (≤ℤ_trans (≤ℤ_of_eq (at_tick e m a j T d))
      (≤ℤ_trans (quad_falling (e *ℤ T *ℤ T *ℤ d *ℤ d) (pos 2 *ℤ m *ℤ d *ℤ T) a (T *ℤ n) (j *ℤ d) ha hj (falls hd h))
      (≤ℤ_of_eq (sym (at_place e m a n d T)))))

pub dist_foot : (e m a n d : ℤ) → ((e *ℤ a -ℤ m *ℤ m) *ℤ (d *ℤ d)) ≤ℤ (a *ℤ dist e m a n d)
dist_foot e m a n d =
    le 5 (λ e m a n d. (e ⊗ a ⊖ m ⊗ m) ⊗ (d ⊗ d) ≦ a ⊗ dist_e e m a n d by (a ⊗ n ⊕ m ⊗ d) ⊗ (a ⊗ n ⊕ m ⊗ d)) tt e m a n d
    (nn_sq (a *ℤ n +ℤ m *ℤ d))

pub dist_foot_met : (e m a : ℤ) → dist e m a (neg_ℤ m) a ≡ (e *ℤ a -ℤ m *ℤ m) *ℤ a
dist_foot_met = ring 3 (λ e m a. dist_e e m a (⊝ m) a ≔ (e ⊗ a ⊖ m ⊗ m) ⊗ a) tt

-- ---- from the coordinates: (u, v, w) from the point to the ray's start, (x, y, z) along the ray

-- |d (u, v, w) + n (x, y, z)|²
pub dist_squares : (u v w x y z n d : ℤ) → dist (square3 u v w) (dot3 u v w x y z) (square3 x y z) n d
    ≡ square3 (u *ℤ d +ℤ x *ℤ n) (v *ℤ d +ℤ y *ℤ n) (w *ℤ d +ℤ z *ℤ n)
dist_squares = ring 8 (λ u v w x y z n d.
    dist_e (u ⊗ u ⊕ v ⊗ v ⊕ w ⊗ w) (u ⊗ x ⊕ v ⊗ y ⊕ w ⊗ z) (x ⊗ x ⊕ y ⊗ y ⊕ z ⊗ z) n d
    ≔ (u ⊗ d ⊕ x ⊗ n) ⊗ (u ⊗ d ⊕ x ⊗ n) ⊕ (v ⊗ d ⊕ y ⊗ n) ⊗ (v ⊗ d ⊕ y ⊗ n) ⊕ (w ⊗ d ⊕ z ⊗ n) ⊗ (w ⊗ d ⊕ z ⊗ n)) tt

-- |(u, v, w) × (x, y, z)|²
pub foot_squares : (u v w x y z : ℤ) → square3 u v w *ℤ square3 x y z -ℤ dot3 u v w x y z *ℤ dot3 u v w x y z
    ≡ square3 (u *ℤ y -ℤ v *ℤ x) (u *ℤ z -ℤ w *ℤ x) (v *ℤ z -ℤ w *ℤ y)
foot_squares = ring 6 (λ u v w x y z.
    (u ⊗ u ⊕ v ⊗ v ⊕ w ⊗ w) ⊗ (x ⊗ x ⊕ y ⊗ y ⊕ z ⊗ z) ⊖ (u ⊗ x ⊕ v ⊗ y ⊕ w ⊗ z) ⊗ (u ⊗ x ⊕ v ⊗ y ⊕ w ⊗ z)
    ≔ (u ⊗ y ⊖ v ⊗ x) ⊗ (u ⊗ y ⊖ v ⊗ x) ⊕ (u ⊗ z ⊖ w ⊗ x) ⊗ (u ⊗ z ⊖ w ⊗ x) ⊕ (v ⊗ z ⊖ w ⊗ y) ⊗ (v ⊗ z ⊖ w ⊗ y)) tt

-- ---- of natural numbers: i, j, T, n and d, and the distances at i/T, j/T and n/d, each given with its equation

module _ (e m a : ℤ) (i j T n d at_i at_j at_n : ℕ) (ha : pos 0 ≤ℤ a)
    (ei : pos at_i ≡ dist e m a (pos i) (pos T))
    (ej : pos at_j ≡ dist e m a (pos j) (pos T))
    (en : pos at_n ≡ dist e m a (pos n) (pos d))
    (hi : i * d ≤ T * n) (hj : T * n ≤ j * d) where
  pub dist_max_ℕ : T * T * at_n ≤ d * d * max at_i at_j
  dist_max_ℕ =
      pos_reflect
      (≤ℤ_trans (≤ℤ_of_eq (ap (λ (x : ℤ). pos T *ℤ pos T *ℤ x) en))
      (≤ℤ_trans (dist-max e m a (pos i) (pos j) (pos T) (pos n) (pos d) ha (pos_mono hi) (pos_mono hj))
      (≤ℤ_of_eq (ap (λ (x : ℤ). pos d *ℤ pos d *ℤ x) (ap₂ max_ℤ (sym ei) (sym ej) ∙ pos-max at_i at_j)))))

  pub dist_min_ℕ : FootOutside m a (pos i) (pos j) (pos T) → d * d * min at_i at_j ≤ T * T * at_n
  dist_min_ℕ out =
      pos_reflect
      (≤ℤ_trans (≤ℤ_of_eq (ap (λ (x : ℤ). pos d *ℤ pos d *ℤ x) (sym (ap₂ min_ℤ (sym ei) (sym ej) ∙ pos-min at_i at_j))))
      (≤ℤ_trans (dist-min e m a (pos i) (pos j) (pos T) (pos n) (pos d) ha (pos_mono hi) (pos_mono hj) (nn_pos d) out)
      (≤ℤ_of_eq (ap (λ (x : ℤ). pos T *ℤ pos T *ℤ x) (sym en)))))

-- N is the distance at the foot, times a
pub dist_foot_ℕ : (e m : ℤ) (a n d at_n N : ℕ) → pos at_n ≡ dist e m (pos a) (pos n) (pos d) → pos N ≡ e *ℤ pos a -ℤ m *ℤ m
    → N * (d * d) ≤ a * at_n
dist_foot_ℕ e m a n d at_n N en eN =
    pos_reflect
    (≤ℤ_trans (≤ℤ_of_eq (ap (λ (x : ℤ). x *ℤ (pos d *ℤ pos d)) eN))
    (≤ℤ_trans (dist_foot e m (pos a) (pos n) (pos d)) (≤ℤ_of_eq (ap (λ (x : ℤ). pos a *ℤ x) (sym en)))))
