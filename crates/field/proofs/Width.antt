-- How far a point's two q lie apart over a span from i/T to j/T: at most 65536 × 2 S (j − i)/(T r), and two for the rounding (`width`); over one
-- tick j − i is 1 (`tick_width`), at one place 0 (`place_width`). Between two places u changes no faster than they are apart (exact's Lipschitz).
use mathlib.Core.Path.{◌≡◌, sym, ◌∙◌, ap, ap₂, subst}
use Prim.Native.Nat.{ℕ, ◌+◌, ◌-◌, ◌*◌, ◌≤◌, ◌<◌}
use native.Mathlib.Nat.{mul-one, mul-zero, mul-pos}
use native.Mathlib.Omega.{arith}
use lib.IntN.{ℤ, pos, neg_ℤ, nat_abs, ◌+ℤ◌, ◌-ℤ◌, ◌*ℤ◌}
use lib.Signed.{◌≤ℤ◌}
use Rattle.exact.specs.Vector.{square3, size3}
use Rattle.exact.proofs.Ring.{◌⊕◌, ◌⊖◌, ⊝◌, ◌⊗◌, #, ◌≔◌, ring}
use Rattle.exact.proofs.Order.{nn_add, nn_mul, nn_pos, sub_nn, ≤ℤ_trans, ≤ℤ_of_eq, mul_cancel_le}
use Rattle.exact.proofs.Order.{pos_inj, pos_mono, pos_mono_lt, pos_reflect, pos-sub}
use Rattle.exact.proofs.Absolute.{nat_abs_mul, nat_abs_bound}
use Rattle.exact.proofs.Certificates.{◌≦◌by◌, le}
use Rattle.exact.proofs.Naturals.{sub-mul}
use Rattle.exact.proofs.Rounding.{floor_within, ceil_within}
use Rattle.exact.proofs.Lipschitz.{lipschitz}
use Rattle.record.specs.declared.Node.{Node}
use Rattle.field.specs.Vectors.{Ray}
use Rattle.field.specs.declared.Span.{Span}
use Rattle.field.specs.Ray.{radius, to_start, direction, extent, from_centre, squared_distance, tick, Ordered, Place}
use Rattle.field.specs.Kernel.{u_den, u_num}
use Rattle.field.specs.Bounds.{ray_square, prepare, qlo, qhi}
use Rattle.field.proofs.Distances.{squared_sum}
use Rattle.field.proofs.Extremes.{extremes}
use Rattle.field.proofs.Between.{den_pos}

-- ---- two places n/d and n'/d' of one span

-- how far apart they are, times both denominators
abbrev gap : ℕ → ℕ → ℕ → ℕ → ℕ
gap n d n' d' = nat_abs (pos n *ℤ pos d' -ℤ pos n' *ℤ pos d)

gap_le : {s : Span} → Ordered s → (x y : Place s) → s.ticks * gap x.n x.m y.n y.m ≤ (s.to - s.from) * (x.m * y.m)
gap_le {s} o x y =
    pos_reflect
    (≤ℤ_trans (≤ℤ_of_eq (ap pos (sym (nat_abs_mul (pos T) (pos x.n *ℤ pos y.m -ℤ pos y.n *ℤ pos x.m)))))
    (≤ℤ_trans
    (nat_abs_bound (pos T *ℤ (pos x.n *ℤ pos y.m -ℤ pos y.n *ℤ pos x.m)) ((pos j -ℤ pos i) *ℤ (pos x.m *ℤ pos y.m)) one two)
    (≤ℤ_of_eq (ap (λ (z : ℤ). z *ℤ (pos x.m *ℤ pos y.m)) (sym (pos-sub j i o.order))))))
  where
    i : ℕ
    i = s.from

    j : ℕ
    j = s.to

    T : ℕ
    T = s.ticks

    one : (pos T *ℤ (pos x.n *ℤ pos y.m -ℤ pos y.n *ℤ pos x.m)) ≤ℤ ((pos j -ℤ pos i) *ℤ (pos x.m *ℤ pos y.m))
    one =
        le 7 (λ T i j n d n' d'. T ⊗ (n ⊗ d' ⊖ n' ⊗ d) ≦ (j ⊖ i) ⊗ (d ⊗ d') by (j ⊗ d ⊖ T ⊗ n) ⊗ d' ⊕ (T ⊗ n' ⊖ i ⊗ d') ⊗ d) tt
        (pos T) (pos i) (pos j) (pos x.n) (pos x.m) (pos y.n) (pos y.m)
        (nn_add (nn_mul (sub_nn (pos_mono x.before)) (nn_pos y.m)) (nn_mul (sub_nn (pos_mono y.after)) (nn_pos x.m)))

    two : neg_ℤ (pos T *ℤ (pos x.n *ℤ pos y.m -ℤ pos y.n *ℤ pos x.m)) ≤ℤ ((pos j -ℤ pos i) *ℤ (pos x.m *ℤ pos y.m))
    two =
        le 7 (λ T i j n d n' d'. ⊝ (T ⊗ (n ⊗ d' ⊖ n' ⊗ d)) ≦ (j ⊖ i) ⊗ (d ⊗ d') by (j ⊗ d' ⊖ T ⊗ n') ⊗ d ⊕ (T ⊗ n ⊖ i ⊗ d) ⊗ d') tt
        (pos T) (pos i) (pos j) (pos x.n) (pos x.m) (pos y.n) (pos y.m)
        (nn_add (nn_mul (sub_nn (pos_mono y.before)) (nn_pos x.m)) (nn_mul (sub_nn (pos_mono x.after)) (nn_pos y.m)))

-- one coordinate of the two, over the common denominator: x is the ray's
apart : (u x : ℤ) (n d n' d' : ℕ)
    → nat_abs ((u *ℤ pos d +ℤ x *ℤ pos n) *ℤ pos d' -ℤ (u *ℤ pos d' +ℤ x *ℤ pos n') *ℤ pos d) ≡ nat_abs x * gap n d n' d'
apart u x n d n' d' =
    ap nat_abs (ring 6 (λ u x n d n' d'. (u ⊗ d ⊕ x ⊗ n) ⊗ d' ⊖ (u ⊗ d' ⊕ x ⊗ n') ⊗ d ≔ x ⊗ (n ⊗ d' ⊖ n' ⊗ d)) tt
    u x (pos n) (pos d) (pos n') (pos d'))
    ∙ nat_abs_mul x (pos n *ℤ pos d' -ℤ pos n' *ℤ pos d)

module _ (ray : Ray) (p : Node) where
  abbrev r : ℕ
  r = radius p

  scaled : (n d k : ℕ) → pos (squared_distance ray p n d * (k * k))
      ≡ square3 ((from_centre ray p n d).x *ℤ pos k) ((from_centre ray p n d).y *ℤ pos k) ((from_centre ray p n d).z *ℤ pos k)
  scaled n d k =
      ap (λ (z : ℤ). z *ℤ (pos k *ℤ pos k)) (squared_sum ray p n d)
      ∙ ring 4 (λ f g h k. (f ⊗ f ⊕ g ⊗ g ⊕ h ⊗ h) ⊗ (k ⊗ k) ≔ f ⊗ k ⊗ (f ⊗ k) ⊕ g ⊗ k ⊗ (g ⊗ k) ⊕ h ⊗ k ⊗ (h ⊗ k)) tt
      (from_centre ray p n d).x (from_centre ray p n d).y (from_centre ray p n d).z (pos k)

  lengths : (n d n' d' : ℕ) → pos (extent ray * gap n d n' d')
      ≡ size3 ((from_centre ray p n d).x *ℤ pos d' -ℤ (from_centre ray p n' d').x *ℤ pos d)
      ((from_centre ray p n d).y *ℤ pos d' -ℤ (from_centre ray p n' d').y *ℤ pos d)
      ((from_centre ray p n d).z *ℤ pos d' -ℤ (from_centre ray p n' d').z *ℤ pos d)
  lengths n d n' d' =
      let u = to_start ray p in
      let v = direction ray in
      ring 4 (λ f g h k. (f ⊕ g ⊕ h) ⊗ k ≔ f ⊗ k ⊕ g ⊗ k ⊕ h ⊗ k) tt
      (pos (nat_abs v.x)) (pos (nat_abs v.y)) (pos (nat_abs v.z)) (pos (gap n d n' d'))
      ∙ ap pos (ap₂ (λ (s t : ℕ). s + t)
      (ap₂ (λ (s t : ℕ). s + t) (sym (apart u.x v.x n d n' d')) (sym (apart u.y v.y n d n' d'))) (sym (apart u.z v.z n d n' d')))

  nums : (n d n' d' : ℕ) → u_num ray p n d * (d' * d') ≤ u_num ray p n' d' * (d * d) + 2 * (r * d * d') * (extent ray * gap n d n' d')
  nums n d n' d' =
      subst (λ (k : ℕ). k ≤ u_num ray p n' d' * (d * d) + 2 * R * (extent ray * gap n d n' d'))
      (sym (clear d d' (squared_distance ray p n d) one))
      (subst (λ (k : ℕ). (R * R - squared_distance ray p n d * (d' * d')) ≤ k + 2 * R * (extent ray * gap n d n' d'))
      (sym (clear d' d (squared_distance ray p n' d') two))
      (lipschitz R (squared_distance ray p n d * (d' * d')) (squared_distance ray p n' d' * (d * d)) (extent ray * gap n d n' d')
      ((from_centre ray p n d).x *ℤ pos d') ((from_centre ray p n d).y *ℤ pos d') ((from_centre ray p n d).z *ℤ pos d')
      ((from_centre ray p n' d').x *ℤ pos d) ((from_centre ray p n' d').y *ℤ pos d) ((from_centre ray p n' d').z *ℤ pos d)
      (scaled n d d') (scaled n' d' d) (lengths n d n' d')))
    where
      R : ℕ
      R = r * d * d'

      one : r * r * (d * d) * (d' * d') ≡ R * R
      one = pos_inj (ring 3 (λ r d d'. r ⊗ r ⊗ (d ⊗ d) ⊗ (d' ⊗ d') ≔ r ⊗ d ⊗ d' ⊗ (r ⊗ d ⊗ d')) tt (pos r) (pos d) (pos d'))

      two : r * r * (d' * d') * (d * d) ≡ R * R
      two = pos_inj (ring 3 (λ r d d'. r ⊗ r ⊗ (d' ⊗ d') ⊗ (d ⊗ d) ≔ r ⊗ d ⊗ d' ⊗ (r ⊗ d ⊗ d')) tt (pos r) (pos d) (pos d'))

      clear : (d d' D : ℕ) → r * r * (d * d) * (d' * d') ≡ R * R → (r * r * (d * d) - D) * (d' * d') ≡ R * R - D * (d' * d')
      clear d d' D h = sub-mul (r * r * (d * d)) D (d' * d') ∙ ap (λ (k : ℕ). k - D * (d' * d')) h

-- ---- the arithmetic: X and Y are the numerators of u at d and d', h and l the two q
core : (h l T r d d' X Y S W k : ℕ) → 0 < r → 0 < d → 0 < d'
    → X * (d' * d') ≤ Y * (d * d) + 2 * (r * d * d') * (S * k)
    → T * k ≤ W * (d * d')
    → h * (r * r * (d * d)) ≤ 65536 * X + r * r * (d * d)
    → 65536 * Y ≤ l * (r * r * (d' * d')) + r * r * (d' * d')
    → h * (T * r) ≤ l * (T * r) + (131072 * (S * W) + 2 * (T * r))
core h l T r d d' X Y S W k hr hd hd' A B C D =
    pos_reflect (mul_cancel_le {c = pos (r * (d * d) * (d' * d'))} (pos_mono_lt (mul-pos (mul-pos hr (mul-pos hd hd)) (mul-pos hd' hd')))
    (le 11 (λ h l T r d d' X Y S W k. h ⊗ (T ⊗ r) ⊗ (r ⊗ (d ⊗ d) ⊗ (d' ⊗ d'))
    ≦ (l ⊗ (T ⊗ r) ⊕ (# 131072 ⊗ (S ⊗ W) ⊕ # 2 ⊗ (T ⊗ r))) ⊗ (r ⊗ (d ⊗ d) ⊗ (d' ⊗ d'))
    by T ⊗ (d' ⊗ d') ⊗ (# 65536 ⊗ X ⊕ r ⊗ r ⊗ (d ⊗ d) ⊖ h ⊗ (r ⊗ r ⊗ (d ⊗ d)))
    ⊕ T ⊗ (d ⊗ d) ⊗ (l ⊗ (r ⊗ r ⊗ (d' ⊗ d')) ⊕ r ⊗ r ⊗ (d' ⊗ d') ⊖ # 65536 ⊗ Y)
    ⊕ # 65536 ⊗ T ⊗ (Y ⊗ (d ⊗ d) ⊕ # 2 ⊗ (r ⊗ d ⊗ d') ⊗ (S ⊗ k) ⊖ X ⊗ (d' ⊗ d'))
    ⊕ # 131072 ⊗ (r ⊗ d ⊗ d') ⊗ S ⊗ (W ⊗ (d ⊗ d') ⊖ T ⊗ k)) tt
    (pos h) (pos l) (pos T) (pos r) (pos d) (pos d') (pos X) (pos Y) (pos S) (pos W) (pos k)
    (nn_add (nn_add (nn_add
    (nn_mul (nn_pos (T * (d' * d'))) (sub_nn (pos_mono C)))
    (nn_mul (nn_pos (T * (d * d))) (sub_nn (pos_mono D))))
    (nn_mul (nn_pos (65536 * T)) (sub_nn (pos_mono A))))
    (nn_mul (nn_pos (131072 * (r * d * d') * S)) (sub_nn (pos_mono B))))))

module _ (ray : Ray) (p : Node) (s : Span) (hr : 1 ≤ radius p) (o : Ordered s) where
  abbrev low : ℕ
  low = qlo (ray_square ray) (prepare ray p) s

  abbrev high : ℕ
  high = qhi (ray_square ray) (prepare ray p) s

  apart_q : high * (s.ticks * radius p) ≤ low * (s.ticks * radius p) + (131072 * (extent ray * (s.to - s.from)) + 2 * (s.ticks * radius p))
  apart_q =
      let f = extremes ray p s hr o in
      let g = f.greatest in
      let l = f.least in
      let G : ℕ = u_den p g.m in
      let L : ℕ = u_den p l.m in
      let X : ℕ = u_num ray p g.n g.m in
      let Y : ℕ = u_num ray p l.n l.m in
      core high low s.ticks (radius p) g.m l.m X Y (extent ray) (s.to - s.from)
      (gap g.n g.m l.n l.m) hr g.proper l.proper
      (nums ray p g.n g.m l.n l.m)
      (gap_le o g l)
      (subst (λ (k : ℕ). k * G ≤ 65536 * X + G) (sym f.high_is) (ceil_within (65536 * X) G))
      (subst (λ (k : ℕ). 65536 * Y ≤ k * L + L) (sym f.low_is) (floor_within (65536 * Y) L (den_pos hr f l)))

  pub width : (high - low) * (s.ticks * radius p) ≤ 131072 * (extent ray * (s.to - s.from)) + 2 * (s.ticks * radius p)
  width = monus_mul-le high low (s.ticks * radius p) _ apart_q
    where
      monus_mul-le : (h l k n : ℕ) → h * k ≤ l * k + n → (h - l) * k ≤ n
      monus_mul-le h l k n e = subst (λ (z : ℕ). z ≤ n) (sym (sub-mul h l k)) (omega arith)

pub tick_ordered : (t : ℕ) {T : ℕ} → 1 ≤ T → Ordered (tick t T)
tick_ordered t h = record { ticks_low = h; order = omega arith }

pub tick_width : (ray : Ray) (p : Node) (t T : ℕ) → 1 ≤ radius p → 1 ≤ T
    → (qhi (ray_square ray) (prepare ray p) (tick t T) - qlo (ray_square ray) (prepare ray p) (tick t T)) * (T * radius p)
    ≤ 131072 * extent ray + 2 * (T * radius p)
tick_width ray p t T hr hT =
    subst (λ (k : ℕ). (qhi (ray_square ray) (prepare ray p) (tick t T) - qlo (ray_square ray) (prepare ray p) (tick t T)) * (T * radius p)
    ≤ 131072 * k + 2 * (T * radius p))
    (rw (one t) (mul-one (extent ray))) (width ray p (tick t T) hr (tick_ordered t hT))
  where
    one : (t : ℕ) → t + 1 - t ≡ 1
    one t = omega arith

pub place_width : (ray : Ray) (p : Node) → 1 ≤ radius p → {s : Span} → Ordered s → s.from ≡ s.to
    → (qhi (ray_square ray) (prepare ray p) s - qlo (ray_square ray) (prepare ray p) s) * (s.ticks * radius p) ≤ 131072 * 0 + 2 * (s.ticks * radius p)
place_width ray p hr {s} o one =
    subst (λ (k : ℕ). (qhi (ray_square ray) (prepare ray p) s - qlo (ray_square ray) (prepare ray p) s) * (s.ticks * radius p)
    ≤ 131072 * k + 2 * (s.ticks * radius p))
    (ap (λ (k : ℕ). extent ray * k) none ∙ mul-zero (extent ray)) (width ray p s hr o)
  where
    none : s.to - s.from ≡ 0
    none = omega (arith, one)
