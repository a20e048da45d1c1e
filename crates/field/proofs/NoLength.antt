-- A ray whose ends coincide (document 02, P8): "every tick is the one place". Its a and its m are 0, so at each of its places the squared distance
-- from a centre is the place's own (`one_place`), and no foot is strictly inside a span of it. So whatever the span, a point's two q are
-- 65536 × (1 − d²/r²) at the place, rounded down and up (`place_q`), and the tree's bounds are the place's own (`place_bounds_lem`). With S equal to
-- 0 what demand 3 allows is for rounding alone (`demanded_place`), and demand 3 holds with that (`marks_place`).
use mathlib.Core.Path.{◌≡◌, refl, sym, ap, ap₂, ◌∙◌}
use mathlib.Core.Bool.{Bool, true, false}
use Prim.Native.Nat.{ℕ, ◌*◌, ◌-◌, ◌≤◌, ◌<◌, min, max}
use native.Mathlib.Nat.{le_antisymm, le_of_eq, mul_assoc, mul_right_comm, mul-one, mul-zero, mul-pos, max-eq_left, min-eq_left, le_refl}
use native.Mathlib.Omega.{arith}
use lib.IntN.{ℤ, pos, nat_abs, ◌+ℤ◌, ◌*ℤ◌}
use Rattle.exact.specs.Distance.{dist}
use Rattle.exact.specs.Fraction.{plus}
use Rattle.exact.proofs.Ring.{◌⊕◌, ◌⊖◌, ◌⊗◌, #, ◌≔◌, ring}
use Rattle.exact.proofs.Order.{≤ℤ_of_eq}
use Rattle.exact.proofs.Absolute.{nat_abs_mul}
use Rattle.exact.proofs.Naturals.{sub-mul}
use Rattle.exact.proofs.Rounding.{floor_mono, ceil_mono}
use Rattle.exact.proofs.Certificates.{sub_zz}
use Rattle.record.specs.declared.Node.{Node}
use Rattle.record.specs.Ranges.{PointRanges}
use Rattle.field.specs.Vectors.{Position}
use Rattle.field.specs.Vectors.{Ray}
use Rattle.field.specs.declared.Span.{Span}
use Rattle.field.specs.declared.Bounds.{Bounds}
use Rattle.field.specs.Ray.{radius, extent, squared_distance, tick, Place, constant_ray, at_start}
use Rattle.field.specs.Kernel.{Kernel}
use Rattle.field.specs.Lawful.{Lawful}
use Rattle.field.specs.Tree.{items}
use Rattle.field.specs.Solid.{Solid, Valid}
use Rattle.field.specs.Bounds.{ray_square, prepare, distance_at, foot_inside, low_q, high_q, qlo, qhi, point_bounds}
use Rattle.field.specs.Bounds.{join_bounds, bounding_on, no_bounds, tree_bounds}
use Rattle.field.specs.Field.{field_at}
use Rattle.field.specs.Marks.{mark_of, SoundMark}
use Rattle.field.specs.Tolerance.{demanded_of, demanded, rounding_of, rounding}
use Rattle.field.proofs.Tree.{value_related, tree_items}
use Rattle.field.proofs.Distances.{radius-pos, distance_is}
use Rattle.field.proofs.Quotients.{foot_positive}
use Rattle.field.proofs.Demanded.{Same, sum_same}
use Rattle.field.proofs.Marks.{sound_same, marks}

-- ---- both q by the same multiples of r² and d²

module _ (s d k : ℕ) (hs : 0 < s) (hk : 0 < k) where
  -- the two differences over their squares are one fraction
  crossed : (s * k - d * k) * s ≡ (s - d) * (s * k)
  crossed = rw (sym (sub-mul s d k)) (mul_right_comm (s - d) k s ∙ mul_assoc (s - d) s k)

  pub low_q_scaled : low_q (s * k) (d * k) ≡ low_q s d
  unfolding low_q
  low_q_scaled =
      le_antisymm (floor_mono 65536 (s * k - d * k) (s * k) (s - d) s (mul-pos hs hk) hs (le_of_eq crossed))
      (floor_mono 65536 (s - d) s (s * k - d * k) (s * k) hs (mul-pos hs hk) (le_of_eq (sym crossed)))

  pub high_q_scaled : high_q (s * k) (d * k) ≡ high_q s d
  unfolding high_q
  high_q_scaled =
      le_antisymm (ceil_mono 65536 (s * k - d * k) (s * k) (s - d) s (mul-pos hs hk) hs (le_of_eq crossed))
      (ceil_mono 65536 (s - d) s (s * k - d * k) (s * k) hs (mul-pos hs hk) (le_of_eq (sym crossed)))

module _ (p : Position) where
  abbrev ray : Ray
  ray = constant_ray p

  -- "a is |B−A|²"
  no_square : ray_square ray ≡ pos 0
  unfolding ray_square
  no_square =
      ring 3 (λ x y z. (x ⊖ x) ⊗ (x ⊖ x) ⊕ (y ⊖ y) ⊗ (y ⊖ y) ⊕ (z ⊖ z) ⊗ (z ⊖ z) ≔ # 0) tt p.x p.y p.z

  -- S
  no_extent : extent ray ≡ 0
  no_extent = rw (sub_zz {a = p.x} refl, sub_zz {a = p.y} refl, sub_zz {a = p.z} refl)

  no_foot : (c : Node) (s : Span) → foot_inside (ray_square ray) (prepare ray c) s ≡ false
  no_foot c s = go (foot_inside (ray_square ray) (prepare ray c) s) refl
    where
      go : (b : Bool) → foot_inside (ray_square ray) (prepare ray c) s ≡ b → b ≡ false
      go true e =
          let l : 0 < nat_abs (ray_square ray) = foot_positive (ray_square ray) (prepare ray c) s e in
          absurd (omega (arith, l, ap nat_abs no_square))
      go false e = refl

  -- ---- a point

  module _ (c : Node) where
    -- |A−c|²
    abbrev e : ℤ
    e = (prepare ray c).e

    no_product : (prepare ray c).m ≡ pos 0
    unfolding prepare
    no_product =
        ring 6 (λ x y z u v w. (x ⊖ u) ⊗ (x ⊖ x) ⊕ (y ⊖ v) ⊗ (y ⊖ y) ⊕ (z ⊖ w) ⊗ (z ⊖ z) ≔ # 0) tt p.x p.y p.z c.x c.y c.z

    distance : (n m : ℕ) → distance_at (ray_square ray) (prepare ray c) n m ≡ nat_abs e * (m * m)
    unfolding distance_at
    distance n m =
        ap₂ (λ (k a : ℤ). nat_abs (dist e k a (pos n) (pos m))) no_product no_square
        ∙ ap nat_abs (ring 3 (λ e n m. e ⊗ m ⊗ m ⊕ # 2 ⊗ # 0 ⊗ n ⊗ m ⊕ # 0 ⊗ n ⊗ n ≔ e ⊗ (m ⊗ m)) tt e (pos n) (pos m))
        ∙ nat_abs_mul e (pos (m * m))

    -- each place n/m of the ray is as far from a centre as the place itself: d² m²
    pub one_place : (n m : ℕ) → squared_distance ray c n m ≡ squared_distance ray c 0 1 * (m * m)
    one_place n m =
        sym (distance_is ray c n m)
        ∙ distance n m
        ∙ ap (λ (d : ℕ). d * (m * m)) (sym (mul-one (nat_abs e)) ∙ sym (distance 0 1) ∙ distance_is ray c 0 1)

    pub place_q : 1 ≤ radius c → (s : Span) → 1 ≤ s.ticks
        → (qlo (ray_square ray) (prepare ray c) s ≡ low_q (radius c * radius c) (nat_abs e))
        × (qhi (ray_square ray) (prepare ray c) s ≡ high_q (radius c * radius c) (nat_abs e))
    unfolding qlo qhi prepare
    place_q hr s hT =
        let k = s.ticks * s.ticks in
        let square = radius c * radius c in
        let from = distance s.from s.ticks in
        let to = distance s.to s.ticks in
        let same = le_refl (nat_abs e * k) in (
          ap₂ (λ (d d' : ℕ). low_q (square * k) (max d d')) from to
              ∙ ap (low_q (square * k)) (max-eq_left same)
              ∙ low_q_scaled square (nat_abs e) k (mul-pos hr hr) (mul-pos hT hT),
          rw (no_foot c s)
              (ap₂ (λ (d d' : ℕ). high_q (square * k) (min d d')) from to
              ∙ ap (high_q (square * k)) (min-eq_left same)
              ∙ high_q_scaled square (nat_abs e) k (mul-pos hr hr) (mul-pos hT hT)),
        )

  -- ---- a tree

  pub place_bounds_lem : (solid : Solid) → Valid solid → (s : Span) → 1 ≤ s.ticks → tree_bounds solid ray s ≡ tree_bounds solid ray at_start
  unfolding tree_bounds point_bounds
  place_bounds_lem solid valid s hT =
      value_related (bounding_on solid ray s) (bounding_on solid ray at_start) (λ (b b' : Bounds). b ≡ b') PointRanges
      (λ c h.
      let q = place_q c (radius-pos h) s hT in
      let q' = place_q c (radius-pos h) at_start (omega arith) in
      rw (q.0, q.1, q'.0, q'.1))
      (λ o x y x' y' f g. ap₂ (join_bounds solid.iso o) f g)
      (items solid.nodes) no_bounds no_bounds (tree_items solid.nodes valid.tree)

  -- ---- what demand 3 allows

  crossed_slack : (w n t d : ℤ) → w *ℤ (pos 0 *ℤ d +ℤ n *ℤ t) *ℤ d ≡ w *ℤ n *ℤ (t *ℤ d)
  crossed_slack = ring 4 (λ w n t d. w ⊗ (# 0 ⊗ d ⊕ n ⊗ t) ⊗ d ≔ w ⊗ n ⊗ (t ⊗ d)) tt

  point_slack : (k : Kernel) → Lawful k → (T : ℕ) (c : Node) → Same (demanded_of k ray T c) (rounding_of k c)
  unfolding demanded_of rounding_of plus
  point_slack k lawful T c =
      let w = pos (nat_abs c.weight) in
      let slack = k.slack in
      let none : k.slope * extent ray ≡ 0 = ap (λ (n : ℕ). k.slope * n) no_extent ∙ mul-zero k.slope in
      let e = ap (λ (n : ℕ). w *ℤ (pos n *ℤ pos slack.den +ℤ slack.num *ℤ pos (T * radius c)) *ℤ pos slack.den) none
      ∙ crossed_slack w slack.num (pos (T * radius c)) (pos slack.den) in
      record {
        proper = lawful.slack_proper;
        at_most = record { cross = ≤ℤ_of_eq e };
        at_least = record { cross = ≤ℤ_of_eq (sym e) };
      }

  pub demanded_place : (solid : Solid) → Valid solid → (T : ℕ) → Same (demanded solid ray T) (rounding solid)
  unfolding demanded rounding
  demanded_place solid valid T =
      sum_same (demanded_of solid.kernel ray T) (rounding_of solid.kernel) (λ c h. point_slack solid.kernel valid.lawful T c)
      (items solid.nodes) 0 (tree_items solid.nodes valid.tree)

  -- "The accuracy demand holds there with S equal to 0."
  pub marks_place : (solid : Solid) → Valid solid → (t : ℕ) {T : ℕ} → 1 ≤ T → (x : Place (tick t T))
      → SoundMark solid.iso (mark_of solid ray T t) (field_at solid ray x.n x.m) (rounding solid)
  marks_place solid valid t {T} hT x = sound_same (marks solid valid ray t hT x) (demanded_place solid valid T)
