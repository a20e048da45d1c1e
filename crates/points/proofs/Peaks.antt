-- The peak of a point on a ray is the q of the foot for each span that has the foot strictly inside (`peak_inside`), since the ray has it inside then
-- too. It is at most 65536 (`peak_le`). What `comes_within` answers of a point that the ray reaches is whether the span comes within its radius
-- (`within_is`). What `span_bounds` makes of its tests are the two q (`far_by`, `least_by`, `greatest_by`).
use mathlib.Core.Path.{◌≡◌, refl, sym, ◌∙◌}
use mathlib.Core.Bool.{Bool, true, false, cond, ◌||◌, true≢false}
use Prim.Native.Nat.{ℕ, ◌*◌, ◌≤◌, ◌<◌, min, max}
use native.Mathlib.Nat.{mul-pos}
use native.Mathlib.Omega.{arith}
use borrow.Author.Tests.{ltb-false}
use lib.Dec.{ltb}
use lib.IntN.{ℤ, pos, nat_abs}
use lib.Signed.{◌≤ℤ◌}
use Rattle.exact.specs.Range.{Small}
use Rattle.exact.proofs.Order.{nn_pos}
use Rattle.exact.proofs.Tests.{positive_small}
use Rattle.field.specs.declared.Prepared.{Prepared}
use Rattle.field.specs.declared.Span.{Span}
use Rattle.field.specs.Ray.{whole_ray, Ordered, Inside}
use Rattle.field.specs.Bounds.{distance_at, foot_inside, foot_distance, low_q, high_q, scaled_square, qlo, qhi}
use Rattle.field.specs.Reach.{foot_nearer, reaches}
use Rattle.field.proofs.Quotients.{foot_positive, low_q_zero, high_q_zero, high_q_le}
use Rattle.field.proofs.Far.{foot_widen}
use Rattle.points.specs.declared.Reached.{Reached}
use Rattle.points.specs.Ranges.{PreparedRanges, SpanRanges}
use Rattle.points.specs.Peak.{foot_q, peak_of, ReachedRanges}

-- ---- a span of the ray

pub span_ordered : {s : Span} → SpanRanges s → Ordered s
span_ordered h = record { ticks_low = h.ticks_low; order = h.order }

pub ray_ordered : Ordered whole_ray
ray_ordered = record { ticks_low = omega arith; order = omega arith }

pub span_inside : {s : Span} → SpanRanges s → Inside s whole_ray
span_inside h = record { from = omega arith; to = omega (arith, h.within) }

-- ---- the peak

module _ {a : ℤ} {p : Prepared} (r : PreparedRanges a p) where
  square_pos : 0 < nat_abs p.square
  square_pos = (positive_small r.square_low r.square_high).0

  foot_le : foot_inside a p whole_ray ≡ true → foot_q a p ≤ 65536
  foot_le e = high_q_le (scaled_square p (nat_abs a)) (foot_distance a p) (mul-pos square_pos (foot_positive a p whole_ray e))

  pub peak_le : peak_of a p ≤ 65536
  unfolding peak_of
  peak_le = by (foot_inside a p whole_ray) refl
    where
      by : (b : Bool) → foot_inside a p whole_ray ≡ b → cond b (foot_q a p) 0 ≤ 65536
      by true e = foot_le e
      by false e = omega arith

  foot_in : {s : Span} → SpanRanges s → foot_inside a p s ≡ true → foot_inside a p whole_ray ≡ true
  foot_in h e = foot_widen a r.nonneg.a_nn p (span_ordered h) ray_ordered (span_inside h) e

  pub peak_inside : {s : Span} → SpanRanges s → foot_inside a p s ≡ true → peak_of a p ≡ foot_q a p
  unfolding peak_of
  peak_inside h e = rw (foot_in h e)

pub peak_small : {a : ℤ} {p : Reached} → ReachedRanges a p → (pos 0 ≤ℤ p.peak) × Small 65536 p.peak
peak_small {a} {p} r = rw r.peak_is (nn_pos (peak_of a p.point), record { abs = peak_le r.ranges })

-- ---- the two q of a span, by its tests

module _ (a : ℤ) (p : Reached) (s : Span) (r : ReachedRanges a p) (h : SpanRanges s) where
  abbrev q : Prepared
  q = p.point

  abbrev whole : ℕ
  whole = scaled_square q (s.ticks * s.ticks)

  abbrev i : ℕ
  i = distance_at a q s.from s.ticks

  abbrev j : ℕ
  j = distance_at a q s.to s.ticks

  whole_pos : 0 < whole
  whole_pos = mul-pos (square_pos r.ranges) (mul-pos h.ticks_low h.ticks_low)

  neither : (x y z : Bool) → (x || (y || z)) ≡ false → (x ≡ false) × (y ≡ false) × (z ≡ false)
  neither true y z e = absurd (true≢false e)
  neither false true z e = absurd (true≢false e)
  neither false false z e = (refl, refl, e)

  -- the span's test, of a point that the whole ray reaches: at the foot the ray's own test has compared
  pub within_is : reaches a q whole_ray ≡ true → (foot_inside a q s || (ltb i whole || ltb j whole)) ≡ reaches a q s
  unfolding reaches
  within_is near = by (foot_inside a q s) refl
    where
      by : (b : Bool) → foot_inside a q s ≡ b → (b || (ltb i whole || ltb j whole)) ≡ cond b (foot_nearer a q) (ltb i whole || ltb j whole)
      by true e = sym (rw (foot_in r.ranges h e) at near)
      by false e = refl

  -- out of reach, both are 0
  far_q : (foot_inside a q s || (ltb i whole || ltb j whole)) ≡ false → (qlo a q s ≡ 0) × (qhi a q s ≡ 0)
  unfolding qlo qhi
  far_q e =
      let n = neither (foot_inside a q s) (ltb i whole) (ltb j whole) e in
      let x = ltb-false i whole n.1 in
      let y = ltb-false j whole n.2 in
      (low_q_zero whole (max i j) (omega (arith, x)), rw n.0 (high_q_zero whole (min i j) whole_pos (omega (arith, x, y))))

  greatest_is : cond (foot_inside a q s) (nat_abs p.peak) (high_q whole (min i j)) ≡ qhi a q s
  unfolding qhi
  greatest_is = by (foot_inside a q s) refl
    where
      by : (b : Bool) → foot_inside a q s ≡ b → cond b (nat_abs p.peak) (high_q whole (min i j)) ≡ cond b (foot_q a q) (high_q whole (min i j))
      by true e = rw r.peak_is (peak_inside r.ranges h e)
      by false e = refl

  -- the same of results that are those numbers
  module _ {f : Bool} {x y z : ℕ} (f-is : f ≡ foot_inside a q s) (x-is : x ≡ i) (y-is : y ≡ j) (z-is : z ≡ whole) where
    pub far_by : (f || (ltb x z || ltb y z)) ≡ false → (qlo a q s ≡ 0) × (qhi a q s ≡ 0)
    far_by e = far_q (rw (f-is, x-is, y-is, z-is) at e)

    pub least_by : {r : ℕ} → r ≡ low_q z (max x y) → r ≡ qlo a q s
    unfolding qlo
    least_by e = rw (x-is, y-is, z-is) at e

    pub greatest_by : {r : ℕ} → r ≡ cond f (nat_abs p.peak) (high_q z (min x y)) → r ≡ qhi a q s
    greatest_by e = (rw (f-is, x-is, y-is, z-is) at e) ∙ greatest_is
