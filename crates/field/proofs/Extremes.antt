-- Theorem 1. Over every place of a span, fractional ones too, a point's u lies between two extremes; both are attained; and qlo and qhi are 65536
-- times them, rounded down and up: `extremes ray p s hr o : Extremes ray p s`. The ray's ends may coincide.
use mathlib.Core.Path.{◌≡◌, sym, ◌∙◌, ap, ap₂}
use mathlib.Core.Bool.{cond}
use Prim.Native.Nat.{ℕ, ◌*◌, ◌≤◌, min, max}
use native.Mathlib.Nat.{mul-pos, mul-le-mul_left, mul_left_comm}
use lib.IntN.{ℤ, pos, nat_abs, ◌-ℤ◌, ◌*ℤ◌}
use Rattle.exact.specs.Distance.{dist}
use Rattle.exact.specs.Fraction.{◌≼◌}
use Rattle.exact.proofs.Order.{pos_mono}
use Rattle.exact.proofs.Naturals.{clamp}
use Rattle.record.specs.declared.Node.{Node}
use Rattle.field.specs.Vectors.{Ray}
use Rattle.field.specs.declared.Span.{Span}
use Rattle.field.specs.Ray.{radius, squared_distance, Ordered, Place}
use Rattle.field.specs.Kernel.{u_num, u}
use Rattle.field.specs.Bounds.{ray_square, prepare, foot_inside, foot_distance, low_q, high_q, qlo, qhi}
use Rattle.field.specs.Extremes.{u_at, Extremes}
use Rattle.field.proofs.Distances.{nonneg, distance_is, square_is, at_is, foot_is}
use Rattle.field.proofs.Nearest.{sq, Farthest, Nearest, farthest, nearest}

module _ (ray : Ray) (p : Node) (s : Span) (hr : 1 ≤ radius p) (o : Ordered s) where
  abbrev R : ℕ
  R = radius p * radius p

  abbrev D : ℕ → ℕ → ℕ
  D n d = squared_distance ray p n d

  abbrev A : ℕ
  A = nat_abs (ray_square ray)

  abbrev N : ℕ
  N = foot_distance (ray_square ray) (prepare ray p)

  D_is : (n d : ℕ) → pos (D n d) ≡ dist (prepare ray p).e (prepare ray p).m (pos A) (pos n) (pos d)
  D_is n d = ap pos (sym (distance_is ray p n d)) ∙ at_is (prepare ray p) (nonneg ray p) n d

  N_is : pos N ≡ (prepare ray p).e *ℤ pos A -ℤ (prepare ray p).m *ℤ (prepare ray p).m
  N_is = foot_is (prepare ray p) (nonneg ray p)

  far : Farthest D s
  far = farthest (prepare ray p) A N D D_is N_is s o

  near : Nearest (prepare ray p) A N D s
  near = nearest (prepare ray p) A N D D_is N_is s o

  -- no farther, no less a u
  u-le : (x y : Place s) → D x.n x.m * sq y ≤ D y.n y.m * sq x → u_at ray p y ≼ u_at ray p x
  unfolding u
  u-le x y h =
      let k = clamp R (sq y) (sq x) (D x.n x.m) (D y.n y.m) h in
      record { cross = pos_mono (scale (u_num ray p y.n y.m) (sq x) (u_num ray p x.n x.m) (sq y) k) }
    where
      scale : (a t b t' : ℕ) → a * t ≤ b * t' → a * (R * t) ≤ b * (R * t')
      scale a t b t' h = rw (mul_left_comm a R t, mul_left_comm b R t') (mul-le-mul_left R h)

  low_q_lem : qlo (ray_square ray) (prepare ray p) s ≡ low_q (R * (s.ticks * s.ticks)) (max (D s.from s.ticks) (D s.to s.ticks))
  unfolding qlo prepare
  low_q_lem =
      ap₂ (λ (x y : ℕ). low_q (R * (s.ticks * s.ticks)) (max x y)) (distance_is ray p s.from s.ticks) (distance_is ray p s.to s.ticks)

  high_q_lem : qhi (ray_square ray) (prepare ray p) s
      ≡ cond (foot_inside (pos A) (prepare ray p) s) (high_q (R * A) N)
      (high_q (R * (s.ticks * s.ticks)) (min (D s.from s.ticks) (D s.to s.ticks)))
  unfolding qhi prepare
  high_q_lem =
      ap₂ (λ (x y : ℕ). cond (foot_inside (ray_square ray) (prepare ray p) s) (high_q (R * A) N) (high_q (R * (s.ticks * s.ticks)) (min x y)))
      (distance_is ray p s.from s.ticks) (distance_is ray p s.to s.ticks)
      ∙ ap (λ (z : ℤ). cond (foot_inside z (prepare ray p) s) (high_q (R * A) N)
      (high_q (R * (s.ticks * s.ticks)) (min (D s.from s.ticks) (D s.to s.ticks)))) (sym (square_is (prepare ray p) (nonneg ray p)))

  pub extremes : Extremes ray p s
  extremes = record {
    least = far.place;
    greatest = near.place;
    is_least = λ x. u-le x far.place (far.is x);
    is_greatest = λ x. u-le near.place x (near.is x);
    low_is = low_q_lem ∙ far.q_is R;
    high_is = high_q_lem ∙ near.q_is R (mul-pos hr hr);
  }
