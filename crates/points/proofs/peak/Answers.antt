-- `peak`: where the foot is inside the ray, a is positive and may be divided by.
use mathlib.Core.Path.{◌≡◌, sym, ap, subst, ◌∙◌}
use mathlib.Core.Bool.{Bool, true}
use Prim.Native.Nat.{ℕ, ◌^◌, ◌≤◌, ◌<◌}
use native.Mathlib.Nat.{le_trans, le_of_eq, mul-le-mul, mul-pos}
use lib.IntN.{ℤ, pos, nat_abs}
use mir.Syntax.{w64}
use mir.Val.{SFits}
use mir.Facts.{to_z-of_z}
use Rattle.exact.proofs.Tests.{positive_small}
use Rattle.exact.proofs.Machine.{back, fit_u, from_u}
use Rattle.field.specs.declared.Prepared.{Prepared}
use Rattle.field.specs.Ray.{whole_ray}
use Rattle.field.specs.Bounds.{foot_inside, foot_distance, scaled_square}
use Rattle.field.proofs.Quotients.{foot_positive, high_q_le}
use Rattle.points.specs.Ranges.{PreparedRanges}
use Rattle.points.specs.Peak.{peak_of}
use Rattle.points.proofs.peak.Goals as goal

module _ {a : ℤ} (p : Prepared) (f : SFits w64 a) where
  inside : {b t : Bool} → b ≡ foot_inside (back w64 a) p whole_ray → b ≡ t → foot_inside a p whole_ray ≡ t
  inside {t = t} e h = subst (λ (z : ℤ). foot_inside z p whole_ray ≡ t) (to_z-of_z f) (sym e ∙ h)

  -- r² a
  radius_is : {n : ℕ} → n ≡ scaled_square p (nat_abs (back w64 a)) → n ≡ scaled_square p (nat_abs a)
  radius_is e = rw (to_z-of_z f) at e

  distance_is : {n : ℕ} → n ≡ foot_distance (back w64 a) p → n ≡ foot_distance a p
  distance_is e = rw (to_z-of_z f) at e

radius_ranges : {a : ℤ} {p : Prepared} {n : ℕ} → PreparedRanges a p → foot_inside a p whole_ray ≡ true → n ≡ scaled_square p (nat_abs a)
    → (0 < n) × (n ≤ 2 ^ 46)
radius_ranges r e is =
    let square = positive_small r.square_low r.square_high in
    rw is (mul-pos square.0 (foot_positive _ _ _ e), mul-le-mul square.1.abs r.a_small.abs)

pub high_q-requires : goal.high_q-requires
high_q-requires c =
    let f = c.ranges.a in
    radius_ranges c.requires (inside c.args.p f c.foot_inside.ensures c.if-foot_inside.true) (radius_is c.args.p f c.foot_radius.ensures)

quotient_le : (c : goal.After-high_q) → c.high_q.result ≤ 65536
quotient_le c =
    let f = c.ranges.a in
    let k = radius_ranges c.requires (inside c.args.p f c.foot_inside.ensures c.if-foot_inside.true) (radius_is c.args.p f c.foot_radius.ensures) in
    le_trans (le_of_eq c.high_q.ensures) (high_q_le _ _ k.0)

pub overflow_cast-result : goal.overflow_cast-result
overflow_cast-result c = fit_u (quotient_le c) tt

pub returns-then-foot_inside : goal.returns-then-foot_inside
unfolding peak_of
returns-then-foot_inside c =
    let f = c.ranges.a in
    rw (inside c.args.p f c.foot_inside.ensures c.if-foot_inside.true)
    ((from_u {w = w64} (quotient_le c) tt).is
    ∙ ap pos (rw (radius_is c.args.p f c.foot_radius.ensures, distance_is c.args.p f c.foot_distance.ensures) at c.high_q.ensures))

pub returns-else-foot_inside : goal.returns-else-foot_inside
unfolding peak_of
returns-else-foot_inside c = rw (inside c.args.p c.ranges.a c.foot_inside.ensures c.if-foot_inside.false)
