-- `reaches`: where the ray's whole line is farther than the radius, by the law `line_far`; else the tests are the definition's.
use mathlib.Core.Path.{◌≡◌, sym}
use mathlib.Core.Bool.{Bool}
use Prim.Native.Nat.{ℕ}
use lib.IntN.{ℤ, nat_abs}
use native.Mathlib.Omega.{arith}
use mir.Syntax.{w64}
use mir.Val.{SFits}
use mir.Facts.{to_z-of_z}
use Rattle.exact.proofs.Machine.{back}
use Rattle.exact.proofs.Tests.{positive_small}
use Rattle.field.specs.declared.Prepared.{Prepared}
use Rattle.field.specs.declared.Span.{Span}
use Rattle.field.specs.Bounds.{foot_inside, foot_distance, scaled_square}
use Rattle.field.specs.Reach.{nearer_at, reaches}
use Rattle.field.proofs.Reach.{line_far}
use Rattle.points.proofs.reaches.Goals as goal

-- the results of the calls are those of a itself, which is read from the parameter
module _ {a : ℤ} (p : Prepared) (f : SFits w64 a) where
  distance : {n : ℕ} → n ≡ foot_distance (back w64 a) p → n ≡ foot_distance a p
  distance e = rw (to_z-of_z f) at e

  radius : {n : ℕ} → n ≡ scaled_square p (nat_abs (back w64 a)) → n ≡ scaled_square p (nat_abs a)
  radius e = rw (to_z-of_z f) at e

  inside : (s : Span) {b : Bool} → b ≡ foot_inside (back w64 a) p s → b ≡ foot_inside a p s
  inside s e = rw (to_z-of_z f) at e

  nearer : (t ticks : ℕ) {b : Bool} → b ≡ nearer_at (back w64 a) p t ticks → b ≡ nearer_at a p t ticks
  nearer t ticks e = rw (to_z-of_z f) at e

pub returns-then-radius-distance : goal.returns-then-radius-distance
returns-then-radius-distance c =
    let f = c.ranges.a in
    let r = c.requires.prepared_ranges in
    sym (line_far _ _ _ (positive_small r.square_low r.square_high).0 c.requires.span_ranges.ticks_low r.nonneg
    (omega (arith, c.if-radius-distance.true, distance c.args.p f c.foot_distance-distance.ensures, radius c.args.p f c.foot_radius-radius.ensures)))

pub returns-then-foot_inside : goal.returns-then-foot_inside
unfolding reaches
returns-then-foot_inside c =
    let f = c.ranges.a in
    rw (
      ← inside c.args.p f _ c.foot_inside.ensures,
      c.if-foot_inside.true,
      distance c.args.p f c.foot_distance-distance.ensures,
      radius c.args.p f c.foot_radius-radius.ensures,
    )

pub returns-then-nearer_at : goal.returns-then-nearer_at
unfolding reaches
returns-then-nearer_at c =
    let f = c.ranges.a in
    rw (← inside c.args.p f _ c.foot_inside.ensures, c.if-foot_inside.false, ← nearer c.args.p f _ _ c.nearer_at.ensures, c.if-nearer_at.true)

pub returns-else-nearer_at : goal.returns-else-nearer_at
unfolding reaches
returns-else-nearer_at c =
    let f = c.ranges.a in
    rw (← inside c.args.p f _ c.foot_inside.ensures, c.if-foot_inside.false, ← nearer c.args.p f _ _ c.nearer_at.ensures, c.if-nearer_at.false)
    (nearer c.args.p f _ _ c.nearer_at-else-nearer_at.ensures)
