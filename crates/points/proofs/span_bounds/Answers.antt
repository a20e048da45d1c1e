-- `span_bounds`: out of reach, both q are 0 and so are the bounds, of either kernel. As `weigh_sizes` asks, they are at most 65536, of whatever
-- distances.
use mathlib.Core.Path.{◌≡◌, sym, ap, subst, ◌∙◌}
use mathlib.Core.Bool.{Bool, true, false, cond, ◌||◌}
use Prim.Native.Nat.{ℕ, ◌*◌, ◌≤◌, min, max}
use native.Mathlib.Nat.{le_trans, le_of_eq}
use lib.Dec.{ltb}
use lib.IntN.{ℤ, pos, nat_abs}
use lib.Signed.{◌≤ℤ◌}
use mir.Syntax.{w64}
use mir.Val.{SFits}
use mir.Facts.{to_z-of_z}
use Rattle.exact.proofs.Machine.{back, param, sized}
use Rattle.field.specs.declared.Span.{Span}
use Rattle.field.specs.Kernel.{Kernel}
use Rattle.field.specs.Solid.{kernel_of}
use Rattle.field.specs.declared.Bounds.{Bounds}
use Rattle.field.specs.Bounds.{distance_at, foot_inside, low_q, high_q, scaled_square, qlo, qhi, weighted, point_bounds}
use Rattle.field.proofs.Quotients.{low_q_le, high_q_le}
use Rattle.field.proofs.Far.{weighted_none}
use Rattle.field.proofs.Solids.{kernel_lawful}
use Rattle.points.specs.declared.Reached.{Reached}
use Rattle.points.specs.Ranges.{SpanRanges}
use Rattle.points.specs.Peak.{ReachedRanges}
use Rattle.points.proofs.Peaks.{peak_small, far_by, least_by, greatest_by}
use Rattle.points.proofs.span_bounds.Goals as goal

-- the tests' results are those of a itself, which is read from the parameter
module _ {a : ℤ} (p : Reached) (s : Span) (f : SFits w64 a) (r : ReachedRanges a p) (h : SpanRanges s) {whole i j : ℕ} {foot : Bool}
    (whole_is : whole ≡ scaled_square p.point (s.ticks * s.ticks)) (from_is : i ≡ distance_at (back w64 a) p.point s.from s.ticks)
    (to_is : j ≡ distance_at (back w64 a) p.point s.to s.ticks) (foot_is : foot ≡ foot_inside (back w64 a) p.point s) where
  i_is : i ≡ distance_at a p.point s.from s.ticks
  i_is = rw (to_z-of_z f) at from_is

  j_is : j ≡ distance_at a p.point s.to s.ticks
  j_is = rw (to_z-of_z f) at to_is

  f_is : foot ≡ foot_inside a p.point s
  f_is = rw (to_z-of_z f) at foot_is

  -- out of reach, both q of the definition are 0
  far : (foot || (ltb i whole || ltb j whole)) ≡ false → (qlo a p.point s ≡ 0) × (qhi a p.point s ≡ 0)
  far e = far_by a p s r h f_is i_is j_is whole_is e

  low : {m q : ℕ} → m ≡ max i j → q ≡ low_q whole m → q ≡ qlo a p.point s
  low m e = least_by a p s r h f_is i_is j_is whole_is (e ∙ ap (low_q whole) m)

  high : {m q : ℕ} → m ≡ min i j → q ≡ cond foot (nat_abs (back w64 p.peak)) (high_q whole m) → q ≡ qhi a p.point s
  high m e = greatest_by a p s r h f_is i_is j_is whole_is (rw (m, (param {w = w64} (peak_small r).1 tt).is) at e)

weigh_is : (k : Kernel) {r : Bounds} {w w' : ℤ} {x x' y y' : ℕ} → r ≡ weighted w (k.low x) (k.high y) → w ≡ w' → x ≡ x' → y ≡ y'
    → r ≡ weighted w' (k.low x') (k.high y')
weigh_is k e w x y = rw (w, x, y) at e

cond_le : (b : Bool) {x y k : ℕ} → x ≤ k → y ≤ k → cond b x y ≤ k
cond_le true h g = h
cond_le false h g = g

pub returns-else-comes_within : goal.returns-else-comes_within
unfolding point_bounds
returns-else-comes_within c =
    let q = far c.args.p c.args.s c.ranges.a c.requires.reached_ranges c.requires.span_ranges c.scaled_square-whole.ensures.0
    c.distance_at-i.ensures c.distance_at-j.ensures c.foot_inside-foot.ensures (sym c.comes_within.ensures ∙ c.if-comes_within.false) in
    let z = (kernel_lawful c.args.part).none in
    rw (q.0, q.1, z.0, z.1) (sym (weighted_none c.args.p.point.weight))

pub greatest_q-high-requires-clause-pos_bound : goal.greatest_q-high-requires-clause-pos_bound
greatest_q-high-requires-clause-pos_bound c =
    let h = peak_small c.requires.reached_ranges in
    let k = param {w = w64} h.1 tt in
    (subst (λ (z : ℤ). pos 0 ≤ℤ z) (sym k.is) h.0, sized k)

pub weigh_sizes-requires : goal.weigh_sizes-requires
weigh_sizes-requires c =
    let r = c.requires.reached_ranges in
    let h = peak_small r in (
      sized {w = w64} (param r.ranges.weight_small tt),
      le_trans (le_of_eq c.low_q-low.ensures) (low_q_le _ _),
      le_trans (le_of_eq c.greatest_q-high.ensures)
          (cond_le _ (sized (param {w = w64} h.1 tt)).abs (high_q_le _ _ c.scaled_square-whole.ensures.1)),
    )

pub returns-then-comes_within : goal.returns-then-comes_within
unfolding point_bounds
returns-then-comes_within c =
    let r = c.requires.reached_ranges in
    let h = c.requires.span_ranges in
    let l = low c.args.p c.args.s c.ranges.a r h c.scaled_square-whole.ensures.0 c.distance_at-i.ensures c.distance_at-j.ensures
    c.foot_inside-foot.ensures c.max-farther.ensures c.low_q-low.ensures in
    let g = high c.args.p c.args.s c.ranges.a r h c.scaled_square-whole.ensures.0 c.distance_at-i.ensures c.distance_at-j.ensures
    c.foot_inside-foot.ensures c.min-nearer.ensures c.greatest_q-high.ensures in
    weigh_is (kernel_of c.args.part) c.weigh_sizes.ensures (param {w = w64} r.ranges.weight_small tt).is l g
