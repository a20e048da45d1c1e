-- Theorem 4. For one tick, high − low ≤ 2³² × what demand 3 allows, for every tree: `narrow_tick`; at one place, 2³² × the part of it that is for
-- rounding: `narrow_place`. Shown once for every operator, each of which adds.
use mathlib.Core.Path.{◌≡◌}
use Prim.Native.Nat.{ℕ, ◌≤◌}
use lib.IntN.{pos}
use Rattle.exact.specs.Fraction.{Fraction, ◌over◌}
use Rattle.record.specs.declared.Node.{Node}
use Rattle.record.specs.Ranges.{PointRanges}
use Rattle.field.specs.Vectors.{Ray}
use Rattle.field.specs.declared.Span.{Span}
use Rattle.field.specs.Ray.{tick, Ordered}
use Rattle.field.specs.Tree.{items}
use Rattle.field.specs.Solid.{Solid, Valid}
use Rattle.field.specs.Bounds.{ray_square, prepare, point_bounds, bounding_on, no_bounds, tree_bounds, NoWider}
use Rattle.field.specs.Tolerance.{demanded_of, demanded, sum_over, rounding_of, rounding}
use Rattle.field.proofs.Tree.{value_related, tree_items}
use Rattle.field.proofs.Distances.{radius-pos}
use Rattle.field.proofs.Points.{demanded_nn, point_narrow, rounding_nn, place_narrow}
use Rattle.field.proofs.Operators.{Narrow, join_narrow}
use Rattle.field.proofs.Sum.{adding, sum_fold}

module _ (solid : Solid) (valid : Valid solid) (ray : Ray) where
  -- each point's bounds over a span lie no farther apart than f of the point: so the tree's lie no farther apart than these added
  narrow : (s : Span) (f : Node → Fraction)
      → ((p : Node) → PointRanges p → Narrow (point_bounds solid.kernel (ray_square ray) s (prepare ray p)) (f p))
      → NoWider (tree_bounds solid ray s) (sum_over f (items solid.nodes))
  unfolding tree_bounds
  narrow s f points =
      rw (sum_fold f solid.nodes valid.tree)
      (value_related (bounding_on solid ray s) (adding f) Narrow PointRanges points (join_narrow solid.iso)
      (items solid.nodes) no_bounds (pos 0 over 1) (tree_items solid.nodes valid.tree)).no_wider

  pub narrow_tick : (t : ℕ) {T : ℕ} → 1 ≤ T → NoWider (tree_bounds solid ray (tick t T)) (demanded solid ray T)
  unfolding demanded
  narrow_tick t {T} hT =
      let k = solid.kernel in
      let law = valid.lawful in
      narrow (tick t T) (demanded_of k ray T)
      (λ p h. record { no_wider = point_narrow k law ray p (radius-pos h) t hT; nonneg = demanded_nn k law ray p (radius-pos h) T })

  pub narrow_place : {s : Span} → Ordered s → s.from ≡ s.to → NoWider (tree_bounds solid ray s) (rounding solid)
  unfolding rounding
  narrow_place {s} o one =
      let k = solid.kernel in
      let law = valid.lawful in
      narrow s (rounding_of k)
      (λ p h. record { no_wider = place_narrow k law ray p (radius-pos h) o one; nonneg = rounding_nn k law ray p (radius-pos h) })
