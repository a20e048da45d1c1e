-- Theorem 3. At every place of a span, low ≤ 2³² × the exact field ≤ high, for every tree: `enclosure`. Shown once for every operator.
use lib.IntN.{pos}
use lib.Signed.{◌≤ℤ◌}
use Rattle.exact.specs.Fraction.{◌over◌}
use Rattle.record.specs.Ranges.{PointRanges}
use Rattle.field.specs.Vectors.{Ray}
use Rattle.field.specs.declared.Span.{Span}
use Rattle.field.specs.Ray.{Ordered, Place}
use Rattle.field.specs.Tree.{items}
use Rattle.field.specs.Solid.{Solid, Valid}
use Rattle.field.specs.Field.{exactly, field_at}
use Rattle.field.specs.Bounds.{bounding_on, no_bounds, tree_bounds, Encloses}
use Rattle.field.proofs.Tree.{value_related, tree_items}
use Rattle.field.proofs.Distances.{radius-pos}
use Rattle.field.proofs.Nearest.{first}
use Rattle.field.proofs.Points.{point_encloses}
use Rattle.field.proofs.States.{ends_ordered}
use Rattle.field.proofs.Operators.{join_encloses}

module _ (solid : Solid) (valid : Valid solid) (ray : Ray) {s : Span} (o : Ordered s) where
  pub enclosure : (x : Place s) → Encloses (tree_bounds solid ray s) (field_at solid ray x.n x.m)
  unfolding tree_bounds field_at
  enclosure x =
      value_related (bounding_on solid ray s) (exactly solid ray x.n x.m) Encloses PointRanges
      (λ p h. point_encloses solid.kernel valid.lawful ray p (radius-pos h) o x) (join_encloses solid.iso)
      (items solid.nodes) no_bounds (pos 0 over 1) (tree_items solid.nodes valid.tree)

  -- so the two are in order
  pub low_le_high : (tree_bounds solid ray s).low ≤ℤ (tree_bounds solid ray s).high
  low_le_high = ends_ordered (enclosure (first o))
