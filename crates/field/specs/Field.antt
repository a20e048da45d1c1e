-- The exact field (document 01; document 02, P1): "The exact field at a place is the tree's value there, without rounding and without bounds."
use Rattle.std.specs.Prelude.{ℕ, ◌*◌, pos}
use Rattle.exact.specs.Fraction.{Fraction, ◌over◌, plus, less, greater, lesser}
use Rattle.record.specs.declared.Node.{Node}
use Rattle.field.specs.Vectors.{Ray}
use Rattle.field.specs.Kernel.{point_at}
use Rattle.field.specs.Tree.{Operator, Algebra, items, tree_value}
use Rattle.field.specs.Solid.{Solid}

-- "twice the iso-value minus" x
abbrev pub complement : ℕ → Fraction → Fraction
complement iso x = less (pos (2 * iso)) x

-- what an operator makes of the earlier and the later value, in a solid of this iso-value; "Cut is the lesser of the earlier field and twice the
-- iso-value minus the later field"
unfoldable pub join_fractions : ℕ → Operator → Fraction → Fraction → Fraction
join_fractions iso Operator.sum x y = plus x y
join_fractions iso Operator.greater x y = greater x y
join_fractions iso Operator.lesser x y = lesser x y
join_fractions iso Operator.cut x y = lesser x (complement iso y)

abbrev pub exactly : Solid → Ray → ℕ → ℕ → Algebra Node Fraction
exactly solid ray n m = record { value = point_at solid.kernel ray n m; join = join_fractions solid.iso }

-- at the place n/m of a ray
unfoldable pub field_at : Solid → Ray → ℕ → ℕ → Fraction
field_at solid ray n m = tree_value (exactly solid ray n m) (pos 0 over 1) (items solid.nodes)
