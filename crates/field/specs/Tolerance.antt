-- How far the exact field may be from the iso-value in a crossing tick (demand 3): "the sum, over the tree's points, of the size of the weight times
-- (S/(256 r) + 1/16384)", of 1,024 ticks; of degree 6 it "uses 3S/(512 r) + 7/65536 in each term" (document 02, P9). With T ticks the first term
-- is 4 S/(T r), or 6 S/(T r).
use Rattle.std.specs.Prelude.{List, [], ◌∷◌, cond, ℕ, ◌*◌, eqb, pos, nat_abs}
use Rattle.exact.specs.Fraction.{Fraction, ◌over◌, plus, times}
use Rattle.record.specs.declared.Node.{Node}
use Rattle.part.specs.declared.Summary.{Summary}
use Rattle.field.specs.Vectors.{Ray}
use Rattle.field.specs.Ray.{radius, extent}
use Rattle.field.specs.Kernel.{Kernel}
use Rattle.field.specs.Tree.{Item, point, operator, items}
use Rattle.field.specs.Solid.{Solid}

-- one point's part: the size of the weight times (slope S/(T r) + slack)
unfoldable pub demanded_of : Kernel → Ray → ℕ → Node → Fraction
demanded_of k ray T p = times (pos (nat_abs p.weight)) (plus (pos (k.slope * extent ray) over (T * radius p)) k.slack)

-- the same with the documents' own figures, of 1,024 ticks: "the size of the weight times (S/(256 r) + 1/16384)", and for a file of version 2 the
-- size of the weight times (3S/(512 r) + 7/65536)
unfoldable pub demanded_in1024 : Summary → Ray → Node → Fraction
demanded_in1024 part ray p =
    times (pos (nat_abs p.weight))
    (cond (eqb part.version 2)
    (plus (pos (3 * extent ray) over (512 * radius p)) (pos 7 over 65536))
    (plus (pos (extent ray) over (256 * radius p)) (pos 1 over 16384)))

-- f added over the points
unfoldable pub sum_over : (Node → Fraction) → List (Item Node) → Fraction
sum_over f [] = pos 0 over 1
sum_over f (point p ∷ later) = plus (f p) (sum_over f later)
sum_over f (operator o ∷ later) = sum_over f later

-- "the sum, over the tree's points"
unfoldable pub demanded : Solid → Ray → ℕ → Fraction
demanded solid ray T = sum_over (demanded_of solid.kernel ray T) (items solid.nodes)

-- what is left of it with S equal to 0, for rounding alone: the size of the weight times slack, 1/16384 in degree 4 and 7/65536
-- in degree 6, over the tree's points
unfoldable pub rounding_of : Kernel → Node → Fraction
rounding_of k p = times (pos (nat_abs p.weight)) k.slack

unfoldable pub rounding : Solid → Fraction
rounding solid = sum_over (rounding_of solid.kernel) (items solid.nodes)
