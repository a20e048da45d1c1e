-- With 1,024 ticks slope S/(1024 r) is what the documents write: of degree 4 S/(256 r), of degree 6 3S/(512 r). So what is demanded is the documents'
-- own sum (`demanded_1024`): each is at most the other.
use mathlib.Core.Path.{◌≡◌, sym}
use mathlib.Core.List.{List, [], ◌∷◌}
use mathlib.Core.Bool.{Bool, true, false, cond}
use Prim.Native.Nat.{ℕ, suc, pred, ◌*◌, ◌≤◌, ◌<◌}
use native.Mathlib.Nat.{one-mul, mul-pos}
use native.Mathlib.Omega.{arith}
use lib.Dec.{eqb}
use lib.IntN.{ℤ, pos, nat_abs, ◌+ℤ◌, ◌*ℤ◌}
use Rattle.exact.specs.Fraction.{Fraction, ◌over◌, Proper, ◌≼◌, plus, times}
use Rattle.exact.proofs.Ring.{◌⊕◌, ◌⊗◌, ◌≔◌, ring}
use Rattle.exact.proofs.Order.{nn_pos, ≤ℤ_of_eq}
use Rattle.exact.proofs.Fractions.{plus_proper, plus_mono}
use Rattle.record.specs.declared.Node.{Node}
use Rattle.record.specs.Ranges.{PointRanges}
use Rattle.part.specs.declared.Summary.{Summary}
use Rattle.part.specs.Accepted.{Tree}
use Rattle.field.specs.Vectors.{Ray}
use Rattle.field.specs.Ray.{radius, extent}
use Rattle.field.specs.Kernel.{quartic, sextic}
use Rattle.field.specs.Tree.{Item, point, operator, items, Postfix}
use Rattle.field.specs.Solid.{Solid, kernel_of}
use Rattle.field.specs.Tolerance.{demanded_of, demanded_in1024, demanded, sum_over}
use Rattle.field.proofs.Tree.{tree_items}
use Rattle.field.proofs.Distances.{radius-pos}

-- equal, each at most the other, and y is a fraction
pub record Same (x y : Fraction) : Type 0 where
  pub proper : Proper y
  pub at_most : x ≼ y
  pub at_least : y ≼ x

-- the two cross products, of k n S/(k d r) and n S/(d r) with x/y beside them
crossed : (v S r k n d x y : ℤ)
    → v *ℤ (k *ℤ n *ℤ S *ℤ y +ℤ x *ℤ (k *ℤ d *ℤ r)) *ℤ (d *ℤ r *ℤ y) ≡ v *ℤ (n *ℤ S *ℤ y +ℤ x *ℤ (d *ℤ r)) *ℤ (k *ℤ d *ℤ r *ℤ y)
crossed =
    ring 8 (λ v S r k n d x y. v ⊗ (k ⊗ n ⊗ S ⊗ y ⊕ x ⊗ (k ⊗ d ⊗ r)) ⊗ (d ⊗ r ⊗ y) ≔ v ⊗ (n ⊗ S ⊗ y ⊕ x ⊗ (d ⊗ r)) ⊗ (k ⊗ d ⊗ r ⊗ y)) tt

-- n S/(d r) for k n S/(k d r)
reduced : (v S r k n d x y : ℕ) → 1 ≤ r → 0 < d → 0 < y
    → Same (times (pos v) (plus (pos (k * n * S) over (k * d * r)) (pos x over y))) (times (pos v) (plus (pos (n * S) over (d * r)) (pos x over y)))
unfolding plus
reduced v S r k n d x y hr hd hy =
    let e = crossed (pos v) (pos S) (pos r) (pos k) (pos n) (pos d) (pos x) (pos y) in
    record { proper = mul-pos (mul-pos hd hr) hy; at_most = record { cross = ≤ℤ_of_eq e }; at_least = record { cross = ≤ℤ_of_eq (sym e) } }

point_same : (part : Summary) (ray : Ray) (p : Node) → 1 ≤ radius p → Same (demanded_of (kernel_of part) ray 1024 p) (demanded_in1024 part ray p)
unfolding kernel_of demanded_of demanded_in1024
point_same part ray p h = go (eqb part.version 2)
  where
    w : ℕ
    w = nat_abs p.weight

    go : (b : Bool)
        → Same (demanded_of (cond b sextic quartic) ray 1024 p)
        (times (pos w)
        (cond b
        (plus (pos (3 * extent ray) over (512 * radius p)) (pos 7 over 65536))
        (plus (pos (extent ray) over (256 * radius p)) (pos 1 over 16384))))
    go true = reduced w (extent ray) (radius p) 2 3 512 7 65536 h (omega arith) (omega arith)
    go false = rw (one-mul (extent ray)) at (reduced w (extent ray) (radius p) 4 1 256 1 16384 h (omega arith) (omega arith))

pub sum_same : (f g : Node → Fraction) → ((p : Node) → PointRanges p → Same (f p) (g p))
    → (is : List (Item Node)) (held : ℕ) → Postfix PointRanges is held → Same (sum_over f is) (sum_over g is)
unfolding Postfix sum_over
sum_same f g same [] held h = record { proper = omega arith; at_most = record { cross = nn_pos 0 }; at_least = record { cross = nn_pos 0 } }
sum_same f g same (point p ∷ later) held h =
    let a = same p h.0 in
    let b = sum_same f g same later (suc held) h.2 in
    record {
      proper = plus_proper (g p) (sum_over g later) a.proper b.proper;
      at_most = plus_mono a.at_most b.at_most;
      at_least = plus_mono a.at_least b.at_least;
    }
sum_same f g same (operator o ∷ later) held h = sum_same f g same later (pred held) h.1

pub demanded_1024 : (solid : Solid) → Tree solid.nodes → (part : Summary) → solid.kernel ≡ kernel_of part → (ray : Ray)
    → Same (demanded solid ray 1024) (sum_over (demanded_in1024 part ray) (items solid.nodes))
unfolding demanded
demanded_1024 solid tree part degree ray =
    rw degree (sum_same (demanded_of (kernel_of part) ray 1024) (demanded_in1024 part ray) (λ p h. point_same part ray p (radius-pos h))
    (items solid.nodes) 0 (tree_items solid.nodes tree))
