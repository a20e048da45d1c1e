-- What the questions about a record say of its node, once all are answered yes: `ready`.
-- `((ready r held ok).point p).1 : held < 64`, from `ok`, that all questions about r are answered yes, and `p`, that it is a point.
use Rattle.std.specs.Prelude.{Ok}
use Prim.Native.Nat.{ℕ}
use mathlib.Core.Path.{◌≡◌}
use mathlib.Core.Bool.{Bool, true, false, ◌&&◌}
use borrow.Author.Tests.{ltb-true, leb-true}
use lib.IntN.{pos, neg_ℤ}
use lib.Dec.{ltb, leb}
use Rattle.exact.specs.Range.{between_ℤ}
use Rattle.exact.proofs.Tests.{both_true, between_ℤ_true, within_small}
use Rattle.record.specs.Questions.{first_no}
use Rattle.record.specs.Nodes.{is_point, kind_known, coordinate, in_range, for_point, for_operator}
use Rattle.record.specs.Record.{node_questions, record_questions}
use Rattle.record.specs.Ranges.{PointRanges, Ready}
use Rattle.record.specs.declared.Node.{Node}
use Rattle.record.specs.declared.Record.{Record}
use Rattle.record.proofs.Questions.{all_yes}

point_ranges : (n : Node) → in_range n ≡ true → PointRanges n
unfolding in_range coordinate
point_ranges n e =
    let r = between_ℤ (pos 1) (pos 1024) n.radius in
    let x = coordinate n.x in
    let y = coordinate n.y in
    let z = coordinate n.z in
    let upToWeight = both_true (r && x && y && z) (between_ℤ (neg_ℤ (pos 4096)) (pos 4096) n.weight) e in
    let upToZ = both_true (r && x && y) z upToWeight.0 in
    let upToY = both_true (r && x) y upToZ.0 in
    let upToX = both_true r x upToY.0 in
    let radius = between_ℤ_true (pos 1) (pos 1024) n.radius upToX.0 in
    record {
      radius_low = radius.0;
      radius_high = radius.1;
      x = within_small 2047 n.x upToX.1;
      y = within_small 2047 n.y upToY.1;
      z = within_small 2047 n.z upToZ.1;
      weight = within_small 4096 n.weight upToWeight.1;
    }

for_point_lem : (n : Node) (test : Bool) → for_point n test ≡ true → is_point n ≡ true → test ≡ true
unfolding for_point
for_point_lem n test e p = rw p at e

pub for_operator_lem : (n : Node) (test : Bool) → for_operator n test ≡ true → is_point n ≡ false → test ≡ true
unfolding for_operator
for_operator_lem n test e p = rw p at e

pub ready : (r : Record) (held : ℕ) → first_no (record_questions r held) ≡ Ok tt → Ready r.node held
unfolding record_questions node_questions kind_known
ready r held ok =
    let n = r.node in
    let q = all_yes (record_questions r held) ok in
    let kind = between_ℤ_true (pos 1) (pos 5) n.kind (q 0) in
    record {
      kind_low = kind.0;
      kind_high = kind.1;
      point = λ p. (point_ranges n (for_point_lem n (in_range n) (q 2) p), ltb-true held 64 (for_point_lem n (ltb held 64) (q 4) p));
      operator = λ p. leb-true 2 held (for_operator_lem n (leb 2 held) (q 3) p);
    }
