use mir.Facts.{to_z-of_z}
use mir.Syntax.{w32}
use mir.Val.{SFits}
use Rattle.std.proofs.Common.{rules, ◌≡◌, pos, neg_ℤ}
use Rattle.std.proofs.Math.Bool.{and_assoc}
use Rattle.exact.specs.Range.{between_ℤ}
use Rattle.record.specs.Nodes.{in_range}
use Rattle.record.proofs.in_range.Goals as goal

-- each coordinate is tested as it is read
pub returns : goal.returns
unfolding in_range
returns c =
    let x : SFits w32 c.args.n.x = search rules in
    let y : SFits w32 c.args.n.y = search rules in
    let z : SFits w32 c.args.n.z = search rules in
    let r : c.contains.result ≡ between_ℤ (pos 1) (pos 1024) c.args.n.radius = search rules in
    let w : c.contains-2.result ≡ between_ℤ (neg_ℤ (pos 4096)) (pos 4096) c.args.n.weight = search rules in
    simp (and_assoc, r, c.is_coordinate.ensures, c.is_coordinate-2.ensures, c.is_coordinate-3.ensures, w, to_z-of_z x, to_z-of_z y, to_z-of_z z)
