-- What is so of a node of an accepted file, as facts: its numbers are in their ranges, and it finds what it needs held.
use Rattle.std.specs.Prelude.{ℕ, ◌≤◌, ◌<◌, ◌≡◌, true, false, pos, ◌≤ℤ◌}
use Rattle.exact.specs.Range.{Small}
use Rattle.record.specs.Nodes.{is_point}
use Rattle.record.specs.declared.Node.{Node}

-- a point's numbers (question 8)
pub record PointRanges (n : Node) : Type 0 where
  pub radius_low : pos 1 ≤ℤ n.radius
  pub radius_high : n.radius ≤ℤ pos 1024
  pub x : Small 2047 n.x
  pub y : Small 2047 n.y
  pub z : Small 2047 n.z
  pub weight : Small 4096 n.weight

-- a node that finds so many values held (questions 6 and 8 to 10)
pub record Ready (n : Node) (held : ℕ) : Type 0 where
  pub kind_low : pos 1 ≤ℤ n.kind
  pub kind_high : n.kind ≤ℤ pos 5
  pub point : is_point n ≡ true → PointRanges n × (held < 64)
  pub operator : is_point n ≡ false → 2 ≤ held
