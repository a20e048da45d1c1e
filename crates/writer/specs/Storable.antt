-- Numbers that a record's bytes can hold, as facts: the inner functions ask them.
use Rattle.std.specs.Prelude.{◌<◌, ◌≡◌, List, [], ◌∷◌, pos, nat_abs}
use Rattle.exact.specs.Range.{Small}
use Rattle.record.specs.declared.Node.{Node}

pub record Storable (n : Node) : Type 0 where
  pub kind : pos (nat_abs n.kind) ≡ n.kind
  pub kind_below : nat_abs n.kind < 256
  pub radius : pos (nat_abs n.radius) ≡ n.radius
  pub radius_below : nat_abs n.radius < 65536
  pub x : Small 32767 n.x
  pub y : Small 32767 n.y
  pub z : Small 32767 n.z
  pub weight : Small 32767 n.weight

unfoldable pub AllStorable : List Node → Type 0
AllStorable [] = Unit {0}
AllStorable (n ∷ later) = Storable n × AllStorable later
