-- What the writer is given (document 02, P2): "six signed 32-bit numbers a node (kind, r, x, y, z, w, in file order)".
use Rattle.std.specs.Prelude.{ℕ, zero, suc, ◌+◌, ◌/◌, List, [], ◌∷◌, Bool, ◌&&◌, length, get_or, ℤ, pos}
use Rattle.exact.specs.Range.{eq_ℤ}
use Rattle.record.specs.Nodes.{for_operator}
use Rattle.record.specs.declared.Node.{Node}
use Rattle.record.specs.declared.Record.{Record}

-- the node whose six numbers stand from a place on
unfoldable pub node_in : List ℤ → ℕ → Node
node_in l at = record {
  kind = get_or l at (pos 0);
  radius = get_or l (at + 1) (pos 0);
  x = get_or l (at + 2) (pos 0);
  y = get_or l (at + 3) (pos 0);
  z = get_or l (at + 4) (pos 0);
  weight = get_or l (at + 5) (pos 0);
}

-- n nodes from a place on
unfoldable pub nodes_in : List ℤ → ℕ → ℕ → List Node
nodes_in l zero at = []
nodes_in l (suc n) at = node_in l at ∷ nodes_in l n (at + 6)

-- all of them
unfoldable pub given : List ℤ → List Node
given l = nodes_in l (length l / 6) 0

-- are the five numbers after the kind zero?
unfoldable pub others_zero : Node → Bool
others_zero n = eq_ℤ n.radius (pos 0) && eq_ℤ n.x (pos 0) && eq_ℤ n.y (pos 0) && eq_ℤ n.z (pos 0) && eq_ℤ n.weight (pos 0)

-- a node as the record that it is to be: "an operator's five other numbers being its zero bytes"
unfoldable pub record_of : Node → Record
record_of n = record { node = n; zeroed = for_operator n (others_zero n) }
