-- The nodes of a tree, in postfix order, and the tests of a node (document 01, questions 6 and 8 to 10; document 02, P1).
use Rattle.std.specs.Prelude.{ℕ, ◌+◌, ◌-◌, Bool, true, cond, ◌&&◌, ℤ, pos, neg_ℤ}
use Rattle.exact.specs.Range.{between_ℤ, eq_ℤ}
use Rattle.record.specs.declared.Node.{Node}

-- kind 1, a point (soft point); any other is an operator
unfoldable pub is_point : Node → Bool
is_point n = eq_ℤ n.kind (pos 1)

-- "1 point, 2 sum, 3 greater", 4 lesser, 5 cut: "question 6 reads 1 to 5"
unfoldable pub kind_known : Node → Bool
kind_known n = between_ℤ (pos 1) (pos 5) n.kind

unfoldable pub coordinate : ℤ → Bool
coordinate z = between_ℤ (neg_ℤ (pos 2047)) (pos 2047) z

-- r, the coordinates and the weight of a point
unfoldable pub in_range : Node → Bool
in_range n =
    between_ℤ (pos 1) (pos 1024) n.radius
    && coordinate n.x && coordinate n.y && coordinate n.z
    && between_ℤ (neg_ℤ (pos 4096)) (pos 4096) n.weight

-- what is asked for a point only, and for an operator only
unfoldable pub for_point : Node → Bool → Bool
for_point n test = cond (is_point n) test true

unfoldable pub for_operator : Node → Bool → Bool
for_operator n test = cond (is_point n) true test

-- a point adds one held value, an operator replaces the last two by one
unfoldable pub held_after : Node → ℕ → ℕ
held_after n held = cond (is_point n) (held + 1) (held - 1)
