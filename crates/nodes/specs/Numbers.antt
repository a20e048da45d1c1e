-- The nodes of a file as numbers in an array: six for each node, one node after the other.
use Rattle.std.specs.Prelude.{ℕ, ◌*◌, List, [], ◌∷◌, ◌++◌, drop, ℤ, Ok, Err}
use Rattle.record.specs.Questions.{first_no, Verdict}
use Rattle.record.specs.declared.Node.{Node}
use Rattle.part.specs.File.{count, nodes, file_questions}

-- of 511 nodes
abbrev pub numbers_room : ℕ
numbers_room = 3066

-- the six numbers of each node, one node after the other
unfoldable pub numbers : List Node → List ℤ
numbers [] = []
numbers (n ∷ later) = n.kind ∷ n.radius ∷ n.x ∷ n.y ∷ n.z ∷ n.weight ∷ numbers later

-- a lent array afterwards: the nodes' numbers and then what was past them; of a refused file, as it was
unfoldable pub handed_over : Verdict → List ℕ → List ℤ → List ℤ
handed_over (Ok tt) file lent = numbers (nodes file) ++ drop (6 * count file) lent
handed_over (Err refusal) file lent = lent

unfoldable pub loaded : List ℕ → List ℤ → List ℤ
loaded file lent = handed_over (first_no (file_questions file)) file lent
