use Rattle.std.proofs.Common.{◌≡◌}
use Rattle.std.proofs.lemmas.List.Edits.{sets}
use Rattle.part.specs.File.{nodes_from}
use Rattle.nodes.specs.Numbers.{numbers}
use Rattle.nodes.proofs.Numbers.{stored_from}
use Rattle.nodes.proofs.put_nodes.Given as goal

-- what is left of the nodes, stored too, makes the whole
abbrev pub invariant-loop-k : goal.invariant-loop-k
invariant-loop-k l = stored_from l.file l.n l.first l.out l.k ≡ sets l.initial.out 0 (numbers (nodes_from l.file l.n l.first))
