use Rattle.std.proofs.Common.{arith, ◌≡◌, ◌-◌, ◌*◌, [], ◌∷◌, ap, ◌∙◌}
use Rattle.std.proofs.lemmas.List.Edits.{sets}
use Rattle.record.specs.declared.Node.{Node}
use Rattle.part.specs.File.{nodes_from, records_from}
use Rattle.nodes.specs.Numbers.{numbers}
use Rattle.nodes.proofs.Numbers.{numbers-step}
use Rattle.nodes.proofs.put_nodes.Goals as goal

pub loop-k-preserved : goal.loop-k-preserved
loop-k-preserved c =
    let l = c.loop-k in
    numbers-step c.args.file.now c.args.n c.args.first l.out l.k c.loop-k-test.true
    (c.put_node.ensures ∙ ap (λ (m : Node). sets l.out (6 * l.k) (numbers (m ∷ []))) c.node_at.ensures)
    ∙ l.invariant

pub returns : goal.returns
unfolding nodes_from records_from numbers
returns c =
    let e : c.args.n - c.loop-k.k ≡ 0 = omega arith in
    rw e at c.loop-k.invariant
