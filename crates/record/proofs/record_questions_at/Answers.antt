-- The zero bytes of the record at a place, as the code tests them of a point and of an operator.
use Rattle.std.proofs.Common.{◌+◌, ◌≡◌, Bool, sym, ◌∙◌, ap}
use Rattle.record.specs.Bytes.{zeros}
use Rattle.record.specs.Questions.{first_no}
use Rattle.record.specs.Nodes.{is_point}
use Rattle.record.specs.Record.{node_at, record_at, record_questions, zero_bytes}
use Rattle.record.specs.declared.Node.{Node}
use Rattle.record.specs.declared.Record.{Record}
use Rattle.record.proofs.Bytes.{zeros_1}
use Rattle.record.proofs.record_questions_at.Goals as goal
use Rattle.record.proofs.record_questions_at.Goals.{then-is_point, else-is_point}

pub returns : goal.returns
unfolding record_at zero_bytes
returns c =
    let file = c.args.file.now in
    let at = c.args.at in
    let of : Bool → Record = λ zeroed. record { node = node_at file at; zeroed = zeroed } in
    let is_node : c.is_point.result ≡ is_point (node_at file at) = c.is_point.ensures ∙ ap is_point c.node_at-node.ensures in
    let same : c.if-is_point.zeroed ≡ zeros file (at + 1) (zero_bytes (node_at file at)) =
    elim c.if-is_point.branch [
      | then-is_point w ↦ rw (sym is_node ∙ w.if-is_point.true, zeros_1 file (at + 1)) w.zeroed-is
      | else-is_point w ↦ rw (sym is_node ∙ w.if-is_point.false) (w.zeroed-is ∙ w.are_zero_after-zeroed.ensures)
    ] in
    c.record_questions.ensures
    ∙ ap (λ (n : Node). first_no (record_questions (record { node = n; zeroed = c.if-is_point.zeroed }) c.args.held)) c.node_at-node.ensures
    ∙ ap (λ (zeroed : Bool). first_no (record_questions (of zeroed) c.args.held)) same
