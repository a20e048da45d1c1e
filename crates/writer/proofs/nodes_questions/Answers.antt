use Rattle.std.proofs.Common.{◌≡◌, ℕ, ◌+◌, ◌-◌, ◌*◌, ◌<◌, List, map, sym, ◌∙◌, arith}
use lib.IntN.{ℤ}
use Rattle.record.specs.Questions.{first_no, next, Verdict}
use Rattle.record.specs.Nodes.{held_after}
use Rattle.record.specs.Record.{record_questions}
use Rattle.record.specs.declared.Node.{Node}
use Rattle.record.specs.declared.Record.{Record}
use Rattle.record.proofs.Questions.{passed_on}
use Rattle.record.proofs.Ranges.{ready}
use Rattle.part.specs.File.{records_questions}
use Rattle.part.proofs.Records.{questions_step}
use Rattle.writer.specs.Given.{node_in, nodes_in, record_of}
use Rattle.writer.proofs.Given.{given-step}
use Rattle.writer.proofs.nodes_questions.Invariants.{row}
use Rattle.writer.proofs.nodes_questions.Goals as goal

-- the whole row, by the answer about the node at hand and by what is left after it
step : (numbers : List ℤ) (n left at held : ℕ) {node : Node} {r : Record} {v : Verdict} → 0 < left → row numbers left at held ≡ row numbers n 0 0
    → node ≡ node_in numbers at → r ≡ record_of node → v ≡ first_no (record_questions r held)
    → row numbers n 0 0 ≡ next v (row numbers (left - 1) (at + 6) (held_after r.node held))
step numbers n left at held h e en er ev =
    rw (← e, given-step numbers left at h, ev, er, en)
    (questions_step (record_of (node_in numbers at)) (map record_of (nodes_in numbers (left - 1) (at + 6))) held)

pub returns-in_err-record_questions : goal.returns-in_err-record_questions
unfolding next
returns-in_err-record_questions c =
    let l = c.loop-k in
    let q =
    step c.args.numbers.now c.args.n (c.args.n - l.k) (6 * l.k) l.held (omega arith) l.invariant c.node_in.ensures c.record_of-rec.ensures
    c.record_questions.ensures in
    passed_on c.from_residual.result c.from_residual.ensures.1 ∙ (rw (q, c.in_err-record_questions.was))

pub held_after-held-requires : goal.held_after-held-requires
held_after-held-requires c = ready c.record_of-rec.result _ (sym c.record_questions.ensures ∙ c.in_ok-record_questions.was)

pub loop-k-preserved : goal.loop-k-preserved
unfolding next
loop-k-preserved c =
    let l = c.loop-k in
    let q =
    step c.args.numbers.now c.args.n (c.args.n - l.k) (6 * l.k) l.held (omega arith) l.invariant c.node_in.ensures c.record_of-rec.ensures
    c.record_questions.ensures in
    let left : c.args.n - (l.k + 1) ≡ c.args.n - l.k - 1 = omega arith in
    let place : 6 * (l.k + 1) ≡ 6 * l.k + 6 = omega arith in
    rw (q, c.in_ok-record_questions.was, left, place, c.held_after-held.ensures)

pub returns : goal.returns
unfolding next records_questions nodes_in first_no
returns c =
    let none : c.args.n - c.loop-k.k ≡ 0 = omega arith in
    rw (← c.loop-k.invariant, none) c.ask.ensures
