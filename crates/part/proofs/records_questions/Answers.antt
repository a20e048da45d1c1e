use Rattle.std.proofs.Common.{arith, ◌≡◌, ◌-◌, ◌+◌, ◌*◌, ◌<◌, sym, ◌∙◌, List, ℕ}
use Rattle.record.specs.Questions.{first_no, next, Verdict}
use Rattle.record.specs.Nodes.{held_after}
use Rattle.record.specs.Record.{node_at, record_at, record_questions}
use Rattle.record.proofs.Questions.{passed_on}
use Rattle.record.proofs.Ranges.{ready}
use Rattle.part.specs.File.{records_from, records_questions}
use Rattle.part.proofs.Records.{records-step, questions_step}
use Rattle.part.proofs.records_questions.Invariants.{row}
use Rattle.part.proofs.records_questions.Goals as goal

-- a row, by the answer about its first record and by what is left after it
step : (file : List ℕ) (left at held : ℕ) {v : Verdict} → 0 < left → v ≡ first_no (record_questions (record_at file at) held)
    → row file left at held ≡ next v (row file (left - 1) (at + 12) (held_after (node_at file at) held))
unfolding record_at
step file left at held more e =
    rw (records-step file left at more, e) (questions_step (record_at file at) (records_from file (left - 1) (at + 12)) held)

pub returns-in_err-record_questions_at : goal.returns-in_err-record_questions_at
unfolding next
returns-in_err-record_questions_at c =
    let l = c.loop-k in
    let q = step c.args.file.now (c.args.n - l.k) (c.args.first + 12 * l.k) l.held (omega arith) c.record_questions_at.ensures in
    passed_on c.from_residual.result c.from_residual.ensures.1
    ∙ (rw (← l.invariant, q, c.in_err-record_questions_at.was))

pub held_after-held-requires : goal.held_after-held-requires
unfolding record_at
held_after-held-requires c =
    rw c.node_at.ensures (ready (record_at _ _) _ (sym c.record_questions_at.ensures ∙ c.in_ok-record_questions_at.was))

pub loop-k-preserved : goal.loop-k-preserved
unfolding next
loop-k-preserved c =
    let l = c.loop-k in
    let q = step c.args.file.now (c.args.n - l.k) (c.args.first + 12 * l.k) l.held (omega arith) c.record_questions_at.ensures in
    let left : c.args.n - (l.k + 1) ≡ c.args.n - l.k - 1 = omega arith in
    let place : c.args.first + 12 * (l.k + 1) ≡ c.args.first + 12 * l.k + 12 = omega arith in
    rw (← l.invariant, q, c.in_ok-record_questions_at.was, left, place, c.held_after-held.ensures, c.node_at.ensures)

pub returns : goal.returns
unfolding records_questions records_from first_no
returns c =
    let none : c.args.n - c.loop-k.k ≡ 0 = omega arith in
    rw (← c.loop-k.invariant, none) c.ask.ensures
