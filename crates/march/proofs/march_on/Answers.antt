-- What is left of the march, with the probes left, gives the answer and the bytes of the whole.
use Rattle.halving.specs.Search.{state_in}
use Rattle.march.proofs.Turns.{again, is_spent, is_complete}
use Rattle.march.proofs.march_on.Goals as goal

pub returns-then-s-made : goal.returns-then-s-made
returns-then-s-made c =
    let a = c.args in
    let l = c.loop-at in
    let f = is_spent (state_in a.s.now) a.s.now.ticks a.s.now.budget a.out.now l.out l.at l.made l.invariant
    c.loop-at-test.true c.if-s-made.true in
    record { answer = f.0; bytes = f.1 }

pub loop-at-preserved : goal.loop-at-preserved
loop-at-preserved c =
    let a = c.args in
    let l = c.loop-at in
    let r = c.advance-at in
    again (state_in a.s.now) a.s.now.ticks a.s.now.budget a.out.now l.out l.at l.made l.invariant
    r.new.out r.result c.loop-at-test.true c.if-s-made.false r.ensures.next r.ensures.bytes

pub returns : goal.returns
returns c =
    let a = c.args in
    let l = c.loop-at in
    let f = is_complete (state_in a.s.now) a.s.now.ticks a.s.now.budget a.out.now l.out l.at l.made l.invariant c.loop-at-test.false in
    record { answer = f.0; bytes = f.1 }
