use Rattle.std.proofs.Common.{refl, ◌∙◌, rules}
use Rattle.halving.specs.Search.{state_in}
use Rattle.march.proofs.Marching.{cut_is}
use Rattle.march.proofs.Turns.{is_halved, is_finished}
use Rattle.march.proofs.advance.Goals as goal

-- undecided and longer than one tick
pub returns-in-Crossing : goal.returns-in-Crossing
returns-in-Crossing c =
    let a = c.args in
    let f = is_halved (state_in a.s.now) a.s.now.ticks a.at c.cut_to-len.result 1
    c.cut_to-len.ensures c.in-Crossing.ensures a.out.now refl c.if-len-gt1.true in
    record { next = f.0; bytes = f.1 }

-- decided or one tick
pub returns-in_default : goal.returns-in_default
returns-in_default c =
    let a = c.args in
    let st = state_in a.s.now in
    let w = c.requires.waiting in
    let f = is_finished st a.s.now.ticks a.at c.cut_to-len.result c.mark.result c.cut_to-len.ensures (c.mark.ensures ∙ c.probe.ensures) a.out.now
    (rw c.cut_to-len.ensures (cut_is st a.s.now.ticks a.at.first a.at.length w.some w.within).some)
    (λ e. search rules) c.fill.new.marks c.fill.ensures in
    record { next = f.0; bytes = f.1 }
