use Rattle.std.proofs.Common.{◌≡◌, refl, sym, ◌∙◌, ℕ, ◌-◌, ◌/◌, rules, arith}
use Rattle.halving.specs.declared.FirstHit.{FirstHit}
use Rattle.halving.specs.declared.FirstHit.TheVariants as first
use Rattle.halving.specs.Search.{state_in}
use Rattle.halving.proofs.FirstHits.{hit_out}
use Rattle.halving.proofs.Span.{Ended, half_size, hit_clear, hit_found, hit_left, hit_right}
use Rattle.halving.proofs.+hit_span.Goals as goal

-- a search that is not clear ends
ended : (f : FirstHit) → ((p : ℕ) → f ≡ first.Clear p → ⊥) → Ended f
ended (first.Hit t s p) h = tt
ended (first.Clear p) h = h p refl
ended (first.Spent t p) h = tt

-- the budget is used up
pub returns-then-s-made : goal.returns-then-s-made
returns-then-s-made t c =
    let a = c.args in
    sym (hit_out (state_in a.s.now) a.s.now.budget a.level a.first a.made c.if-s-made.true)

-- the span is empty
pub returns-in-Empty : goal.returns-in-Empty
returns-in-Empty t c =
    let a = c.args in
    hit_clear (state_in a.s.now) a.s.now.budget a.level a.first a.made a.len c.requires.halvable.size
    c.if-s-made.false (sym c.in-Empty.ensures)

-- it is inside, or one tick that is not empty
pub returns-in_default : goal.returns-in_default
returns-in_default t c =
    let a = c.args in
    hit_found (state_in a.s.now) a.s.now.budget a.level a.first a.made a.len c.requires.halvable.size
    c.if-s-made.false c.mark.result (c.mark.ensures ∙ c.probe.ensures) (λ e. search rules) (λ e. search rules)

-- the left half is clear
pub returns-in-Clear : goal.returns-in-Clear
returns-in-Clear t c =
    let a = c.args in
    let size = c.requires.halvable.size in
    hit_right (state_in a.s.now) a.s.now.budget a.level a.first a.made a.len size c.if-s-made.false
    (a.level - 1) (a.len / 2) (omega arith) (half_size size c.if-level-gt0.true) (sym c.in-Crossing.ensures)
    c.hit_span-left.result c.hit_span.result c.in-Clear.probes c.in-Clear.is c.hit_span-left.ensures c.hit_span.ensures

-- the left half ends the search
pub returns-in_default-left : goal.returns-in_default-left
returns-in_default-left t c =
    let a = c.args in
    let size = c.requires.halvable.size in
    hit_left (state_in a.s.now) a.s.now.budget a.level a.first a.made a.len size c.if-s-made.false
    (a.level - 1) (a.len / 2) (omega arith) (half_size size c.if-level-gt0.true) (sym c.in-Crossing.ensures)
    c.hit_span-left.result (ended c.hit_span-left.result c.in_default-left.not-Clear) c.hit_span-left.ensures
