use Rattle.std.proofs.Common.{◌≡◌, refl, sym, ◌∙◌, ap, ℕ, ◌-◌, ◌/◌, replicate, rules, arith}
use Rattle.std.proofs.lemmas.List.Edits.{sets}
use Rattle.halving.specs.declared.Cast.{Cast}
use Rattle.halving.specs.declared.Cast.TheVariants as cast
use Rattle.halving.specs.Search.{state_in}
use Rattle.halving.proofs.Span.{Stopped, half_size, span_out, span_finished, span_left, span_right}
use Rattle.halving.proofs.+cast_span.Goals as goal

-- a cast that is not complete stops
stopped : (w : Cast) → ((p : ℕ) → w ≡ cast.Complete p → ⊥) → Stopped w
stopped (cast.Complete p) h = h p refl
stopped (cast.Spent t p) h = tt

-- the budget is used up
pub returns-then-s-made : goal.returns-then-s-made
returns-then-s-made t c =
    let a = c.args in
    let f = span_out (state_in a.s.now) a.s.now.budget a.level a.first a.made a.len c.requires.halvable.size a.out.now c.if-s-made.true in
    record { answer = f.0; bytes = f.1 }

-- the left half is complete
pub returns-in-Complete : goal.returns-in-Complete
returns-in-Complete t c =
    let a = c.args in
    let l = c.cast_span-left in
    let r = c.cast_span in
    let size = c.requires.halvable.size in
    let f = span_right (state_in a.s.now) a.s.now.budget a.level a.first a.made a.len size a.out.now
    (a.level - 1) (a.len / 2) (omega arith) (half_size size c.if-level-gt0.true) c.if-s-made.false (sym c.in-Crossing.ensures)
    l.result r.result c.in-Complete.probes l.new.out r.new.out c.in-Complete.is
    l.ensures.answer l.ensures.bytes r.ensures.answer r.ensures.bytes in
    record { answer = f.0; bytes = f.1 }

-- the left half stops
pub returns-in_default-left : goal.returns-in_default-left
returns-in_default-left t c =
    let a = c.args in
    let l = c.cast_span-left in
    let size = c.requires.halvable.size in
    let f = span_left (state_in a.s.now) a.s.now.budget a.level a.first a.made a.len size a.out.now
    (a.level - 1) (a.len / 2) (omega arith) (half_size size c.if-level-gt0.true) c.if-s-made.false (sym c.in-Crossing.ensures)
    l.result l.new.out (stopped l.result c.in_default-left.not-Complete) l.ensures.answer l.ensures.bytes in
    record { answer = f.0; bytes = f.1 }

-- the span is decided or one tick long
pub returns-in_default : goal.returns-in_default
returns-in_default t c =
    let a = c.args in
    let f = span_finished (state_in a.s.now) a.s.now.budget a.level a.first a.made a.len c.requires.halvable.size a.out.now
    c.fill.new.marks c.if-s-made.false (λ e. search rules)
    (c.fill.ensures ∙ ap (λ (m : ℕ). sets a.out.now a.first (replicate a.len m)) (c.mark.ensures ∙ c.probe.ensures)) in
    record { answer = f.0; bytes = f.1 }
