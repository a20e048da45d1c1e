use Rattle.std.proofs.Common.{refl, sym, ap, ◌∙◌, ℕ, ◌-◌, ◌*◌, ◌/◌, ◌^◌, rules, arith}
use Rattle.halving.specs.Search.{state_in}
use Rattle.halving.proofs.Span.{half_size}
use Rattle.cast.specs.Column.{tick_bit, middle_in}
use Rattle.cast.proofs.Columns.{up_to_eight, probes_few, bits_finished, bits_halved}
use Rattle.cast.proofs.+byte_span.Goals as goal

pub overflow_sub-result : goal.overflow_sub-result
overflow_sub-result t c = (up_to_eight c.requires.halvable.size c.requires.level_bound.0).1

-- the span is decided or one tick long
pub returns-in_default : goal.returns-in_default
returns-in_default t c =
    let a = c.args in
    let mid = middle_in a.s.now in
    let size = c.requires.halvable.size in
    bits_finished (state_in a.s.now) mid a.level a.first a.len size (λ e. search rules)
    _ (up_to_eight size c.requires.level_bound.0).1
    (ap (λ (m : ℕ). m / 2 ^ (8 - a.len)) (c.tick_byte.ensures ∙ ap (λ (m : ℕ). 255 * tick_bit m (mid a.first)) c.probe.ensures))
    refl

pub joined-requires : goal.joined-requires
joined-requires t c =
    let h = up_to_eight c.requires.halvable.size c.requires.level_bound.0 in
    (omega arith, c.byte_span-left.ensures.room, c.byte_span-right.ensures.room)

pub overflow_add-result : goal.overflow_add-result
overflow_add-result t c =
    let h = up_to_eight c.requires.halvable.size c.requires.level_bound.0 in
    let half = half_size c.requires.halvable.size c.if-level-gt0.true in
    omega (arith, probes_few _ _ _ _ _ half c.byte_span-left.ensures.probes)

pub overflow_add-result-in-Crossing : goal.overflow_add-result-in-Crossing
overflow_add-result-in-Crossing t c =
    let h = up_to_eight c.requires.halvable.size c.requires.level_bound.0 in
    let half = half_size c.requires.halvable.size c.if-level-gt0.true in
    omega (arith, probes_few _ _ _ _ _ half c.byte_span-left.ensures.probes, probes_few _ _ _ _ _ half c.byte_span-right.ensures.probes)

-- the span is halved
pub returns-in-Crossing : goal.returns-in-Crossing
returns-in-Crossing t c =
    let a = c.args in
    let size = c.requires.halvable.size in
    bits_halved (state_in a.s.now) (middle_in a.s.now) a.level a.first a.len (a.level - 1) (a.len / 2)
    size (omega arith) (half_size size c.if-level-gt0.true) (sym c.in-Crossing.ensures)
    c.byte_span-left.result c.byte_span-right.result _ c.byte_span-left.ensures c.byte_span-right.ensures c.joined.ensures refl
