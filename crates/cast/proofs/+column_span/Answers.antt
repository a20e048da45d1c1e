use Rattle.std.proofs.Common.{sym, ap, ◌∙◌, ℕ, ◌-◌, ◌*◌, ◌/◌, ◌≤◌, replicate, rules, arith}
use Rattle.std.proofs.lemmas.List.Edits.{sets}
use Rattle.halving.specs.Search.{state_in}
use Rattle.halving.proofs.Span.{half_size, half}
use Rattle.cast.specs.Column.{tick_bit, middle_in}
use Rattle.cast.proofs.Columns.{eight_times, probes_few, byte_made, bytes_finished, bytes_halved}
use Rattle.cast.proofs.+column_span.Goals as goal

-- one byte
pub returns-then-level-eq0 : goal.returns-then-level-eq0
returns-then-level-eq0 t c =
    let a = c.args in
    let f = byte_made (state_in a.s.now) (middle_in a.s.now) a.level a.first a.len c.requires.halvable.size
    a.out.now c.byte_span-byte.result c.if-level-eq0.true c.byte_span-byte.ensures in
    record { probes = f.0; bytes = f.1 }

pub column_span-left-requires : goal.column_span-left-requires
column_span-left-requires t c =
    let several : 1 ≤ c.args.level = omega (arith, c.if-level-eq0.false) in
    (omega arith, ((half c.requires.halvable several (omega arith), (omega arith, omega arith))))

pub column_span-right-requires : goal.column_span-right-requires
column_span-right-requires t c =
    let several : 1 ≤ c.args.level = omega (arith, c.if-level-eq0.false) in
    (omega arith, ((half c.requires.halvable several (omega arith), (omega arith, omega arith))))

pub overflow_add-result : goal.overflow_add-result
overflow_add-result t c =
    let several : 1 ≤ c.args.level = omega (arith, c.if-level-eq0.false) in
    let few = eight_times _ _ (half_size c.requires.halvable.size several) in
    omega (arith, c.requires.halvable.end, probes_few _ _ _ _ _ few c.column_span-left.ensures.probes)

pub overflow_add-result-in-Crossing : goal.overflow_add-result-in-Crossing
overflow_add-result-in-Crossing t c =
    let several : 1 ≤ c.args.level = omega (arith, c.if-level-eq0.false) in
    let few = eight_times _ _ (half_size c.requires.halvable.size several) in
    omega (
      arith,
      c.requires.halvable.end,
      probes_few _ _ _ _ _ few c.column_span-left.ensures.probes,
      probes_few _ _ _ _ _ few c.column_span-right.ensures.probes,
    )

-- the span is halved
pub returns-in-Crossing : goal.returns-in-Crossing
returns-in-Crossing t c =
    let a = c.args in
    let l = c.column_span-left in
    let r = c.column_span-right in
    let size = c.requires.halvable.size in
    let several : 1 ≤ a.level = omega (arith, c.if-level-eq0.false) in
    let f = bytes_halved (state_in a.s.now) (middle_in a.s.now) a.level a.first a.len size a.out.now
    (a.level - 1) (a.len / 2) (omega arith) (half_size size several) (sym c.in-Crossing.ensures)
    l.result r.result l.new.out r.new.out l.ensures.probes l.ensures.bytes r.ensures.probes r.ensures.bytes in
    record { probes = f.0; bytes = f.1 }

-- the span is decided
pub returns-in_default : goal.returns-in_default
returns-in_default t c =
    let a = c.args in
    let st = state_in a.s.now in
    let mid = middle_in a.s.now in
    let f = bytes_finished st mid a.level a.first a.len c.requires.halvable.size a.out.now c.fill.new.marks
    (λ e. search rules)
    (c.fill.ensures
    ∙ ap (λ (m : ℕ). sets a.out.now a.first (replicate a.len m))
    (c.tick_byte.ensures ∙ ap (λ (m : ℕ). 255 * tick_bit m (mid (8 * a.first))) c.probe.ensures)) in
    record { probes = f.0; bytes = f.1 }
