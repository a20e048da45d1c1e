-- The search of all bytes, whose ticks' bits are counted from tick 0 on.
use mathlib.Core.Path.{ap}
use native.Mathlib.Nat.{zero-add}
use Prim.Native.Nat.{ℕ}
use lib.ListN.{get_or}
use Rattle.field.specs.Bounds.{empty_mark}
use Rattle.halving.specs.Halving.{span_marks}
use Rattle.halving.specs.Search.{state_in}
use Rattle.cast.specs.Ticks.{exponent}
use Rattle.cast.specs.Column.{middle_in, tick_bit, bit_in, span_bit}
use Rattle.cast.proofs.Columns.{column_whole}
use Rattle.cast.proofs.cast_column.Goals as goal

pub returns-clause-bytes : goal.returns-clause-bytes
unfolding bit_in span_bit
returns-clause-bytes c =
    let a = c.args in
    let st = state_in a.s.now in
    let mid = middle_in a.s.now in
    column_whole st mid exponent (bit_in a.s.now (span_marks st exponent 0))
    (λ t. ap (λ (x : ℕ). tick_bit (get_or (span_marks st exponent 0) t empty_mark) (mid x)) (zero-add t))
    a.out.now _ c.requires.column_bytes_in_bounds c.column_span.ensures.bytes
