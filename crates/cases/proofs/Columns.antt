-- Columns (document 02, P6) as rows of a table that one theorem covers (`columns`): "For file K and the printed ray the solid ticks are then 331 to
-- 692" (`solid_ticks`); a middle at which the bounds add up to exactly 2 × iso × 2³²; and a strut thinner than a tick, whose bits are 0 and whose
-- ticks are crossing (`strut_marked`).
use Rattle.std.specs.Prelude.{Ok, Err}
use mathlib.Core.Path.{◌≡◌, refl}
use mathlib.Core.List.{List, [], ◌∷◌, ◌++◌, map}
use Prim.Native.Nat.{ℕ, zero, suc, ◌^◌}
use lib.ListN.{length, replicate}
use lib.IntN.{pos, neg_ℤ}
use Rattle.exact.specs.Extrema.{max_ℤ}
use Rattle.exact.specs.Rounding.{ceil}
use Rattle.record.specs.Bytes.{u16, u32, i16, has_bytes, zeros}
use Rattle.record.specs.Questions.{first_no}
use Rattle.record.specs.Nodes.{is_point, kind_known, coordinate, in_range, for_point, for_operator, held_after}
use Rattle.record.specs.Record.{node_at, zero_bytes, record_at, node_questions, record_questions}
use Rattle.record.specs.declared.Refusal.TheVariants as no
use Rattle.part.specs.File.{iso, version, distance, marked, trailer_questions, start, count, records_from, records}
use Rattle.part.specs.File.{records_questions, nodes_from, nodes, file_questions}
use Rattle.field.specs.Vectors.{Ray}
use Rattle.field.specs.Tree.{operator_of, item_of, items, join_top, step, run, tree_value}
use Rattle.field.specs.Solid.{kernel_of, solid_of}
use Rattle.field.specs.Bounds.{ray_square, prepare, distance_at, foot_inside, foot_distance, low_q, high_q, qlo, qhi}
use Rattle.field.specs.Bounds.{weighted, point_bounds, join_bounds, tree_bounds, state_of, solid_by, empty_mark, crossing_mark}
use Rattle.field.specs.Marks.{span_state, mark_of}
use Rattle.loading.specs.Loading.{position_in_range, ray_in_range, ray_questions}
use Rattle.halving.specs.Halving.{probe_count, span_marks}
use Rattle.cast.specs.Ticks.{exponent, ray_state}
use Rattle.cast.specs.Column.{middle_solid, tick_bit, bit_of, from_bits, packed, ColumnAnswer}
use Rattle.cast.specs.Questions.{buffer_questions}
use Rattle.cast.specs.Calls.{ray_marks, column_after, column_answer, bits_after, bits_left}
use Rattle.cases.proofs.Rays.{one_point, file_k, at, across}

pub record Request : Type 0 where
  pub file : List ℕ
  pub ray : Ray
  pub lent : List ℕ

-- what is answered, and the buffer afterwards
abbrev answer : Request → ColumnAnswer × List ℕ
answer r = (column_answer r.file r.ray (length r.lent), bits_left r.file r.ray r.lent)

abbrev request : List ℕ → Ray → List ℕ → Request
request file ray lent = record { file = file; ray = ray; lent = lent }

abbrev bits : List ℕ
bits = replicate 128 0xa5

-- a strut of one point, r 2, w 4, iso 1, less than 3 steps thick
abbrev strut : List ℕ
strut = one_point 2 0 4 0

-- the whole width: a tick is 4094/1024 steps long, and tick 512 begins in the strut's middle
abbrev wide : Ray
wide = record { start = at (neg_ℤ (pos 2047)) (pos 0); end = at (pos 2047) (pos 0) }

unfoldable pub rows : List (Request × (ColumnAnswer × List ℕ))
rows =
    -- bits from tick 331, bit 3 of byte 41, to tick 692, bit 4 of byte 86; bytes past 128 are kept
    (request file_k (across (pos 0)) bits, (Ok 39, replicate 41 0 ++ 0xf8 ∷ replicate 44 0xff ++ 0x1f ∷ replicate 41 0))
    ∷ (request file_k (across (pos 0)) (bits ++ 7 ∷ []), (Ok 39, replicate 41 0 ++ 0xf8 ∷ replicate 44 0xff ++ 0x1f ∷ replicate 41 0 ++ 7 ∷ []))
    -- at y = 362 both crossing ticks, 509 and 514, are solid
    ∷ (request file_k (across (pos 362)) bits, (Ok 39, replicate 63 0 ++ 0xe0 ∷ 0x07 ∷ replicate 63 0))
    ∷ (request file_k (across (pos 512)) bits, (Ok 1, replicate 128 0))
    -- ticks 383 and 639 have their middles at (−256, 256, 0) and (256, 256, 0), where u is 1/2 and both bounds are iso × 2³²: solid
    ∷ (
      request file_k (record { start = at (neg_ℤ (pos 1023)) (pos 256); end = at (pos 1025) (pos 256) }) bits,
      (Ok 39, replicate 47 0 ++ 0x80 ∷ replicate 32 0xff ++ replicate 48 0),
    )
    ∷ (request strut wide bits, (Ok 39, replicate 128 0))
    -- refused: "Coordinate 2,048: 12", a buffer of 127
    ∷ (request file_k (across (pos 2048)) bits, (Err no.Coordinates, bits))
    ∷ (request file_k (across (pos 0)) (replicate 127 0xa5), (Err no.Buffer, replicate 127 0xa5))
    ∷ []

pub columns : map (λ r. answer r.0) rows ≡ map (λ r. r.1) rows
unfolding
    rows u16 u32 i16 has_bytes zeros first_no is_point kind_known coordinate in_range for_point for_operator held_after node_questions
    record_questions records_questions iso version distance marked trailer_questions start count node_at zero_bytes record_at records_from records
    nodes_from nodes file_questions ceil max_ℤ operator_of item_of items join_top step run tree_value kernel_of ray_square
    prepare distance_at foot_inside foot_distance low_q high_q qlo qhi weighted point_bounds join_bounds tree_bounds state_of span_state mark_of
    position_in_range ray_in_range ray_questions probe_count ray_state buffer_questions solid_by middle_solid tick_bit bit_of
    from_bits packed column_after column_answer bits_after bits_left
columns = refl

-- n ticks from tick t on
unfoldable pub ticks_from : ℕ → ℕ → List ℕ
ticks_from zero t = []
ticks_from (suc n) t = t ∷ ticks_from n (suc t)

-- "the solid ticks are then 331 to 692", each judged alone
pub solid_ticks : map (bit_of (solid_of file_k) (across (pos 0)) (2 ^ exponent)) (ticks_from 1024 0)
    ≡ replicate 331 0 ++ replicate 362 1 ++ replicate 331 0
unfolding
    ticks_from u16 u32 i16 is_point iso distance start count node_at zero_bytes record_at records_from nodes_from nodes ceil operator_of item_of
    items join_top step run tree_value version kernel_of ray_square prepare distance_at foot_inside foot_distance low_q high_q qlo qhi weighted
    point_bounds join_bounds tree_bounds state_of span_state mark_of solid_by middle_solid tick_bit bit_of
solid_ticks = refl

-- the strut's ticks are marked; their bits are 0 in the row of `columns`
pub strut_marked : ray_marks (solid_of strut) wide exponent ≡ replicate 511 empty_mark ++ replicate 2 crossing_mark ++ replicate 511 empty_mark
unfolding
    u16 u32 i16 is_point iso distance start count node_at zero_bytes record_at records_from nodes_from nodes ceil operator_of item_of items join_top
    step run tree_value version kernel_of ray_square prepare distance_at foot_inside foot_distance low_q high_q qlo qhi weighted point_bounds
    join_bounds tree_bounds state_of span_state ray_state span_marks
strut_marked = refl
