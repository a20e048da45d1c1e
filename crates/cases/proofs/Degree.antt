-- Worked cases of degree 6, as rows of a table that one theorem covers (document 02, P9): calls on files of version 2, sizes, the exact field at a
-- place, and what demand 3 allows.
use Rattle.std.specs.Prelude.{Ok, Err}
use mathlib.Core.Path.{◌≡◌, refl}
use mathlib.Core.List.{List, [], ◌∷◌, ◌++◌, map}
use Prim.Native.Nat.{ℕ}
use lib.ListN.{replicate}
use lib.IntN.{pos, neg_ℤ}
use Rattle.exact.specs.Extrema.{max_ℤ}
use Rattle.exact.specs.Fraction.{◌over◌, plus}
use Rattle.exact.specs.Rounding.{ceil}
use Rattle.record.specs.Bytes.{u16, u32, i16, has_bytes, zeros}
use Rattle.record.specs.Questions.{first_no}
use Rattle.record.specs.Nodes.{is_point, kind_known, coordinate, in_range, for_point, for_operator, held_after}
use Rattle.record.specs.Record.{node_at, zero_bytes, record_at, node_questions, record_questions}
use Rattle.part.specs.File.{iso, version, distance, marked, trailer_questions, start, count, records_from, records}
use Rattle.part.specs.File.{nodes_from, nodes, records_questions, file_questions, answer_of, check_file}
use Rattle.field.specs.Ray.{squared_distance, constant_ray}
use Rattle.field.specs.Kernel.{sextic, point_at}
use Rattle.field.specs.Tree.{operator_of, item_of, items, join_top, step, run, tree_value}
use Rattle.field.specs.Solid.{kernel_of, solid_of}
use Rattle.field.specs.Field.{field_at}
use Rattle.field.specs.Tolerance.{demanded_of, demanded, sum_over}
use Rattle.field.specs.Bounds.{ray_square, prepare, distance_at, foot_inside, foot_distance, low_q, high_q, qlo, qhi}
use Rattle.field.specs.Bounds.{weighted, point_bounds, join_bounds, tree_bounds, state_of}
use Rattle.field.specs.Marks.{span_state}
use Rattle.loading.specs.Loading.{position_in_range, ray_in_range, ray_questions}
use Rattle.bounds.specs.Place.{place_questions, place_answer, place_bounds}
use Rattle.halving.specs.declared.Cast.TheVariants as cast
use Rattle.halving.specs.declared.FirstHit.TheVariants as first
use Rattle.halving.specs.Halving.{span_marks, walk, cast_looked_at, handed}
use Rattle.halving.specs.FirstHit.{hit}
use Rattle.cast.specs.Ticks.{ray_state}
use Rattle.cast.specs.Questions.{buffer_questions}
use Rattle.cast.specs.Calls.{cast_after, full_cast, marks_after, marks_left, hit_after, first_hit}
use Rattle.cases.proofs.Rays.{Call, check, bounds, full, hits, Answer, checked, marks, found, answer, one_point_of, at, low_high, across}

-- file K with version 2
abbrev file_k2 : List ℕ
file_k2 = one_point_of 2 0x00 0x02 0x04 0x00

-- the marks of the ray across it: inside where 4 u³ is at least 1, from tick 357 to 666
abbrev marks2 : List ℕ
marks2 = replicate 356 0 ++ replicate 1 1 ++ replicate 310 2 ++ replicate 1 1 ++ replicate 356 0

unfoldable pub rows : List (Call × Answer)
rows =
    (check file_k2, checked (Ok (record { nodes = 1; iso = 1; version = 2 })))
    -- the centre, where u is 1; the radius, where it is 0; and (362, 0, 0), where q is 32,775 and q³/65536 is 537,215,049.5…
    ∷ (bounds file_k2 (at (pos 0) (pos 0)), low_high (pos 17179869184) (pos 17179869184))
    ∷ (bounds file_k2 (at (pos 512) (pos 0)), low_high (pos 0) (pos 0))
    ∷ (bounds file_k2 (at (pos 362) (pos 0)), low_high (pos 2148860196) (pos 2148860200))
    -- r 3 at (1, 0, 0), where u is 8/9, with w 1 and −1
    ∷ (bounds (one_point_of 2 3 0 1 0) (at (pos 1) (pos 0)), low_high (pos 3016458285) (pos 3016613632))
    ∷ (bounds (one_point_of 2 3 0 0xff 0xff) (at (pos 1) (pos 0)), low_high (neg_ℤ (pos 3016613632)) (neg_ℤ (pos 3016458285)))
    -- the ray across, which hits version 1's file at tick 330
    ∷ (hits file_k2 (across (pos 0)) 2047, found (Ok (first.Hit 356 1 15)))
    ∷ (hits file_k2 (across (pos 0)) 14, found (Ok (first.Spent 356 14)))
    ∷ (full file_k2 (across (pos 0)) 2047 (replicate 1024 3), marks (Ok (cast.Complete 39)) marks2)
    ∷ (full file_k2 (across (pos 512)) 2047 (replicate 1024 3), marks (Ok (cast.Complete 1)) (replicate 1024 0))
    ∷ []

pub sixth : map (λ r. answer r.0) rows ≡ map (λ r. r.1) rows
unfolding
    rows answer u16 u32 i16 has_bytes zeros first_no is_point kind_known coordinate in_range for_point for_operator held_after node_questions
    record_questions records_questions iso version distance marked trailer_questions start count node_at zero_bytes record_at records_from records
    nodes_from nodes file_questions answer_of check_file ceil max_ℤ operator_of item_of items join_top step run tree_value kernel_of ray_square
    prepare distance_at foot_inside foot_distance low_q high_q qlo qhi weighted point_bounds join_bounds tree_bounds state_of span_state
    position_in_range ray_in_range ray_questions place_questions place_answer place_bounds span_marks walk cast_looked_at handed hit ray_state
    buffer_questions cast_after full_cast marks_after marks_left hit_after first_hit
sixth = refl

-- sizes of q: q³/65536 rounded down and up
pub sizes : map {A = ℕ} {B = ℕ × ℕ} (λ q. (sextic.low q, sextic.high q)) (0 ∷ 1 ∷ 40 ∷ 41 ∷ 65534 ∷ 65535 ∷ 65536 ∷ [])
    ≡ (0, 0) ∷ (0, 1) ∷ (0, 1) ∷ (1, 2) ∷ (4294574091, 4294574092) ∷ (4294770690, 4294770691) ∷ (4294967296, 4294967296) ∷ []
unfolding ceil
sizes = refl

-- at (362, 0, 0) the exact field is 4 × (131,100/262,144)³; on the ray across demand 3 allows 4 × (6 × 2048/(1024 × 512) + 7/65536), which is
-- 4 × (3 × 2048/(512 × 512) + 7/65536)
pub exact_sixth : (field_at (solid_of file_k2) (constant_ray (at (pos 362) (pos 0))) 0 1 ≡ pos 9012972924000000 over 18014398509481984)
    × (demanded (solid_of file_k2) (across (pos 0)) 1024 ≡ pos 3235905536 over 34359738368)
unfolding
    u16 u32 i16 is_point iso version distance start count node_at zero_bytes record_at records_from nodes_from nodes operator_of item_of items
    join_top step run tree_value kernel_of plus squared_distance point_at field_at demanded_of sum_over demanded
exact_sixth = (refl, refl)
