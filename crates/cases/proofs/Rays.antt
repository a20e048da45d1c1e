-- The starred cases, as rows of a table that one theorem covers (document 01, "Rays and places tried"): a call, and what it answers.
use Rattle.std.specs.Prelude.{Ok, Err}
use mathlib.Core.Path.{◌≡◌, refl}
use mathlib.Core.List.{List, [], ◌∷◌, map}
use Prim.Native.Nat.{ℕ}
use lib.ListN.{length, replicate}
use lib.IntN.{ℤ, pos, neg_ℤ}
use Rattle.exact.specs.Extrema.{max_ℤ}
use Rattle.exact.specs.Rounding.{ceil}
use Rattle.record.specs.Bytes.{u16, u32, i16, has_bytes, zeros}
use Rattle.record.specs.Questions.{first_no}
use Rattle.record.specs.Nodes.{is_point, kind_known, coordinate, in_range, for_point, for_operator, held_after}
use Rattle.part.specs.File.{records_questions, Checked}
use Rattle.record.specs.Record.{node_at, zero_bytes, record_at, node_questions, record_questions}
use Rattle.record.specs.declared.Refusal.TheVariants as no
use Rattle.part.specs.File.{iso, version, distance, marked, trailer_questions, start, count, records_from, records}
use Rattle.part.specs.File.{nodes_from, nodes, file_questions, answer_of, check_file}
use Rattle.field.specs.Vectors.{Position}
use Rattle.field.specs.Vectors.{Ray}
use Rattle.field.specs.Ray.{constant_ray}
use Rattle.field.specs.Tree.{operator_of, item_of, items, join_top, step, run, tree_value}
use Rattle.field.specs.Solid.{kernel_of}
use Rattle.field.specs.Bounds.{ray_square, prepare, distance_at, foot_inside, foot_distance, low_q, high_q, qlo, qhi}
use Rattle.field.specs.Bounds.{weighted, point_bounds, join_bounds, tree_bounds, state_of}
use Rattle.field.specs.Marks.{span_state}
use Rattle.loading.specs.Loading.{position_in_range, ray_in_range, ray_questions}
use Rattle.bounds.specs.Place.{place_questions, place_answer, place_bounds, BoundsAnswer}
use Rattle.halving.specs.Answers.{CastAnswer}
use Rattle.halving.specs.declared.Cast.TheVariants as cast
use Rattle.halving.specs.Answers.{HitAnswer}
use Rattle.halving.specs.declared.FirstHit.TheVariants as first
use Rattle.halving.specs.Halving.{span_marks, walk, cast_looked_at, handed}
use Rattle.halving.specs.FirstHit.{hit}
use Rattle.cast.specs.Ticks.{ray_state}
use Rattle.cast.specs.Questions.{buffer_questions}
use Rattle.cast.specs.Calls.{cast_after, full_cast, marks_after, marks_left, hit_after, first_hit}

-- ---- calls and answers

pub data Call : Type 0 where
  check : List ℕ → Call
  bounds : List ℕ → Position → Call
  full : List ℕ → Ray → ℕ → List ℕ → Call
  hits : List ℕ → Ray → ℕ → Call

pub data Answer : Type 0 where
  checked : Checked → Answer
  bounded : BoundsAnswer → Answer
  marks : CastAnswer → List ℕ → Answer
  found : HitAnswer → Answer

unfoldable pub answer : Call → Answer
answer (check file) = checked (check_file file)
answer (bounds file place) = bounded (place_bounds file place)
answer (full file ray budget lent) = marks (full_cast file ray budget (length lent)) (marks_left file ray budget lent)
answer (hits file ray budget) = found (first_hit file ray budget)

-- ---- files, places and rays

-- a file of one point at the origin, iso 1: its version, the two bytes of r, and those of w
abbrev pub one_point_of : ℕ → ℕ → ℕ → ℕ → ℕ → List ℕ
one_point_of v r r' w w' =
    1 ∷ 0 ∷ r ∷ r' ∷ 0 ∷ 0 ∷ 0 ∷ 0 ∷ 0 ∷ 0 ∷ w ∷ w'
    ∷ 0x01 ∷ 0x00 ∷ v ∷ 0x00 ∷ 0x18 ∷ 0x00 ∷ 0x00 ∷ 0x00 ∷ 0x54 ∷ 0x52 ∷ 0x45 ∷ 0x45 ∷ []

abbrev pub one_point : ℕ → ℕ → ℕ → ℕ → List ℕ
one_point r r' w w' = one_point_of 1 r r' w w'

abbrev pub file_k : List ℕ
file_k = one_point 0x00 0x02 0x04 0x00

-- file K with version 3 and a last byte 44
abbrev bad_mark : List ℕ
bad_mark =
    1 ∷ 0 ∷ 0 ∷ 2 ∷ 0 ∷ 0 ∷ 0 ∷ 0 ∷ 0 ∷ 0 ∷ 4 ∷ 0
    ∷ 0x01 ∷ 0x00 ∷ 0x03 ∷ 0x00 ∷ 0x18 ∷ 0x00 ∷ 0x00 ∷ 0x00 ∷ 0x54 ∷ 0x52 ∷ 0x45 ∷ 0x44 ∷ []

abbrev pub at : ℤ → ℤ → Position
at x y = record { x = x; y = y; z = pos 0 }

abbrev pub low_high : ℤ → ℤ → Answer
low_high low high = bounded (Ok (record { low = low; high = high }))

-- "(−1024, 0, 0) to (1024, 0, 0)", at some y
abbrev pub across : ℤ → Ray
across y = record { start = at (neg_ℤ (pos 1024)) y; end = at (pos 1024) y }

unfoldable pub rows : List (Call × Answer)
rows =
    -- "K at (0, 0, 0): both bounds 17,179,869,184."
    (bounds file_k (at (pos 0) (pos 0)), low_high (pos 17179869184) (pos 17179869184))
    -- "K at (512, 0, 0): both 0."
    ∷ (bounds file_k (at (pos 512) (pos 0)), low_high (pos 0) (pos 0))
    -- "At (362, 0, 0): both 4,296,802,500."
    ∷ (bounds file_k (at (pos 362) (pos 0)), low_high (pos 4296802500) (pos 4296802500))
    -- "One point at the origin, r 3, w 1, at (1, 0, 0): 3,393,528,516 and 3,393,645,025."
    ∷ (bounds (one_point 3 0 1 0) (at (pos 1) (pos 0)), low_high (pos 3393528516) (pos 3393645025))
    -- "With w −1: −3,393,645,025 and −3,393,528,516."
    ∷ (bounds (one_point 3 0 0xff 0xff) (at (pos 1) (pos 0)), low_high (neg_ℤ (pos 3393645025)) (neg_ℤ (pos 3393528516)))
    -- "The ray above, first hit: tick 330, crossing, 15 probes."
    ∷ (hits file_k (across (pos 0)) 2047, found (Ok (first.Hit 330 1 15)))
    -- "Budget 14: spent at 330."
    ∷ (hits file_k (across (pos 0)) 14, found (Ok (first.Spent 330 14)))
    -- "The same ray at y = 512: all empty, 1 probe."
    ∷ (full file_k (across (pos 512)) 2047 (replicate 1024 3), marks (Ok (cast.Complete 1)) (replicate 1024 0))
    -- "A = B", which becomes an answered case (document 02, P8): every tick is the one place, inside
    ∷ (hits file_k (constant_ray (at (pos 1) (pos 2))) 2047, found (Ok (first.Hit 0 2 1)))
    ∷ (full file_k (constant_ray (at (pos 1) (pos 2))) 2047 (replicate 1024 3), marks (Ok (cast.Complete 1)) (replicate 1024 2))
    -- "Coordinate 2,048: 12; 2,047 passes.", of a place and of a ray
    ∷ (bounds file_k (at (pos 2048) (pos 0)), bounded (Err no.Coordinates))
    ∷ (bounds file_k (at (pos 2047) (pos 0)), low_high (pos 0) (pos 0))
    ∷ (hits file_k (across (pos 2048)) 2047, found (Err no.Coordinates))
    ∷ (hits file_k (across (pos 2047)) 2047, found (Ok (first.Clear 1)))
    -- "Bad mark and bad version: 2."
    ∷ (check bad_mark, checked (Err no.Mark))
    ∷ []

pub starred : map (λ r. answer r.0) rows ≡ map (λ r. r.1) rows
unfolding
    rows answer u16 u32 i16 has_bytes zeros first_no is_point kind_known coordinate in_range for_point for_operator held_after node_questions
    record_questions records_questions iso version distance marked trailer_questions start count node_at zero_bytes record_at records_from records
    nodes_from nodes file_questions answer_of check_file ceil max_ℤ operator_of item_of items join_top step run tree_value kernel_of ray_square
    prepare distance_at foot_inside foot_distance low_q high_q qlo qhi weighted point_bounds join_bounds tree_bounds state_of span_state
    position_in_range ray_in_range ray_questions place_questions place_answer place_bounds span_marks walk cast_looked_at handed hit ray_state
    buffer_questions cast_after full_cast marks_after marks_left hit_after first_hit
starred = refl
