-- What a first hit costs (document 02, P7), on rays into file K's ball, a step a tick, as rows of a table that one theorem covers (`costs`). The ray
-- that starts in a crossing tick takes 11 probes, and with 10 it is spent: so no smaller constant would be true, of the figure 2 h + 11
-- (`least_cost`) or of the budget (`least_budget`).
use Rattle.std.specs.Prelude.{Ok, Err}
use mathlib.Core.Path.{◌≡◌, refl, subst}
use mathlib.Core.List.{List, [], ◌∷◌, map}
use Prim.Native.Nat.{ℕ, ◌+◌, ◌*◌, ◌≤◌}
use native.Mathlib.Omega.{arith}
use native.Mathlib.Decide.{dec_le}
use lib.Dec.{lit≤}
use lib.IntN.{pos, neg_ℤ, ◌-ℤ◌}
use Rattle.exact.specs.Extrema.{max_ℤ}
use Rattle.exact.specs.Rounding.{ceil}
use Rattle.record.specs.Bytes.{u16, u32, i16, has_bytes, zeros}
use Rattle.record.specs.Questions.{first_no}
use Rattle.record.specs.Nodes.{is_point, kind_known, coordinate, in_range, for_point, for_operator, held_after}
use Rattle.record.specs.Record.{node_at, zero_bytes, record_at, node_questions, record_questions}
use Rattle.part.specs.File.{iso, version, distance, marked, trailer_questions, start, count, records_from, records}
use Rattle.part.specs.File.{records_questions, nodes_from, nodes, file_questions}
use Rattle.field.specs.Vectors.{Ray}
use Rattle.field.specs.Tree.{operator_of, item_of, items, join_top, step, run, tree_value}
use Rattle.field.specs.Solid.{kernel_of, solid_of}
use Rattle.field.specs.Bounds.{ray_square, prepare, distance_at, foot_inside, foot_distance, low_q, high_q, qlo, qhi}
use Rattle.field.specs.Bounds.{weighted, point_bounds, join_bounds, tree_bounds, state_of, crossing_mark}
use Rattle.field.specs.Marks.{span_state, mark_of}
use Rattle.loading.specs.Loading.{position_in_range, ray_in_range, ray_questions}
use Rattle.halving.specs.Answers.{HitAnswer}
use Rattle.halving.specs.declared.FirstHit.TheVariants.{Hit, Spent}
use Rattle.halving.specs.FirstHit.{hit}
use Rattle.cast.specs.Ticks.{ray_state}
use Rattle.cast.specs.Calls.{hit_after, first_hit}
use Rattle.cast.specs.Demands.{Empty, FirstNotEmpty, HitAt}
use Rattle.cases.proofs.Rays.{file_k, at}

-- 1,024 steps along x from −363 − h on: the ball's face, between −363 and −362, is in tick h
abbrev into : ℕ → Ray
into h = record { start = at (neg_ℤ (pos (363 + h))) (pos 0); end = at (pos 661 -ℤ pos h) (pos 0) }

-- the tick of the face, the budget, and the answer
unfoldable pub rows : List (ℕ × ℕ × HitAnswer)
rows =
    -- tick 0 costs 11, its figure, and with 10 it is spent
    (0, 2047, Ok (Hit 0 1 11))
    ∷ (0, 11, Ok (Hit 0 1 11))
    ∷ (0, 10, Ok (Spent 0 10))
    -- ticks 1, 3, 511 and 1,023, each with its figure for a budget; and tick 1 with one probe less than it takes
    ∷ (1, 13, Ok (Hit 1 1 12))
    ∷ (1, 11, Ok (Spent 1 11))
    ∷ (3, 17, Ok (Hit 3 1 13))
    ∷ (511, 1033, Ok (Hit 511 1 20))
    ∷ (1023, 2057, Ok (Hit 1023 1 21))
    ∷ []

-- a row of the table
abbrev Row : Type 0
Row = ℕ × ℕ × HitAnswer

pub costs : map (λ (r : Row). first_hit file_k (into r.0) r.1) rows ≡ map (λ (r : Row). r.2) rows
unfolding
    rows u16 u32 i16 has_bytes zeros first_no is_point kind_known coordinate in_range for_point for_operator held_after node_questions
    record_questions records_questions iso version distance marked trailer_questions start count node_at zero_bytes record_at records_from records
    nodes_from nodes file_questions ceil max_ℤ operator_of item_of items join_top step run tree_value kernel_of ray_square
    prepare distance_at foot_inside foot_distance low_q high_q qlo qhi weighted point_bounds join_bounds tree_bounds state_of span_state
    position_in_range ray_in_range ray_questions hit ray_state hit_after first_hit
costs = refl

-- ---- no smaller constant

-- the hit at tick 0, the budget that is spent there, and the tick's mark
start_is : (first_hit file_k (into 0) 2047 ≡ Ok (Hit 0 1 11)) × (first_hit file_k (into 0) 10 ≡ Ok (Spent 0 10))
    × (mark_of (solid_of file_k) (into 0) 1024 0 ≡ crossing_mark)
unfolding
    u16 u32 i16 has_bytes zeros first_no is_point kind_known coordinate in_range for_point for_operator held_after node_questions
    record_questions records_questions iso version distance marked trailer_questions start count node_at zero_bytes record_at records_from records
    nodes_from nodes file_questions ceil max_ℤ operator_of item_of items join_top step run tree_value kernel_of ray_square
    prepare distance_at foot_inside foot_distance low_q high_q qlo qhi weighted point_bounds join_bounds tree_bounds state_of span_state mark_of
    position_in_range ray_in_range ray_questions hit ray_state hit_after first_hit
start_is = (refl, refl, refl)

pub least_cost : (c : ℕ)
    → ((file : List ℕ) (ray : Ray) (budget h mark probes : ℕ) → first_hit file ray budget ≡ Ok (Hit h mark probes) → probes ≤ 2 * h + c)
    → 11 ≤ c
least_cost c all = omega (arith, all file_k (into 0) 2047 0 1 11 start_is.0)

first : FirstNotEmpty (solid_of file_k) (into 0) 1024 0
unfolding FirstNotEmpty Empty
first = (lit≤ tt, (λ t h. absurd (omega arith)), λ e. omega (arith, start_is.2, e))

pub least_budget : (c : ℕ)
    → ((file : List ℕ) (ray : Ray) (budget h : ℕ) → FirstNotEmpty (solid_of file) ray 1024 h → 2 * h + c ≤ budget
    → HitAt (solid_of file) ray 1024 h (first_hit file ray budget))
    → 11 ≤ c
unfolding HitAt
least_budget c all = elim (dec_le c 10) [
  | yes few ↦ absurd (subst (HitAt (solid_of file_k) (into 0) 1024 0) start_is.1 (all file_k (into 0) 10 0 first (omega arith)))
  | no n ↦ omega arith
]
