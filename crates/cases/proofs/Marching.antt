-- Marching casts (document 02, P5) as rows of tables that one theorem each covers: searches of given states (`searched`), and calls on file K
-- (`marched`). And that the budget for certain completion is met (`met`).
use Rattle.std.specs.Prelude.{Ok, Err}
use mathlib.Core.Path.{◌≡◌, refl}
use mathlib.Core.List.{List, [], ◌∷◌, ◌++◌, map}
use mathlib.Core.Bool.{cond}
use Prim.Native.Nat.{ℕ, ◌+◌, ◌^◌}
use lib.ListN.{length, take, replicate}
use lib.Dec.{leb}
use lib.IntN.{pos}
use Rattle.exact.specs.Extrema.{max_ℤ}
use Rattle.exact.specs.Rounding.{ceil}
use Rattle.record.specs.Bytes.{u16, u32, i16, has_bytes, zeros}
use Rattle.record.specs.Questions.{first_no}
use Rattle.record.specs.Nodes.{is_point, kind_known, coordinate, in_range, for_point, for_operator, held_after}
use Rattle.record.specs.Record.{node_at, zero_bytes, record_at, node_questions, record_questions}
use Rattle.record.specs.declared.Refusal.TheVariants as no
use Rattle.part.specs.File.{iso, version, distance, marked, trailer_questions, start, count, records_from, records}
use Rattle.part.specs.File.{records_questions, nodes_from, nodes, file_questions}
use Rattle.field.specs.Vectors.{Ray}
use Rattle.field.specs.Tree.{operator_of, item_of, items, join_top, step, run, tree_value}
use Rattle.field.specs.Solid.{kernel_of, solid_of}
use Rattle.field.specs.Bounds.{ray_square, prepare, distance_at, foot_inside, foot_distance, low_q, high_q, qlo, qhi}
use Rattle.field.specs.Bounds.{weighted, point_bounds, join_bounds, tree_bounds, state_of, empty_mark, crossing_mark, inside_mark, not_looked_at}
use Rattle.field.specs.Marks.{span_state}
use Rattle.loading.specs.Loading.{position_in_range, ray_in_range, ray_questions}
use Rattle.halving.specs.declared.Cast.{Cast}
use Rattle.halving.specs.Answers.{CastAnswer}
use Rattle.halving.specs.declared.Cast.TheVariants.{Complete, Spent}
use Rattle.halving.specs.Halving.{cast_looked_at, handed}
use Rattle.cast.specs.Ticks.{exponent, ray_state}
use Rattle.cast.specs.Questions.{buffer_questions}
use Rattle.cast.specs.Calls.{cast_after, marks_after}
use Rattle.march.specs.Marching.{march_enough, next_tick, next_length, count_from, marks_from, walk_from, march_marks, march}
use Rattle.march.specs.Marching as marching
use Rattle.march.specs.Calls.{march_probes, marching_cast, marched_left}
use Rattle.cases.proofs.Rays.{file_k, at, across}

-- ---- states of rays of T ticks

-- empty before tick `first`, inside from tick `after` on, undecided where a span has ticks of both or between them
abbrev wall : ℕ → ℕ → ℕ → ℕ → ℕ
wall first after i n = cond (leb (i + n) first) empty_mark (cond (leb after i) inside_mark crossing_mark)

-- a wall at ticks 100 to 102 of 200, and between ticks 81 and 82 of 100
abbrev thick : ℕ → ℕ → ℕ
thick = wall 100 103

abbrev thin : ℕ → ℕ → ℕ
thin = wall 82 82

-- the state, the ticks, the budget, and what is answered
unfoldable pub searches : List ((((ℕ → ℕ → ℕ) × ℕ) × ℕ) × Cast)
searches =
    -- an empty ray: 64, 128, 256, 512 ticks and the 64 that are left
    ((((λ i n. empty_mark), 1024), 5), Complete 5)
    ∷ ((((λ i n. empty_mark), 1024), 4), Spent 960 4)
    ∷ (((thick, 200), 0), Spent 0 0)
    ∷ (((thick, 200), 5), Spent 96 5)
    ∷ (((thick, 200), 22), Spent 165 22)
    ∷ (((thick, 200), 23), Complete 23)
    -- the second candidate is cut to 36 ticks, and that is what is halved
    ∷ (((thin, 100), 2), Spent 64 2)
    ∷ (((thin, 100), 3), Spent 82 3)
    ∷ (((thin, 100), 4), Complete 4)
    ∷ []

pub searched : map (λ r. march r.0.0.0 r.0.0.1 r.0.1) searches ≡ map (λ r. r.1) searches
unfolding searches next_tick next_length walk_from
searched = refl

-- the marks of the first wall's ray, and what a march with a budget of 5 hands over
walls : (march_marks thick 200 ≡ replicate 100 empty_mark ++ replicate 3 crossing_mark ++ replicate 97 inside_mark)
    × (handed 200 (march thick 200 5) (march_marks thick 200) ≡ replicate 96 empty_mark ++ replicate 104 not_looked_at)
unfolding next_tick next_length marching.marked marks_from walk_from handed cast_looked_at
walls = (refl, refl)

-- ---- file K

pub record Request : Type 0 where
  pub ray : Ray
  pub budget : ℕ
  pub lent : List ℕ

-- what is answered, and the buffer afterwards
abbrev answer : Request → CastAnswer × List ℕ
answer r = (marching_cast file_k r.ray r.budget (length r.lent), marched_left file_k r.ray r.budget r.lent)

abbrev request : Ray → ℕ → List ℕ → Request
request ray budget lent = record { ray = ray; budget = budget; lent = lent }

abbrev marks : List ℕ
marks = replicate 1024 7

-- the marks of "(−1024, 0, 0) to (1024, 0, 0)", and of the ray at y = 362
abbrev through : List ℕ
through = replicate 330 empty_mark ++ crossing_mark ∷ replicate 362 inside_mark ++ crossing_mark ∷ replicate 330 empty_mark

abbrev near : List ℕ
near = replicate 509 empty_mark ++ crossing_mark ∷ replicate 4 inside_mark ++ crossing_mark ∷ replicate 509 empty_mark

unfoldable pub rows : List (Request × (CastAnswer × List ℕ))
rows =
    -- the marks that the ray lister prints, by 49 probes; a byte past them is kept
    (request (across (pos 0)) 2052 marks, (Ok (Complete 49), through))
    ∷ (request (across (pos 0)) 49 (marks ++ 7 ∷ []), (Ok (Complete 49), through ++ 7 ∷ []))
    -- with one probe less the last 76 ticks are not looked at
    ∷ (request (across (pos 0)) 48 marks, (Ok (Spent 948 48), take 948 through ++ replicate 76 not_looked_at))
    ∷ (request (across (pos 0)) 0 marks, (Ok (Spent 0 0), replicate 1024 not_looked_at))
    -- "The same ray at y = 512", and "At y = 362"
    ∷ (request (across (pos 512)) 2052 marks, (Ok (Complete 5), replicate 1024 empty_mark))
    ∷ (request (across (pos 362)) 2052 marks, (Ok (Complete 37), near))
    -- refused as a full cast is: "Coordinate 2,048: 12", "A buffer of 1,023 gives 14."
    ∷ (request (across (pos 2048)) 49 marks, (Err no.Coordinates, marks))
    ∷ (request (across (pos 0)) 49 (replicate 1023 7), (Err no.Buffer, replicate 1023 7))
    ∷ []

pub marched : map (λ r. answer r.0) rows ≡ map (λ r. r.1) rows
unfolding
    rows u16 u32 i16 has_bytes zeros first_no is_point kind_known coordinate in_range for_point for_operator held_after node_questions
    record_questions records_questions iso version distance marked trailer_questions start count node_at zero_bytes record_at records_from records
    nodes_from nodes file_questions ceil max_ℤ operator_of item_of items join_top step run tree_value kernel_of ray_square
    prepare distance_at foot_inside foot_distance low_q high_q qlo qhi weighted point_bounds join_bounds tree_bounds state_of span_state
    position_in_range ray_in_range ray_questions cast_looked_at handed ray_state buffer_questions cast_after marks_after
    next_tick next_length marching.marked marks_from walk_from marching_cast marched_left
marched = refl

-- ---- the most probes

-- one point of r 1,024 at (2, 0, 0), of weight 1, iso 1: on the ray from (0, 0, 0) to (1, 0, 0) every stretch is undecided
abbrev far_file : List ℕ
far_file =
    1 ∷ 0 ∷ 0x00 ∷ 0x04 ∷ 2 ∷ 0 ∷ 0 ∷ 0 ∷ 0 ∷ 0 ∷ 1 ∷ 0
    ∷ 0x01 ∷ 0x00 ∷ 0x01 ∷ 0x00 ∷ 0x18 ∷ 0x00 ∷ 0x00 ∷ 0x00 ∷ 0x54 ∷ 0x52 ∷ 0x45 ∷ 0x45 ∷ []

abbrev far_ray : Ray
far_ray = record { start = at (pos 0) (pos 0); end = at (pos 1) (pos 0) }

-- its probe count is the most that there is
pub met : march_probes (solid_of far_file) far_ray exponent ≡ march_enough (2 ^ exponent)
unfolding
    u16 u32 i16 is_point iso distance start count node_at zero_bytes record_at records_from nodes_from nodes ceil max_ℤ operator_of item_of items
    join_top step run tree_value version kernel_of ray_square prepare distance_at foot_inside foot_distance low_q high_q qlo qhi weighted
    point_bounds join_bounds tree_bounds state_of span_state ray_state next_tick next_length count_from
met = refl
