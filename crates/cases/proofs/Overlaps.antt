-- Overlaps and cut-outs (document 02, P1) as rows of a table that one theorem covers: lesser and cut, at places and along rays.
use Rattle.std.specs.Prelude.{Ok, Err}
use mathlib.Core.Path.{◌≡◌, refl}
use mathlib.Core.List.{List, [], ◌∷◌, ◌++◌, map}
use Prim.Native.Nat.{ℕ, ◌+◌}
use lib.ListN.{length, replicate}
use lib.IntN.{pos, neg_ℤ}
use Rattle.exact.specs.Extrema.{max_ℤ, min_ℤ}
use Rattle.exact.specs.Rounding.{ceil}
use Rattle.record.specs.Bytes.{u16, u32, i16, has_bytes, zeros}
use Rattle.record.specs.Questions.{first_no}
use Rattle.record.specs.Nodes.{is_point, kind_known, coordinate, in_range, for_point, for_operator, held_after}
use Rattle.record.specs.Record.{node_at, zero_bytes, record_at, node_questions, record_questions}
use Rattle.part.specs.File.{iso, version, distance, marked, trailer_questions, start, count, records_from, records}
use Rattle.part.specs.File.{records_questions, nodes_from, nodes, file_questions}
use Rattle.field.specs.Tree.{operator_of, item_of, items, join_top, step, run, tree_value}
use Rattle.field.specs.Solid.{kernel_of}
use Rattle.field.specs.Bounds.{ray_square, prepare, distance_at, foot_inside, foot_distance, low_q, high_q, qlo, qhi}
use Rattle.field.specs.Bounds.{weighted, point_bounds, join_bounds, tree_bounds, state_of}
use Rattle.field.specs.Marks.{span_state}
use Rattle.loading.specs.Loading.{position_in_range, ray_in_range, ray_questions}
use Rattle.bounds.specs.Place.{place_questions, place_answer, place_bounds}
use Rattle.halving.specs.declared.Cast.TheVariants as cast
use Rattle.halving.specs.declared.FirstHit.TheVariants as first
use Rattle.halving.specs.Halving.{span_marks, walk, cast_looked_at, handed}
use Rattle.halving.specs.FirstHit.{hit}
use Rattle.cast.specs.Ticks.{ray_state}
use Rattle.cast.specs.Questions.{buffer_questions}
use Rattle.cast.specs.Calls.{cast_after, full_cast, marks_after, marks_left, hit_after, first_hit}
use Rattle.cases.proofs.Rays.{Call, bounds, full, hits, Answer, marks, found, answer, at, across, low_high}

-- ---- files

-- a point on the x axis: the two bytes of r, of x, and of w
abbrev point : ℕ → ℕ → ℕ → ℕ → ℕ → ℕ → List ℕ
point r r' x x' w w' = 1 ∷ 0 ∷ r ∷ r' ∷ x ∷ x' ∷ 0 ∷ 0 ∷ 0 ∷ 0 ∷ w ∷ w' ∷ []

abbrev operator : ℕ → List ℕ
operator kind = kind ∷ 0 ∷ 0 ∷ 0 ∷ 0 ∷ 0 ∷ 0 ∷ 0 ∷ 0 ∷ 0 ∷ 0 ∷ 0 ∷ []

-- the records, with a trailer: the two bytes of the iso-value
abbrev file : ℕ → ℕ → List ℕ → List ℕ
file i i' rs = rs ++ i ∷ i' ∷ 1 ∷ 0 ∷ (length rs + 12) ∷ 0 ∷ 0 ∷ 0 ∷ 0x54 ∷ 0x52 ∷ 0x45 ∷ 0x45 ∷ []

-- of iso 1
abbrev part : List ℕ → List ℕ
part rs = file 1 0 rs

-- file K's point, and with the weight 4,096; one of r 3, of weight 1 and of −1
abbrev large : List ℕ
large = point 0 2 0 0 4 0

abbrev heavy : List ℕ
heavy = point 0 2 0 0 0 0x10

abbrev small : List ℕ
small = point 3 0 0 0 1 0

abbrev negative : List ℕ
negative = point 3 0 0 0 0xff 0xff

-- K cut by a point of half its radius, and the lesser of K and a point like it at x = 600
abbrev hollow : List ℕ
hollow = part (large ++ point 0 1 0 0 4 0 ++ operator 5)

abbrev lens : List ℕ
lens = part (large ++ point 0 2 0x58 2 4 0 ++ operator 4)

-- ---- the table

-- at (1, 0, 0) K's point has the bounds 17,179,344,900 and 17,179,869,184, the small one 3,393,528,516 and 3,393,645,025, and twice an iso-value of 1
-- is 8,589,934,592
unfoldable pub rows : List (Call × Answer)
rows =
    -- lesser: the small one's
    (bounds (part (large ++ small ++ operator 4)) (at (pos 1) (pos 0)), low_high (pos 3393528516) (pos 3393645025))
    ∷ (bounds (part (large ++ negative ++ operator 4)) (at (pos 1) (pos 0)), low_high (neg_ℤ (pos 3393645025)) (neg_ℤ (pos 3393528516)))
    -- cut: 8,589,934,592 less the small one's high, and less its low
    ∷ (bounds (part (large ++ small ++ operator 5)) (at (pos 1) (pos 0)), low_high (pos 5196289567) (pos 5196406076))
    -- by a negative weight: 8,589,934,592 and the sizes of its bounds
    ∷ (bounds (part (large ++ negative ++ operator 5)) (at (pos 1) (pos 0)), low_high (pos 11983463108) (pos 11983579617))
    -- the other way round
    ∷ (bounds (part (small ++ large ++ operator 5)) (at (pos 1) (pos 0)), low_high (neg_ℤ (pos 8589934592)) (neg_ℤ (pos 8589410308)))
    -- a cut by a cut, and a cut in a sum
    ∷ (bounds (part (large ++ large ++ small ++ operator 5 ++ operator 5)) (at (pos 1) (pos 0)), low_high (pos 3393528516) (pos 3393645025))
    ∷ (bounds (part (large ++ small ++ operator 5 ++ small ++ operator 2)) (at (pos 1) (pos 0)), low_high (pos 8589818083) (pos 8590051101))
    -- iso and weights 4,096: two points summed, cut by one; 35,184,372,088,832 less 1,024 times K's bounds
    ∷ (
      bounds (file 0 0x10 (heavy ++ heavy ++ operator 2 ++ heavy ++ operator 5)) (at (pos 1) (pos 0)),
      low_high (pos 17592186044416) (pos 17592722911232),
    )
    -- a hollow ball: the ray enters as into K, and the cavity shows
    ∷ (hits hollow (across (pos 0)) 2047, found (Ok (first.Hit 330 1 15)))
    ∷ (
      full hollow (across (pos 0)) 2047 (replicate 1024 3),
      marks (Ok (cast.Complete 67))
          (replicate 330 0 ++ replicate 1 1 ++ replicate 90 2 ++ replicate 1 1 ++ replicate 180 0
          ++ replicate 1 1 ++ replicate 90 2 ++ replicate 1 1 ++ replicate 330 0),
    )
    -- what two balls share
    ∷ (hits lens (across (pos 0)) 2047, found (Ok (first.Hit 630 1 17)))
    ∷ []

pub overlaps : map (λ r. answer r.0) rows ≡ map (λ r. r.1) rows
unfolding
    rows answer u16 u32 i16 has_bytes zeros first_no is_point kind_known coordinate in_range for_point for_operator held_after node_questions
    record_questions records_questions iso version distance marked trailer_questions start count node_at zero_bytes record_at records_from records
    nodes_from nodes file_questions ceil max_ℤ min_ℤ operator_of item_of items join_top step run tree_value kernel_of ray_square
    prepare distance_at foot_inside foot_distance low_q high_q qlo qhi weighted point_bounds join_bounds tree_bounds state_of span_state
    position_in_range ray_in_range ray_questions place_questions place_answer place_bounds span_marks walk cast_looked_at handed hit ray_state
    buffer_questions cast_after full_cast marks_after marks_left hit_after first_hit
overlaps = refl
