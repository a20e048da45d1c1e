-- Worked floats (`taken`) and viewer's rays (`seen`): tables, each covered by one theorem.
use Rattle.std.specs.Prelude.{Some, None}
use mathlib.Core.Path.{◌≡◌, refl}
use mathlib.Core.List.{List, [], ◌∷◌, map}
use Prim.Native.Nat.{ℕ}
use lib.IntN.{pos, neg_ℤ}
use lib.Ieee.{Float, binary32, of_bits, round}
use Rattle.exact.specs.Extrema.{max_ℤ}
use Rattle.exact.specs.Rounding.{ceil}
use Rattle.record.specs.Bytes.{u16, u32, i16, has_bytes, zeros}
use Rattle.record.specs.Questions.{first_no}
use Rattle.record.specs.Nodes.{is_point, kind_known, coordinate, in_range, for_point, for_operator, held_after}
use Rattle.part.specs.File.{records_questions}
use Rattle.record.specs.Record.{node_at, zero_bytes, record_at, node_questions, record_questions}
use Rattle.record.specs.declared.Refusal.TheVariants as no
use Rattle.part.specs.File.{iso, version, distance, marked, trailer_questions, start, count, records_from, records}
use Rattle.part.specs.File.{nodes_from, nodes, file_questions}
use Rattle.field.specs.Tree.{operator_of, item_of, items, join_top, step, run, tree_value}
use Rattle.field.specs.Solid.{kernel_of}
use Rattle.field.specs.Bounds.{ray_square, prepare, distance_at, foot_inside, foot_distance, low_q, high_q, qlo, qhi}
use Rattle.field.specs.Bounds.{weighted, point_bounds, join_bounds, tree_bounds, state_of}
use Rattle.field.specs.Marks.{span_state}
use Rattle.halving.specs.FirstHit.{hit}
use Rattle.cast.specs.Ticks.{ray_state}
use Rattle.cast.specs.Calls.{hit_after}
use Rattle.view.specs.Ray.{ViewRay}
use Rattle.view.specs.declared.ViewAnswer.{ViewAnswer}
use Rattle.view.specs.declared.ViewAnswer.TheVariants as view
use Rattle.view.specs.Floats.{place_of}
use Rattle.view.specs.Steps.{steps_of, whole_steps, Steps}
use Rattle.view.specs.Ray.{whole, coordinate_of, position_of, steps_ray}
use Rattle.view.specs.Call.{float_questions, view_questions, view_of, viewer_ticks, viewer_first_hit}
use Rattle.cases.proofs.Rays.{file_k}

-- ---- floats

-- a float's bits, and its steps
unfoldable pub floats : List (ℕ × Steps)
floats =
    -- 1.5 mm, and 0 and minus zero
    (0x3fc0_0000, Some (pos 96))
    ∷ (0x0000_0000, Some (pos 0))
    ∷ (0x8000_0000, Some (pos 0))
    -- 1/64 and −1/64, and the floats next to 1/64
    ∷ (0x3c80_0000, Some (pos 1))
    ∷ (0xbc80_0000, Some (neg_ℤ (pos 1)))
    ∷ (0x3c80_0001, None)
    ∷ (0x3c7f_ffff, None)
    -- 2,047/64 and −2,047/64, the float after 2,047/64, and 2,048/64 and −2,048/64
    ∷ (0x41ff_e000, Some (pos 2047))
    ∷ (0xc1ff_e000, Some (neg_ℤ (pos 2047)))
    ∷ (0x41ff_e001, None)
    ∷ (0x4200_0000, None)
    ∷ (0xc200_0000, None)
    -- the smallest and the largest float above 0, the infinities and a NaN
    ∷ (0x0000_0001, None)
    ∷ (0x7f7f_ffff, None)
    ∷ (0x7f80_0000, None)
    ∷ (0xff80_0000, None)
    ∷ (0x7fc0_0000, None)
    ∷ []

pub taken : map (λ (r : ℕ × Steps). steps_of (of_bits binary32 r.0)) floats ≡ map (λ (r : ℕ × Steps). r.1) floats
unfolding floats steps_of whole_steps coordinate of_bits
taken = refl

-- ---- calls on file K: one point at the origin, r 512, w 4, iso 1

abbrev pub float : ℕ → Float
float bits = of_bits binary32 bits

-- a ray along x at some y, z = 0, by the floats' bits
abbrev pub along : ℕ → ℕ → ℕ → ViewRay
along from to y = record {
  start = record { x = float from; y = float y; z = float 0 };
  end = record { x = float to; y = float y; z = float 0x8000_0000 };
}

-- a ray and a budget, and the answer
unfoldable pub rays : List (ViewRay × ℕ × ViewAnswer)
rays =
    -- "(−1024, 0, 0) to (1024, 0, 0)" is −16 mm to 16 mm: tick 330, crossing, 15 probes; 330/1024
    (along 0xc180_0000 0x4180_0000 0, 2047, view.Hit (float 0x3ea5_0000) 1 15)
    -- "Budget 14: spent at 330"
    ∷ (along 0xc180_0000 0x4180_0000 0, 14, view.Spent (float 0x3ea5_0000) 14)
    -- budget 0 is spent at tick 0
    ∷ (along 0xc180_0000 0x4180_0000 0, 0, view.Spent (float 0) 0)
    -- "The same ray at y = 512", 8 mm: all empty, 1 probe
    ∷ (along 0xc180_0000 0x4180_0000 0x4100_0000, 1, view.Clear 1)
    -- −363/64 mm to 661/64 mm, which starts in a crossing tick: 11 probes, the figure of tick 0 (document 02, P7), and spent with 10
    ∷ (along 0xc0b5_8000 0x4125_4000 0, 11, view.Hit (float 0) 1 11)
    ∷ (along 0xc0b5_8000 0x4125_4000 0, 10, view.Spent (float 0) 10)
    -- A = B, with 0 and minus zero (document 02, P8): 64 steps from the centre; and a float that is not whole steps at both ends
    ∷ (along 0x3f80_0000 0x3f80_0000 0, 1, view.Hit (float 0) 2 1)
    ∷ (along 0x3f80_0000 0x3f80_0000 0, 0, view.Spent (float 0) 0)
    ∷ (along 0x3c7f_ffff 0x3c7f_ffff 0, 2047, view.Refused no.Millimetres)
    -- 2,048/64 mm
    ∷ (along 0 0x4200_0000 0, 2047, view.Refused no.Millimetres)
    ∷ []

-- a row of the second table
abbrev Row : Type 0
Row = ViewRay × ℕ × ViewAnswer

pub seen : map (λ (r : Row). viewer_first_hit file_k r.0 r.1) rays ≡ map (λ (r : Row). r.2) rays
unfolding
    rays of_bits round u16 u32 i16 has_bytes zeros first_no is_point kind_known coordinate in_range for_point for_operator held_after node_questions
    record_questions records_questions iso version distance marked trailer_questions start count node_at zero_bytes record_at records_from records
    nodes_from nodes file_questions ceil max_ℤ operator_of item_of items join_top step run tree_value ray_square prepare distance_at foot_inside
    foot_distance low_q high_q qlo qhi weighted point_bounds join_bounds tree_bounds state_of hit kernel_of span_state ray_state hit_after
    place_of steps_of whole_steps whole coordinate_of position_of steps_ray float_questions view_questions view_of viewer_ticks viewer_first_hit
seen = refl
