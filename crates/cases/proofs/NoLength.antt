-- Rays whose ends coincide (document 02, P8), at places of file K, as rows of a table that one theorem covers (`placed`): a place, a budget, and what
-- full cast, marching cast, first hit and column answer and leave, computed on the definitions. And wrong answers on such rays that the contracts
-- refute: 13 (`cast_13`, `hit_13`, `column_13`, `view_13`), by field `counted` of each; "empty" and "clear" at the centre (`cast_missed`,
-- `hit_missed`), by `alone`.
use Rattle.std.specs.Prelude.{Ok, Err}
use mathlib.Core.Path.{◌≡◌, refl, sym, ap, ◌∙◌}
use mathlib.Core.Logic.{inl, inr}
use mathlib.Core.List.{List, [], ◌∷◌, ◌++◌, map}
use Prim.Native.Nat.{ℕ, ◌-◌}
use native.Mathlib.Omega.{arith}
use lib.ListN.{get_or, replicate}
use lib.IntN.{ℤ, pos}
use Rattle.exact.specs.Extrema.{max_ℤ}
use Rattle.exact.specs.Rounding.{ceil}
use Rattle.record.specs.Bytes.{u16, u32, i16, has_bytes, zeros}
use Rattle.record.specs.Questions.{number, first_no}
use Rattle.record.specs.Nodes.{is_point, kind_known, coordinate, in_range, for_point, for_operator, held_after}
use Rattle.record.specs.Record.{node_at, zero_bytes, record_at, node_questions, record_questions}
use Rattle.record.specs.declared.Refusal.TheVariants as no
use Rattle.part.specs.File.{iso, version, distance, marked, trailer_questions, start, count, records_from, records}
use Rattle.part.specs.File.{records_questions, nodes_from, nodes, file_questions}
use Rattle.field.specs.Vectors.{Position}
use Rattle.field.specs.Vectors.{Ray}
use Rattle.field.specs.Ray.{constant_ray}
use Rattle.field.specs.Tree.{operator_of, item_of, items, join_top, step, run, tree_value}
use Rattle.field.specs.Solid.{Solid, kernel_of, solid_of}
use Rattle.field.specs.Bounds.{ray_square, prepare, distance_at, foot_inside, foot_distance, low_q, high_q, qlo, qhi}
use Rattle.field.specs.Bounds.{weighted, point_bounds, join_bounds, tree_bounds, state_of, solid_by, empty_mark, crossing_mark, inside_mark}
use Rattle.field.specs.Bounds.{not_looked_at}
use Rattle.field.specs.Marks.{span_state, mark_of}
use Rattle.loading.specs.Loading.{position_in_range, ray_in_range, ray_questions}
use Rattle.bounds.specs.Place.{place_questions, place_answer, place_bounds, BoundsAnswer}
use Rattle.halving.specs.Answers.{CastAnswer, HitAnswer, cast_reaches}
use Rattle.halving.specs.declared.Cast.TheVariants as cast
use Rattle.halving.specs.declared.FirstHit.TheVariants as found
use Rattle.halving.specs.Halving.{probe_count, span_marks, walk, cast_looked_at, handed}
use Rattle.halving.specs.FirstHit.{hit}
use Rattle.cast.specs.Ticks.{exponent, ray_state}
use Rattle.cast.specs.Column.{middle_solid, tick_bit, bit_of, from_bits, packed, ColumnAnswer}
use Rattle.cast.specs.Questions.{buffer_questions}
use Rattle.cast.specs.Calls.{cast_after, full_cast, marks_after, marks_left, hit_after, first_hit, column_after, column_answer, bits_after, bits_left}
use Rattle.cast.specs.Demands.{Alone, Empty, AloneHit, BufferRefusal, Counted, CountedHit, CountedColumn}
use Rattle.cast.specs.Demands.{MarkDemands, HitDemands, ColumnDemands}
use Rattle.march.specs.Marching.{next_tick, next_length, marks_from, walk_from}
use Rattle.march.specs.Marching as marching
use Rattle.march.specs.Calls.{marching_cast, marched_left}
use Rattle.view.specs.Ray.{ViewRay}
use Rattle.view.specs.declared.ViewAnswer.TheVariants as view
use Rattle.view.specs.Demands.{CountedView, ViewDemands}
use Rattle.cases.proofs.Rays.{file_k}

-- ---- the table

-- what the calls answer of a place, and the marks and bits in buffers of the least size
pub record Answers : Type 0 where
  pub bounds : BoundsAnswer
  pub full : CastAnswer
  pub marks : List ℕ
  pub march : CastAnswer
  pub marched : List ℕ
  pub first : HitAnswer
  pub column : ColumnAnswer
  pub bits : List ℕ

pub record Request : Type 0 where
  pub x : ℤ
  pub y : ℤ
  pub z : ℤ
  pub budget : ℕ

abbrev lent : List ℕ
lent = replicate 1024 7

abbrev at : Request → Position
at r = record { x = r.x; y = r.y; z = r.z }

abbrev answers : Request → Answers
answers r = record {
  bounds = place_bounds file_k (at r);
  full = full_cast file_k (constant_ray (at r)) r.budget 1024;
  marks = marks_left file_k (constant_ray (at r)) r.budget lent;
  march = marching_cast file_k (constant_ray (at r)) r.budget 1024;
  marched = marched_left file_k (constant_ray (at r)) r.budget lent;
  first = first_hit file_k (constant_ray (at r)) r.budget;
  column = column_answer file_k (constant_ray (at r)) 128;
  bits = bits_left file_k (constant_ray (at r)) (replicate 128 7);
}

abbrev request : ℕ → ℕ → ℕ → ℕ → Request
request x y z budget = record { x = pos x; y = pos y; z = pos z; budget = budget }

-- a place with these bounds, where they decide: all ticks have this mark and this bit
abbrev decided : ℤ → ℤ → HitAnswer → ℕ → ℕ → Answers
decided low high first mark bit = record {
  bounds = Ok (record { low = low; high = high });
  full = Ok (cast.Complete 1);
  marks = replicate 1024 mark;
  march = Ok (cast.Complete 5);
  marched = replicate 1024 mark;
  first = first;
  column = Ok 1;
  bits = replicate 128 bit;
}

-- (362, 5, 2): d² is 131,073, so that 65536 u is 32,767.75, and 4 × 32,767² is below 2³², which 4 × 32,768² is. The sum of the two is below 2 × 2³².
abbrev undecided : CastAnswer → List ℕ → CastAnswer → List ℕ → HitAnswer → Answers
undecided full marks march marched first = record {
  bounds = Ok (record { low = pos 4294705156; high = pos 4294967296 });
  full = full;
  marks = marks;
  march = march;
  marched = marched;
  first = first;
  column = Ok 2047;
  bits = replicate 128 0;
}

-- marks of which the first n ticks are crossing, the others not looked at
abbrev crossing : ℕ → List ℕ
crossing n = replicate n crossing_mark ++ replicate (1024 - n) not_looked_at

unfoldable pub rows : List (Request × Answers)
rows =
    -- the centre, and (256, 256, 0), where u is 1/2 and both bounds are iso × 2³²: inside
    (request 0 0 0 2052, decided (pos 17179869184) (pos 17179869184) (Ok (found.Hit 0 2 1)) inside_mark 0xff)
    ∷ (request 256 256 0 2052, decided (pos 4294967296) (pos 4294967296) (Ok (found.Hit 0 2 1)) inside_mark 0xff)
    -- at the radius, and beyond it: empty
    ∷ (request 512 0 0 2052, decided (pos 0) (pos 0) (Ok (found.Clear 1)) empty_mark 0)
    ∷ (request 2047 2047 2047 5, decided (pos 0) (pos 0) (Ok (found.Clear 1)) empty_mark 0)
    -- undecided: every span is probed; a first hit takes the 11 of tick 0
    ∷ (
      request 362 5 2 2052,
      undecided (Ok (cast.Complete 2047)) (crossing 1024) (Ok (cast.Complete 2052)) (crossing 1024) (Ok (found.Hit 0 1 11)),
    )
    -- with fewer probes the marks go as far as those do
    ∷ (request 362 5 2 11, undecided (Ok (cast.Spent 1 11)) (crossing 1) (Ok (cast.Spent 3 11)) (crossing 3) (Ok (found.Hit 0 1 11)))
    ∷ (request 362 5 2 10, undecided (Ok (cast.Spent 0 10)) (crossing 0) (Ok (cast.Spent 2 10)) (crossing 2) (Ok (found.Spent 0 10)))
    ∷ (request 362 5 2 0, undecided (Ok (cast.Spent 0 0)) (crossing 0) (Ok (cast.Spent 0 0)) (crossing 0) (Ok (found.Spent 0 0)))
    ∷ []

pub placed : map (λ r. answers r.0) rows ≡ map (λ r. r.1) rows
unfolding
    rows u16 u32 i16 has_bytes zeros first_no is_point kind_known coordinate in_range for_point for_operator held_after node_questions
    record_questions records_questions iso version distance marked trailer_questions start count node_at zero_bytes record_at records_from records
    nodes_from nodes file_questions ceil max_ℤ operator_of item_of items join_top step run tree_value kernel_of ray_square prepare distance_at
    foot_inside foot_distance low_q high_q qlo qhi weighted point_bounds join_bounds tree_bounds state_of span_state mark_of position_in_range
    ray_in_range ray_questions place_questions place_answer place_bounds probe_count span_marks walk cast_looked_at handed hit ray_state
    buffer_questions cast_after full_cast marks_after marks_left hit_after first_hit solid_by middle_solid tick_bit bit_of from_bits packed
    column_after column_answer bits_after bits_left next_tick next_length marching.marked marks_from walk_from marching_cast marched_left
placed = refl

-- ---- wrong answers

abbrev K : Solid
K = solid_of file_k

-- the ray that stays at the centre
abbrev stay : Ray
stay = constant_ray (record { x = pos 0; y = pos 0; z = pos 0 })

not_13 : BufferRefusal no.Ends → ⊥
not_13 (inl (low, high)) = omega arith
not_13 (inr e) = omega (arith, ap number e)

module _ (solid : Solid) (ray : Ray) where
  -- "question 13 now never says no": of a full cast and a marching cast, whatever the count
  pub cast_13 : {T count most budget : ℕ} {after : List ℕ} → MarkDemands solid ray T count most budget (Err no.Ends) after → ⊥
  unfolding Counted
  cast_13 d = not_13 d.counted

  pub hit_13 : {k budget : ℕ} → HitDemands solid ray k budget (Err no.Ends) → ⊥
  unfolding CountedHit
  hit_13 d = omega (arith, d.counted.1)

  pub column_13 : {k : ℕ} {after : List ℕ} → ColumnDemands solid ray k (Err no.Ends) after → ⊥
  unfolding CountedColumn
  column_13 d = not_13 d.counted

pub view_13 : (file : List ℕ) (ray : ViewRay) {k budget : ℕ} → ViewDemands file ray k budget (view.Refused no.Ends) → ⊥
unfolding CountedView
view_13 file ray d = elim d.counted [ inl c ↦ omega (arith, c.1) | inr c ↦ omega (arith, ap number c) ]

-- every tick is the centre, where the field is 4 times the iso-value
stay_inside : mark_of K stay 1024 0 ≡ inside_mark
unfolding
    u16 u32 i16 is_point iso distance start count node_at zero_bytes record_at records_from nodes_from nodes ceil operator_of item_of items join_top
    step run tree_value version kernel_of ray_square prepare distance_at foot_inside foot_distance low_q high_q qlo qhi weighted point_bounds
    join_bounds tree_bounds state_of span_state mark_of
stay_inside = refl

-- equal ends marked empty
pub cast_missed : {count most budget probes : ℕ} {after : List ℕ}
    → MarkDemands K stay 1024 count most budget (Ok (cast.Complete probes)) after → get_or after 0 not_looked_at ≡ empty_mark → ⊥
unfolding Alone cast_reaches cast_looked_at
cast_missed d e =
    let z : inside_mark ≡ empty_mark = sym stay_inside ∙ sym (d.alone 0 (omega arith)) ∙ e in
    absurd (omega (arith, z))

-- and answered as clear
pub hit_missed : {budget probes : ℕ} → HitDemands K stay exponent budget (Ok (found.Clear probes)) → ⊥
unfolding AloneHit Empty
hit_missed d =
    let z : inside_mark ≡ empty_mark = sym stay_inside ∙ d.alone 0 (omega arith) in
    absurd (omega (arith, z))
