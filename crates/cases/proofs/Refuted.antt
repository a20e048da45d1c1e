-- Wrong answers that the contracts refute (document 01, "Contracts and evidence": "These empty programs are to be caught"), on file K and the ray
-- that document 01 prints the list of. Each theorem takes what a contract promises, `CastDemands` and its like, and a wrong answer or byte, and
-- cites the field of the promise that the two contradict; without that field it is not proved. `constant_refusal` and `asked_12_first` are of the
-- answer that the contract's equation names.
--     constant_crossing, constant_inside, hit_at_start         demand 3: `sound`
--     empty_column, fat_column; solid_column                   a column's bits: `alone`; and the marks: `sound`
--     solid_middle, middle_outside                             the exact field at the ticks' middles: `middles`
--     constant_empty, untouched, left_half_honest, later_hit   demand 2's marks: `alone`
--     spent_at_once, spent_early, invented_probes              the count rule: `counted`
--     cast_probes, march_probes_lem                            the same, with the count of the halvings and of the march
--     unlike                                                   a marching cast's marks are a full cast's: `alike`
--     hit_probes                                               a first hit's order: `order`
--     dear_hit, spent_late; spent_in_time                      what it costs: `prompt`; and that it is found: `in_time`
--     as_hit, as_clear, as_spent; inexact_entry                a viewer's first hit: these four; `exact`
--     constant_refusal, asked_12_first                         the equation of a full cast's answer
--     two_nodes, not_enclosing, loose                          the check of a file (`Says`) and the bounds at a place (`PlaceSays`)
use Rattle.std.specs.Prelude.{Ok, Err}
use mathlib.Core.Path.{◌≡◌, refl, sym, ap, ◌∙◌, subst}
use mathlib.Core.List.{List}
use Prim.Native.Nat.{ℕ, ◌+◌, ◌*◌, ◌/◌, ◌%◌, ◌^◌, ◌≤◌, ◌<◌}
use native.Mathlib.Omega.{arith}
use lib.ListN.{get_or}
use lib.Seq.{get_or-take}
use native.Mathlib.Decide.{dec_le}
use mathlib.Core.Bool.{Bool}
use lib.Dec.{lit≤}
use borrow.Author.Tests.{ne_eqb}
use lib.IntN.{ℤ, pos, nat_abs}
use lib.Ieee.{Float, of_bits, round}
use Rattle.exact.specs.Fraction.{◌over◌, plus}
use Rattle.exact.specs.Rounding.{ceil}
use Rattle.record.specs.Bytes.{u16, u32, i16, has_bytes, zeros}
use Rattle.record.specs.Questions.{first_no}
use Rattle.record.specs.Nodes.{is_point, kind_known, coordinate, in_range, for_point, for_operator, held_after}
use Rattle.record.specs.Record.{node_at, zero_bytes, record_at, node_questions, record_questions}
use Rattle.record.specs.declared.Refusal.{Refusal}
use Rattle.record.proofs.Questions.{no_is_not_yes}
use Rattle.record.specs.declared.Refusal.TheVariants as no
use Rattle.part.specs.File.{iso, version, distance, marked, trailer_questions, start, count, records_from, records, nodes_from, nodes}
use Rattle.part.specs.File.{records_questions, file_questions, Says}
use Rattle.field.specs.Vectors.{Ray}
use Rattle.field.specs.declared.Bounds.{Bounds}
use Rattle.field.specs.Ray.{squared_distance, tick, middle, Place}
use Rattle.field.specs.Kernel.{point_at}
use Rattle.field.specs.Tree.{operator_of, item_of, items, join_top, step, run, tree_value}
use Rattle.field.specs.Solid.{Solid, kernel_of, solid_of}
use Rattle.field.specs.Field.{field_at}
use Rattle.field.specs.Tolerance.{demanded_of, sum_over, demanded, rounding_of, rounding}
use Rattle.field.specs.Bounds.{ray_square, prepare, distance_at, foot_inside, foot_distance, low_q, high_q, qlo, qhi}
use Rattle.field.specs.Bounds.{weighted, point_bounds, join_bounds, tree_bounds, state_of, solid_by, empty_mark, crossing_mark, inside_mark}
use Rattle.field.specs.Bounds.{not_looked_at}
use Rattle.field.specs.Marks.{span_state, mark_of, SoundMark}
use Rattle.loading.specs.Loading.{position_in_range, ray_in_range, ray_questions}
use Rattle.bounds.specs.Place.{place_questions, PlaceSays}
use Rattle.halving.specs.Answers.{cast_reaches, hit_reaches}
use Rattle.halving.specs.declared.Cast.TheVariants as cast
use Rattle.halving.specs.declared.FirstHit.TheVariants as found
use Rattle.halving.specs.Halving.{probe_count, span_marks, walk, cast_looked_at}
use Rattle.halving.specs.FirstHit.{hit, hit_looked_at}
use Rattle.halving.proofs.Halving.{Walked}
use Rattle.cast.specs.Ticks.{exponent, ray_state}
use Rattle.cast.specs.Column.{middle_solid, tick_bit, bit_of, column_looked_at}
use Rattle.cast.specs.Questions.{buffer_questions}
use Rattle.cast.specs.Calls.{ray_probes, ray_marks, ray_walk, cast_after, full_cast, hit_after, first_hit}
use Rattle.cast.specs.Demands.{Sound, Alone, AloneBits, Middles, Empty, AloneHit, FirstNotEmpty, HitAt}
use Rattle.cast.specs.Demands.{Counted, CountedHit, SameOrder, PromptHit, FoundHit, CountedColumn}
use Rattle.cast.specs.Demands.{MarkDemands, CastDemands, HitDemands, ColumnDemands}
use Rattle.cast.proofs.Demands.{ray_walked, hit_demands}
use Rattle.march.specs.Marching.{next_tick, next_length, count_from}
use Rattle.march.specs.Calls.{march_probes}
use Rattle.march.specs.Demands.{Alike, MarchDemands}
use Rattle.view.specs.Ray.{ViewRay}
use Rattle.view.specs.declared.ViewAnswer.{ViewAnswer}
use Rattle.view.specs.declared.ViewAnswer.TheVariants as view
use Rattle.view.specs.Floats.{tick_at}
use Rattle.view.specs.Steps.{steps_of, whole_steps}
use Rattle.view.specs.Ray.{coordinate_of, position_of, steps_ray}
use Rattle.view.specs.Demands.{in_ticks, ExactPlace, CountedView, ViewDemands}
use Rattle.cases.proofs.Rays.{file_k, at, across}
use Rattle.cases.proofs.Floats.{float, along}

-- ---- file K and the ray, and what the rules give for them

abbrev K : Solid
K = solid_of file_k

abbrev ray : Ray
ray = across (pos 0)

-- the marks of some ticks, each judged alone
marks_are : (mark_of K ray 1024 330 ≡ crossing_mark) × (mark_of K ray 1024 400 ≡ inside_mark) × (mark_of K ray 1024 600 ≡ inside_mark)
    × (mark_of K ray 1024 0 ≡ empty_mark)
unfolding
    u16 u32 i16 is_point iso distance start count node_at zero_bytes record_at records_from nodes_from nodes ceil operator_of item_of items join_top
    step run tree_value version kernel_of ray_square prepare distance_at foot_inside foot_distance low_q high_q qlo qhi weighted point_bounds
    join_bounds tree_bounds state_of span_state mark_of
marks_are = (refl, refl, refl, refl)

-- the probe count of the ray, and how many ticks are looked at with a budget of 14 and of 15
counts_are : (ray_probes K ray exponent ≡ 39)
    × (cast_looked_at 1024 (ray_walk K ray exponent 14) ≡ 330) × (cast_looked_at 1024 (ray_walk K ray exponent 15) ≡ 331)
unfolding
    u16 u32 i16 is_point iso distance start count node_at zero_bytes record_at records_from nodes_from nodes ceil operator_of item_of items join_top
    step run tree_value version kernel_of ray_square prepare distance_at foot_inside foot_distance low_q high_q qlo qhi weighted point_bounds
    join_bounds tree_bounds state_of span_state ray_state probe_count walk cast_looked_at
counts_are = (refl, refl, refl)

-- the marching cast's probe count of it, and the full cast's mark of a tick
marched_are : (march_probes K ray exponent ≡ 49) × (get_or (ray_marks K ray exponent) 600 not_looked_at ≡ inside_mark)
unfolding
    u16 u32 i16 is_point iso distance start count node_at zero_bytes record_at records_from nodes_from nodes ceil operator_of item_of items join_top
    step run tree_value version kernel_of ray_square prepare distance_at foot_inside foot_distance low_q high_q qlo qhi weighted point_bounds
    join_bounds tree_bounds state_of span_state ray_state span_marks next_tick next_length count_from
marched_are = (refl, refl)

-- the place 0/1, the ray's start, in tick 0
abbrev first : Place (tick 0 1024)
first = record { n = 0; m = 1; proper = lit≤ tt; after = lit≤ tt; before = lit≤ tt }

-- the iso-value, the exact field at that place, and what demand 3 allows: 4 × (2048/(256 × 512) + 1/16384), which is below 1
start_is : (K.iso ≡ 1) × (field_at K ray 0 1 ≡ pos 0 over 68719476736) × (demanded K ray 1024 ≡ pos 538968064 over 8589934592)
unfolding
    u16 u32 i16 is_point iso distance start count node_at zero_bytes record_at records_from nodes_from nodes operator_of item_of items join_top step
    run tree_value version kernel_of plus squared_distance point_at field_at demanded_of sum_over demanded
start_is = (refl, refl, refl)

-- a mark of tick 0 that is sound is neither crossing nor inside
module _ {mark : ℕ} (sound : SoundMark K.iso mark (field_at K ray 0 1) (demanded K ray 1024)) where
  pub not_crossing : mark ≡ crossing_mark → ⊥
  not_crossing e =
      let h = rw (start_is.1, start_is.2, start_is.0) at (sound.crossing e) in
      h.cross.le

  pub not_inside : mark ≡ inside_mark → ⊥
  not_inside e =
      let h = rw (start_is.1, start_is.0) at (sound.inside e) in
      h.cross.le

  -- so its bit in a column is not 1, whatever its middle
  no_bit : (solid : Bool) → tick_bit mark solid ≡ 1 → ⊥
  unfolding tick_bit
  no_bit solid e =
      let f = rw (ne_eqb mark inside_mark not_inside, ne_eqb mark crossing_mark not_crossing) at e in
      omega (arith, f)

-- ---- a full cast or a marching cast that is complete, whatever its count

module _ {count most budget probes : ℕ} {after : List ℕ} (d : MarkDemands K ray 1024 count most budget (Ok (cast.Complete probes)) after) where
  -- "constant "crossing", by demand 3's distance"
  pub constant_crossing : get_or after 0 not_looked_at ≡ crossing_mark → ⊥
  unfolding Alone Sound cast_reaches cast_looked_at
  constant_crossing e = not_crossing (d.sound 0 (lit≤ tt) first) (sym (d.alone 0 (lit≤ tt)) ∙ e)

  -- and constant "inside"
  pub constant_inside : get_or after 0 not_looked_at ≡ inside_mark → ⊥
  unfolding Alone Sound cast_reaches cast_looked_at
  constant_inside e = not_inside (d.sound 0 (lit≤ tt) first) (sym (d.alone 0 (lit≤ tt)) ∙ e)

  -- a byte that is not the tick's mark
  wrong_mark : (t : ℕ) {mark byte : ℕ} → t < 1024 → mark_of K ray 1024 t ≡ mark → get_or after t not_looked_at ≡ byte → (mark ≡ byte → ⊥) → ⊥
  unfolding Alone cast_reaches cast_looked_at
  wrong_mark t h is e wrong = wrong (sym is ∙ sym (d.alone t h) ∙ e)

  -- "constant "empty", and untouched buffers, by demand 2's marks": a buffer of what stood there before, of 3 say
  pub constant_empty : get_or after 400 not_looked_at ≡ empty_mark → ⊥
  constant_empty e = wrong_mark 400 (lit≤ tt) marks_are.1 e (λ f. omega (arith, f))

  pub untouched : get_or after 0 not_looked_at ≡ not_looked_at → ⊥
  untouched e = wrong_mark 0 (lit≤ tt) marks_are.3 e (λ f. omega (arith, f))

  -- "honest marks for the left half and invented ones after it, by demand 2"
  pub left_half_honest : get_or after 600 not_looked_at ≡ empty_mark → ⊥
  left_half_honest e = wrong_mark 600 (lit≤ tt) marks_are.2 e (λ f. omega (arith, f))

  pub invented_probes : (probes ≡ count → ⊥) → ⊥
  unfolding Counted
  invented_probes wrong = wrong d.counted.0

-- ---- one that is spent

module _ {count most budget t probes : ℕ} {after : List ℕ} (d : MarkDemands K ray 1024 count most budget (Ok (cast.Spent t probes)) after) where
  -- ""spent" at once, by the rule that the budget is used up"
  pub spent_at_once : probes < budget → ⊥
  unfolding Counted
  spent_at_once h = omega (arith, d.counted.1)

  -- and with a budget that is enough it is not spent
  pub spent_early : count ≤ budget → ⊥
  unfolding Counted
  spent_early h = omega (arith, d.counted.2)

-- ---- whose count it is

module _ {budget probes : ℕ} {after : List ℕ} where
  -- "invented probe counts, by the count rule tied to the halvings"
  pub cast_probes : CastDemands K ray exponent budget (Ok (cast.Complete probes)) after → (probes ≡ 39 → ⊥) → ⊥
  cast_probes d wrong = invented_probes d (λ e. wrong (e ∙ counts_are.0))

  -- the halvings' 39, say, for a march
  pub march_probes_lem : MarchDemands K ray exponent budget (Ok (cast.Complete probes)) after → (probes ≡ 49 → ⊥) → ⊥
  march_probes_lem d wrong = invented_probes d.marks (λ e. wrong (e ∙ marched_are.0))

  -- a mark that is not the full cast's
  pub unlike : MarchDemands K ray exponent budget (Ok (cast.Complete probes)) after → get_or after 600 not_looked_at ≡ empty_mark → ⊥
  unfolding Alike
  unlike d e =
      let same : get_or after 600 not_looked_at ≡ inside_mark =
      sym (get_or-take 1024 after 600 not_looked_at (lit≤ tt)) ∙ ap (λ (l : List ℕ). get_or l 600 not_looked_at) d.alike ∙ marched_are.1 in
      omega (arith, same, e)

-- ---- a first hit

-- of the ray it is at tick 330
hit_is : first_hit file_k ray 2047 ≡ Ok (found.Hit 330 crossing_mark 15)
unfolding
    u16 u32 i16 has_bytes zeros first_no is_point kind_known coordinate in_range for_point for_operator held_after node_questions record_questions
    records_questions iso version distance marked trailer_questions start count node_at zero_bytes record_at records_from records nodes_from nodes
    file_questions ceil operator_of item_of items join_top step run tree_value kernel_of ray_square prepare distance_at foot_inside foot_distance
    low_q high_q qlo qhi weighted point_bounds join_bounds tree_bounds state_of span_state ray_state position_in_range ray_in_range ray_questions
    hit hit_after first_hit
hit_is = refl

-- so that is the first tick that is not empty
hit_first : FirstNotEmpty K ray 1024 330
unfolding FirstNotEmpty AloneHit
hit_first =
    let d = rw hit_is at (hit_demands file_k ray 2047) in
    (lit≤ tt, d.alone.3, λ e. omega (arith, marks_are.0, e))

module _ {budget : ℕ} where
  -- a hit that is not the first: right halves first, say
  pub later_hit : {t mark probes : ℕ} → 330 < t → HitDemands K ray exponent budget (Ok (found.Hit t mark probes)) → ⊥
  unfolding AloneHit Empty
  later_hit h d = omega (arith, marks_are.0, d.alone.3 330 h)

  -- a hit with a mark that is not the tick's
  pub wrong_hit : {mark probes : ℕ} → (crossing_mark ≡ mark → ⊥) → HitDemands K ray exponent budget (Ok (found.Hit 330 mark probes)) → ⊥
  unfolding AloneHit
  wrong_hit wrong d = wrong (sym marks_are.0 ∙ d.alone.1)

  -- a crossing where the ray starts
  pub hit_at_start : {probes : ℕ} → HitDemands K ray exponent budget (Ok (found.Hit 0 crossing_mark probes)) → ⊥
  unfolding AloneHit Sound hit_reaches hit_looked_at
  hit_at_start d = not_crossing (d.sound 0 (lit≤ tt) first) d.alone.1

  pub constant_clear : {probes : ℕ} → HitDemands K ray exponent budget (Ok (found.Clear probes)) → ⊥
  unfolding AloneHit Empty
  constant_clear d = omega (arith, marks_are.0, d.alone 330 (lit≤ tt))

  -- 15 is the least budget with which the full cast looks at tick 330
  pub hit_probes : {mark probes : ℕ} → (probes ≡ 15 → ⊥) → HitDemands K ray exponent budget (Ok (found.Hit 330 mark probes)) → ⊥
  unfolding SameOrder
  hit_probes {probes = p} wrong d = wrong (elim (dec_le p 14) [
    | yes h ↦ absurd (omega (arith, counts_are.1, (d.order 14).0 h))
    | no n ↦ elim (dec_le p 15) [ yes h ↦ omega arith | no m ↦ absurd (omega (arith, counts_are.2, (d.order 15).1 (omega arith))) ]
  ])

  -- 2 × 330 + 11 is 671: a hit that took more
  pub dear_hit : {mark probes : ℕ} → 671 < probes → HitDemands K ray exponent budget (Ok (found.Hit 330 mark probes)) → ⊥
  unfolding PromptHit
  dear_hit h d = omega (arith, d.prompt)

  -- a search that is spent at a tick with the budget for a hit there
  pub spent_late : {t probes : ℕ} → 2 * t + 11 ≤ budget → HitDemands K ray exponent budget (Ok (found.Spent t probes)) → ⊥
  unfolding PromptHit
  spent_late h d = omega (arith, d.prompt)

  -- and one that is spent anywhere, though the budget is enough for the hit at tick 330
  pub spent_in_time : {t probes : ℕ} → 671 ≤ budget → HitDemands K ray exponent budget (Ok (found.Spent t probes)) → ⊥
  unfolding FoundHit HitAt
  spent_in_time h d = d.in_time 330 hit_first h

  pub hit_spent_at_once : {t probes : ℕ} → probes < budget → HitDemands K ray exponent budget (Ok (found.Spent t probes)) → ⊥
  unfolding CountedHit
  hit_spent_at_once h d = omega (arith, d.counted.0)

-- ---- a column

-- the bits of two ticks, a crossing one and an inside one
bits_are : (bit_of K ray 1024 330 ≡ 0) × (bit_of K ray 1024 400 ≡ 1)
unfolding
    u16 u32 i16 is_point iso distance start count node_at zero_bytes record_at records_from nodes_from nodes ceil operator_of item_of items join_top
    step run tree_value version kernel_of ray_square prepare distance_at foot_inside foot_distance low_q high_q qlo qhi weighted point_bounds
    join_bounds tree_bounds state_of span_state mark_of solid_by middle_solid tick_bit bit_of
bits_are = (refl, refl)

-- the exact field at the middles of ticks 0 and 512, and the rounding: 4 × 1/16384
middle_is : (field_at K ray 1 2048 ≡ pos 0 over 1208925819614629174706176) × (rounding K ≡ pos 4 over 16384)
    × (field_at K ray 1025 2048 ≡ pos 4835666385040738023899136 over 1208925819614629174706176)
unfolding
    u16 u32 i16 is_point iso distance start count node_at zero_bytes record_at records_from nodes_from nodes operator_of item_of items join_top step
    run tree_value version kernel_of plus squared_distance point_at field_at rounding_of sum_over rounding
middle_is = (refl, refl, refl)

module _ {probes : ℕ} {after : List ℕ} (d : ColumnDemands K ray exponent (Ok probes) after) where
  -- a bit that is not the tick's
  wrong_bit : (t : ℕ) {bit : ℕ} → t < 1024 → bit_of K ray 1024 t ≡ bit → (get_or after (t / 8) 0 / 2 ^ (t % 8) % 2 ≡ bit → ⊥) → ⊥
  unfolding AloneBits column_looked_at
  wrong_bit t h is wrong = wrong (d.alone t h ∙ is)

  -- an empty column: the byte of ticks 400 to 407
  pub empty_column : get_or after 50 0 ≡ 0 → ⊥
  empty_column e = wrong_bit 400 (lit≤ tt) bits_are.1 (λ f. omega (arith, rw e at f))

  -- a fat one, each crossing tick solid: the byte of ticks 328 to 335
  pub fat_column : get_or after 41 0 ≡ 0xfc → ⊥
  fat_column e = wrong_bit 330 (lit≤ tt) bits_are.0 (λ f. omega (arith, rw e at f))

  -- a solid column, by the bits and by demand 3's distance: the byte of ticks 0 to 7
  pub solid_column : get_or after 0 0 ≡ 255 → ⊥
  unfolding AloneBits Sound column_looked_at bit_of
  solid_column e =
      let bit = d.alone 0 (lit≤ tt) in
      no_bit (d.sound 0 (lit≤ tt) first) (middle_solid K ray 1024 0) (sym (rw e at bit))

  -- and by the exact field at the middle of tick 0
  pub solid_middle : get_or after 0 0 ≡ 255 → ⊥
  unfolding AloneBits Middles column_looked_at plus
  solid_middle e =
      let bit = d.alone 0 (lit≤ tt) in
      let h = rw (middle_is.0, middle_is.1, start_is.0) at ((d.middles 0 (lit≤ tt)).sound.solid (sym (rw e at bit))) in
      h.cross.le

  -- bounds at a middle that do not enclose the field there
  pub middle_outside : (tree_bounds K ray (middle 512 1024)).high ≡ pos 0 → ⊥
  unfolding Middles column_looked_at
  middle_outside e =
      let h = rw (e, middle_is.2) at (d.middles 512 (lit≤ tt)).encloses.below in
      h.cross.le

  pub column_probes : (probes ≡ 39 → ⊥) → ⊥
  unfolding CountedColumn
  column_probes wrong = wrong (d.counted.0 ∙ counts_are.0)

-- ---- a viewer's first hit, on the same ray in millimetres

abbrev seen : ViewRay
seen = along 0xc180_0000 0x4180_0000 0

steps_are : steps_ray seen ≡ ray
unfolding of_bits round coordinate steps_of whole_steps coordinate_of position_of steps_ray
steps_are = refl

-- unless it is refused it promises what a first hit of its ticks does, so that the theorems above hold of it
module _ {budget : ℕ} (a : ViewAnswer) (d : ViewDemands file_k seen exponent budget a) where
  by_steps : CountedHit K (steps_ray seen) exponent budget (in_ticks 1024 a) → HitDemands K ray exponent budget (in_ticks 1024 a)
  by_steps counted = subst (λ (r : Ray). HitDemands K r exponent budget (in_ticks 1024 a)) steps_are
      (record { alone = d.alone; counted = counted; order = d.order; prompt = d.prompt; in_time = d.in_time; sound = d.sound })

module _ {budget probes : ℕ} where
  pub as_hit : {mark : ℕ} {entry : Float} → ViewDemands file_k seen exponent budget (view.Hit entry mark probes)
      → HitDemands K ray exponent budget (Ok (found.Hit (tick_at 1024 entry) mark probes))
  unfolding in_ticks CountedView
  as_hit d = by_steps _ d d.counted

  pub as_clear : ViewDemands file_k seen exponent budget (view.Clear probes) → HitDemands K ray exponent budget (Ok (found.Clear probes))
  unfolding in_ticks CountedView
  as_clear d = by_steps _ d d.counted

  pub as_spent : {place : Float} → ViewDemands file_k seen exponent budget (view.Spent place probes)
      → HitDemands K ray exponent budget (Ok (found.Spent (tick_at 1024 place) probes))
  unfolding in_ticks CountedView
  as_spent d = by_steps _ d d.counted

module _ {budget mark probes : ℕ} where
  -- 331/1024
  pub later_entry : ViewDemands file_k seen exponent budget (view.Hit (float 0x3ea5_8000) mark probes) → ⊥
  unfolding of_bits tick_at
  later_entry d = later_hit (lit≤ tt) (as_hit d)

  -- the float after 330/1024, an entry between two ticks
  pub inexact_entry : ViewDemands file_k seen exponent budget (view.Hit (float 0x3ea5_0001) mark probes) → ⊥
  unfolding of_bits tick_at ExactPlace
  inexact_entry d = omega (arith, ap nat_abs d.exact)

-- ---- refusals, the check of a file, and the bounds at a place

-- the questions about file K, about the ray and about the place (0, 0, 0): each is answered yes
accepted_are : (first_no (file_questions file_k) ≡ Ok tt) × (first_no (buffer_questions file_k ray 1024 1024) ≡ Ok tt)
    × (first_no (place_questions file_k (at (pos 0) (pos 0))) ≡ Ok tt)
unfolding
    u16 u32 i16 has_bytes zeros first_no is_point kind_known coordinate in_range for_point for_operator held_after node_questions record_questions
    records_questions iso version distance marked trailer_questions start count node_at zero_bytes record_at records_from records file_questions
    position_in_range ray_in_range ray_questions buffer_questions place_questions
accepted_are = (refl, refl, refl)

-- "constant refusal": the call's answer is none, whatever the budget
pub constant_refusal : (budget : ℕ) (refusal : Refusal) → full_cast file_k ray budget 1024 ≡ Err refusal → ⊥
unfolding full_cast cast_after
constant_refusal budget refusal e =
    let f : Ok (ray_walk K ray exponent budget) ≡ Err refusal = rw accepted_are.1 at e in
    let z : ◌≡◌ {A = ℕ} 0 1 = cc in
    omega (arith, z)

-- with a coordinate of 2,048 and a short buffer 12 is the first no, and not 14
pub asked_12_first : (budget : ℕ) → full_cast file_k (across (pos 2048)) budget 1023 ≡ Err no.Coordinates
unfolding
    u16 u32 i16 has_bytes zeros first_no is_point kind_known coordinate in_range for_point for_operator held_after node_questions record_questions
    records_questions iso version distance marked trailer_questions start count node_at zero_bytes record_at records_from records file_questions
    position_in_range ray_in_range ray_questions buffer_questions cast_after full_cast
asked_12_first budget = refl

-- a check that refuses file K, one that counts two nodes, and one that reads another version
pub refused_file : (refusal : Refusal) → Says file_k (Err refusal) → ⊥
unfolding Says
refused_file refusal e = no_is_not_yes (sym e ∙ accepted_are.0)

pub two_nodes : (i v : ℕ) → Says file_k (Ok (record { nodes = 2; iso = i; version = v })) → ⊥
unfolding Says u16 u32 distance count
two_nodes i v (ok, n, _, _) = omega (arith, n)

pub another_version : (n i : ℕ) → Says file_k (Ok (record { nodes = n; iso = i; version = 2 })) → ⊥
unfolding Says u16 version
another_version n i (ok, _, _, v) = omega (arith, v)

-- the exact field at the origin is 4: a high below that does not enclose it; and bounds that do are not the tree's if they are looser
pub not_enclosing : (low : ℤ) → PlaceSays file_k (at (pos 0) (pos 0)) (Ok (record { low = low; high = pos 17179869183 })) → ⊥
unfolding
    u16 u32 i16 is_point iso distance start count node_at zero_bytes record_at records_from nodes_from nodes operator_of item_of items join_top step
    run tree_value version kernel_of squared_distance point_at field_at PlaceSays
not_enclosing low b = b.encloses.below.cross.le

pub loose : PlaceSays file_k (at (pos 0) (pos 0)) (Ok (record { low = pos 0; high = pos 17179869184 })) → ⊥
unfolding
    u16 u32 i16 is_point iso distance start count node_at zero_bytes record_at records_from nodes_from nodes ceil operator_of item_of items join_top
    step run tree_value version kernel_of ray_square prepare distance_at foot_inside foot_distance low_q high_q qlo qhi weighted point_bounds
    tree_bounds PlaceSays
loose b = omega (arith, ap (λ (c : Bounds). nat_abs c.low) b.tree)
