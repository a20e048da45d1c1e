-- A ray whose ends coincide (document 02, P8), by what the place call answers of that place. Every span of the ray has the place's own bounds, so its
-- states are all one (`place_states`): each tick's mark is the state of those bounds (`place_marks`), each bit goes by their sum (`place_bits`), and
-- the ray costs 1 probe where they decide, and where they do not as many as there can be, 2 T − 1 (`place_probes`). So each call's answer and bytes
-- are known from the place's bounds (`place_cast`, `place_hit`, `place_column`); refused, they are refused alike (`place_refused`).
use Rattle.std.specs.Prelude.{Ok, Err}
use mathlib.Core.Path.{◌≡◌, refl, ap, ◌∙◌}
use mathlib.Core.List.{List, [], ◌∷◌, ◌++◌}
use mathlib.Core.Bool.{cond}
use Prim.Native.Nat.{ℕ, ◌*◌, ◌^◌, ◌≤◌}
use native.Mathlib.Nat.{zero-add}
use native.Mathlib.Omega.{arith}
use borrow.Author.Tests.{le-leb}
use lib.Dec.{leb, eqb}
use lib.ListN.{length, drop, replicate, length-replicate}
use lib.Pow.{pow_pos}
use Rattle.record.specs.Questions.{first_no, next, Verdict}
use Rattle.record.proofs.Questions.{first_no-append}
use Rattle.record.specs.declared.Refusal.{Refusal}
use Rattle.record.specs.declared.Refusal.TheVariants as no
use Rattle.part.specs.File.{iso}
use Rattle.field.specs.Vectors.{Position}
use Rattle.field.specs.Vectors.{Ray}
use Rattle.field.specs.declared.Bounds.{Bounds}
use Rattle.field.specs.Ray.{tick, ticks, middle, constant_ray, at_start}
use Rattle.field.specs.Solid.{Solid, Valid, solid_of}
use Rattle.field.specs.Bounds.{crossing_mark, tree_bounds, state_of, solid_by}
use Rattle.field.specs.Marks.{span_state, mark_of}
use Rattle.field.proofs.NoLength.{place_bounds_lem}
use Rattle.loading.specs.Loading.{ray_questions}
use Rattle.bounds.specs.Place.{place_questions, place_answer, place_bounds}
use Rattle.bounds.proofs.Places.{same_questions}
use Rattle.halving.specs.declared.Cast.TheVariants as cast
use Rattle.halving.specs.Halving.{probe_count, walk}
use Rattle.halving.specs.FirstHit.{finished}
use Rattle.halving.proofs.Halving as halving
use Rattle.halving.proofs.Handed.{handed_all}
use Rattle.halving.proofs.Uniform.{uniform, count_uniform, marks_uniform, hit_uniform}
use Rattle.cast.specs.Ticks.{exponent, enough, hit_cost, ray_state}
use Rattle.cast.specs.Questions.{buffer_questions}
use Rattle.cast.specs.Column.{column_bytes, middle_solid, bit_of}
use Rattle.cast.specs.Calls.{ray_probes, cast_after, full_cast, marks_after, marks_left, hit_after, first_hit}
use Rattle.cast.specs.Calls.{column_after, column_answer, bits_after, bits_left}
use Rattle.cast.proofs.Bits.{packed_all}
use Rattle.cast.proofs.Middles.{bit_is_middle}
use Rattle.cast.proofs.Demands.{ray_valid}

module _ (file : List ℕ) (p : Position) where
  abbrev solid : Solid
  solid = solid_of file

  abbrev ray : Ray
  ray = constant_ray p

  abbrev verdict : Verdict
  verdict = first_no (place_questions file p)

  -- what a place is asked, the ray is asked
  ray_asked : first_no (ray_questions file ray) ≡ verdict
  ray_asked = ap first_no (same_questions file p)

  pub place_refused : {e : Refusal} → place_bounds file p ≡ Err e → (budget : ℕ) → first_hit file ray budget ≡ Err e
  unfolding place_bounds place_answer first_hit hit_after
  place_refused {e} h budget = rw (ray_asked, go verdict h)
    where
      go : (v : Verdict) → place_answer v file p ≡ Err e → v ≡ Err e
      go (Ok tt) h = let z : ◌≡◌ {A = ℕ} 0 1 = cc in absurd (omega arith)
      go (Err m) h = cc

  module _ {b : Bounds} (bounded : place_bounds file p ≡ Ok b) where
    -- the state of the place's bounds
    abbrev s : ℕ
    s = state_of (iso file) b

    accepted : (verdict ≡ Ok tt) × (tree_bounds solid ray at_start ≡ b)
    unfolding place_bounds place_answer
    accepted = go verdict bounded
      where
        go : (v : Verdict) → place_answer v file p ≡ Ok b → (v ≡ Ok tt) × (tree_bounds solid ray at_start ≡ b)
        go (Ok tt) h = (refl, cc)
        go (Err m) h = let z : ◌≡◌ {A = ℕ} 0 1 = cc in absurd (omega arith)

    pub ray_accepted : first_no (ray_questions file ray) ≡ Ok tt
    ray_accepted = ray_asked ∙ accepted.0

    valid : Valid solid
    valid = ray_valid file ray ray_accepted

    module _ {T : ℕ} (hT : 1 ≤ T) where
      pub place_states : ray_state solid ray T ≡ uniform s
      unfolding ray_state span_state
      place_states =
          λ j i n. ap (state_of (iso file)) (place_bounds_lem p solid valid (ticks i n T) hT ∙ accepted.1) j

      pub place_marks : (t : ℕ) → mark_of solid ray T t ≡ s
      unfolding mark_of span_state
      place_marks t = ap (state_of (iso file)) (place_bounds_lem p solid valid (tick t T) hT ∙ accepted.1)

      pub place_bits : (t : ℕ) → bit_of solid ray T t ≡ cond (solid_by (iso file) b) 1 0
      unfolding middle_solid
      place_bits t =
          bit_is_middle solid valid ray t hT
          ∙ ap (λ (b : Bounds). cond (solid_by (iso file) b) 1 0) (place_bounds_lem p solid valid (middle t T) (omega arith) ∙ accepted.1)

    pub place_probes : (k : ℕ) → ray_probes solid ray k ≡ cond (eqb s crossing_mark) (enough (2 ^ k)) 1
    place_probes k = rw (place_states (pow_pos k)) (count_uniform s k 0)

    -- ---- the calls

    -- with room enough, a call that is lent a buffer is accepted
    pub buffer_accepted : (need room : ℕ) → need ≤ room → first_no (buffer_questions file ray need room) ≡ Ok tt
    unfolding buffer_questions first_no next
    buffer_accepted need room h =
        first_no-append (ray_questions file ray) ((no.Buffer, leb need room) ∷ []) ∙ rw (ray_accepted, le-leb need room h)

    -- the probes of a full cast and of a column
    abbrev probes : ℕ
    probes = cond (eqb s crossing_mark) (enough (2 ^ exponent)) 1

    pub place_cast : (budget : ℕ) (lent : List ℕ) → probes ≤ budget → 2 ^ exponent ≤ length lent
        → (full_cast file ray budget (length lent) ≡ Ok (cast.Complete probes))
        × (marks_left file ray budget lent ≡ replicate (2 ^ exponent) s ++ drop (2 ^ exponent) lent)
    unfolding full_cast marks_left cast_after marks_after
    place_cast budget lent few room =
        let walked : walk (uniform s) budget exponent 0 0 ≡ cast.Complete probes
        = halving.enough (uniform s) budget exponent 0 0 (omega (arith, few, count_uniform s exponent 0))
        ∙ ap cast.Complete (zero-add (probe_count (uniform s) exponent 0) ∙ count_uniform s exponent 0) in
        let marked = marks_uniform s exponent 0 in
        rw (buffer_accepted (2 ^ exponent) (length lent) room, place_states (pow_pos exponent), walked, marked) (
          refl,
          ap (λ (l : List ℕ). l ++ drop (2 ^ exponent) lent)
              (handed_all (2 ^ exponent) probes (replicate (2 ^ exponent) s) (length-replicate (2 ^ exponent) s)),
        )

    -- clear if it is empty, otherwise a hit at tick 0
    pub place_hit : (budget : ℕ) → hit_cost exponent 0 ≤ budget
        → first_hit file ray budget ≡ Ok (finished s 0 (cond (eqb s crossing_mark) (hit_cost exponent 0) 1))
    unfolding first_hit hit_after
    place_hit budget few = rw (ray_accepted, place_states (pow_pos exponent)) (ap Ok (hit_uniform s exponent budget (omega arith)))

    -- each byte has the bit eight times
    pub place_column : (lent : List ℕ) → column_bytes ≤ length lent
        → (column_answer file ray (length lent) ≡ Ok probes)
        × (bits_left file ray lent ≡ replicate column_bytes (255 * cond (solid_by (iso file) b) 1 0) ++ drop column_bytes lent)
    unfolding column_answer column_after bits_left bits_after
    place_column lent room =
        let bit : ℕ = cond (solid_by (iso file) b) 1 0 in
        let bits = packed_all (bit_of solid ray (2 ^ exponent)) bit column_bytes (λ t h. place_bits (pow_pos exponent) t) in
        rw (buffer_accepted column_bytes (length lent) room)
        (ap Ok (place_probes exponent), ap (λ (l : List ℕ). l ++ drop column_bytes lent) bits)
