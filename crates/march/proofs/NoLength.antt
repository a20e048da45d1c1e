-- A marching cast on a ray whose ends coincide (document 02, P8), by what the place call answers of that place: it takes 5 probes where the bounds
-- decide, with candidates of 64, 128, 256, 512 and 64 ticks, and where they do not as many as there can be (`place_march_probes`); unspent, it marks
-- every tick by the place's state, as the full cast does (`place_march`).
use Rattle.std.specs.Prelude.{Ok}
use mathlib.Core.Path.{◌≡◌, refl, sym, ap, subst, ◌∙◌}
use mathlib.Core.Logic.{inl, inr}
use mathlib.Core.List.{List, ◌++◌}
use mathlib.Core.Bool.{cond}
use Prim.Native.Nat.{ℕ, ◌^◌, ◌≤◌}
use native.Mathlib.Omega.{arith}
use lib.Dec.{eqb}
use lib.ListN.{length, drop, replicate, length-replicate}
use lib.Pow.{pow_pos}
use Rattle.part.specs.File.{iso}
use Rattle.field.specs.Vectors.{Position}
use Rattle.field.specs.Vectors.{Ray}
use Rattle.field.specs.declared.Bounds.{Bounds}
use Rattle.field.specs.Ray.{constant_ray}
use Rattle.field.specs.Solid.{Solid, solid_of}
use Rattle.field.specs.Bounds.{empty_mark, crossing_mark, inside_mark, state_of}
use Rattle.field.proofs.States.{three_states}
use Rattle.bounds.specs.Place.{place_bounds}
use Rattle.halving.specs.declared.Cast.TheVariants as cast
use Rattle.halving.proofs.Uniform.{uniform, marks_uniform}
use Rattle.halving.proofs.Handed.{handed_all}
use Rattle.cast.specs.Ticks.{exponent, ray_state}
use Rattle.cast.specs.Calls.{cast_after, marks_after}
use Rattle.cast.proofs.Demands.{ray_valid}
use Rattle.cast.proofs.NoLength.{ray_accepted, buffer_accepted, place_states}
use Rattle.march.specs.Marching.{march_enough, next_tick, next_length, count_from, march_count}
use Rattle.march.specs.Calls.{march_probes, marched_marks, ray_march, marching_cast, marched_left}
use Rattle.march.proofs.Marching.{enough}
use Rattle.march.proofs.Worst.{worst}
use Rattle.march.proofs.Demands.{equal_marks}

-- the probes of a ray of which every span is in state s
abbrev probes_of : ℕ → ℕ
probes_of s = cond (eqb s crossing_mark) (march_enough (2 ^ exponent)) 5

Counts : ℕ → Type 0
Counts s = march_count (uniform s) (2 ^ exponent) ≡ probes_of s

all_empty : Counts empty_mark
unfolding Counts count_from next_tick next_length
all_empty = refl

all_inside : Counts inside_mark
unfolding Counts count_from next_tick next_length
all_inside = refl

all_crossing : Counts crossing_mark
unfolding Counts
all_crossing = worst (2 ^ exponent) (omega arith)

counts : (iso : ℕ) (b : Bounds) → Counts (state_of iso b)
counts iso b = elim (three_states iso b) [
  | inl e ↦ subst Counts (sym e) all_empty
  | inr c ↦ elim c [ inl e ↦ subst Counts (sym e) all_inside | inr e ↦ subst Counts (sym e) all_crossing ]
]

module _ (file : List ℕ) (p : Position) {b : Bounds} (bounded : place_bounds file p ≡ Ok b) where
  abbrev solid : Solid
  solid = solid_of file

  abbrev ray : Ray
  ray = constant_ray p

  -- the state of the place's bounds
  abbrev s : ℕ
  s = state_of (iso file) b

  pub place_march_probes : march_probes solid ray exponent ≡ probes_of s
  unfolding Counts
  place_march_probes = rw (place_states file p bounded (pow_pos exponent)) (counts (iso file) b)

  marks_are : marched_marks solid ray exponent ≡ replicate (2 ^ exponent) s
  marks_are =
      equal_marks solid ray exponent (ray_valid file ray (ray_accepted file p bounded))
      ∙ rw (place_states file p bounded (pow_pos exponent)) (marks_uniform s exponent 0)

  pub place_march : (budget : ℕ) (lent : List ℕ) → probes_of s ≤ budget → 2 ^ exponent ≤ length lent
      → (marching_cast file ray budget (length lent) ≡ Ok (cast.Complete (probes_of s)))
      × (marched_left file ray budget lent ≡ replicate (2 ^ exponent) s ++ drop (2 ^ exponent) lent)
  unfolding marching_cast marched_left cast_after marks_after
  place_march budget lent few room =
      let marched : ray_march solid ray exponent budget ≡ cast.Complete (probes_of s)
      = enough (ray_state solid ray (2 ^ exponent)) (2 ^ exponent) budget (omega (arith, few, place_march_probes))
      ∙ ap cast.Complete place_march_probes in
      rw (buffer_accepted file p bounded (2 ^ exponent) (length lent) room, marched, marks_are) (
        refl,
        ap (λ (l : List ℕ). l ++ drop (2 ^ exponent) lent)
            (handed_all (2 ^ exponent) (probes_of s) (replicate (2 ^ exponent) s) (length-replicate (2 ^ exponent) s)),
      )
