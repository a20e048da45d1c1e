-- The ticks of a ray, for every valid solid and every number of ticks: a decided span decides each of its ticks alike (`ray_nested`); so each of a
-- ray's marks is its tick's own (`ray_marks_at`).
use mathlib.Core.Path.{◌≡◌, refl, sym, ap, ◌∙◌}
use mathlib.Core.Logic.{inl, inr}
use Prim.Native.Nat.{ℕ, ◌^◌, ◌≤◌, ◌<◌}
use native.Mathlib.Nat.{zero-add}
use native.Mathlib.Omega.{arith}
use lib.ListN.{get_or}
use lib.Pow.{pow_pos}
use Rattle.field.specs.Vectors.{Ray}
use Rattle.field.specs.Ray.{tick, ticks, Ordered}
use Rattle.field.specs.Solid.{Solid, Valid}
use Rattle.field.specs.Bounds.{tree_bounds}
use Rattle.field.specs.Marks.{span_state, mark_of}
use Rattle.field.proofs.States.{three_states}
use Rattle.field.proofs.Nested.{tick_nested}
use Rattle.halving.specs.Halving.{Nested}
use Rattle.halving.proofs.Halving.{marks_at}
use Rattle.cast.specs.Ticks.{ray_state}
use Rattle.cast.specs.Calls.{ray_marks}

ordered : (i n : ℕ) {T : ℕ} → 1 ≤ T → Ordered (ticks i n T)
ordered i n h = record { ticks_low = h; order = omega arith }

-- a mark is 0, 1 or 2
pub mark_few : (solid : Solid) (ray : Ray) (T t : ℕ) → mark_of solid ray T t ≤ 2
unfolding mark_of span_state
mark_few solid ray T t = elim (three_states solid.iso (tree_bounds solid ray (tick t T))) [
  | inl c ↦ omega (arith, c)
  | inr c ↦ elim c [ inl c ↦ omega (arith, c) | inr c ↦ omega (arith, c) ]
]

-- a tick's state is its mark
pub tick_mark : (solid : Solid) (ray : Ray) (T t : ℕ) → ray_state solid ray T t 1 ≡ mark_of solid ray T t
unfolding ray_state mark_of
tick_mark solid ray T t = refl

module _ (solid : Solid) (valid : Valid solid) (ray : Ray) where
  pub ray_nested : {T : ℕ} → 1 ≤ T → Nested (ray_state solid ray T)
  unfolding ray_state span_state
  ray_nested {T} h i n j decided from before =
      let d = tick_nested solid valid ray (ordered i n h) j from before in
      elim (three_states solid.iso (tree_bounds solid ray (ticks i n T))) [
        | inl c ↦ d.empty c ∙ sym c
        | inr c ↦ elim c [ inl c ↦ d.inside c ∙ sym c | inr c ↦ absurd (decided c) ]
      ]

  pub ray_marks_at : (k t d : ℕ) → t < 2 ^ k → get_or (ray_marks solid ray k) t d ≡ mark_of solid ray (2 ^ k) t
  ray_marks_at k t d h =
      let st = ray_state solid ray (2 ^ k) in
      marks_at st (ray_nested (pow_pos k)) k 0 t d h ∙ ap (λ (j : ℕ). st j 1) (zero-add t) ∙ tick_mark solid ray (2 ^ k) t
