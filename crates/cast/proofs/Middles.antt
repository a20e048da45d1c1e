-- The middle of a tick, for every valid solid and every number of ticks: a place of the tick (`middle_inside`), at which the two bounds enclose the
-- exact field and the tick's bit is right of it but for the rounding (`middle_says`). A decided tick's middle is decided alike, so that a tick's bit
-- is its middle's whatever its mark (`bit_is_middle`).
use mathlib.Core.Path.{◌≡◌, refl}
use mathlib.Core.Logic.{◌⊎◌, inl, inr}
use mathlib.Core.Bool.{true, false, cond}
use Prim.Native.Nat.{ℕ, ◌+◌, ◌*◌, ◌≤◌}
use native.Mathlib.Nat.{le_of_eq, mul_comm}
use native.Mathlib.Omega.{arith}
use lib.IntN.{pos, ◌+ℤ◌}
use lib.Signed.{le_z, ◌≤ℤ◌, ◌<ℤ◌}
use Rattle.exact.proofs.Ring.{◌⊕◌, ◌⊗◌, #}
use Rattle.exact.proofs.Order.{nn_pos, pos_reflect}
use Rattle.exact.proofs.Certificates.{◌≦◌by◌, le}
use Rattle.exact.proofs.Linear.{cross, uncross, cross_lt, uncross_lt, add_parts}
use Rattle.exact.proofs.Tests.{le_z_true, le_z_false, le-le_z, lt-le_z, cond_by}
use Rattle.field.specs.Vectors.{Ray}
use Rattle.field.specs.declared.Bounds.{Bounds}
use Rattle.field.specs.Ray.{tick, middle, Ordered, Place, Inside}
use Rattle.field.specs.Solid.{Solid, Valid}
use Rattle.field.specs.Field.{field_at}
use Rattle.field.specs.Tolerance.{rounding}
use Rattle.field.specs.Bounds.{empty_mark, inside_mark, level, tree_bounds, Encloses, NoWider, state_of, solid_by}
use Rattle.field.specs.Marks.{span_state, mark_of}
use Rattle.field.proofs.Width.{tick_ordered}
use Rattle.field.proofs.States.{empty_high, inside_low, three_states, ends_ordered, sum_high, sum_low}
use Rattle.field.proofs.Enclosure.{enclosure}
use Rattle.field.proofs.Nested.{state_nested}
use Rattle.field.proofs.Tolerance.{narrow_place}
use Rattle.cast.specs.Column.{middle_solid, tick_bit, bit_of}
use Rattle.cast.specs.Demands.{MiddleSays}

-- ---- a place of the tick

module _ (t : ℕ) {T : ℕ} (hT : 1 ≤ T) where
  middle_ordered : Ordered (middle t T)
  middle_ordered = record { ticks_low = omega arith; order = omega arith }

  middle_place : Place (middle t T)
  middle_place = record {
    n = 2 * t + 1;
    m = 2 * T;
    proper = omega arith;
    after = le_of_eq (mul_comm (2 * t + 1) (2 * T));
    before = le_of_eq (mul_comm (2 * T) (2 * t + 1));
  }

  middle_inside : Inside (middle t T) (tick t T)
  middle_inside = record {
    from = pos_reflect (le 2 (λ t T. t ⊗ (# 2 ⊗ T) ≦ (# 2 ⊗ t ⊕ # 1) ⊗ T by T) tt (pos t) (pos T) (nn_pos T));
    to = pos_reflect (le 2 (λ t T. (# 2 ⊗ t ⊕ # 1) ⊗ T ≦ (t ⊕ # 1) ⊗ (# 2 ⊗ T) by T) tt (pos t) (pos T) (nn_pos T));
  }

-- ---- bounds that are decided add up to less than twice the iso-value, or to as much

module _ (iso : ℕ) (b : Bounds) (order : b.low ≤ℤ b.high) where
  empty_sum : state_of iso b ≡ empty_mark → solid_by iso b ≡ false
  unfolding solid_by
  empty_sum e =
      let less : (b.low +ℤ b.high) <ℤ level (2 * iso)
      = uncross_lt (omega (arith, cross order, cross_lt (empty_high iso b e), add_parts b.low b.high)) in
      lt-le_z (level (2 * iso)) (b.low +ℤ b.high) less

  inside_sum : state_of iso b ≡ inside_mark → solid_by iso b ≡ true
  unfolding solid_by
  inside_sum e =
      let more : level (2 * iso) ≤ℤ (b.low +ℤ b.high)
      = uncross (omega (arith, cross order, cross (inside_low iso b e), add_parts b.low b.high)) in
      le-le_z (level (2 * iso)) (b.low +ℤ b.high) more

module _ (solid : Solid) (valid : Valid solid) (ray : Ray) (t : ℕ) {T : ℕ} (hT : 1 ≤ T) where
  abbrev b : Bounds
  b = tree_bounds solid ray (middle t T)

  encloses : Encloses b (field_at solid ray (2 * t + 1) (2 * T))
  unfolding middle_place
  encloses = enclosure solid valid ray (middle_ordered t hT) (middle_place t hT)

  narrow : NoWider b (rounding solid)
  narrow = narrow_place solid valid ray (middle_ordered t hT) refl

  pub bit_is_middle : bit_of solid ray T t ≡ cond (middle_solid solid ray T t) 1 0
  unfolding bit_of mark_of span_state tick_bit middle_solid
  bit_is_middle =
      let d = state_nested solid valid ray (middle_ordered t hT) (tick_ordered t hT) (middle_inside t hT) in
      elim (three_states solid.iso (tree_bounds solid ray (tick t T))) [
        | inl c ↦ rw (c, empty_sum solid.iso b (ends_ordered encloses) (d.empty c))
        | inr c ↦ elim c [
          | inl c ↦ rw (c, inside_sum solid.iso b (ends_ordered encloses) (d.inside c))
          | inr c ↦ rw c
        ]
      ]

  -- the bit, with the sum of the two bounds
  judged : ((level (2 * solid.iso) ≤ℤ (b.low +ℤ b.high)) × (bit_of solid ray T t ≡ 1))
      ⊎ (((b.low +ℤ b.high) <ℤ level (2 * solid.iso)) × (bit_of solid ray T t ≡ 0))
  unfolding middle_solid solid_by
  judged =
      let twice = level (2 * solid.iso) in
      let sum = b.low +ℤ b.high in
      rw bit_is_middle (cond_by {A = ℕ} (le_z twice sum) 1 0 (le_z_true twice sum) (le_z_false twice sum))

  pub middle_says : MiddleSays solid ray T t
  middle_says =
      let x = field_at solid ray (2 * t + 1) (2 * T) in
      let y = rounding solid in
      record {
        encloses = encloses;
        sound = record {
          proper = (encloses.proper, narrow.proper);
          solid = λ g. elim judged [
            | inl k ↦ sum_high solid.iso b x y encloses narrow k.0
            | inr k ↦ absurd (omega (arith, g, k.1))
          ];
          empty = λ g. elim judged [
            | inl k ↦ absurd (omega (arith, g, k.1))
            | inr k ↦ sum_low solid.iso b x y encloses narrow k.0
          ];
        };
      }
