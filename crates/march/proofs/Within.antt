-- A march of T ticks looks only within them, since it cuts each candidate to what is left of the ray. So two states that agree there (`Agree`) have
-- the same marks and the same cast.
use Prim.Native.Nat.{ℕ, zero, suc, ◌+◌, ◌-◌, ◌<◌}
use mathlib.Core.Path.{◌≡◌, refl}
use native.Mathlib.Omega.{arith}
use native.Mathlib.Decide.{dec_lt}
use native.Mathlib.Nat.{min-le_right}
use borrow.Author.Tests.{le-ltb}
use Rattle.halving.proofs.Within.{Agree}
use Rattle.march.specs.Marching.{cut, tick_after, length_after, marks_from, walk_from}

module _ {T : ℕ} {st st' : ℕ → ℕ → ℕ} (agree : Agree T st st') where
  -- a candidate's state
  same_state : (i c : ℕ) → i < T → st i (cut T i c) ≡ st' i (cut T i c)
  same_state i c h = agree i (cut T i c) (omega (arith, min-le_right c (T - i)))

  pub marks_within : (f i c : ℕ) → marks_from st T f i c ≡ marks_from st' T f i c
  unfolding marks_from
  marks_within zero i c = refl
  marks_within (suc f) i c = elim (dec_lt i T) [
    | no n ↦ rw (le-ltb i T (omega arith))
    | yes lt ↦ rw (same_state i c lt, marks_within f (tick_after st' T i c) (length_after st' T i c))
  ]

  pub walk_within : (b i c m : ℕ) → walk_from st T b i c m ≡ walk_from st' T b i c m
  unfolding walk_from
  walk_within zero i c m = refl
  walk_within (suc b) i c m = elim (dec_lt i T) [
    | no n ↦ rw (le-ltb i T (omega arith))
    | yes lt ↦ rw (same_state i c lt, walk_within b (tick_after st' T i c) (length_after st' T i c) (m + 1))
  ]
