-- The figure 2 T + 4 is met: a ray of 64 ticks or more, of which every span is undecided, takes that many probes (`worst`).
use Prim.Native.Nat.{ℕ, zero, suc, ◌+◌, ◌-◌, ◌*◌, ◌/◌, ◌≤◌, ◌<◌, min}
use mathlib.Core.Path.{◌≡◌, refl, ap, ap₂, ◌∙◌}
use native.Mathlib.Omega.{arith}
use native.Mathlib.Decide.{dec_le}
use native.Mathlib.Nat.{min-eq_left}
use Rattle.field.specs.Bounds.{crossing_mark}
use Rattle.halving.proofs.Uniform.{uniform}
use Rattle.march.specs.Marching.{first_length, march_enough, cut, count_from, march_count}
use Rattle.march.proofs.Marching.{Halved, Finished, halved, finished, count_end, count_probe}

-- every span is undecided
abbrev undecided : ℕ → ℕ → ℕ
undecided = uniform crossing_mark

module _ (T : ℕ) where
  abbrev count : ℕ → ℕ → ℕ → ℕ
  count f i c = count_from undecided T f i c

  -- a candidate of 2n or 2n + 1 ticks is halved
  once_halved : (f i c n : ℕ) → i + c ≤ T → 2 ≤ c → c / 2 ≡ n → count (suc f) i c ≡ suc (count f i n)
  once_halved f i c n within several half =
      let e : cut T i c ≡ c = min-eq_left (omega arith) in
      let p : Halved 1 i (cut T i c) = rw e (halved 1 i c refl several) in
      count_probe undecided T f i c (omega arith) ∙ ap suc (ap₂ (λ (i c : ℕ). count f i c) p.tick (p.size ∙ ap (λ (c : ℕ). c / 2) e ∙ half))

  -- a candidate that is or is cut to one tick is passed
  once_passed : (f i c : ℕ) → i < T → cut T i c ≡ 1 → count (suc f) i c ≡ suc (count f (i + 1) 2)
  once_passed f i c lt e =
      let p : Finished 1 i (cut T i c) = rw e (finished 1 i 1 (omega arith) (λ _. omega arith)) in
      count_probe undecided T f i c lt
      ∙ ap suc (ap₂ (λ (i c : ℕ). count f i c) (p.tick ∙ ap (λ (n : ℕ). i + n) e) (p.size ∙ ap (λ (n : ℕ). 2 * n) e))

  -- tick by tick: two probes for each but the last
  by_ticks : (f i : ℕ) → i + 2 ≤ T → 2 * (T - i) ≤ f + 2 → count f i 1 ≡ 2 * (T - i) - 2
  by_ticks zero i h most = absurd (omega arith)
  by_ticks (suc zero) i h most = absurd (omega arith)
  by_ticks (suc (suc f)) i h most =
      let first : count (suc (suc f)) i 1 ≡ suc (count (suc f) (i + 1) 2) = once_passed (suc f) i 1 (omega arith) (min-eq_left (omega arith)) in
      elim (dec_le (i + 1 + 2) T) [
        | yes more ↦ omega (arith, first, once_halved f (i + 1) 2 1 more (omega arith) refl, by_ticks f (i + 1) more (omega arith))
        | no last ↦
            let one : T - (i + 1) ≡ 1 = omega arith in
            let e : cut T (i + 1) 2 ≡ 1 = ap (λ (n : ℕ). min 2 n) one in
            omega (arith, first, once_passed f (i + 1) 2 (omega arith) e, count_end undecided T f (i + 1 + 1) 2 (omega arith))
      ]

  pub worst : first_length ≤ T → march_count (uniform crossing_mark) T ≡ march_enough T
  worst h =
      let e : 2 * T + 4 ≡ suc (suc (suc (suc (suc (suc (2 * T - 2)))))) = omega arith in
      let f = 2 * T - 2 in
      ap (λ (f : ℕ). count f 0 64) e
      ∙ omega (
        arith,
        once_halved (suc (suc (suc (suc (suc f))))) 0 64 32 (omega arith) (omega arith) refl,
        once_halved (suc (suc (suc (suc f)))) 0 32 16 (omega arith) (omega arith) refl,
        once_halved (suc (suc (suc f))) 0 16 8 (omega arith) (omega arith) refl,
        once_halved (suc (suc f)) 0 8 4 (omega arith) (omega arith) refl,
        once_halved (suc f) 0 4 2 (omega arith) (omega arith) refl,
        once_halved f 0 2 1 (omega arith) (omega arith) refl,
        by_ticks f 0 (omega arith) (omega arith),
      )
