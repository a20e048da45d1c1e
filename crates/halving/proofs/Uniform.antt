-- A ray of which every span is in one state, as one whose ends coincide (document 02, P8): decided, one probe tells all; undecided, every span is
-- probed, 2^(k + 1) − 1 for 2^k ticks (`count_uniform`). Each mark is that state (`marks_uniform`), and the first hit is at the first tick, or there
-- is none (`hit_uniform`).
use Prim.Native.Nat.{ℕ, zero, suc, ◌+◌, ◌*◌, ◌-◌, ◌^◌, ◌<◌}
use mathlib.Core.Path.{◌≡◌, refl, ap, ap₂, ◌∙◌}
use mathlib.Core.List.{List, ◌++◌}
use mathlib.Core.Bool.{cond}
use native.Mathlib.Decide.{ℕ_discrete}
use native.Mathlib.Omega.{arith, pow_step}
use borrow.Author.Tests.{ne_eqb}
use lib.Dec.{eqb}
use lib.ListN.{replicate, replicate-append-replicate}
use lib.Pow.{pow_pos}
use Rattle.field.specs.Bounds.{crossing_mark}
use Rattle.halving.specs.Halving.{Nested, probe_count, span_marks}
use Rattle.halving.specs.FirstHit.{finished, hit}
use Rattle.halving.proofs.Halving.{count_split, count-finished, marks_split, marks_finished}
use Rattle.halving.proofs.FirstHits.{hit-finished}
use Rattle.halving.proofs.Cost.{crossing_hit}

-- every span is in state s
abbrev pub uniform : ℕ → ℕ → ℕ → ℕ
uniform s i n = s

uniform_nested : (s : ℕ) → Nested (uniform s)
uniform_nested s i n j decided from before = refl

-- ---- probes

count_undecided : (k i : ℕ) → probe_count (uniform 1) k i ≡ 2 * 2 ^ k - 1
count_undecided zero i = count-finished (uniform 1) zero i (λ _. refl)
count_undecided (suc k) i =
    count_split (uniform 1) k i refl
    ∙ omega (arith, count_undecided k i, count_undecided k (i + 2 ^ k), pow_step 2 (suc k), pow_pos k)

pub count_uniform : (s k i : ℕ) → probe_count (uniform s) k i ≡ cond (eqb s crossing_mark) (2 * 2 ^ k - 1) 1
count_uniform s k i = elim (ℕ_discrete s 1) [
  | yes e ↦ rw e (count_undecided k i)
  | no n ↦ rw (ne_eqb s 1 n) (count-finished (uniform s) k i (λ e. absurd (n e)))
]

-- ---- marks

pub marks_uniform : (s k i : ℕ) → span_marks (uniform s) k i ≡ replicate (2 ^ k) s
marks_uniform s zero i = marks_finished (uniform s) zero i (λ _. refl)
marks_uniform s (suc k) i = elim (ℕ_discrete s 1) [
  | yes e ↦
      let twice : 2 ^ k + 2 ^ k ≡ 2 ^ suc k = omega (arith, pow_step 2 (suc k)) in
      marks_split (uniform s) k i e
      ∙ ap₂ (λ (l r : List ℕ). l ++ r) (marks_uniform s k i) (marks_uniform s k (i + 2 ^ k))
      ∙ replicate-append-replicate (2 ^ k) (2 ^ k) s
      ∙ ap (λ (n : ℕ). replicate n s) twice
  | no n ↦ marks_finished (uniform s) (suc k) i (λ e. absurd (n e))
]

-- ---- the first hit, with a budget of the figure of tick 0 or more: clear if all is empty, otherwise at tick 0

pub hit_uniform : (s k b : ℕ) → k < b → hit (uniform s) b k 0 0 ≡ finished s 0 (cond (eqb s crossing_mark) (1 + k) 1)
hit_uniform s k b enough = elim (ℕ_discrete s 1) [
  | yes e ↦ rw e (crossing_hit (uniform 1) b (uniform_nested 1) 0 refl k 0 (omega arith))
  | no n ↦ rw (ne_eqb s 1 n) (hit-finished (uniform s) b k 0 0 (omega arith) (λ e. absurd (n e)))
]
