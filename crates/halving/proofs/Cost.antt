-- What a first hit costs, over any state (document 02, P7): in 2^k ticks a hit at tick t takes at most 2 t + 1 + k probes (`hit_cost_lem`), less the
-- ones among t's binary digits (`hit_costs`), and a search that is spent at tick t had a budget of at most 2 t + k (`spent_cost`). Where the first
-- tick is crossing, and with it every span that starts there, a hit takes exactly 1 + k (`crossing_hit`), and a smaller budget is spent at that tick
-- (`crossing_spent`).
use Prim.Native.Nat.{ℕ, zero, suc, ◌+◌, ◌*◌, ◌-◌, ◌^◌, ◌≤◌, ◌<◌}
use mathlib.Core.Path.{◌≡◌, refl, sym, ap, subst, ◌∙◌}
use mathlib.Core.Bool.{cond}
use native.Mathlib.Omega.{arith, pow_step}
use native.Mathlib.Decide.{ℕ_discrete, dec_lt}
use lib.Dec.{ltb}
use lib.Pow.{pow_pos}
use borrow.Author.Tests.{lt-ltb, le-ltb, eq-eqb, ne_eqb}
use Rattle.halving.specs.declared.FirstHit.{FirstHit}
use Rattle.halving.specs.declared.FirstHit.TheVariants.{Hit, Clear, Spent}
use Rattle.halving.specs.Halving.{Nested}
use Rattle.halving.specs.FirstHit.{or_else, hit}
use Rattle.halving.proofs.FirstHits.{hit_out, hit-finished, hit_split, by_search}

-- ---- the ones among the k binary digits of a number below 2^k

unfoldable pub ones : ℕ → ℕ → ℕ
ones zero h = 0
ones (suc k) h = cond (ltb h (2 ^ k)) (ones k h) (suc (ones k (h - 2 ^ k)))

-- the highest digit is 0, or it is 1
pub ones_left : (k h : ℕ) → h < 2 ^ k → ones (suc k) h ≡ ones k h
unfolding ones
ones_left k h l = rw (lt-ltb _ _ l)

pub ones_right : (k h : ℕ) → ones (suc k) (2 ^ k + h) ≡ suc (ones k h)
unfolding ones
ones_right k h = rw (le-ltb (2 ^ k + h) (2 ^ k) (omega arith)) (ap (λ (n : ℕ). suc (ones k n)) (omega arith))

pub ones_zero : (k : ℕ) → ones k 0 ≡ 0
unfolding ones
ones_zero zero = refl
ones_zero (suc k) = ones_left k 0 (pow_pos k) ∙ ones_zero k

module _ (state : ℕ → ℕ → ℕ) (b : ℕ) where
  -- what an answer costs, in 2^k ticks from tick i on, with m probes made before
  abbrev Cost : ℕ → ℕ → ℕ → FirstHit → Type 0
  Cost k i m (Hit t s p) = (h : ℕ) × (t ≡ i + h) × (h < 2 ^ k) × (p + ones k h ≤ m + 2 * h + 1 + k)
  Cost k i m (Clear p) = p < m + 2 ^ suc k
  Cost k i m (Spent t p) = (i ≤ t) × (b + 2 * i ≤ m + 2 * t + k)

  cost_out : (k i m : ℕ) → b ≤ m → Cost k i m (hit state b k i m)
  cost_out k i m h = rw (hit_out state b k i m h) (omega arith, omega arith)

  cost_finished : (k i m : ℕ) → m < b → (state i (2 ^ k) ≡ 1 → k ≡ 0) → Cost k i m (hit state b k i m)
  cost_finished k i m lt e = elim (ℕ_discrete (state i (2 ^ k)) 0) [
    | yes z ↦ rw (hit-finished state b k i m lt e, eq-eqb _ _ z) (omega (arith, pow_pos k, pow_step 2 k))
    | no n ↦ rw (hit-finished state b k i m lt e, ne_eqb _ _ n) (0, omega arith, pow_pos k, omega (arith, ones_zero k))
  ]

  -- a left half, and what follows it if it is clear
  left_then : (k i m : ℕ) (f : FirstHit) (next : ℕ → FirstHit) → Cost k i (m + 1) f → ((n : ℕ) → Cost k (i + 2 ^ k) n (next n))
      → Cost (suc k) i m (or_else f next)
  left_then k i m (Hit t s p) next (h, at, l, few) right = (h, at, omega (arith, pow_step 2 k), omega (arith, ones_left k h l))
  left_then k i m (Spent t p) next (from, few) right = (from, omega arith)
  left_then k i m (Clear p) next few right = then (next p) (right p)
    where
      then : (f : FirstHit) → Cost k (i + 2 ^ k) p f → Cost (suc k) i m f
      then (Hit t s q) (h, at, l, more) =
          (2 ^ k + h, omega arith, omega (arith, pow_step 2 k), omega (arith, pow_step 2 k, ones_right k h))
      then (Clear q) more = omega (arith, pow_step 2 k, pow_step 2 (suc k))
      then (Spent t q) (from, more) = (omega arith, omega (arith, pow_step 2 k))

  costs : (k i m : ℕ) → Cost k i m (hit state b k i m)
  costs =
      by_search state b (λ k i m. Cost k i m (hit state b k i m)) cost_out cost_finished
      (λ k i m lt e left right. rw (hit_split state b k i m lt e)
      (left_then k i m (hit state b k i (m + 1)) (λ n. hit state b k (i + 2 ^ k) n) left right))

  -- ---- the ray's 2^k ticks

  pub hit_costs : (k : ℕ) {t s p : ℕ} → hit state b k 0 0 ≡ Hit t s p → p + ones k t ≤ 2 * t + 1 + k
  hit_costs k {t} e =
      let c = subst (Cost k 0 0) e (costs k 0 0) in
      let same : ones k c.0 ≡ ones k t = ap (ones k) (omega (arith, c.1)) in
      omega (arith, c.1, c.3, same)

  pub hit_cost_lem : (k : ℕ) {t s p : ℕ} → hit state b k 0 0 ≡ Hit t s p → p ≤ 2 * t + 1 + k
  hit_cost_lem k e = omega (arith, hit_costs k e)

  pub spent_cost : (k : ℕ) {t p : ℕ} → hit state b k 0 0 ≡ Spent t p → b ≤ 2 * t + k
  spent_cost k e = let c = subst (Cost k 0 0) e (costs k 0 0) in omega (arith, c.1)

  -- ---- from a crossing tick on

  module _ (nested : Nested state) (i : ℕ) (crossing : state i 1 ≡ 1) where
    span_crossing : (k : ℕ) → state i (2 ^ k) ≡ 1
    span_crossing k = elim (ℕ_discrete (state i (2 ^ k)) 1) [
      | yes e ↦ e
      | no n ↦ sym (nested i (2 ^ k) i n (omega arith) (omega (arith, pow_pos k))) ∙ crossing
    ]

    pub crossing_hit : (k m : ℕ) → m + k < b → hit state b k i m ≡ Hit i 1 (m + 1 + k)
    crossing_hit zero m h =
        hit-finished state b zero i m (omega arith) (λ e. refl) ∙ rw crossing (ap (λ (p : ℕ). Hit i 1 p) (omega arith))
    crossing_hit (suc k) m h =
        hit_split state b k i m (omega arith) (span_crossing (suc k))
        ∙ rw (crossing_hit k (m + 1) (omega arith)) (ap (λ (p : ℕ). Hit i 1 p) (omega arith))

    pub crossing_spent : (k m : ℕ) → m ≤ b → b ≤ m + k → hit state b k i m ≡ Spent i b
    crossing_spent zero m few h = hit_out state b zero i m (omega arith) ∙ ap (λ (p : ℕ). Spent i p) (omega arith)
    crossing_spent (suc k) m few h = elim (dec_lt m b) [
      | no n ↦ hit_out state b (suc k) i m (omega arith) ∙ ap (λ (p : ℕ). Spent i p) (omega arith)
      | yes lt ↦ hit_split state b k i m lt (span_crossing (suc k)) ∙ rw (crossing_spent k (m + 1) (omega arith) (omega arith))
    ]
