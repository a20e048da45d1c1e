-- Laws of the first hit: what holds of its spans by the way that the search takes (`by_search`); and, over any state whose decided spans decide each
-- of their ticks alike, that a hit is the first tick that is not empty, with its own state, clear means that all ticks are empty, spent that all
-- before the tick reached are, with exactly the budget's probes, and no answer has more probes than its budget and than the full cast (`hits`).
use Prim.Native.Nat.{ℕ, zero, suc, ◌+◌, ◌^◌, ◌≤◌, ◌<◌}
use mathlib.Core.Path.{◌≡◌, refl, ap, ◌∙◌}
use native.Mathlib.Omega.{arith, pow_step}
use native.Mathlib.Decide.{ℕ_discrete, dec_lt}
use lib.Pow.{pow_pos}
use borrow.Author.Tests.{lt-ltb, le-ltb, eq-eqb, ne_eqb}
use Rattle.halving.specs.declared.FirstHit.{FirstHit}
use Rattle.halving.specs.declared.FirstHit.TheVariants.{Hit, Clear, Spent}
use Rattle.halving.specs.Halving.{Nested, probe_count}
use Rattle.halving.specs.FirstHit.{or_else, finished, hit}
use Rattle.halving.proofs.Halving.{decided, count_split, count-finished, count-pos}

module _ (state : ℕ → ℕ → ℕ) (b : ℕ) where
  -- ---- the steps of the definition, by what the probe says

  pub hit_out : (k i m : ℕ) → b ≤ m → hit state b k i m ≡ Spent i m
  unfolding hit
  hit_out zero i m h = rw (le-ltb _ _ h)
  hit_out (suc k) i m h = rw (le-ltb _ _ h)

  -- a span that is decided or one tick long
  pub hit-finished : (k i m : ℕ) → m < b → (state i (2 ^ k) ≡ 1 → k ≡ 0) → hit state b k i m ≡ finished (state i (2 ^ k)) i (m + 1)
  unfolding hit
  hit-finished zero i m h e = rw (lt-ltb _ _ h)
  hit-finished (suc k) i m h e = rw (lt-ltb _ _ h, decided (state i (2 ^ suc k)) k e)

  pub hit_split : (k i m : ℕ) → m < b → state i (2 ^ suc k) ≡ 1
      → hit state b (suc k) i m ≡ or_else (hit state b k i (m + 1)) (λ n. hit state b k (i + 2 ^ k) n)
  unfolding hit
  hit_split k i m h e = rw (lt-ltb _ _ h, eq-eqb _ _ e)

  -- what is so of 2^k ticks from tick i on, with m probes made before: if it is so where the budget is used up, where the span is decided or one
  -- tick long, and where it is halved, provided that it is so of the halves
  pub by_search : (P : ℕ → ℕ → ℕ → Type 0) → ((k i m : ℕ) → b ≤ m → P k i m)
      → ((k i m : ℕ) → m < b → (state i (2 ^ k) ≡ 1 → k ≡ 0) → P k i m)
      → ((k i m : ℕ) → m < b → state i (2 ^ suc k) ≡ 1 → P k i (m + 1) → ((n : ℕ) → P k (i + 2 ^ k) n) → P (suc k) i m)
      → (k i m : ℕ) → P k i m
  by_search P out ended split zero i m = elim (dec_lt m b) [ no n ↦ out zero i m (omega arith) | yes lt ↦ ended zero i m lt (λ e. refl) ]
  by_search P out ended split (suc k) i m = elim (dec_lt m b) [
    | no n ↦ out (suc k) i m (omega arith)
    | yes lt ↦ elim (ℕ_discrete (state i (2 ^ suc k)) 1) [
      | no n ↦ ended (suc k) i m lt (λ e. absurd (n e))
      | yes e ↦ split k i m lt e (by_search P out ended split k i (m + 1)) (λ n. by_search P out ended split k (i + 2 ^ k) n)
    ]
  ]

  -- ---- what the first hit in 2^k ticks from tick i on says, with m probes made before

  abbrev pub EmptyFrom : ℕ → ℕ → Type 0
  EmptyFrom i t = (j : ℕ) → i ≤ j → j < t → state j 1 ≡ 0

  abbrev pub Found : ℕ → ℕ → ℕ → FirstHit → Type 0
  Found k i m (Hit t s p) = (i ≤ t) × (t < i + 2 ^ k) × (state t 1 ≡ s) × (1 ≤ s) × EmptyFrom i t × (p ≤ m + probe_count state k i) × (p ≤ b)
  Found k i m (Clear p) = EmptyFrom i (i + 2 ^ k) × (p ≡ m + probe_count state k i) × (p ≤ b)
  Found k i m (Spent t p) = (i ≤ t) × (t < i + 2 ^ k) × EmptyFrom i t × (p ≡ b) × (b < m + probe_count state k i)

  -- ticks before a tick in the middle, and those from it on
  empties : (i h t : ℕ) → EmptyFrom i h → EmptyFrom h t → EmptyFrom i t
  empties i h t left right j from before = elim (dec_lt j h) [ yes l ↦ left j from l | no g ↦ right j (omega arith) before ]

  -- a left half, and what follows it if it is clear
  left_then : (k i m : ℕ) (f : FirstHit) (next : ℕ → FirstHit)
      → probe_count state (suc k) i ≡ suc (probe_count state k i + probe_count state k (i + 2 ^ k))
      → Found k i (m + 1) f → ((n : ℕ) → n ≤ b → Found k (i + 2 ^ k) n (next n)) → Found (suc k) i m (or_else f next)
  left_then k i m (Hit t s p) next c (from, before, is, some, empty, few, in-budget) right =
      (from, omega (arith, pow_step 2 k), is, some, empty, omega arith, in-budget)
  left_then k i m (Spent t p) next c (from, before, empty, all, more) right = (from, omega (arith, pow_step 2 k), empty, all, omega arith)
  left_then k i m (Clear p) next c (empty, is, in-budget) right = then (next p) (right p in-budget)
    where
      then : (f : FirstHit) → Found k (i + 2 ^ k) p f → Found (suc k) i m f
      then (Hit t s q) (from, before, at, some, more, few, below) =
          (omega arith, omega (arith, pow_step 2 k), at, some, empties i (i + 2 ^ k) t empty more, omega arith, below)
      then (Clear q) (more, q_is, below) =
          (empties i (i + 2 ^ k) (i + 2 ^ suc k) empty (λ j from before. more j from (omega (arith, pow_step 2 k))), omega arith, below)
      then (Spent t q) (from, before, more, all, waiting) =
          (omega arith, omega (arith, pow_step 2 k), empties i (i + 2 ^ k) t empty more, all, omega arith)

  found_out : (k i m : ℕ) → m ≡ b → Found k i m (hit state b k i m)
  found_out k i m e = rw (hit_out k i m (omega arith))
      (omega arith, omega (arith, pow_pos k), (λ j from before. absurd (omega arith)), e, omega (arith, count-pos state k i))

  found_finished : (k i m : ℕ) → m < b → (state i (2 ^ k) ≡ 1 → k ≡ 0) → ((j : ℕ) → i ≤ j → j < i + 2 ^ k → state j 1 ≡ state i (2 ^ k))
      → Found k i m (hit state b k i m)
  found_finished k i m lt e same = elim (ℕ_discrete (state i (2 ^ k)) 0) [
    | yes z ↦ rw (hit-finished k i m lt e, eq-eqb _ _ z)
        ((λ j from before. same j from before ∙ z), omega (arith, count-finished state k i e), omega arith)
    | no n ↦ rw (hit-finished k i m lt e, ne_eqb _ _ n) (
      omega arith,
      omega (arith, pow_pos k),
      same i (omega arith) (omega (arith, pow_pos k)),
      omega arith,
      (λ j from before. absurd (omega arith)),
      omega (arith, count-pos state k i),
      omega arith,
    )
  ]

  module _ (nested : Nested state) where
    -- each tick of a span that is decided or one tick long is as the span is
    same_state : (k i : ℕ) → (state i (2 ^ k) ≡ 1 → k ≡ 0) → (j : ℕ) → i ≤ j → j < i + 2 ^ k → state j 1 ≡ state i (2 ^ k)
    same_state zero i e j from before = ap (λ (n : ℕ). state n 1) (omega arith)
    same_state (suc k) i e j from before = nested i (2 ^ suc k) j (λ u. omega (arith, e u)) from before

    pub hits : (k i m : ℕ) → m ≤ b → Found k i m (hit state b k i m)
    hits =
        by_search (λ k i m. m ≤ b → Found k i m (hit state b k i m))
        (λ k i m more h. found_out k i m (omega arith))
        (λ k i m lt e h. found_finished k i m lt e (same_state k i e))
        (λ k i m lt e left right h. rw (hit_split k i m lt e)
        (left_then k i m (hit state b k i (m + 1)) (λ n. hit state b k (i + 2 ^ k) n) (count_split state k i e) (left (omega arith)) right))
