-- The first hit over an arbitrary state, on spans of 2^k ticks (document 01, "Calls"): "the first tick not empty with its mark, or clear, or spent
-- with the tick reached; always the probes. It probes in the same order and stops as soon as that tick is known."
use Rattle.std.specs.Prelude.{ℕ, zero, suc, ◌+◌, ◌^◌, cond, ltb, eqb}
use Rattle.field.specs.Bounds.{empty_mark, crossing_mark}
use Rattle.halving.specs.declared.FirstHit.{FirstHit}
use Rattle.halving.specs.declared.FirstHit.TheVariants.{Hit, Clear, Spent}

-- what follows a clear part with its probes; any other answer stays as it is
abbrev pub or_else : FirstHit → (ℕ → FirstHit) → FirstHit
or_else (Clear probes) next = next probes
or_else (Hit tick mark probes) next = Hit tick mark probes
or_else (Spent tick probes) next = Spent tick probes

-- a finished span of state s from tick i on: clear if it is empty, otherwise a hit at its first tick
abbrev pub finished : ℕ → ℕ → ℕ → FirstHit
finished s i probes = cond (eqb s empty_mark) (Clear probes) (Hit i s probes)

module _ (state : ℕ → ℕ → ℕ) (budget : ℕ) where
  -- in the 2^k ticks from tick i on, with `made` probes made before
  unfoldable pub hit : ℕ → ℕ → ℕ → FirstHit
  hit zero i made =
      let probed = finished (state i 1) i (made + 1) in
      cond (ltb made budget) probed (Spent i made)
  hit (suc k) i made =
      let s = state i (2 ^ suc k) in
      let halves = or_else (hit k i (made + 1)) (λ probes. hit k (i + 2 ^ k) probes) in
      let whole = finished s i (made + 1) in
      let probed = cond (eqb s crossing_mark) halves whole in
      cond (ltb made budget) probed (Spent i made)

-- how many of n ticks were looked at: those before the one reached if it is spent, "those up to and including the hit's tick
-- if it answers a hit, and otherwise all"
unfoldable pub hit_looked_at : ℕ → FirstHit → ℕ
hit_looked_at n (Hit tick mark probes) = tick + 1
hit_looked_at n (Clear probes) = n
hit_looked_at n (Spent tick probes) = tick
