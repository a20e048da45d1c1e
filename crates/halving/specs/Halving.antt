-- The halving search (document 01, "Marks and probes") over an arbitrary state, on spans of 2^k ticks: `state i n` is empty, undecided (crossing) or
-- inside for the n ticks from tick i on. "Casting probes the whole ray first. An undecided stretch of more than one tick is halved and its left
-- half done wholly before its right half."
use Rattle.std.specs.Prelude.{ℕ, zero, suc, ◌+◌, ◌-◌, ◌^◌, ◌≤◌, ◌<◌, ◌≡◌, List, [], ◌∷◌, ◌++◌, cond, take, replicate, ltb, eqb}
use Rattle.field.specs.Bounds.{crossing_mark, not_looked_at}
use Rattle.halving.specs.declared.Cast.{Cast}
use Rattle.halving.specs.declared.Cast.TheVariants.{Complete, Spent}

-- what follows a complete cast with its probes; a spent one stays as it is
abbrev pub and_then : Cast → (ℕ → Cast) → Cast
and_then (Complete probes) next = next probes
and_then (Spent tick probes) next = Spent tick probes

-- "a tick within a decided stretch is decided the same way by itself"
abbrev pub Nested : (ℕ → ℕ → ℕ) → Type 0
Nested state = (i n j : ℕ) → (state i n ≡ crossing_mark → ⊥) → i ≤ j → j < i + n → state j 1 ≡ state i n

module _ (state : ℕ → ℕ → ℕ) where
  -- "The probe count of a finished stretch is 1 if it is decided or one tick long, else 1 plus the counts of its halves."
  unfoldable pub probe_count : ℕ → ℕ → ℕ
  probe_count zero i = 1
  probe_count (suc k) i =
      let halves = suc (probe_count k i + probe_count k (i + 2 ^ k)) in
      cond (eqb (state i (2 ^ suc k)) crossing_mark) halves 1

  -- the marks of its ticks, each looked at
  unfoldable pub span_marks : ℕ → ℕ → List ℕ
  span_marks zero i = state i 1 ∷ []
  span_marks (suc k) i =
      let s = state i (2 ^ suc k) in
      let halves = span_marks k i ++ span_marks k (i + 2 ^ k) in
      let same = replicate (2 ^ suc k) s in
      cond (eqb s crossing_mark) halves same

  -- the cast of it, with `made` probes made before: "When that many probes are made and another is needed, the cast is spent at the first tick of
  -- the stretch waiting to be probed."
  module _ (budget : ℕ) where
    unfoldable pub walk : ℕ → ℕ → ℕ → Cast
    walk zero i made = cond (ltb made budget) (Complete (made + 1)) (Spent i made)
    walk (suc k) i made =
        let halves = and_then (walk k i (made + 1)) (λ probes. walk k (i + 2 ^ k) probes) in
        let probed = cond (eqb (state i (2 ^ suc k)) crossing_mark) halves (Complete (made + 1)) in
        cond (ltb made budget) probed (Spent i made)

-- how many of n ticks a cast looked at: "those before the one reached […] if the call is spent", otherwise all
unfoldable pub cast_looked_at : ℕ → Cast → ℕ
cast_looked_at n (Complete probes) = n
cast_looked_at n (Spent tick probes) = tick

-- the n marks handed over: "Marks before that tick are written; from it on they are 3."
unfoldable pub handed : ℕ → Cast → List ℕ → List ℕ
handed n cast ms = take (cast_looked_at n cast) ms ++ replicate (n - cast_looked_at n cast) not_looked_at
