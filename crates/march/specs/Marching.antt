-- The marching search (document 02, P5) over an arbitrary state, on a ray of T ticks: `state i n` is empty, undecided (crossing) or inside for the n
-- ticks from tick i on. "Add a full cast that starts at tick 0 with a candidate of 64 ticks." A candidate is its first tick i and its length c before
-- it is cut.
use Rattle.std.specs.Prelude.{ℕ, zero, suc, ◌+◌, ◌-◌, ◌*◌, ◌/◌, ◌≤◌, ◌<◌, min, List, [], ◌++◌, Bool, cond, ◌&&◌, replicate, ltb, eqb}
use Rattle.field.specs.Bounds.{crossing_mark}
use Rattle.halving.specs.declared.Cast.{Cast}
use Rattle.halving.specs.declared.Cast.TheVariants.{Complete, Spent}

-- "a candidate of 64 ticks"
abbrev pub first_length : ℕ
first_length = 64

-- "Its budget for certain completion is its own": of T ticks, 2 T + 4, which is 2,052 of 1,024
abbrev pub march_enough : ℕ → ℕ
march_enough T = 2 * T + 4

-- ---- one candidate, cut to n ticks that are in state s

-- "A candidate is cut to what is left of the ray."
abbrev pub cut : ℕ → ℕ → ℕ → ℕ
cut T i c = min c (T - i)

-- "If undecided and longer than one tick, it is halved"
abbrev pub halves : ℕ → ℕ → Bool
halves s n = eqb s crossing_mark && ltb 1 n

-- the next candidate's first tick: the same if it is halved, otherwise the one after it
unfoldable pub next_tick : ℕ → ℕ → ℕ → ℕ
next_tick s i n = cond (halves s n) i (i + n)

-- the next candidate's length: "halved, rounding down"; after "one undecided tick […] two ticks"; if decided "twice its length"
unfoldable pub next_length : ℕ → ℕ → ℕ
next_length s n = cond (eqb s crossing_mark) (cond (ltb 1 n) (n / 2) 2) (2 * n)

-- the marks that are known then: none if it is halved; "its ticks are marked", and one undecided tick "is crossing", which is its state
unfoldable pub marked : ℕ → ℕ → List ℕ
marked s n = cond (halves s n) [] (replicate n s)

module _ (state : ℕ → ℕ → ℕ) (T : ℕ) where
  -- ---- the same of the candidate of c ticks from tick i on

  abbrev pub tick_after : ℕ → ℕ → ℕ
  tick_after i c = next_tick (state i (cut T i c)) i (cut T i c)

  abbrev pub length_after : ℕ → ℕ → ℕ
  length_after i c = next_length (state i (cut T i c)) (cut T i c)

  abbrev pub marks_of : ℕ → ℕ → List ℕ
  marks_of i c = marked (state i (cut T i c)) (cut T i c)

  -- "Each candidate is one probe": the rule makes exactly so many from there to the ray's end
  unfoldable pub Takes : ℕ → ℕ → ℕ → Type 0
  Takes zero i c = T ≤ i
  Takes (suc probes) i c = (i < T) × Takes probes (tick_after i c) (length_after i c)

  -- ---- the ray from there on, as far as so many candidates go

  -- how many of them there are
  unfoldable pub count_from : ℕ → ℕ → ℕ → ℕ
  count_from zero i c = 0
  count_from (suc more) i c =
      let later = suc (count_from more (tick_after i c) (length_after i c)) in
      cond (ltb i T) later 0

  -- the marks of the ticks that they look at
  unfoldable pub marks_from : ℕ → ℕ → ℕ → List ℕ
  marks_from zero i c = []
  marks_from (suc more) i c =
      let later = marks_of i c ++ marks_from more (tick_after i c) (length_after i c) in
      cond (ltb i T) later []

  -- the cast of it with so many probes left of the budget and `made` probes made before: spent "at the first tick of the stretch waiting to be
  -- probed"
  unfoldable pub walk_from : ℕ → ℕ → ℕ → ℕ → Cast
  walk_from zero i c made = cond (ltb i T) (Spent i made) (Complete made)
  walk_from (suc more) i c made =
      let later = walk_from more (tick_after i c) (length_after i c) (made + 1) in
      cond (ltb i T) later (Complete made)

  -- ---- the whole ray. There are never more than 2 T + 4 candidates, so that the count and the marks are the rule's (`count_takes` and `more_alike`,
  -- proofs/Marching).

  -- "the whole ray's probe count goes by this rule"
  abbrev pub march_count : ℕ
  march_count = count_from (march_enough T) 0 first_length

  -- the marks of its ticks, each looked at
  abbrev pub march_marks : List ℕ
  march_marks = marks_from (march_enough T) 0 first_length

  abbrev pub march : ℕ → Cast
  march budget = walk_from budget 0 first_length 0
