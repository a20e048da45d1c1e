-- Laws of the halving search, over any state: at most 2^(k+1) − 1 probes (`count_below`); a cast is spent exactly where the probe count is more than
-- the budget, and then with exactly the budget's probes (`walked`, `enough`, `always_enough`); and where a decided span decides each of its ticks
-- alike (`Nested`), every mark is its tick's own state (`marks_at`).
use Prim.Native.Nat.{ℕ, zero, suc, ◌+◌, ◌-◌, ◌^◌, ◌≤◌, ◌<◌}
use mathlib.Core.Path.{◌≡◌, refl, sym, ap, ◌∙◌}
use mathlib.Core.List.{List, ◌++◌}
use mathlib.Core.Bool.{false}
use native.Mathlib.Omega.{arith, pow_step}
use native.Mathlib.Decide.{ℕ_discrete, dec_lt}
use native.Mathlib.Nat.{zero-add, add-zero}
use lib.ListN.{length, get_or, replicate, length-append, length-replicate, get_or-replicate, get_or-append}
use lib.Seq.{get_or-append-add}
use lib.Dec.{eqb}
use lib.Pow.{pow_pos}
use borrow.Author.Tests.{lt-ltb, le-ltb, eq-eqb, ne_eqb}
use Rattle.halving.specs.declared.Cast.{Cast}
use Rattle.halving.specs.declared.Cast.TheVariants.{Complete, Spent}
use Rattle.halving.specs.Halving.{Nested, and_then, probe_count, span_marks, walk, cast_looked_at}

-- a span of more than one tick that is not halved is decided
pub decided : (s k : ℕ) → (s ≡ 1 → suc k ≡ 0) → eqb s 1 ≡ false
decided s k e = ne_eqb s 1 (λ u. absurd (omega (arith, e u)))

module _ (state : ℕ → ℕ → ℕ) where
  -- ---- the steps of each definition, by what the probe says

  pub count_split : (k i : ℕ) → state i (2 ^ suc k) ≡ 1 → probe_count state (suc k) i ≡ suc (probe_count state k i + probe_count state k (i + 2 ^ k))
  unfolding probe_count
  count_split k i e = rw (eq-eqb _ _ e)

  -- a span that is decided or one tick long
  pub count-finished : (k i : ℕ) → (state i (2 ^ k) ≡ 1 → k ≡ 0) → probe_count state k i ≡ 1
  unfolding probe_count
  count-finished zero i e = refl
  count-finished (suc k) i e = rw (decided (state i (2 ^ suc k)) k e)

  pub marks_split : (k i : ℕ) → state i (2 ^ suc k) ≡ 1 → span_marks state (suc k) i ≡ span_marks state k i ++ span_marks state k (i + 2 ^ k)
  unfolding span_marks
  marks_split k i e = rw (eq-eqb _ _ e)

  pub marks_finished : (k i : ℕ) → (state i (2 ^ k) ≡ 1 → k ≡ 0) → span_marks state k i ≡ replicate (2 ^ k) (state i (2 ^ k))
  unfolding span_marks
  marks_finished zero i e = refl
  marks_finished (suc k) i e = rw (decided (state i (2 ^ suc k)) k e)

  -- ---- probes and marks of a span

  pub count_below : (k i : ℕ) → probe_count state k i < 2 ^ suc k
  unfolding probe_count
  count_below zero i = omega arith
  count_below (suc k) i = elim (ℕ_discrete (state i (2 ^ suc k)) 1) [
    | yes e ↦ omega (arith, count_split k i e, pow_step 2 (suc k), count_below k i, count_below k (i + 2 ^ k))
    | no n ↦ omega (arith, count-finished (suc k) i (λ e. absurd (n e)), pow_step 2 (suc k), pow_pos (suc k))
  ]

  pub count-pos : (k i : ℕ) → 1 ≤ probe_count state k i
  unfolding probe_count
  count-pos zero i = omega arith
  count-pos (suc k) i = elim (ℕ_discrete (state i (2 ^ suc k)) 1) [
    | yes e ↦ omega (arith, count_split k i e)
    | no n ↦ omega (arith, count-finished (suc k) i (λ e. absurd (n e)))
  ]

  pub length_marks : (k i : ℕ) → length (span_marks state k i) ≡ 2 ^ k
  unfolding span_marks
  length_marks zero i = refl
  length_marks (suc k) i = elim (ℕ_discrete (state i (2 ^ suc k)) 1) [
    | yes e ↦
        let halves = length-append (span_marks state k i) (span_marks state k (i + 2 ^ k)) in
        ap length (marks_split k i e) ∙ omega (arith, halves, length_marks k i, length_marks k (i + 2 ^ k), pow_step 2 k)
    | no n ↦ ap length (marks_finished (suc k) i (λ e. absurd (n e))) ∙ length-replicate (2 ^ suc k) (state i (2 ^ suc k))
  ]

  -- ---- the walk

  module _ (b : ℕ) where
    pub walk_out : (k i m : ℕ) → b ≤ m → walk state b k i m ≡ Spent i m
    unfolding walk
    walk_out zero i m h = rw (le-ltb _ _ h)
    walk_out (suc k) i m h = rw (le-ltb _ _ h)

    pub walk-finished : (k i m : ℕ) → m < b → (state i (2 ^ k) ≡ 1 → k ≡ 0) → walk state b k i m ≡ Complete (m + 1)
    unfolding walk
    walk-finished zero i m h e = rw (lt-ltb _ _ h)
    walk-finished (suc k) i m h e = rw (lt-ltb _ _ h, decided (state i (2 ^ suc k)) k e)

    pub walk_split : (k i m : ℕ) → m < b → state i (2 ^ suc k) ≡ 1
        → walk state b (suc k) i m ≡ and_then (walk state b k i (m + 1)) (λ n. walk state b k (i + 2 ^ k) n)
    unfolding walk
    walk_split k i m h e = rw (lt-ltb _ _ h, eq-eqb _ _ e)

    -- what the walk of 2^k ticks from tick i on answers, with m probes made before
    abbrev pub Walked : ℕ → ℕ → ℕ → Cast → Type 0
    Walked k i m (Complete p) = (p ≡ m + probe_count state k i) × (p ≤ b)
    Walked k i m (Spent t p) = (p ≡ b) × (b < m + probe_count state k i) × (i ≤ t) × (t < i + 2 ^ k)

    -- a left half, and what follows it if it is complete
    left_then : (k i m : ℕ) (w : Cast) (next : ℕ → Cast)
        → probe_count state (suc k) i ≡ suc (probe_count state k i + probe_count state k (i + 2 ^ k))
        → Walked k i (m + 1) w → ((n : ℕ) → n ≤ b → Walked k (i + 2 ^ k) n (next n)) → Walked (suc k) i m (and_then w next)
    left_then k i m (Complete p) next c (is, in-budget) right = then (next p) (right p in-budget)
      where
        then : (w : Cast) → Walked k (i + 2 ^ k) p w → Walked (suc k) i m w
        then (Complete q) (q_is, below) = (omega arith, below)
        then (Spent t q) (q_is, more, from, before) = (q_is, omega arith, omega arith, omega (arith, pow_step 2 k))
    left_then k i m (Spent t p) next c (is, more, from, before) right = (is, omega arith, from, omega (arith, pow_step 2 k))

    walked_out : (k i m : ℕ) → m ≡ b → Walked k i m (walk state b k i m)
    walked_out k i m e = rw (walk_out k i m (omega arith)) (e, omega (arith, count-pos k i), omega arith, omega (arith, pow_pos k))

    pub walked : (k i m : ℕ) → m ≤ b → Walked k i m (walk state b k i m)
    unfolding probe_count
    walked zero i m h = elim (dec_lt m b) [
      | no n ↦ walked_out zero i m (omega arith)
      | yes lt ↦ rw (walk-finished zero i m lt (λ e. refl)) (refl, omega arith)
    ]
    walked (suc k) i m h = elim (dec_lt m b) [
      | no n ↦ walked_out (suc k) i m (omega arith)
      | yes lt ↦ elim (ℕ_discrete (state i (2 ^ suc k)) 1) [
        | no n ↦ rw (walk-finished (suc k) i m lt (λ e. absurd (n e))) (omega (arith, count-finished (suc k) i (λ e. absurd (n e))), omega arith)
        | yes e ↦ rw (walk_split k i m lt e)
            (left_then k i m (walk state b k i (m + 1)) (λ n. walk state b k (i + 2 ^ k) n) (count_split k i e)
            (walked k i (m + 1) (omega arith)) (λ n q. walked k (i + 2 ^ k) n q))
      ]
    ]

    -- the ticks looked at are those of the span, from its first on
    pub looked_within : (k i m : ℕ) (w : Cast) → Walked k i m w
        → (i ≤ cast_looked_at (i + 2 ^ k) w) × (cast_looked_at (i + 2 ^ k) w ≤ i + 2 ^ k)
    unfolding cast_looked_at
    looked_within k i m (Complete p) h = (omega arith, omega arith)
    looked_within k i m (Spent t p) (is, more, from, before) = (from, omega arith)

    -- with budget enough the walk is complete, with the count's probes
    pub enough : (k i m : ℕ) → m + probe_count state k i ≤ b → walk state b k i m ≡ Complete (m + probe_count state k i)
    enough k i m h = complete (walk state b k i m) (walked k i m (omega arith))
      where
        complete : (w : Cast) → Walked k i m w → w ≡ Complete (m + probe_count state k i)
        complete (Complete p) (is, in-budget) = ap Complete is
        complete (Spent t p) (is, more, from, before) = absurd (omega arith)

    -- 2^(k+1) − 1 probes are always enough
    pub always_enough : (k i : ℕ) → 2 ^ suc k ≤ b + 1 → walk state b k i 0 ≡ Complete (probe_count state k i)
    always_enough k i h = enough k i 0 (omega (arith, count_below k i)) ∙ ap Complete (zero-add (probe_count state k i))

  -- ---- the marks

  module _ (nested : Nested state) where
    -- each mark is the state of its tick judged alone
    pub marks_at : (k i j d : ℕ) → j < 2 ^ k → get_or (span_marks state k i) j d ≡ state (i + j) 1
    unfolding span_marks
    marks_at zero i zero d h = ap (λ (n : ℕ). state n 1) (sym (add-zero i))
    marks_at zero i (suc j) d h = absurd (omega arith)
    marks_at (suc k) i j d h = elim (ℕ_discrete (state i (2 ^ suc k)) 1) [
      | yes e ↦
          ap (λ (l : List ℕ). get_or l j d) (marks_split k i e)
          ∙ elim (dec_lt j (2 ^ k)) [
            | yes lt ↦
                get_or-append (span_marks state k i) (span_marks state k (i + 2 ^ k)) d j (omega (arith, length_marks k i))
                ∙ marks_at k i j d lt
            | no ge ↦
                ap (λ (n : ℕ). get_or (span_marks state k i ++ span_marks state k (i + 2 ^ k)) n d) (past j ge)
                ∙ get_or-append-add (span_marks state k i) (span_marks state k (i + 2 ^ k)) (j - 2 ^ k) d
                ∙ marks_at k (i + 2 ^ k) (j - 2 ^ k) d (omega (arith, pow_step 2 k))
                ∙ ap (λ (n : ℕ). state n 1) (omega arith)
          ]
      | no n ↦
          ap (λ (l : List ℕ). get_or l j d) (marks_finished (suc k) i (λ e. absurd (n e)))
          ∙ get_or-replicate (2 ^ suc k) j (state i (2 ^ suc k)) d h
          ∙ sym (nested i (2 ^ suc k) (i + j) n (omega arith) (omega arith))
    ]
      where
        past : (j : ℕ) → (j < 2 ^ k → ⊥) → j ≡ length (span_marks state k i) + (j - 2 ^ k)
        past j ge = omega (arith, length_marks k i)
