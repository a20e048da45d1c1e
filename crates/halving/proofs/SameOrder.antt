-- The first hit makes the full cast's probes in the full cast's order, up to the one that answers it, and a budget only cuts the probes off: this is
-- true of a span if it is of its halves. So a spent first hit is a full cast spent alike (`spent_alike`), a clear one has the full cast's probes
-- (`clear_alike`), and the full cast looks at a hit's tick (`hit_alike`). A hit with p probes is the answer with every budget of p or more
-- (`hit-enough`) and spent with every smaller one (`hit_needs`): p is the least budget with which the full cast looks at its tick (`hit_known`).
use Prim.Native.Nat.{ℕ, suc, ◌+◌, ◌^◌, ◌≤◌, ◌<◌}
use mathlib.Core.Path.{◌≡◌, refl, ap, subst, ◌∙◌}
use native.Mathlib.Omega.{arith, pow_step}
use native.Mathlib.Decide.{ℕ_discrete, dec_lt}
use lib.Pow.{pow_pos}
use borrow.Author.Tests.{eq-eqb, ne_eqb}
use Rattle.halving.specs.declared.Cast.{Cast}
use Rattle.halving.specs.declared.Cast.TheVariants as cast
use Rattle.halving.specs.declared.FirstHit.{FirstHit}
use Rattle.halving.specs.declared.FirstHit.TheVariants as first
use Rattle.halving.specs.Halving.{and_then, walk, cast_looked_at}
use Rattle.halving.specs.FirstHit.{or_else, finished, hit}
use Rattle.halving.proofs.Halving.{walk_out, walk-finished, walk_split, walked, looked_within}
use Rattle.halving.proofs.FirstHits.{hit_out, hit-finished, hit_split, by_search}

-- ---- what one answer says of another

-- a first hit in ticks before tick n, of the full cast with the same budget
abbrev pub Alike : ℕ → FirstHit → Cast → Type 0
Alike n (first.Hit t s p) w = t < cast_looked_at n w
Alike n (first.Clear p) w = w ≡ cast.Complete p
Alike n (first.Spent t p) w = w ≡ cast.Spent t p

module _ (c : ℕ) where
  -- a first hit f with p probes, m of them made before, that looked at ticks i to u − 1, of the first hit g with budget c
  abbrev pub Settled : ℕ → ℕ → ℕ → ℕ → FirstHit → FirstHit → Type 0
  Settled i u m p f g = (i < u) × (m < p) × (p ≤ c → g ≡ f) × (m ≤ c → c < p → (t : ℕ) × (t < u) × (g ≡ first.Spent t c))

  -- any first hit in ticks i to n − 1, of that one; if it is spent itself, nothing
  abbrev pub Told : ℕ → ℕ → ℕ → FirstHit → FirstHit → Type 0
  Told i n m (first.Hit t s p) g = Settled i (t + 1) m p (first.Hit t s p) g
  Told i n m (first.Clear p) g = Settled i n m p (first.Clear p) g
  Told i n m (first.Spent t p) g = Unit {0}

module _ (state : ℕ → ℕ → ℕ) where
  -- ---- the first hit and the full cast

  module _ (b : ℕ) where
    -- a cast from tick i on looks at every tick before it
    from_first : (k i m : ℕ) → i ≤ cast_looked_at (i + 2 ^ k) (walk state b k i m)
    unfolding cast_looked_at
    from_first k i m = elim (dec_lt b m) [
      | yes more ↦ rw (walk_out state b k i m (omega arith)) (omega arith)
      | no n ↦ (looked_within state b k i m (walk state b k i m) (walked state b k i m (omega arith))).0
    ]

    -- a left half before tick h, and what follows it
    left_then : (h n : ℕ) (f : FirstHit) (w : Cast) (then : ℕ → FirstHit) (next : ℕ → Cast) → Alike h f w
        → ((p : ℕ) → Alike n (then p) (next p)) → ((p : ℕ) → h ≤ cast_looked_at n (next p)) → Alike n (or_else f then) (and_then w next)
    unfolding cast_looked_at
    left_then h n (first.Hit t s p) (cast.Complete q) then next left right from = omega (arith, from q)
    left_then h n (first.Hit t s p) (cast.Spent u q) then next left right from = left
    left_then h n (first.Clear p) w then next left right from = rw left (right p)
    left_then h n (first.Spent t p) w then next left right from = rw left refl

    alike_finished : (k i m : ℕ) → m < b → (state i (2 ^ k) ≡ 1 → k ≡ 0) → Alike (i + 2 ^ k) (hit state b k i m) (walk state b k i m)
    unfolding cast_looked_at
    alike_finished k i m lt e = elim (ℕ_discrete (state i (2 ^ k)) 0) [
      | yes z ↦ rw (hit-finished state b k i m lt e, walk-finished state b k i m lt e, eq-eqb _ _ z) refl
      | no n ↦ rw (hit-finished state b k i m lt e, walk-finished state b k i m lt e, ne_eqb _ _ n) (omega (arith, pow_pos k))
    ]

    abbrev AlikeAt : ℕ → ℕ → ℕ → Type 0
    AlikeAt k i m = Alike (i + 2 ^ k) (hit state b k i m) (walk state b k i m)

    alike_split : (k i m : ℕ) → m < b → state i (2 ^ suc k) ≡ 1 → AlikeAt k i (m + 1) → ((p : ℕ) → AlikeAt k (i + 2 ^ k) p) → AlikeAt (suc k) i m
    alike_split k i m lt e left right =
        let half = i + 2 ^ k in
        let end : half + 2 ^ k ≡ i + 2 ^ suc k = omega (arith, pow_step 2 k) in
        rw (hit_split state b k i m lt e, walk_split state b k i m lt e)
        (left_then half (i + 2 ^ suc k) (hit state b k i (m + 1)) (walk state b k i (m + 1))
        (λ p. hit state b k half p) (λ p. walk state b k half p) left
        (λ p. subst (λ (n : ℕ). Alike n (hit state b k half p) (walk state b k half p)) end (right p))
        (λ p. subst (λ (n : ℕ). half ≤ cast_looked_at n (walk state b k half p)) end (from_first k half p)))

    alike : (k i m : ℕ) → AlikeAt k i m
    alike =
        by_search state b AlikeAt (λ k i m more. rw (hit_out state b k i m more, walk_out state b k i m more) refl) alike_finished alike_split

    module _ (k i m : ℕ) where
      by_answer : {f : FirstHit} → hit state b k i m ≡ f → Alike (i + 2 ^ k) f (walk state b k i m)
      by_answer e = subst (λ (f : FirstHit). Alike (i + 2 ^ k) f (walk state b k i m)) e (alike k i m)

      pub spent_alike : {t p : ℕ} → hit state b k i m ≡ first.Spent t p → walk state b k i m ≡ cast.Spent t p
      spent_alike e = by_answer e

      pub clear_alike : {p : ℕ} → hit state b k i m ≡ first.Clear p → walk state b k i m ≡ cast.Complete p
      clear_alike e = by_answer e

      pub hit_alike : {t s p : ℕ} → hit state b k i m ≡ first.Hit t s p → t < cast_looked_at (i + 2 ^ k) (walk state b k i m)
      hit_alike e = by_answer e

  -- ---- the first hit with another budget

  module _ (b c : ℕ) where
    -- the answer g' in a span: spent at once, or by the answer g in its left half
    module _ (i m : ℕ) (g g' : FirstHit) (next : ℕ → FirstHit) (out : c ≤ m → g' ≡ first.Spent i m) (split : m < c → g' ≡ or_else g next) where
      cut : (u : ℕ) → i < u → (m < c → (t : ℕ) × (t < u) × (g ≡ first.Spent t c)) → m ≤ c → (t : ℕ) × (t < u) × (g' ≡ first.Spent t c)
      cut u from left h = elim (dec_lt m c) [
        | yes lt ↦ let l = left lt in (l.0, l.1, split lt ∙ ap (λ (g : FirstHit). or_else g next) l.2)
        | no n ↦ let e : m ≡ c = omega arith in (i, from, out (omega arith) ∙ ap (λ (n : ℕ). first.Spent i n) e)
      ]

      from_left : (u p : ℕ) (f : FirstHit) → or_else f next ≡ f → Settled c i u (m + 1) p f g → Settled c i u m p f g'
      from_left u p f ended (from, more, same, spent) = (
        from,
        omega arith,
        (λ h. split (omega arith) ∙ ap (λ (g : FirstHit). or_else g next) (same h) ∙ ended),
        (λ h l. cut u from (λ lt. spent (omega arith) l) h),
      )

      from_right : (half u p q : ℕ) (f : FirstHit) → Settled c i half (m + 1) p (first.Clear p) g → Settled c half u p q f (next p)
          → Settled c i u m q f g'
      from_right half u p q f (from, more, same, spent) (from', more', same', spent') = (
        omega arith,
        omega arith,
        (λ h. split (omega arith) ∙ ap (λ (g : FirstHit). or_else g next) (same (omega arith)) ∙ same' h),
        (λ h l. elim (dec_lt c p) [
          | yes less ↦ cut u (omega arith) (λ lt. let s = spent (omega arith) less in (s.0, omega (arith, s.1), s.2)) h
          | no n ↦
              let s = spent' (omega arith) l in
              (s.0, s.1, split (omega arith) ∙ ap (λ (g : FirstHit). or_else g next) (same (omega arith)) ∙ s.2)
        ]),
      )

      told_halves : (half n : ℕ) (f : FirstHit) (then : ℕ → FirstHit) → Told c i half (m + 1) f g → ((p : ℕ) → Told c half n p (then p) (next p))
          → Told c i n m (or_else f then) g'
      told_halves half n (first.Hit t s p) then left right = from_left (t + 1) p (first.Hit t s p) refl left
      told_halves half n (first.Spent t p) then left right = tt
      told_halves half n (first.Clear p) then left right = by_right (then p) (right p)
        where
          by_right : (f : FirstHit) → Told c half n p f (next p) → Told c i n m f g'
          by_right (first.Hit t s q) r = from_right half (t + 1) p q (first.Hit t s q) left r
          by_right (first.Clear q) r = from_right half n p q (first.Clear q) left r
          by_right (first.Spent t q) r = tt

    told_out : (k i m : ℕ) → b ≤ m → Told c i (i + 2 ^ k) m (hit state b k i m) (hit state c k i m)
    told_out k i m h = rw (hit_out state b k i m h) tt

    told_finished : (k i m : ℕ) → m < b → (state i (2 ^ k) ≡ 1 → k ≡ 0) → Told c i (i + 2 ^ k) m (hit state b k i m) (hit state c k i m)
    told_finished k i m lt e = elim (ℕ_discrete (state i (2 ^ k)) 0) [
      | yes z ↦ rw (hit-finished state b k i m lt e, eq-eqb _ _ z)
          (one (i + 2 ^ k) (first.Clear (m + 1)) (omega (arith, pow_pos k)) (rw (eq-eqb _ _ z) refl))
      | no n ↦ rw (hit-finished state b k i m lt e, ne_eqb _ _ n)
          (one (i + 1) (first.Hit i (state i (2 ^ k)) (m + 1)) (omega arith) (rw (ne_eqb _ _ n) refl))
    ]
      where
        one : (u : ℕ) (f : FirstHit) → i < u → finished (state i (2 ^ k)) i (m + 1) ≡ f → Settled c i u m (m + 1) f (hit state c k i m)
        one u f from is = (
          from,
          omega arith,
          (λ h. hit-finished state c k i m (omega arith) e ∙ is),
          (λ h l. let e : m ≡ c = omega arith in (i, from, hit_out state c k i m (omega arith) ∙ ap (λ (n : ℕ). first.Spent i n) e)),
        )

    abbrev ToldAt : ℕ → ℕ → ℕ → Type 0
    ToldAt k i m = Told c i (i + 2 ^ k) m (hit state b k i m) (hit state c k i m)

    told_split : (k i m : ℕ) → m < b → state i (2 ^ suc k) ≡ 1 → ToldAt k i (m + 1) → ((p : ℕ) → ToldAt k (i + 2 ^ k) p) → ToldAt (suc k) i m
    told_split k i m lt e left right =
        let half = i + 2 ^ k in
        let end : half + 2 ^ k ≡ i + 2 ^ suc k = omega (arith, pow_step 2 k) in
        rw (hit_split state b k i m lt e)
        (told_halves i m (hit state c k i (m + 1)) (hit state c (suc k) i m) (λ p. hit state c k half p)
        (λ h. hit_out state c (suc k) i m h) (λ h. hit_split state c k i m h e)
        half (i + 2 ^ suc k) (hit state b k i (m + 1)) (λ p. hit state b k half p)
        left (λ p. subst (λ (n : ℕ). Told c half n p (hit state b k half p) (hit state c k half p)) end (right p)))

    told : (k i m : ℕ) → ToldAt k i m
    told = by_search state b ToldAt told_out told_finished told_split

  -- ---- a hit

  module _ (b k i m : ℕ) {t s p : ℕ} (e : hit state b k i m ≡ first.Hit t s p) (c : ℕ) where
    settled : Settled c i (t + 1) m p (first.Hit t s p) (hit state c k i m)
    settled = subst (λ (f : FirstHit). Told c i (i + 2 ^ k) m f (hit state c k i m)) e (told b c k i m)

    pub hit-enough : p ≤ c → hit state c k i m ≡ first.Hit t s p
    hit-enough h = settled.2 h

    pub hit_needs : m ≤ c → c < p → (t' : ℕ) × (t' ≤ t) × (hit state c k i m ≡ first.Spent t' c)
    hit_needs h l = let s = settled.3 h l in (s.0, omega (arith, s.1), s.2)

    pub hit_known : (p ≤ c → t < cast_looked_at (i + 2 ^ k) (walk state c k i m)) × (c < p → cast_looked_at (i + 2 ^ k) (walk state c k i m) ≤ t)
    unfolding cast_looked_at
    hit_known = (
      (λ h. hit_alike c k i m (hit-enough h)),
      (λ l. elim (dec_lt c m) [
        | yes before ↦ rw (walk_out state c k i m (omega arith)) (omega (arith, settled.0))
        | no n ↦ let s = hit_needs (omega arith) l in rw (spent_alike c k i m s.2) s.1
      ]),
    )
