-- Laws of the marching search, over any state and any T. It makes at most 2 T + 4 probes (`count_most`): a candidate that is finished moves on by at
-- least a tick and doubles its length, and one that is halved halves it, so there are hardly more halvings than ticks. So that many candidates reach
-- the ray's end, more change nothing (`more_alike`), and the count is the rule's (`count_takes`, `takes_once`). A march is spent exactly where the
-- count is more than the budget, with the smaller of the two as its probes (`counted`), and its marks are then the first ones of the unspent march
-- (`first_marks`). Where a decided span decides each of its ticks alike (`Nested`), every mark is its tick's own state (`march_at`), and so the
-- halving search's (`marks_equal`). Laws take a number f of candidates that reach the end, `Enough f i c`, which a probe hands on to f − 1
-- (`enough-next`).
use Rattle.std.specs.Prelude.{Ok}
use Prim.Native.Nat.{ℕ, zero, suc, ◌+◌, ◌-◌, ◌*◌, ◌/◌, ◌^◌, ◌≤◌, ◌<◌}
use mathlib.Core.Path.{◌≡◌, refl, sym, ap, ◌∙◌}
use mathlib.Core.Logic.{◌⊎◌, inl, inr}
use mathlib.Core.List.{List, [], ◌++◌}
use native.Mathlib.Omega.{arith, pow_step}
use native.Mathlib.Decide.{ℕ_discrete, dec_lt, dec_le}
use native.Mathlib.Nat.{min-le_left, min-le_right, le-min, zero-add, sub-zero}
use lib.ListN.{length, take, get_or, replicate, length-append, length-replicate, get_or-replicate, get_or-append}
use lib.Seq.{get_or-append-add, ext_get_or, take-nil, take-append-add}
use borrow.Author.Tests.{lt-ltb, le-ltb, eq-eqb, ne_eqb}
use Rattle.halving.specs.declared.Cast.{Cast}
use Rattle.halving.specs.declared.Cast.TheVariants.{Complete, Spent}
use Rattle.halving.specs.Halving.{Nested, span_marks, cast_looked_at}
use Rattle.halving.proofs.Halving as halving
use Rattle.cast.specs.Demands.{Counted}
use Rattle.march.specs.Marching.{first_length, march_enough, cut, next_tick, next_length, marked, tick_after, length_after, marks_of, Takes}
use Rattle.march.specs.Marching.{count_from, marks_from, walk_from, march_count, march_marks, march}

-- ---- one candidate of n ticks from tick i on, in state s

pub record Halved (s i n : ℕ) : Type 0 where
  pub tick : next_tick s i n ≡ i
  pub size : next_length s n ≡ n / 2
  pub marks : marked s n ≡ []
  pub several : 2 ≤ n

pub record Finished (s i n : ℕ) : Type 0 where
  pub tick : next_tick s i n ≡ i + n
  pub size : next_length s n ≡ 2 * n
  pub marks : marked s n ≡ replicate n s
  pub one : s ≡ 1 → n ≡ 1

pub halved : (s i n : ℕ) → s ≡ 1 → 2 ≤ n → Halved s i n
unfolding next_tick next_length marked
halved s i n e h = record {
  tick = rw (eq-eqb _ _ e, lt-ltb _ _ h);
  size = rw (eq-eqb _ _ e, lt-ltb _ _ h);
  marks = rw (eq-eqb _ _ e, lt-ltb _ _ h);
  several = h;
}

finished-one : (s i : ℕ) → s ≡ 1 → Finished s i 1
unfolding next_tick next_length marked
finished-one s i e = record { tick = rw (eq-eqb _ _ e); size = rw (eq-eqb _ _ e); marks = rw (eq-eqb _ _ e); one = λ _. refl }

decided : (s i n : ℕ) → (s ≡ 1 → ⊥) → Finished s i n
unfolding next_tick next_length marked
decided s i n d = record { tick = rw (ne_eqb _ _ d); size = rw (ne_eqb _ _ d); marks = rw (ne_eqb _ _ d); one = λ e. absurd (d e) }

pub finished : (s i n : ℕ) → 1 ≤ n → (s ≡ 1 → n ≤ 1) → Finished s i n
finished s i n h one = elim (ℕ_discrete s 1) [
  | no d ↦ decided s i n d
  | yes e ↦
      let single : 1 ≡ n = omega (arith, one e) in
      rw (← single) (finished-one s i e)
]

cases : (s i n : ℕ) → 1 ≤ n → Halved s i n ⊎ Finished s i n
cases s i n h = elim (ℕ_discrete s 1) [
  | no d ↦ inr (finished s i n h (λ e. absurd (d e)))
  | yes e ↦ elim (dec_le 2 n) [ yes g ↦ inl (halved s i n e g) | no g ↦ inr (finished s i n h (λ e. omega arith)) ]
]

-- n below 2^(k+1) and halved is below 2^k
record Smaller (k n : ℕ) : Type 0 where
  j : ℕ
  is : k ≡ suc j
  below : n / 2 < 2 ^ suc j

smaller : (k n : ℕ) → 2 ≤ n → n < 2 ^ suc k → Smaller k n
smaller zero n h l = absurd (omega arith)
smaller (suc j) n h l = record { j = j; is = refl; below = omega (arith, pow_step 2 (suc j)) }

module _ (state : ℕ → ℕ → ℕ) (T : ℕ) where
  -- ---- the steps of each definition

  pub count_end : (f i c : ℕ) → T ≤ i → count_from state T f i c ≡ 0
  unfolding count_from
  count_end zero i c h = refl
  count_end (suc f) i c h = rw (le-ltb _ _ h)

  pub count_probe : (f i c : ℕ) → i < T
      → count_from state T (suc f) i c ≡ suc (count_from state T f (tick_after state T i c) (length_after state T i c))
  unfolding count_from
  count_probe f i c h = rw (lt-ltb _ _ h)

  pub marks_end : (f i c : ℕ) → T ≤ i → marks_from state T f i c ≡ []
  unfolding marks_from
  marks_end zero i c h = refl
  marks_end (suc f) i c h = rw (le-ltb _ _ h)

  pub marks_out : (i c : ℕ) → marks_from state T 0 i c ≡ []
  unfolding marks_from
  marks_out i c = refl

  pub marks_probe : (f i c : ℕ) → i < T
      → marks_from state T (suc f) i c ≡ marks_of state T i c ++ marks_from state T f (tick_after state T i c) (length_after state T i c)
  unfolding marks_from
  marks_probe f i c h = rw (lt-ltb _ _ h)

  pub walk_end : (b i c m : ℕ) → T ≤ i → walk_from state T b i c m ≡ Complete m
  unfolding walk_from
  walk_end zero i c m h = rw (le-ltb _ _ h)
  walk_end (suc b) i c m h = rw (le-ltb _ _ h)

  pub walk_out : (i c m : ℕ) → i < T → walk_from state T 0 i c m ≡ Spent i m
  unfolding walk_from
  walk_out i c m h = rw (lt-ltb _ _ h)

  pub walk_probe : (b i c m : ℕ) → i < T
      → walk_from state T (suc b) i c m ≡ walk_from state T b (tick_after state T i c) (length_after state T i c) (m + 1)
  unfolding walk_from
  walk_probe b i c m h = rw (lt-ltb _ _ h)

  -- ---- a candidate that is cut

  pub record Cut (i c : ℕ) : Type 0 where
    pub some : 1 ≤ cut T i c
    pub short : cut T i c ≤ c
    pub within : i + cut T i c ≤ T

  pub cut_is : (i c : ℕ) → 1 ≤ c → i < T → Cut i c
  cut_is i c h lt = record { some = le-min h (omega arith); short = min-le_left c (T - i); within = omega (arith, min-le_right c (T - i)) }

  -- what follows it
  probed : (i c : ℕ) → 1 ≤ c → i < T
      → Halved (state i (cut T i c)) i (cut T i c) ⊎ Finished (state i (cut T i c)) i (cut T i c)
  probed i c h lt = cases (state i (cut T i c)) i (cut T i c) (cut_is i c h lt).some

  -- the next candidate is not before it, not past the end, and not empty
  pub record Next (i c : ℕ) : Type 0 where
    pub from : i ≤ tick_after state T i c
    pub within : tick_after state T i c ≤ T
    pub some : 1 ≤ length_after state T i c
    pub long : i + length (marks_of state T i c) ≡ tick_after state T i c

  pub next : (i c : ℕ) → 1 ≤ c → i < T → Next i c
  next i c h lt =
      let k = cut_is i c h lt in
      elim (probed i c h lt) [
        | inl p ↦ record {
          from = omega (arith, p.tick);
          within = omega (arith, p.tick);
          some = omega (arith, p.size, p.several);
          long = omega (arith, p.tick, ap length p.marks);
        }
        | inr p ↦ record {
          from = omega (arith, p.tick);
          within = omega (arith, p.tick, k.within);
          some = omega (arith, p.size, k.some);
          long = omega (arith, p.tick, ap length p.marks ∙ length-replicate (cut T i c) (state i (cut T i c)));
        }
      ]

  -- ---- at most 2T + 4 probes

  -- one tick is left
  few_last : (f i c : ℕ) → 1 ≤ c → suc i ≡ T → count_from state T f i c ≤ 1
  unfolding count_from
  few_last zero i c h e = omega arith
  few_last (suc f) i c h e =
      let lt : i < T = omega arith in
      let k = cut_is i c h lt in
      let step = count_probe f i c lt in
      elim (probed i c h lt) [
        | inl p ↦ absurd (omega (arith, p.several, k.within))
        | inr p ↦ omega (arith, step, count_end f (tick_after state T i c) (length_after state T i c) (omega (arith, p.tick, k.some)))
      ]

  -- 2 for each tick left but one, and ⌊log₂ c⌋, which is at most k
  few : (f i c k : ℕ) → 1 ≤ c → c < 2 ^ suc k → i + 2 ≤ T → count_from state T f i c + 2 ≤ 2 * (T - i) + k
  unfolding count_from
  few zero i c k h small far = omega arith
  few (suc f) i c k h small far =
      let lt : i < T = omega arith in
      let q = cut_is i c h lt in
      let step = count_probe f i c lt in
      let x = next i c h lt in
      let i' = tick_after state T i c in
      let c' = length_after state T i c in
      elim (probed i c h lt) [
        | inl p ↦
            let s = smaller k (cut T i c) p.several (omega (arith, q.short)) in
            omega (arith, step, p.tick, s.is, few f i' c' s.j x.some (omega (arith, p.size, s.below)) (omega (arith, p.tick)))
        | inr p ↦ elim (dec_le (i' + 2) T) [
          | yes more ↦
              let small' : c' < 2 ^ suc (suc k) = omega (arith, p.size, q.short, pow_step 2 (suc k)) in
              omega (arith, step, p.tick, q.some, few f i' c' (suc k) x.some small' more)
          | no last ↦ elim (ℕ_discrete (suc i') T) [
            | yes e ↦ omega (arith, step, p.tick, q.some, few_last f i' c' x.some e)
            | no e ↦ omega (arith, step, count_end f i' c' (omega arith))
          ]
        ]
      ]

  -- however many candidates are allowed
  pub count_most : (f : ℕ) → count_from state T f 0 first_length ≤ march_enough T
  count_most f = elim (dec_le 2 T) [
    | yes h ↦ omega (arith, few f 0 first_length 6 (omega arith) (omega arith) (omega arith))
    | no n ↦ elim (ℕ_discrete 1 T) [
      | yes e ↦ omega (arith, few_last f 0 first_length (omega arith) e)
      | no e ↦ omega (arith, count_end f 0 first_length (omega arith))
    ]
  ]

  -- ---- more candidates change nothing

  -- f candidates reach the end: with one more allowed there are no more than f
  abbrev pub Enough : ℕ → ℕ → ℕ → Type 0
  Enough f i c = count_from state T (suc f) i c ≤ f

  pub enough_none : (i c : ℕ) → Enough 0 i c → T ≤ i
  enough_none i c h = elim (dec_lt i T) [ yes lt ↦ absurd (omega (arith, count_probe 0 i c lt)) | no n ↦ omega arith ]

  pub enough-next : (f i c : ℕ) → i < T → Enough (suc f) i c → Enough f (tick_after state T i c) (length_after state T i c)
  enough-next f i c lt h = omega (arith, count_probe (suc f) i c lt)

  -- 2 T + 4 do, and any more
  pub march-enough : (f : ℕ) → march_enough T ≤ f → Enough f 0 first_length
  march-enough f h = omega (arith, count_most (suc f))

  pub same_count : (f g i c : ℕ) → f ≤ g → Enough f i c → count_from state T g i c ≡ count_from state T f i c
  same_count zero g i c h e = let z = enough_none i c e in count_end g i c z ∙ sym (count_end 0 i c z)
  same_count (suc f) zero i c h e = absurd (omega arith)
  same_count (suc f) (suc g) i c h e = elim (dec_lt i T) [
    | no n ↦ count_end (suc g) i c (omega arith) ∙ sym (count_end (suc f) i c (omega arith))
    | yes lt ↦
        count_probe g i c lt
        ∙ ap suc (same_count f g (tick_after state T i c) (length_after state T i c) (omega arith) (enough-next f i c lt e))
        ∙ sym (count_probe f i c lt)
  ]

  pub same_marks : (f g i c : ℕ) → f ≤ g → Enough f i c → marks_from state T g i c ≡ marks_from state T f i c
  same_marks zero g i c h e = let z = enough_none i c e in marks_end g i c z ∙ sym (marks_end 0 i c z)
  same_marks (suc f) zero i c h e = absurd (omega arith)
  same_marks (suc f) (suc g) i c h e = elim (dec_lt i T) [
    | no n ↦ marks_end (suc g) i c (omega arith) ∙ sym (marks_end (suc f) i c (omega arith))
    | yes lt ↦
        marks_probe g i c lt
        ∙ ap (λ (ms : List ℕ). marks_of state T i c ++ ms)
        (same_marks f g (tick_after state T i c) (length_after state T i c) (omega arith) (enough-next f i c lt e))
        ∙ sym (marks_probe f i c lt)
  ]

  -- the whole ray's count and marks with any number of at least 2 T + 4
  pub more_alike : (f : ℕ) → march_enough T ≤ f
      → (count_from state T f 0 first_length ≡ march_count state T) × (marks_from state T f 0 first_length ≡ march_marks state T)
  more_alike f h =
      let e = march-enough (march_enough T) (omega arith) in
      (same_count (march_enough T) f 0 first_length h e, same_marks (march_enough T) f 0 first_length h e)

  -- ---- the count is the rule's

  takes : (f i c : ℕ) → Enough f i c → Takes state T (count_from state T f i c) i c
  unfolding Takes
  takes zero i c e = let z = enough_none i c e in rw (count_end 0 i c z) z
  takes (suc f) i c e = elim (dec_lt i T) [
    | no n ↦ let z : T ≤ i = omega arith in rw (count_end (suc f) i c z) z
    | yes lt ↦ rw (count_probe f i c lt) (lt, takes f (tick_after state T i c) (length_after state T i c) (enough-next f i c lt e))
  ]

  -- from tick 0 on the rule makes as many probes as the count says
  pub count_takes : Takes state T (march_count state T) 0 first_length
  count_takes = takes (march_enough T) 0 first_length (march-enough (march_enough T) (omega arith))

  -- and no other number of them
  pub takes_once : (n m i c : ℕ) → Takes state T n i c → Takes state T m i c → n ≡ m
  unfolding Takes
  takes_once zero zero i c t u = refl
  takes_once zero (suc m) i c t (lt, u) = absurd (omega arith)
  takes_once (suc n) zero i c (lt, t) u = absurd (omega arith)
  takes_once (suc n) (suc m) i c (_, t) (_, u) = ap suc (takes_once n m (tick_after state T i c) (length_after state T i c) t u)

  -- ---- the walk

  -- what the walk answers with b probes left of the budget and m made before, where f candidates reach the end
  abbrev pub Walked : ℕ → ℕ → ℕ → ℕ → ℕ → Cast → Type 0
  Walked f b i c m (Complete p) = (p ≡ m + count_from state T f i c) × (count_from state T f i c ≤ b)
  Walked f b i c m (Spent t p) = (p ≡ m + b) × (b < count_from state T f i c) × (i ≤ t) × (t < T)

  walked_probe : (f b i c m : ℕ) (w : Cast) → 1 ≤ c → i < T
      → Walked f b (tick_after state T i c) (length_after state T i c) (m + 1) w → Walked (suc f) (suc b) i c m w
  walked_probe f b i c m (Complete p) h lt (is, few) = (omega (arith, count_probe f i c lt), omega (arith, count_probe f i c lt))
  walked_probe f b i c m (Spent t p) h lt (is, more, from, before) =
      (omega arith, omega (arith, count_probe f i c lt), omega (arith, (next i c h lt).from), before)

  walked_end : (f b i c m : ℕ) → T ≤ i → Walked f b i c m (walk_from state T b i c m)
  walked_end f b i c m h = rw (walk_end b i c m h) (omega (arith, count_end f i c h), omega (arith, count_end f i c h))

  pub walked : (f b i c m : ℕ) → 1 ≤ c → Enough f i c → Walked f b i c m (walk_from state T b i c m)
  walked zero b i c m h e = walked_end zero b i c m (enough_none i c e)
  walked (suc f) zero i c m h e = elim (dec_lt i T) [
    | no n ↦ walked_end (suc f) zero i c m (omega arith)
    | yes lt ↦ rw (walk_out i c m lt) (omega arith, omega (arith, count_probe f i c lt), omega arith, lt)
  ]
  walked (suc f) (suc b) i c m h e = elim (dec_lt i T) [
    | no n ↦ walked_end (suc f) (suc b) i c m (omega arith)
    | yes lt ↦
        let i' = tick_after state T i c in
        let c' = length_after state T i c in
        rw (walk_probe b i c m lt)
        (walked_probe f b i c m (walk_from state T b i' c' (m + 1)) h lt
        (walked f b i' c' (m + 1) (next i c h lt).some (enough-next f i c lt e)))
  ]

  module _ (b : ℕ) where
    pub whole : Walked (march_enough T) b 0 first_length 0 (march state T b)
    whole = walked (march_enough T) b 0 first_length 0 (omega arith) (march-enough (march_enough T) (omega arith))

    -- spent exactly where the count is more than the budget, at a tick of the ray; "the probes it reports are the smaller of the two"
    pub counted : Counted T (march_count state T) (march_enough T) b (Ok (march state T b))
    unfolding Counted
    counted = go (march state T b) whole
      where
        go : (w : Cast) → Walked (march_enough T) b 0 first_length 0 w → Counted T (march_count state T) (march_enough T) b (Ok w)
        go (Complete p) (is, few) = (is ∙ zero-add (march_count state T), few, count_most (march_enough T))
        go (Spent t p) (is, more, from, before) = (before, is ∙ zero-add b, more, count_most (march_enough T))

    -- with budget enough the march is complete, with the count's probes
    pub enough : march_count state T ≤ b → march state T b ≡ Complete (march_count state T)
    enough h = go (march state T b) whole
      where
        go : (w : Cast) → Walked (march_enough T) b 0 first_length 0 w → w ≡ Complete (march_count state T)
        go (Complete p) (is, few) = ap Complete (is ∙ zero-add (march_count state T))
        go (Spent t p) (is, more, from, before) = absurd (omega arith)

    -- a budget of 2 T + 4 is always enough
    pub always_enough : march_enough T ≤ b → march state T b ≡ Complete (march_count state T)
    always_enough h = enough (omega (arith, count_most (march_enough T)))

  -- ---- the marks

  pub length_marks : (f i c : ℕ) → 1 ≤ c → Enough f i c → length (marks_from state T f i c) ≡ T - i
  length_marks zero i c h e = let z = enough_none i c e in ap length (marks_end 0 i c z) ∙ omega arith
  length_marks (suc f) i c h e = elim (dec_lt i T) [
    | no n ↦ ap length (marks_end (suc f) i c (omega arith)) ∙ omega arith
    | yes lt ↦
        let i' = tick_after state T i c in
        let c' = length_after state T i c in
        let rest = marks_from state T f i' c' in
        let x = next i c h lt in
        ap length (marks_probe f i c lt)
        ∙ omega (arith, length-append (marks_of state T i c) rest, length_marks f i' c' x.some (enough-next f i c lt e), x.long, x.within)
  ]

  pub length-march : length (march_marks state T) ≡ T
  length-march = length_marks (march_enough T) 0 first_length (omega arith) (march-enough (march_enough T) (omega arith)) ∙ sub-zero T

  -- the ticks looked at are those from tick i on
  pub looked_within : (f b i c m : ℕ) (w : Cast) → i ≤ T → Walked f b i c m w → (i ≤ cast_looked_at T w) × (cast_looked_at T w ≤ T)
  unfolding cast_looked_at
  looked_within f b i c m (Complete p) h w = (h, omega arith)
  looked_within f b i c m (Spent t p) h (is, more, from, before) = (from, omega arith)

  -- the marks of a march with b probes left are those of the unspent march, as far as it looks
  pub first_marks : (f b i c m : ℕ) → 1 ≤ c → i ≤ T → Enough f i c
      → marks_from state T b i c ≡ take (cast_looked_at T (walk_from state T b i c m) - i) (marks_from state T f i c)
  unfolding cast_looked_at
  first_marks f zero i c m h at e = elim (dec_lt i T) [
    | no n ↦ let end : T ≤ i = omega arith in rw (marks_end 0 i c end, marks_end f i c end, take-nil)
    | yes lt ↦
        let z : i - i ≡ 0 = omega arith in
        rw (walk_out i c m lt, z) (marks_out i c)
  ]
  first_marks zero (suc b) i c m h at e = let end = enough_none i c e in rw (marks_end (suc b) i c end, marks_end 0 i c end, take-nil)
  first_marks (suc f) (suc b) i c m h at e = elim (dec_lt i T) [
    | no n ↦ let end : T ≤ i = omega arith in rw (marks_end (suc b) i c end, marks_end (suc f) i c end, take-nil)
    | yes lt ↦
        let i' = tick_after state T i c in
        let c' = length_after state T i c in
        let own = marks_of state T i c in
        let rest = marks_from state T f i' c' in
        let w = walk_from state T b i' c' (m + 1) in
        let x = next i c h lt in
        let e' = enough-next f i c lt e in
        let from = (looked_within f b i' c' (m + 1) w x.within (walked f b i' c' (m + 1) x.some e')).0 in
        let far : length own + (cast_looked_at T w - i') ≡ cast_looked_at T w - i = omega (arith, from, x.long) in
        rw (marks_probe b i c lt, walk_probe b i c m lt, marks_probe f i c lt)
        (ap (λ (ms : List ℕ). own ++ ms) (first_marks f b i' c' (m + 1) x.some x.within e')
        ∙ sym (take-append-add own rest (cast_looked_at T w - i'))
        ∙ ap (λ (n : ℕ). take n (own ++ rest)) far)
  ]

  -- ---- marks where a decided span decides each of its ticks alike

  module _ (nested : Nested state) where
    -- each mark is the state of its tick judged alone
    alone : (i n j : ℕ) → (state i n ≡ 1 → n ≡ 1) → j < n → state i n ≡ state (i + j) 1
    alone i n j one h = elim (ℕ_discrete (state i n) 1) [
      | no d ↦ sym (nested i n (i + j) d (omega arith) (omega arith))
      | yes e ↦
          let single : n ≡ 1 = one e in
          let here : i ≡ i + j = omega arith in
          ap (λ (n : ℕ). state i n) single ∙ ap (λ (t : ℕ). state t 1) here
    ]

    own_at : (i c j d : ℕ) → 1 ≤ c → i < T → j < length (marks_of state T i c) → get_or (marks_of state T i c) j d ≡ state (i + j) 1
    own_at i c j d h lt short = elim (probed i c h lt) [
      | inl p ↦ absurd (omega (arith, ap length p.marks))
      | inr p ↦
          let n = cut T i c in
          let s = state i n in
          let in_run : j < n = omega (arith, ap length p.marks ∙ length-replicate n s) in
          ap (λ (ms : List ℕ). get_or ms j d) p.marks ∙ get_or-replicate n j s d in_run ∙ alone i n j p.one in_run
    ]

    pub marks_at : (f i c j d : ℕ) → 1 ≤ c → Enough f i c → i + j < T → get_or (marks_from state T f i c) j d ≡ state (i + j) 1
    marks_at zero i c j d h e before = absurd (omega (arith, enough_none i c e))
    marks_at (suc f) i c j d h e before =
        let lt : i < T = omega arith in
        let i' = tick_after state T i c in
        let c' = length_after state T i c in
        let own = marks_of state T i c in
        let rest = marks_from state T f i' c' in
        let x = next i c h lt in
        ap (λ (ms : List ℕ). get_or ms j d) (marks_probe f i c lt)
        ∙ elim (dec_lt j (length own)) [
          | yes short ↦ get_or-append own rest d j short ∙ own_at i c j d h lt short
          | no past ↦
              let k = j - length own in
              let there : j ≡ length own + k = omega arith in
              let same : i' + k ≡ i + j = omega (arith, x.long) in
              ap (λ (j : ℕ). get_or (own ++ rest) j d) there
              ∙ get_or-append-add own rest k d
              ∙ marks_at f i' c' k d x.some (enough-next f i c lt e) (omega (arith, same))
              ∙ ap (λ (t : ℕ). state t 1) same
        ]

    pub march_at : (j d : ℕ) → j < T → get_or (march_marks state T) j d ≡ state j 1
    march_at j d h =
        marks_at (march_enough T) 0 first_length j d (omega arith) (march-enough (march_enough T) (omega arith)) (omega arith)
        ∙ ap (λ (t : ℕ). state t 1) (zero-add j)

    -- "Where neither is spent, its marks equal the halving full cast's"
    pub marks_equal : (k : ℕ) → T ≡ 2 ^ k → march_marks state T ≡ span_marks state k 0
    marks_equal k size =
        ext_get_or 0 (march_marks state T) (span_marks state k 0) (length-march ∙ size ∙ sym (halving.length_marks state k 0))
        (λ j h.
        let before : j < T = omega (arith, length-march) in
        march_at j 0 before
        ∙ ap (λ (t : ℕ). state t 1) (sym (zero-add j))
        ∙ sym (halving.marks_at state nested k 0 j 0 (omega (arith, before, size))))
