-- What each way out of `cast_span` and of `hit_span` shows, over any state: len = 2^k ticks from tick i on, b the budget, m the probes made before.
use mathlib.Core.Path.{◌≡◌, refl, sym, ap, subst, ◌∙◌}
use mathlib.Core.List.{List, ◌++◌}
use Prim.Native.Nat.{ℕ, suc, ◌+◌, ◌-◌, ◌/◌, ◌^◌, ◌≤◌, ◌<◌}
use native.Mathlib.Nat.{zero-add, sub-zero}
use native.Mathlib.Omega.{arith, pow_step}
use borrow.Author.Tests.{eq-eqb, ne_eqb}
use lib.ListN.{length, take, drop, replicate}
use lib.Seq.{sets, take_all, take-append-le, take-append-add}
use Rattle.exact.proofs.Buffers.{sets-append}
use Rattle.field.specs.Bounds.{not_looked_at}
use Rattle.halving.specs.declared.Cast.{Cast}
use Rattle.halving.specs.declared.Cast.TheVariants as cast
use Rattle.halving.specs.declared.FirstHit.{FirstHit}
use Rattle.halving.specs.declared.FirstHit.TheVariants as first
use Rattle.halving.specs.Halving.{and_then, span_marks, walk, cast_looked_at, handed}
use Rattle.halving.specs.Search.{Halvable}
use Rattle.halving.specs.FirstHit.{or_else, finished, hit}
use Rattle.halving.proofs.Halving.{marks_split, marks_finished, length_marks}
use Rattle.halving.proofs.Halving.{walk_out, walk-finished, walk_split, Walked, walked, looked_within}
use Rattle.halving.proofs.FirstHits.{hit-finished, hit_split}
use Rattle.halving.proofs.Handed.{handed-over}

-- ---- halves

pub half_size : {k n : ℕ} → n ≡ 2 ^ k → 1 ≤ k → n / 2 ≡ 2 ^ (k - 1)
half_size {k} {n} size h =
    let e : k ≡ suc (k - 1) = omega arith in
    omega (arith, size ∙ ap (λ (j : ℕ). 2 ^ j) e, pow_step 2 (k - 1))

module _ {T i n k : ℕ} (s : Halvable T i n k) where
  -- a half of them, from tick j on
  pub half : {j : ℕ} → 1 ≤ k → j + n / 2 ≤ i + n → Halvable T j (n / 2) (k - 1)
  half h e = record { size = half_size s.size h; end = omega (arith, s.end, e) }

-- the state of a span that is halved, by its level
halved : (st : ℕ → ℕ → ℕ) (i : ℕ) {k j n : ℕ} → n ≡ 2 ^ k → k ≡ suc j → st i n ≡ 1 → st i (2 ^ suc j) ≡ 1
halved st i size e undecided = ap (λ (n : ℕ). st i n) (sym (size ∙ ap (λ (j : ℕ). 2 ^ j) e)) ∙ undecided

-- ---- the cast

-- a part that is not complete ends the cast
abbrev pub Stopped : Cast → Type 0
Stopped (cast.Complete p) = ⊥
Stopped (cast.Spent t p) = Unit {0}

module _ (st : ℕ → ℕ → ℕ) (b k i m len : ℕ) (size : len ≡ 2 ^ k) (out : List ℕ) where
  -- what `cast_span` promises of its answer and of the buffer
  abbrev pub SpanCast : Cast → List ℕ → Type 0
  SpanCast w l = (w ≡ walk st b k i m) × (l ≡ sets out i (take (cast_looked_at (i + len) w - i) (span_marks st k i)))

  pub span_out : b ≤ m → SpanCast (cast.Spent i m) out
  unfolding cast_looked_at
  span_out h =
      let z : i - i ≡ 0 = omega arith in
      (sym (walk_out st b k i m h), ap (λ (n : ℕ). sets out i (take n (span_marks st k i))) (sym z))

  pub span_finished : (l : List ℕ) → m < b → (st i len ≡ 1 → k ≡ 0) → l ≡ sets out i (replicate len (st i len)) → SpanCast (cast.Complete (m + 1)) l
  unfolding cast_looked_at
  span_finished l h e filled =
      let f : st i (2 ^ k) ≡ 1 → k ≡ 0 = subst (λ (n : ℕ). st i n ≡ 1 → k ≡ 0) size e in
      let ms = span_marks st k i in
      let whole : take (i + len - i) ms ≡ ms = take_all (i + len - i) ms (omega (arith, length_marks st k i)) in (
        sym (walk-finished st b k i m h f),
        filled
            ∙ ap (λ (n : ℕ). sets out i (replicate n (st i n))) size
            ∙ ap (λ (ms : List ℕ). sets out i ms) (sym (whole ∙ marks_finished st k i f)),
      )

  module _ (j half : ℕ) (e : k ≡ suc j) (is-half : half ≡ 2 ^ j) (h : m < b) (undecided : st i len ≡ 1) where
    walk_is : walk st b k i m ≡ and_then (walk st b j i (m + 1)) (λ n. walk st b j (i + half) n)
    walk_is =
        ap (λ (n : ℕ). walk st b n i m) e
        ∙ walk_split st b j i m h (halved st i size e undecided)
        ∙ ap (λ (x : ℕ). and_then (walk st b j i (m + 1)) (λ n. walk st b j (i + x) n)) (sym is-half)

    marks_are : span_marks st k i ≡ span_marks st j i ++ span_marks st j (i + half)
    marks_are =
        ap (λ (n : ℕ). span_marks st n i) e
        ∙ marks_split st j i (halved st i size e undecided)
        ∙ ap (λ (x : ℕ). span_marks st j i ++ span_marks st j (i + x)) (sym is-half)

    long : length (span_marks st j i) ≡ half
    long = length_marks st j i ∙ sym is-half

    -- the left half stops
    pub span_left : (w : Cast) (l : List ℕ) → Stopped w → w ≡ walk st b j i (m + 1)
        → l ≡ sets out i (take (cast_looked_at (i + half) w - i) (span_marks st j i)) → SpanCast w l
    unfolding cast_looked_at
    span_left w l stopped is wrote = go w (subst (Walked st b j i (m + 1)) (sym is) (walked st b j i (m + 1) (omega arith))) stopped is wrote
      where
        go : (w : Cast) → Walked st b j i (m + 1) w → Stopped w → w ≡ walk st b j i (m + 1)
            → l ≡ sets out i (take (cast_looked_at (i + half) w - i) (span_marks st j i)) → SpanCast w l
        go (cast.Complete _) _ stopped is wrote = elim stopped [ ]
        go (cast.Spent t p) (all, more, from, before) stopped is wrote = (
          sym (walk_is ∙ ap (λ (w : Cast). and_then w (λ n. walk st b j (i + half) n)) (sym is)),
          wrote
              ∙ ap (λ (ms : List ℕ). sets out i ms)
              (sym (ap (λ (ms : List ℕ). take (t - i) ms) marks_are
              ∙ take-append-le (t - i) (span_marks st j i) (span_marks st j (i + half)) (omega (arith, long, is-half)))),
        )

    -- the left half is complete with p probes, and the right half follows
    pub span_right : (w r : Cast) (p : ℕ) (l l' : List ℕ) → w ≡ cast.Complete p → w ≡ walk st b j i (m + 1)
        → l ≡ sets out i (take (cast_looked_at (i + half) w - i) (span_marks st j i))
        → r ≡ walk st b j (i + half) p
        → l' ≡ sets l (i + half) (take (cast_looked_at (i + half + half) r - (i + half)) (span_marks st j (i + half)))
        → SpanCast r l'
    unfolding cast_looked_at
    span_right w r p l l' complete is wrote r-is r-wrote =
        let q : walk st b j i (m + 1) ≡ cast.Complete p = sym is ∙ complete in
        let p-few = subst (Walked st b j i (m + 1)) q (walked st b j i (m + 1) (omega arith)) in
        let looked = cast_looked_at (i + half + half) r in
        let within = (looked_within st b j (i + half) p r (subst (Walked st b j (i + half) p) (sym r-is) (walked st b j (i + half) p p-few.1))).0 in
        let from : i + half ≤ looked = subst (λ (n : ℕ). i + half ≤ cast_looked_at (i + half + n) r) (sym is-half) within in
        let left = span_marks st j i in
        let right = span_marks st j (i + half) in
        let l_is : l ≡ sets out i left =
        wrote
        ∙ ap (λ (w : Cast). sets out i (take (cast_looked_at (i + half) w - i) left)) complete
        ∙ ap (λ (ms : List ℕ). sets out i ms) (take_all (i + half - i) left (omega (arith, long))) in
        let more : length left + (looked - (i + half)) ≡ looked - i = omega (arith, long, from) in
        let end : i + half + half ≡ i + len = omega (arith, is-half, size ∙ ap (λ (n : ℕ). 2 ^ n) e, pow_step 2 j) in (
          r-is ∙ sym (walk_is ∙ ap (λ (w : Cast). and_then w (λ n. walk st b j (i + half) n)) q),
          r-wrote
              ∙ ap (λ (x : List ℕ). sets x (i + half) (take (looked - (i + half)) right)) l_is
              ∙ ap (λ (n : ℕ). sets (sets out i left) (i + n) (take (looked - (i + half)) right)) (sym long)
              ∙ sets-append left (take (looked - (i + half)) right) out i
              ∙ ap (λ (ms : List ℕ). sets out i ms)
              (sym (take-append-add left right (looked - (i + half)))
              ∙ ap (λ (n : ℕ). take n (left ++ right)) more
              ∙ ap (λ (ms : List ℕ). take (looked - i) ms) (sym marks_are))
              ∙ ap (λ (n : ℕ). sets out i (take (cast_looked_at n r - i) (span_marks st k i))) end,
        )

-- the whole ray
module _ (st : ℕ → ℕ → ℕ) (b k n : ℕ) (size : n ≡ 2 ^ k) (w : Cast) (is : w ≡ walk st b k 0 0) where
  pub reached_within : cast_looked_at n w ≤ n
  reached_within =
      subst (λ (n : ℕ). cast_looked_at n w ≤ n) (zero-add (2 ^ k) ∙ sym size)
      (looked_within st b k 0 0 w (subst (Walked st b k 0 0) (sym is) (walked st b k 0 0 (omega arith)))).1

  pub walk-handed : (out l l' : List ℕ) → n ≤ length out
      → l ≡ sets out 0 (take (cast_looked_at (0 + n) w - 0) (span_marks st k 0))
      → l' ≡ sets l (cast_looked_at n w) (replicate (n - cast_looked_at n w) not_looked_at)
      → l' ≡ handed n w (span_marks st k 0) ++ drop n out
  walk-handed out l l' room wrote rest =
      let at : cast_looked_at (0 + n) w - 0 ≡ cast_looked_at n w =
      sub-zero (cast_looked_at (0 + n) w) ∙ ap (λ (n : ℕ). cast_looked_at n w) (zero-add n) in
      handed-over n w (span_marks st k 0) (length_marks st k 0 ∙ sym size) reached_within out l l' room
      (wrote ∙ ap (λ (t : ℕ). sets out 0 (take t (span_marks st k 0))) at) rest

-- ---- the first hit

-- a part that is not clear ends the search
abbrev pub Ended : FirstHit → Type 0
Ended (first.Hit t s p) = Unit {0}
Ended (first.Clear p) = ⊥
Ended (first.Spent t p) = Unit {0}

ended_stays : (f : FirstHit) (next : ℕ → FirstHit) → Ended f → or_else f next ≡ f
ended_stays (first.Clear _) next e = elim e [ ]
ended_stays (first.Hit t s p) next e = refl
ended_stays (first.Spent t p) next e = refl

module _ (st : ℕ → ℕ → ℕ) (b k i m len : ℕ) (size : len ≡ 2 ^ k) (h : m < b) where
  finished_is : (st i len ≡ 1 → k ≡ 0) → hit st b k i m ≡ finished (st i len) i (m + 1)
  finished_is e =
      hit-finished st b k i m h (subst (λ (n : ℕ). st i n ≡ 1 → k ≡ 0) size e) ∙ ap (λ (n : ℕ). finished (st i n) i (m + 1)) (sym size)

  pub hit_clear : st i len ≡ 0 → first.Clear (m + 1) ≡ hit st b k i m
  hit_clear z = sym (finished_is (λ o. absurd (omega arith)) ∙ rw (eq-eqb _ _ z))

  pub hit_found : (s : ℕ) → s ≡ st i len → (s ≡ 0 → ⊥) → (s ≡ 1 → k ≡ 0) → first.Hit i s (m + 1) ≡ hit st b k i m
  hit_found s is n e = sym (finished_is (λ o. e (is ∙ o)) ∙ ap (λ (x : ℕ). finished x i (m + 1)) (sym is) ∙ rw (ne_eqb _ _ n))

  module _ (j half : ℕ) (e : k ≡ suc j) (is-half : half ≡ 2 ^ j) (undecided : st i len ≡ 1) where
    hit_is : hit st b k i m ≡ or_else (hit st b j i (m + 1)) (λ n. hit st b j (i + half) n)
    hit_is =
        ap (λ (n : ℕ). hit st b n i m) e
        ∙ hit_split st b j i m h (halved st i size e undecided)
        ∙ ap (λ (x : ℕ). or_else (hit st b j i (m + 1)) (λ n. hit st b j (i + x) n)) (sym is-half)

    -- the left half ends the search
    pub hit_left : (f : FirstHit) → Ended f → f ≡ hit st b j i (m + 1) → f ≡ hit st b k i m
    hit_left f ended is =
        sym (hit_is ∙ ap (λ (f : FirstHit). or_else f (λ n. hit st b j (i + half) n)) (sym is) ∙ ended_stays f (λ n. hit st b j (i + half) n) ended)

    -- the left half is clear with p probes, and the right half follows
    pub hit_right : (f r : FirstHit) (p : ℕ) → f ≡ first.Clear p → f ≡ hit st b j i (m + 1) → r ≡ hit st b j (i + half) p → r ≡ hit st b k i m
    hit_right f r p clear is r-is = r-is ∙ sym (hit_is ∙ ap (λ (f : FirstHit). or_else f (λ n. hit st b j (i + half) n)) (sym is ∙ clear))
