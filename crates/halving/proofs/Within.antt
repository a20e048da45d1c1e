-- A search of ticks that are among the first T looks only there, since it probes its span and halves of it. So two states that agree on the spans
-- of the first T ticks (`Agree`) have the same count, marks, cast and first hit.
use Prim.Native.Nat.{ℕ, zero, suc, ◌+◌, ◌^◌, ◌≤◌}
use mathlib.Core.Path.{◌≡◌, refl, ap, fun_ext}
use mathlib.Core.List.{[], ◌∷◌}
use native.Mathlib.Omega.{arith, pow_step}
use Rattle.field.specs.declared.Span.{Span}
use Rattle.points.specs.Ranges.{SpanRanges}
use Rattle.halving.specs.Halving.{probe_count, span_marks, walk}
use Rattle.halving.specs.FirstHit.{hit}

-- a span of the ray, whose ticks are few
pub span_ranges : {s : Span} → s.from ≤ s.to → s.to ≤ s.ticks → 1 ≤ s.ticks → s.ticks ≤ 4096 → SpanRanges s
span_ranges order within low high = record {
  order = order;
  within = within;
  from_high = omega arith;
  to_high = omega arith;
  ticks_low = low;
  ticks_high = high;
}

-- the same state for every span of the first T ticks
abbrev pub Agree : ℕ → (ℕ → ℕ → ℕ) → (ℕ → ℕ → ℕ) → Type 0
Agree T st st' = (i n : ℕ) → i + n ≤ T → st i n ≡ st' i n

module _ {T : ℕ} {st st' : ℕ → ℕ → ℕ} (agree : Agree T st st') where
  pub count_within : (k i : ℕ) → i + 2 ^ k ≤ T → probe_count st k i ≡ probe_count st' k i
  unfolding probe_count
  count_within zero i h = refl
  count_within (suc k) i h =
      let p = pow_step 2 k in
      rw (agree i (2 ^ suc k) h, count_within k i (omega arith), count_within k (i + 2 ^ k) (omega arith))

  pub marks_within : (k i : ℕ) → i + 2 ^ k ≤ T → span_marks st k i ≡ span_marks st' k i
  unfolding span_marks
  marks_within zero i h = ap (λ (s : ℕ). s ∷ []) (agree i 1 h)
  marks_within (suc k) i h =
      let p = pow_step 2 k in
      rw (agree i (2 ^ suc k) h, marks_within k i (omega arith), marks_within k (i + 2 ^ k) (omega arith))

  module _ (b : ℕ) where
    pub walk_within : (k i m : ℕ) → i + 2 ^ k ≤ T → walk st b k i m ≡ walk st' b k i m
    unfolding walk
    walk_within zero i m h = refl
    walk_within (suc k) i m h =
        let p = pow_step 2 k in
        let right : walk st b k (i + 2 ^ k) ≡ walk st' b k (i + 2 ^ k) = fun_ext (λ n. walk_within k (i + 2 ^ k) n (omega arith)) in
        rw (agree i (2 ^ suc k) h, walk_within k i (m + 1) (omega arith), right)

    pub hit_within : (k i m : ℕ) → i + 2 ^ k ≤ T → hit st b k i m ≡ hit st' b k i m
    unfolding hit
    hit_within zero i m h = rw (agree i 1 h)
    hit_within (suc k) i m h =
        let p = pow_step 2 k in
        let right : hit st b k (i + 2 ^ k) ≡ hit st' b k (i + 2 ^ k) = fun_ext (λ n. hit_within k (i + 2 ^ k) n (omega arith)) in
        rw (agree i (2 ^ suc k) h, hit_within k i (m + 1) (omega arith), right)
