-- What each turn of the code shows, over any state: T ticks, b the budget, m the probes made, the candidate of c ticks from tick i on.
use Prim.Native.Nat.{ℕ, suc, ◌+◌, ◌-◌, ◌*◌, ◌/◌, ◌≤◌, ◌<◌}
use mathlib.Core.Path.{◌≡◌, refl, sym, ap, ◌∙◌}
use mathlib.Core.List.{List, ◌++◌}
use native.Mathlib.Omega.{arith}
use native.Mathlib.Nat.{sub-zero}
use lib.ListN.{length, take, drop, replicate}
use lib.Seq.{sets, length-sets}
use Rattle.exact.proofs.Buffers.{sets-append}
use Rattle.field.specs.Bounds.{not_looked_at}
use Rattle.halving.specs.declared.Cast.{Cast}
use Rattle.halving.specs.declared.Cast.TheVariants.{Complete, Spent}
use Rattle.halving.specs.Halving.{cast_looked_at, handed}
use Rattle.halving.proofs.Handed.{handed-over}
use Rattle.march.specs.Marching.{first_length, march_enough, cut, tick_after, length_after, marks_of, walk_from, marks_from, march_marks, march}
use Rattle.march.specs.declared.Candidate.{Candidate}
use Rattle.march.specs.Candidates.{Followed}
use Rattle.march.proofs.Marching.{halved, finished, next, march-enough, whole, looked_within, length-march, first_marks}
use Rattle.march.proofs.Marching.{walk_end, walk_out, walk_probe, marks_end, marks_out, marks_probe}

-- ---- the ways out of `advance`: a candidate cut to n ticks, in state s, and the buffer before and after

module _ (state : ℕ → ℕ → ℕ) (T : ℕ) (at : Candidate) (n s : ℕ) (n-is : n ≡ cut T at.first at.length) (s-is : s ≡ state at.first n)
    (l : List ℕ) where
  abbrev pub Advanced : Candidate → List ℕ → Type 0
  Advanced r l' = Followed state T at r × (l' ≡ sets l at.first (marks_of state T at.first at.length))

  pub is_halved : s ≡ 1 → 1 < n → Advanced (record { first = at.first; length = n / 2 }) l
  is_halved e h =
      let p = halved s at.first n e h in (
        record { first = rw (← n-is, ← s-is) (sym p.tick); length = rw (← n-is, ← s-is) (sym p.size) },
        rw (← n-is, ← s-is, p.marks),
      )

  pub is_finished : 1 ≤ n → (s ≡ 1 → n ≤ 1) → (l' : List ℕ) → l' ≡ sets l at.first (replicate n s)
      → Advanced (record { first = at.first + n; length = 2 * n }) l'
  is_finished some one l' filled =
      let p = finished s at.first n some one in (
        record { first = rw (← n-is, ← s-is) (sym p.tick); length = rw (← n-is, ← s-is) (sym p.size) },
        filled ∙ rw (← n-is, ← s-is, p.marks),
      )

-- ---- the whole march

module _ (state : ℕ → ℕ → ℕ) (T b : ℕ) where
  -- ---- the loop of `march_on`, with the buffer `out` before it: what is left gives the whole

  module _ (out : List ℕ) where
    -- the buffer l now, the candidate that is next, and m probes made
    pub record Left (l : List ℕ) (at : Candidate) (m : ℕ) : Type 0 where
      pub few : m ≤ b
      pub some : 1 ≤ at.length
      pub walk : walk_from state T (b - m) at.first at.length m ≡ march state T b
      pub bytes : sets l at.first (marks_from state T (b - m) at.first at.length) ≡ sets out 0 (marks_from state T b 0 first_length)
      pub size : length l ≡ length out

    -- what `march_on` promises of its answer and of the buffer
    abbrev pub Marched : Cast → List ℕ → Type 0
    Marched w l = (w ≡ march state T b) × (l ≡ sets out 0 (marks_from state T b 0 first_length))

    pub started : Left out (record { first = 0; length = first_length }) 0
    started = record { few = omega arith; some = omega arith; walk = rw (sub-zero b); bytes = rw (sub-zero b); size = refl }

    module _ (l : List ℕ) (at : Candidate) (m : ℕ) (left : Left l at m) where
      pub again : (l' : List ℕ) (r : Candidate) → at.first < T → m < b → Followed state T at r
          → l' ≡ sets l at.first (marks_of state T at.first at.length) → Left l' r (m + 1)
      again l' r lt more f wrote =
          let i = at.first in
          let c = at.length in
          let own = marks_of state T i c in
          let rest = marks_from state T (b - (m + 1)) (tick_after state T i c) (length_after state T i c) in
          let x = next state T i c left.some lt in
          let e : b - m ≡ suc (b - (m + 1)) = omega arith in
          let w = ap (λ (n : ℕ). walk_from state T n i c m) e ∙ walk_probe state T (b - (m + 1)) i c m lt in
          let u = ap (λ (n : ℕ). marks_from state T n i c) e ∙ marks_probe state T (b - (m + 1)) i c lt in
          record {
            few = omega arith;
            some = omega (arith, f.length, x.some);
            walk = rw (f.first, f.length) (sym w ∙ left.walk);
            bytes = rw (f.first, f.length, wrote)
                (ap (λ (n : ℕ). sets (sets l i own) n rest) (sym x.long)
                ∙ sets-append own rest l i
                ∙ ap (λ (v : List ℕ). sets l i v) (sym u)
                ∙ left.bytes);
            size = ap length wrote ∙ length-sets l i own ∙ left.size;
          }

      pub is_spent : at.first < T → b ≤ m → Marched (Spent at.first m) l
      is_spent lt h =
          let e : b - m ≡ 0 = omega arith in (
            sym (walk_out state T at.first at.length m lt)
                ∙ ap (λ (n : ℕ). walk_from state T n at.first at.length m) (sym e)
                ∙ left.walk,
            ap (λ (v : List ℕ). sets l at.first v)
                (sym (ap (λ (n : ℕ). marks_from state T n at.first at.length) e ∙ marks_out state T at.first at.length))
                ∙ left.bytes,
          )

      pub is_complete : T ≤ at.first → Marched (Complete m) l
      is_complete h = (
        sym (walk_end state T (b - m) at.first at.length m h) ∙ left.walk,
        ap (λ (v : List ℕ). sets l at.first v) (sym (marks_end state T (b - m) at.first at.length h)) ∙ left.bytes,
      )

  -- ---- the whole ray

  module _ (w : Cast) (is : w ≡ march state T b) where
    pub reached_within : cast_looked_at T w ≤ T
    reached_within = rw is (looked_within state T (march_enough T) b 0 first_length 0 (march state T b) (omega arith) (whole state T b)).1

    pub march-handed : (out l l' : List ℕ) → T ≤ length out → l ≡ sets out 0 (marks_from state T b 0 first_length)
        → l' ≡ sets l (cast_looked_at T w) (replicate (T - cast_looked_at T w) not_looked_at) → l' ≡ handed T w (march_marks state T) ++ drop T out
    march-handed out l l' room wrote rest =
        let written : marks_from state T b 0 first_length ≡ take (cast_looked_at T w) (march_marks state T) =
        first_marks state T (march_enough T) b 0 first_length 0 (omega arith) (omega arith) (march-enough state T (march_enough T) (omega arith))
        ∙ ap (λ (n : ℕ). take n (march_marks state T)) (sub-zero (cast_looked_at T (march state T b)) ∙ ap (cast_looked_at T) (sym is)) in
        handed-over T w (march_marks state T) (length-march state T) reached_within out l l' room
        (wrote ∙ ap (λ (u : List ℕ). sets out 0 u) written) rest
