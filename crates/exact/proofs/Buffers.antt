-- Runs of stores into a list (`sets` of `lib.Seq`), one after the other: a buffer that is filled piece by piece holds the pieces joined.
-- `sets-append u v l i : sets (sets l i u) (i + length u) v ≡ sets l i (u ++ v)`.
use mathlib.Core.Path.{◌≡◌, refl, sym, ap, ◌∙◌}
use mathlib.Core.List.{List, [], ◌∷◌, ◌++◌, append_assoc}
use Prim.Native.Nat.{ℕ, suc, ◌+◌, ◌≤◌}
use native.Mathlib.Nat.{add-zero, zero-add, add-suc, suc-add}
use native.Mathlib.Omega.{arith}
use lib.ListN.{length, set, take, drop, replicate, length-replicate, replicate-append-replicate}
use lib.Seq.{sets, sets-eq}
use borrow.Rule.Slice.PartMut.{put_mid}
use Rattle.std.proofs.lemmas.List.Edits.{paste_all}
use Rattle.std.proofs.lemmas.Slice.{put_mid-paste}

module _ {A : Type 0} where
  -- one run after another
  pub sets-append : (u v l : List A) (i : ℕ) → sets (sets l i u) (i + length u) v ≡ sets l i (u ++ v)
  sets-append [] v l i = ap (λ (n : ℕ). sets l n v) (add-zero i)
  sets-append (a ∷ u) v l i =
      ap (λ (n : ℕ). sets (sets (set l i a) (suc i) u) n v) (add-suc i (length u) ∙ sym (suc-add i (length u)))
      ∙ sets-append u v (set l i a) (suc i)

  -- the same of runs and lists that are known by equations
  pub sets-then : (u v l : List A) (i : ℕ) {j : ℕ} {w m r : List A} → m ≡ sets l i u → r ≡ sets m j w → w ≡ v → j ≡ i + length u
      → r ≡ sets l i (u ++ v)
  sets-then u v l i p q e f = q ∙ (λ k. sets (p k) (f k) (e k)) ∙ sets-append u v l i

  -- one store after a run of n
  pub sets_more : (u l : List A) (i n : ℕ) (a : A) → length u ≡ n → set (sets l i u) (i + n) a ≡ sets l i (u ++ a ∷ [])
  sets_more u l i n a e = ap (λ (k : ℕ). set (sets l i u) (i + k) a) (sym e) ∙ sets-append u (a ∷ []) l i

  -- the part that `l[i..i + k].copy_from_slice(..)` replaces
  pub sets-part : (u l ys : List A) (i k : ℕ) → ys ≡ u → k ≡ length u → i + length u ≤ length l → put_mid i k l ys ≡ sets l i u
  sets-part u l ys i k e f h =
      put_mid-paste i k l ys u (length u) e (sym f) refl ∙ paste_all l i u (length u) refl
      ∙ sym (append_assoc (take i l) u (drop (i + length u) l)) ∙ sym (sets-eq u l i h)

  -- one more of equal elements
  pub sets-replicate : (l : List A) (i n : ℕ) (a : A) → set (sets l i (replicate n a)) (i + n) a ≡ sets l i (replicate (n + 1) a)
  sets-replicate l i n a =
      sets_more (replicate n a) l i n a (length-replicate n a) ∙ ap (λ (u : List A). sets l i u) (replicate-append-replicate n 1 a)

  -- a run from the start, in a list that is long enough
  pub sets-whole : (u l : List A) (n : ℕ) → length u ≡ n → n ≤ length l → sets l 0 u ≡ u ++ drop n l
  sets-whole u l n e h = sets-eq u l 0 (omega (arith, e)) ∙ ap (λ (k : ℕ). u ++ drop k l) (zero-add (length u) ∙ e)
