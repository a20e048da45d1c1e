-- A file's bytes from a place on, and the bytes of the numbers that are read there.
-- `pieces` cuts n bytes off; `u16_pair` and its like say that a number's bytes are the two that it was read from.
use Prim.Native.Nat.{ℕ, zero, suc, ◌+◌, ◌*◌, ◌/◌, ◌%◌, ◌≤◌, ◌<◌}
use native.Mathlib.Nat.{add-zero, not-suc-le-zero}
use native.Mathlib.Numerals.{add-one}
use native.Mathlib.Omega.{arith}
use native.Mathlib.Decide.{dec_lt}
use mathlib.Core.Path.{◌≡◌, refl, sym, ap, ap₂, ◌∙◌}
use mathlib.Core.List.{List, [], ◌∷◌, ◌++◌}
use mathlib.Core.Bool.{true}
use borrow.Author.Tests.{eqb-true}
use lib.ListN.{length, get_or, drop, get_or-eq_default}
use lib.Seq.{drop-cons}
use lib.Dec.{eqb}
use Rattle.exact.proofs.Tests.{both_true}
use Rattle.record.specs.Bytes.{byte, u16, u32, i16, has_bytes}
use Rattle.writer.specs.Bytes.{Octets, u16_bytes, u32_bytes, i16_bytes}
use Rattle.writer.proofs.Numbers.{low_of, high_of, bits_signed}

-- n elements, from k after a place on
abbrev pub run : {A : Type 0} → A → List A → ℕ → ℕ → ℕ → List A
run d l at k zero = []
run d l at k (suc n) = get_or l (at + k) d ∷ run d l at (suc k) n

-- n bytes
abbrev pub piece : List ℕ → ℕ → ℕ → ℕ → List ℕ
piece = run 0

module _ {A : Type 0} (d : A) (l : List A) (at : ℕ) where
  more : (k n : ℕ) → at + (k + n) ≤ length l → drop (at + k) l ≡ run d l at k n ++ drop (at + (k + n)) l
  more k zero h = ap (λ (j : ℕ). drop (at + j) l) (sym (add-zero k))
  more k (suc n) h =
      let e : suc (at + k) ≡ at + suc k = omega arith in
      let f : suc k + n ≡ k + suc n = omega arith in
      drop-cons l (at + k) d (omega arith)
      ∙ ap (λ (m : List A). get_or l (at + k) d ∷ m)
      (ap (λ (j : ℕ). drop j l) e ∙ more (suc k) n (omega arith) ∙ ap (λ (j : ℕ). run d l at (suc k) n ++ drop (at + j) l) f)

  -- the element at the place, and n after it
  pub runs : (n : ℕ) → at + suc n ≤ length l → drop at l ≡ get_or l at d ∷ run d l at 1 n ++ drop (at + suc n) l
  runs n h =
      let e : 1 + n ≡ suc n = omega arith in
      drop-cons l at d (omega arith)
      ∙ ap (λ (m : List A). get_or l at d ∷ m)
      (ap (λ (j : ℕ). drop j l) (sym (add-one at)) ∙ more 1 n (omega arith) ∙ ap (λ (j : ℕ). run d l at 1 n ++ drop (at + j) l) e)

pub pieces : (file : List ℕ) (at n : ℕ) → at + suc n ≤ length file → drop at file ≡ byte file at ∷ piece file at 1 n ++ drop (at + suc n) file
pieces file at n h = runs 0 file at n h

-- bytes that a file has at a place
pub has_byte : (file : List ℕ) (at : ℕ) (bytes : List ℕ) (k : ℕ) → has_bytes file at bytes ≡ true → k < length bytes
    → byte file (at + k) ≡ get_or bytes k 0
unfolding has_bytes
has_byte file at [] k e h = absurd (not-suc-le-zero h)
has_byte file at (b ∷ bytes) zero e h =
    ap (byte file) (add-zero at) ∙ eqb-true (byte file at) b (both_true (eqb (byte file at) b) (has_bytes file (at + 1) bytes) e).0
has_byte file at (b ∷ bytes) (suc k) e h =
    let f : at + suc k ≡ at + 1 + k = omega arith in
    ap (byte file) f ∙ has_byte file (at + 1) bytes k (both_true (eqb (byte file at) b) (has_bytes file (at + 1) bytes) e).1 (omega arith)

pub has_piece : (file : List ℕ) (at k : ℕ) (bytes : List ℕ) → has_bytes file (at + k) bytes ≡ true → piece file at k (length bytes) ≡ bytes
unfolding has_bytes
has_piece file at k [] e = refl
has_piece file at k (b ∷ bytes) e =
    let j : at + k + 1 ≡ at + suc k = omega arith in
    let p = both_true (eqb (byte file (at + k)) b) (has_bytes file (at + k + 1) bytes) e in
    ap₂ ◌∷◌ (eqb-true (byte file (at + k)) b p.0) (has_piece file at (suc k) bytes (rw j at p.1))

-- ---- numbers: at a place k bytes after another

pub u16_split : (file : List ℕ) (at k : ℕ) → u16 file (at + k) ≡ byte file (at + k) + 256 * byte file (at + suc k)
unfolding u16
u16_split file at k =
    let e : at + k + 1 ≡ at + suc k = omega arith in
    ap (λ (j : ℕ). byte file (at + k) + 256 * byte file j) e

module _ (file : List ℕ) (octets : Octets file) where
  octet : (i : ℕ) → byte file i < 256
  octet i = elim (dec_lt i (length file)) [ yes h ↦ octets i h | no n ↦ rw (get_or-eq_default file 0 {n = i} (omega (arith, n))) (omega arith) ]

  pub u16_below : (at : ℕ) → u16 file at < 65536
  unfolding u16
  u16_below at = omega (arith, octet at, octet (at + 1))

  pub u16_first : (at : ℕ) → u16_bytes (u16 file at) ≡ byte file at ∷ byte file (at + 1) ∷ []
  unfolding u16 u16_bytes
  u16_first at =
      ap₂ (λ (a b : ℕ). a ∷ b ∷ []) (low_of (byte file at) (byte file (at + 1)) (octet at))
      (high_of (byte file at) (byte file (at + 1)) (octet at) (octet (at + 1)))

  module _ (at k : ℕ) where
    pub u16_pair : u16_bytes (u16 file (at + k)) ≡ byte file (at + k) ∷ byte file (at + suc k) ∷ []
    u16_pair =
        let e : at + k + 1 ≡ at + suc k = omega arith in
        u16_first (at + k) ∙ ap (λ (j : ℕ). byte file (at + k) ∷ byte file j ∷ []) e

    pub i16_pair : i16_bytes (i16 file (at + k)) ≡ byte file (at + k) ∷ byte file (at + suc k) ∷ []
    unfolding i16 i16_bytes
    i16_pair = ap u16_bytes (bits_signed (u16 file (at + k)) (u16_below (at + k))) ∙ u16_pair

  pub u32_four : (at k : ℕ) → u32_bytes (u32 file (at + k)) ≡ piece file at k 4
  unfolding u32 u32_bytes
  u32_four at k =
      let a = u16 file (at + k) in
      let b = u16 file (at + k + 2) in
      let h = u16_below (at + k) in
      let l : (a + 65536 * b) % 65536 ≡ a = omega arith in
      let u : (a + 65536 * b) / 65536 ≡ b = omega arith in
      let e : at + k + 2 ≡ at + suc (suc k) = omega arith in
      ap₂ (λ (x y : ℕ). u16_bytes x ++ u16_bytes y) l (u ∙ ap (u16 file) e) ∙ ap₂ ◌++◌ (u16_pair at k) (u16_pair at (suc (suc k)))
