-- Laws of zero bytes, as the code asks for them: `zeros-after file at` has the 11 bytes after a place as four numbers.
use Prim.Native.Nat.{ℕ, zero, suc, ◌+◌}
use native.Mathlib.Nat.{add-zero, zero-add, add-suc, suc-add}
use native.Mathlib.Numerals.{add-one}
use native.Mathlib.Omega.{arith}
use mathlib.Core.Path.{◌≡◌, ◌∙◌}
use mathlib.Core.List.{List}
use mathlib.Core.Bool.{◌&&◌, and-true, and_assoc}
use borrow.Author.Tests.{eq-eqb, eqb-true}
use lib.Dec.{eqb}
use Rattle.exact.proofs.Tests.{both_true, true_both, same_test}
use Rattle.record.specs.Bytes.{byte, u16, u32, has_bytes, zeros}

-- two numbers are zero exactly where one made of them is
both_zero : (a b n : ℕ) → (a ≡ 0 → b ≡ 0 → n ≡ 0) → (n ≡ 0 → (a ≡ 0) × (b ≡ 0)) → (eqb a 0 && eqb b 0) ≡ eqb n 0
both_zero a b n f g =
    same_test (eqb a 0 && eqb b 0) (eqb n 0)
    (λ e. let p = both_true (eqb a 0) (eqb b 0) e in eq-eqb n 0 (f (eqb-true a 0 p.0) (eqb-true b 0 p.1)))
    (λ e. let p = g (eqb-true n 0 e) in true_both (eq-eqb a 0 p.0) (eq-eqb b 0 p.1))

module _ (file : List ℕ) where
  -- ---- zero bytes, as numbers

  zeros_split : (m n at : ℕ) → zeros file at (m + n) ≡ (zeros file at m && zeros file (at + m) n)
  unfolding zeros has_bytes
  zeros_split zero n at = rw (zero-add n, add-zero at)
  zeros_split (suc m) n at =
      rw (suc-add m n, add-suc at m, ← suc-add at m, ← add-one at, and_assoc, zeros_split m n (at + 1))

  pub zeros_1 : (at : ℕ) → zeros file at 1 ≡ eqb (byte file at) 0
  unfolding zeros has_bytes
  zeros_1 at = and-true (eqb (byte file at) 0)

  zeros_2 : (at : ℕ) → zeros file at 2 ≡ eqb (u16 file at) 0
  unfolding u16
  zeros_2 at =
      zeros_split 1 1 at
      ∙ rw (zeros_1 at, zeros_1 (at + 1))
      (both_zero (byte file at) (byte file (at + 1)) (u16 file at) (λ a b. omega arith) (λ n. (omega arith, omega arith)))

  zeros_4 : (at : ℕ) → zeros file at 4 ≡ eqb (u32 file at) 0
  unfolding u32
  zeros_4 at =
      zeros_split 2 2 at
      ∙ rw (zeros_2 at, zeros_2 (at + 2))
      (both_zero (u16 file at) (u16 file (at + 2)) (u32 file at) (λ a b. omega arith) (λ n. (omega arith, omega arith)))

  pub zeros-after : (at : ℕ)
      → zeros file (at + 1) 11
      ≡ (eqb (byte file (at + 1)) 0 && (eqb (u16 file (at + 2)) 0 && (eqb (u32 file (at + 4)) 0 && eqb (u32 file (at + 8)) 0)))
  zeros-after at =
      let e2 : at + 1 + 1 ≡ at + 2 = omega arith in
      let e4 : at + 2 + 2 ≡ at + 4 = omega arith in
      let e8 : at + 4 + 4 ≡ at + 8 = omega arith in
      rw (
        zeros_split 1 10 (at + 1),
        e2,
        zeros_split 2 8 (at + 2),
        e4,
        zeros_split 4 4 (at + 4),
        e8,
        zeros_1 (at + 1),
        zeros_2 (at + 2),
        zeros_4 (at + 4),
        zeros_4 (at + 8),
      )
