-- How fast the clamped depth R² − |p|² of a point p in a ball of radius R changes: between two points of ℤ³ by at most 2 R L,
-- where L is the sum of the sizes of the three differences.
-- `lipschitz R q s L x y z u v w eq es el : R * R - q ≤ R * R - s + 2 * R * L`, q and s being the squares of (x, y, z) and (u, v, w).
use mathlib.Core.Path.{◌≡◌, sym, ap₂}
use mathlib.Core.Logic.{◌⊎◌, inl, inr}
use Prim.Native.Nat.{ℕ, ◌+◌, ◌*◌, ◌-◌, ◌≤◌}
use native.Mathlib.Omega.{arith}
use lib.IntN.{ℤ, pos, neg_ℤ, ◌+ℤ◌, ◌-ℤ◌, ◌*ℤ◌}
use lib.Signed.{◌≤ℤ◌, ◌<ℤ◌, clash_ℤ}
use Rattle.exact.specs.Vector.{dot3, square3, size3}
use Rattle.exact.proofs.Ring.{◌⊕◌, ◌⊖◌, ⊝◌, ◌⊗◌, #}
use Rattle.exact.proofs.Order.{nn_add, nn_mul, nn_sq, nn_pos, sub_nn, lt_nn, <ℤ-le, ≤ℤ_trans, ≤ℤ_of_eq, ≤ℤ-total, le_or_lt, pos_reflect}
use Rattle.exact.proofs.Absolute.{neg-le-nat_abs}
use Rattle.exact.proofs.Certificates.{◌≦◌by◌, le, lt}
use Rattle.exact.proofs.Vector.{nn_square3, nn_size3, Each3, dot3-le, square3_each, square3-le-size3}

module _ (x y z u v w r : ℤ) (hr : pos 0 ≤ℤ r) where
  abbrev q : ℤ
  q = square3 x y z

  abbrev s : ℤ
  s = square3 u v w

  abbrev len : ℤ
  len = size3 (x -ℤ u) (y -ℤ v) (z -ℤ w)

  nn_len : pos 0 ≤ℤ len
  nn_len = nn_size3 (x -ℤ u) (y -ℤ v) (z -ℤ w)

  -- minus the inner product of a point with the difference of the two
  along : (a b c k : ℤ) → Each3 k a b c → neg_ℤ (dot3 a b c (x -ℤ u) (y -ℤ v) (z -ℤ w)) ≤ℤ (k *ℤ len)
  along a b c k h =
      ≤ℤ_trans (neg-le-nat_abs (dot3 a b c (x -ℤ u) (y -ℤ v) (z -ℤ w))) (dot3-le a b c (x -ℤ u) (y -ℤ v) (z -ℤ w) k h)

  -- both in the ball
  inside : q ≤ℤ (r *ℤ r) → s ≤ℤ (r *ℤ r) → s ≤ℤ (q +ℤ pos 2 *ℤ r *ℤ len)
  inside h k =
      le 8 (λ x y z u v w r l. u ⊗ u ⊕ v ⊗ v ⊕ w ⊗ w ≦ x ⊗ x ⊕ y ⊗ y ⊕ z ⊗ z ⊕ # 2 ⊗ r ⊗ l
      by (r ⊗ l ⊖ ⊝ (x ⊗ (x ⊖ u) ⊕ y ⊗ (y ⊖ v) ⊕ z ⊗ (z ⊖ w))) ⊕ (r ⊗ l ⊖ ⊝ (u ⊗ (x ⊖ u) ⊕ v ⊗ (y ⊖ v) ⊕ w ⊗ (z ⊖ w)))) tt
      x y z u v w r len
      (nn_add (sub_nn (along x y z r (square3_each x y z r hr h))) (sub_nn (along u v w r (square3_each u v w r hr k))))

  -- the first so deep in the ball that the second is in it too
  deep : len ≤ℤ r → q <ℤ ((r -ℤ len) *ℤ (r -ℤ len)) → s <ℤ (r *ℤ r)
  deep hl h =
      lt 8 (λ x y z u v w r l. u ⊗ u ⊕ v ⊗ v ⊕ w ⊗ w ≦ r ⊗ r
      by ((r ⊖ l) ⊗ (r ⊖ l) ⊖ (x ⊗ x ⊕ y ⊗ y ⊕ z ⊗ z) ⊖ # 1)
      ⊕ # 2 ⊗ ((r ⊖ l) ⊗ l ⊖ ⊝ (x ⊗ (x ⊖ u) ⊕ y ⊗ (y ⊖ v) ⊕ z ⊗ (z ⊖ w)))
      ⊕ (l ⊗ l ⊖ ((x ⊖ u) ⊗ (x ⊖ u) ⊕ (y ⊖ v) ⊗ (y ⊖ v) ⊕ (z ⊖ w) ⊗ (z ⊖ w)))) tt
      x y z u v w r len
      (nn_add (nn_add (lt_nn h)
      (nn_mul (nn_pos 2) (sub_nn (along x y z (r -ℤ len) (square3_each x y z (r -ℤ len) (sub_nn hl) (<ℤ-le h))))))
      (sub_nn (square3-le-size3 (x -ℤ u) (y -ℤ v) (z -ℤ w))))

  pub lipschitz_ℤ : (s ≤ℤ (q +ℤ pos 2 *ℤ r *ℤ len)) ⊎ ((r *ℤ r) ≤ℤ (q +ℤ pos 2 *ℤ r *ℤ len))
  lipschitz_ℤ = elim (≤ℤ-total s (r *ℤ r)) [
    | inl hs ↦ elim (≤ℤ-total q (r *ℤ r)) [
      | inl hq ↦ inl (inside hq hs)
      | inr hq ↦ inr (≤ℤ_trans hq (le 3 (λ q r l. q ≦ q ⊕ # 2 ⊗ r ⊗ l by # 2 ⊗ r ⊗ l) tt q r len (nn_mul (nn_mul (nn_pos 2) hr) nn_len)))
    ]
    | inr hs ↦ elim (≤ℤ-total r len) [
      | inl hl ↦ inr (le 3 (λ q r l. r ⊗ r ≦ q ⊕ # 2 ⊗ r ⊗ l by q ⊕ r ⊗ (l ⊖ r) ⊕ r ⊗ l) tt q r len
          (nn_add (nn_add (nn_square3 x y z) (nn_mul hr (sub_nn hl))) (nn_mul hr nn_len)))
      | inr hl ↦ elim (le_or_lt ((r -ℤ len) *ℤ (r -ℤ len)) q) [
        | inl k ↦ inr (le 3 (λ q r l. r ⊗ r ≦ q ⊕ # 2 ⊗ r ⊗ l by (q ⊖ (r ⊖ l) ⊗ (r ⊖ l)) ⊕ l ⊗ l) tt q r len
            (nn_add (sub_nn k) (nn_sq len)))
        | inr k ↦ clash_ℤ (deep hl k) hs
      ]
    ]
  ]

-- the same of natural numbers, with the truncated difference
pub lipschitz : (R q s L : ℕ) (x y z u v w : ℤ) → pos q ≡ square3 x y z → pos s ≡ square3 u v w → pos L ≡ size3 (x -ℤ u) (y -ℤ v) (z -ℤ w)
    → (R * R - q) ≤ (R * R - s) + 2 * R * L
lipschitz R q s L x y z u v w eq es el = elim (lipschitz_ℤ x y z u v w (pos R) (nn_pos R)) [
  | inl h ↦ (let k : s ≤ q + 2 * R * L = below (≤ℤ_trans (≤ℤ_of_eq es) h) in omega arith)
  | inr h ↦ (let k : R * R ≤ q + 2 * R * L = below h in omega arith)
]
  where
    below : {n : ℕ} → pos n ≤ℤ (square3 x y z +ℤ pos 2 *ℤ pos R *ℤ size3 (x -ℤ u) (y -ℤ v) (z -ℤ w)) → n ≤ q + 2 * R * L
    below h = pos_reflect (≤ℤ_trans h (≤ℤ_of_eq (ap₂ (λ (a b : ℤ). a +ℤ pos 2 *ℤ pos R *ℤ b) (sym eq) (sym el))))
