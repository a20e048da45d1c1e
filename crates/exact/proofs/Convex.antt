-- A convex quadratic c + b x + a x², a not negative, where x is from p to q: it is greatest at an end (`quad-max`),
-- and least at p where it rises there (`quad_rising`), or at q where it falls there (`quad_falling`).
-- `quad-max c b a p x q ha hp hq : quad c b a x ≤ℤ max_ℤ (quad c b a p) (quad c b a q)`.
use mathlib.Core.Logic.{inl, inr}
use lib.IntN.{ℤ, pos, ◌+ℤ◌, ◌*ℤ◌}
use lib.Signed.{◌≤ℤ◌}
use Rattle.exact.specs.Extrema.{max_ℤ}
use Rattle.exact.specs.Distance.{quad}
use Rattle.exact.proofs.Ring.{Ex, ◌⊕◌, ◌⊖◌, ◌⊗◌, #}
use Rattle.exact.proofs.Order.{≤ℤ_trans, ≤ℤ-total}
use Rattle.exact.proofs.Extrema.{le-max_l, le-max_r}
use Rattle.exact.proofs.Certificates.{◌≦◌by◌, le, nn}

-- `quad` as an expression of the solver
abbrev pub quad_e : Ex → Ex → Ex → Ex → Ex
quad_e c b a x = c ⊕ b ⊗ x ⊕ a ⊗ x ⊗ x

pub quad-max : (c b a p x q : ℤ) → pos 0 ≤ℤ a → p ≤ℤ x → x ≤ℤ q → quad c b a x ≤ℤ max_ℤ (quad c b a p) (quad c b a q)
quad-max c b a p x q ha hp hq = elim (≤ℤ-total (b +ℤ a *ℤ (x +ℤ p)) (pos 0)) [
  | inl h ↦ ≤ℤ_trans (down h) (le-max_l (quad c b a p) (quad c b a q))
  | inr h ↦ ≤ℤ_trans (up h) (le-max_r (quad c b a p) (quad c b a q))
]
  where
    down : (b +ℤ a *ℤ (x +ℤ p)) ≤ℤ pos 0 → quad c b a x ≤ℤ quad c b a p
    down h =
        le 5 (λ c b a p x. quad_e c b a x ≦ quad_e c b a p by (x ⊖ p) ⊗ (# 0 ⊖ (b ⊕ a ⊗ (x ⊕ p)))) tt c b a p x (search nn)

    up : pos 0 ≤ℤ (b +ℤ a *ℤ (x +ℤ p)) → quad c b a x ≤ℤ quad c b a q
    up h =
        le 6 (λ c b a p x q. quad_e c b a x ≦ quad_e c b a q by (q ⊖ x) ⊗ (b ⊕ a ⊗ (x ⊕ p) ⊕ a ⊗ ((q ⊖ x) ⊕ (x ⊖ p)))) tt c b a p x q (search nn)

pub quad_rising : (c b a p x : ℤ) → pos 0 ≤ℤ a → p ≤ℤ x → pos 0 ≤ℤ (b +ℤ pos 2 *ℤ a *ℤ p) → quad c b a p ≤ℤ quad c b a x
quad_rising c b a p x ha hp h =
    le 5 (λ c b a p x. quad_e c b a p ≦ quad_e c b a x by (x ⊖ p) ⊗ (b ⊕ # 2 ⊗ a ⊗ p ⊕ a ⊗ (x ⊖ p))) tt c b a p x (search nn)

pub quad_falling : (c b a x q : ℤ) → pos 0 ≤ℤ a → x ≤ℤ q → (b +ℤ pos 2 *ℤ a *ℤ q) ≤ℤ pos 0 → quad c b a q ≤ℤ quad c b a x
quad_falling c b a x q ha hq h =
    le 5 (λ c b a x q. quad_e c b a q ≦ quad_e c b a x by (q ⊖ x) ⊗ (# 0 ⊖ (b ⊕ # 2 ⊗ a ⊗ q) ⊕ a ⊗ (q ⊖ x))) tt c b a x q (search nn)
