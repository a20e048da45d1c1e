-- The greater and the lesser of two integers.
-- `max-le h k : max_ℤ a b ≤ℤ c`, from `h : a ≤ℤ c` and `k : b ≤ℤ c`.
use mathlib.Core.Path.{◌≡◌, sym, ap, ◌∙◌}
use mathlib.Core.Logic.{◌⊎◌, inl, inr, ⊎_swap}
use Prim.Native.Nat.{ℕ, ◌≤◌, max, min}
use native.Mathlib.Nat.{le-max_left, le-max_right, max-eq_left, max-eq_right, min-eq_left, min-eq_right}
use lib.IntN.{ℤ, pos, nat_abs}
use lib.Signed.{lt_z, ◌≤ℤ◌, ≤ℤ_refl}
use Rattle.exact.specs.Extrema.{max_ℤ, min_ℤ}
use Rattle.exact.proofs.Order.{≤ℤ_trans, <ℤ-le, pos_reflect}
use Rattle.exact.proofs.Tests.{cond_by, lt_z_true, lt_z_false}
use Rattle.exact.proofs.Picks.{Picks, picked, later_l, later_r}

-- ---- one of the two, and which

pub max_is : (a b : ℤ) → ((a ≤ℤ b) × (max_ℤ a b ≡ b)) ⊎ ((b ≤ℤ a) × (max_ℤ a b ≡ a))
unfolding max_ℤ
max_is a b = cond_by (lt_z a b) b a (λ e. <ℤ-le (lt_z_true a b e)) (lt_z_false a b)

pub min_is : (a b : ℤ) → ((a ≤ℤ b) × (min_ℤ a b ≡ a)) ⊎ ((b ≤ℤ a) × (min_ℤ a b ≡ b))
unfolding min_ℤ
min_is a b = cond_by (lt_z a b) a b (λ e. <ℤ-le (lt_z_true a b e)) (lt_z_false a b)

-- ---- the order

pub max_picks : Picks (λ (a b : ℤ). a ≤ℤ b) max_ℤ
max_picks = record { same = ≤ℤ_refl; is = max_is }

pub min_picks : Picks (λ (a b : ℤ). b ≤ℤ a) min_ℤ
min_picks = record { same = ≤ℤ_refl; is = λ a b. ⊎_swap (min_is a b) }

pub le-max_l : (a b : ℤ) → a ≤ℤ max_ℤ a b
le-max_l = later_l max_picks

pub le-max_r : (a b : ℤ) → b ≤ℤ max_ℤ a b
le-max_r = later_r max_picks

pub max-le : {a b k : ℤ} → a ≤ℤ k → b ≤ℤ k → max_ℤ a b ≤ℤ k
max-le {a} {b} {k} h l = picked max_picks (λ (z : ℤ). z ≤ℤ k) a b h l

pub min-le_l : (a b : ℤ) → min_ℤ a b ≤ℤ a
min-le_l = later_l min_picks

pub min-le_r : (a b : ℤ) → min_ℤ a b ≤ℤ b
min-le_r = later_r min_picks

pub le-min : {a b k : ℤ} → k ≤ℤ a → k ≤ℤ b → k ≤ℤ min_ℤ a b
le-min {a} {b} {k} h l = picked min_picks (λ (z : ℤ). k ≤ℤ z) a b h l

pub max_mono : {a b c d : ℤ} → a ≤ℤ c → b ≤ℤ d → max_ℤ a b ≤ℤ max_ℤ c d
max_mono {c = c} {d = d} h k = max-le (≤ℤ_trans h (le-max_l c d)) (≤ℤ_trans k (le-max_r c d))

pub min_mono : {a b c d : ℤ} → a ≤ℤ c → b ≤ℤ d → min_ℤ a b ≤ℤ min_ℤ c d
min_mono {a} {b} h k = le-min (≤ℤ_trans (min-le_l a b) h) (≤ℤ_trans (min-le_r a b) k)

-- ---- natural numbers, and sizes

pub pos-max : (a b : ℕ) → max_ℤ (pos a) (pos b) ≡ pos (max a b)
pos-max a b = elim (max_is (pos a) (pos b)) [
  | inl h ↦ h.1 ∙ ap pos (sym (max-eq_right (pos_reflect h.0)))
  | inr h ↦ h.1 ∙ ap pos (sym (max-eq_left (pos_reflect h.0)))
]

pub pos-min : (a b : ℕ) → min_ℤ (pos a) (pos b) ≡ pos (min a b)
pos-min a b = elim (min_is (pos a) (pos b)) [
  | inl h ↦ h.1 ∙ ap pos (sym (min-eq_left (pos_reflect h.0)))
  | inr h ↦ h.1 ∙ ap pos (sym (min-eq_right (pos_reflect h.0)))
]

nat_abs_picked : {R : ℤ → ℤ → Type 0} {f : ℤ → ℤ → ℤ} → Picks R f → (a b : ℤ) → nat_abs (f a b) ≤ max (nat_abs a) (nat_abs b)
nat_abs_picked p a b =
    picked p (λ (z : ℤ). nat_abs z ≤ max (nat_abs a) (nat_abs b)) a b (le-max_left (nat_abs a) (nat_abs b)) (le-max_right (nat_abs a) (nat_abs b))

pub nat_abs-max : (a b : ℤ) → nat_abs (max_ℤ a b) ≤ max (nat_abs a) (nat_abs b)
nat_abs-max = nat_abs_picked max_picks

pub nat_abs-min : (a b : ℤ) → nat_abs (min_ℤ a b) ≤ max (nat_abs a) (nat_abs b)
nat_abs-min = nat_abs_picked min_picks
