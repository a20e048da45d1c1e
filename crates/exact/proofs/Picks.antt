-- The one of two that comes later in an order: the greater by "at most", the lesser by "at least". What is so of both is said once, here.
-- `later_l p a b : R a (pick a b)`, from `p : Picks R pick`.
use mathlib.Core.Path.{◌≡◌}
use mathlib.Core.Logic.{◌⊎◌, inl, inr}
use lib.IntN.{ℤ}
use lib.Signed.{◌≤ℤ◌}

-- `pick a b` is the later of a and b in the order R
pub record Picks {X : Type 0} (R : X → X → Type 0) (pick : X → X → X) : Type 0 where
  pub same : (a : X) → R a a
  pub is : (a b : X) → (R a b × (pick a b ≡ b)) ⊎ (R b a × (pick a b ≡ a))

module _ {X : Type 0} {R : X → X → Type 0} {pick : X → X → X} (p : Picks R pick) where
  -- what both have, it has
  pub picked : (Q : X → Type 0) (a b : X) → Q a → Q b → Q (pick a b)
  picked Q a b h k = elim (p.is a b) [ inl e ↦ rw e.1 k | inr e ↦ rw e.1 h ]

  -- it is no earlier than each
  pub later_l : (a b : X) → R a (pick a b)
  later_l a b = elim (p.is a b) [ inl e ↦ rw e.1 e.0 | inr e ↦ rw e.1 (p.same a) ]

  pub later_r : (a b : X) → R b (pick a b)
  later_r a b = elim (p.is a b) [ inl e ↦ rw e.1 (p.same b) | inr e ↦ rw e.1 e.0 ]

  -- a distance that falls as its second end comes later: between two picks it is at most that of one of the pairs
  pub spread : (D : X → X → ℤ) → ((x y z : X) → R y z → D x z ≤ℤ D x y) → (a b c d : X)
      → (D (pick a b) (pick c d) ≤ℤ D a c) ⊎ (D (pick a b) (pick c d) ≤ℤ D b d)
  spread D falls a b c d = elim (p.is a b) [
    | inl e ↦ rw e.1 (inr (falls b d (pick c d) (later_r c d)))
    | inr e ↦ rw e.1 (inl (falls a c (pick c d) (later_l c d)))
  ]

-- carried to another order: the pick's image is the images' pick, each no earlier than the other
module _ {X Y : Type 0} {R : X → X → Type 0} {S : Y → Y → Type 0} {f : X → X → X} {g : Y → Y → Y} (p : Picks R f) (q : Picks S g)
    (e : X → Y) (up : (a b : X) → R a b → S (e a) (e b)) where
  pub carried : (a b : X) → S (e (f a b)) (g (e a) (e b)) × S (g (e a) (e b)) (e (f a b))
  carried a b = (
    picked p (λ (z : X). S (e z) (g (e a) (e b))) a b (later_l q (e a) (e b)) (later_r q (e a) (e b)),
    picked q (λ (z : Y). S z (e (f a b))) (e a) (e b) (up a (f a b) (later_l p a b)) (up b (f a b) (later_r p a b)),
  )
