-- For each tick h of 2^k there is a state in which the first hit is at h and takes 2 h + 1 + k probes less the ones among h's binary digits
-- (`worst`), which `hit_costs` (proofs/Cost) says is the most: every span is undecided but the ticks before h, each of which is empty. At h = 0 it
-- is 1 + k.
use Prim.Native.Nat.{ℕ, zero, suc, ◌+◌, ◌*◌, ◌-◌, ◌^◌, ◌≤◌, ◌<◌}
use mathlib.Core.Path.{◌≡◌, refl, sym, ap, ap₂, subst, ◌∙◌}
use mathlib.Core.Bool.{cond}
use native.Mathlib.Omega.{arith, pow_step}
use native.Mathlib.Decide.{ℕ_discrete, dec_lt}
use lib.Dec.{ltb, eqb}
use lib.Pow.{pow_pos}
use borrow.Author.Tests.{lt-ltb, le-ltb, ne_eqb}
use Rattle.halving.specs.declared.FirstHit.TheVariants.{Hit, Clear}
use Rattle.halving.specs.Halving.{Nested}
use Rattle.halving.specs.FirstHit.{hit}
use Rattle.halving.proofs.FirstHits.{hit-finished, hit_split}
use Rattle.halving.proofs.Cost.{ones, ones_left, ones_right, ones_zero}

-- ticks before tick h are empty; the others, and every longer span, are crossing
unfoldable pub empty_before : ℕ → ℕ → ℕ → ℕ
empty_before h i n = cond (eqb n 1) (cond (ltb i h) 0 1) 1

-- as of a ray, a decided span decides each of its ticks alike
pub before_nested : (h : ℕ) → Nested (empty_before h)
unfolding empty_before
before_nested h i n j decided from before = elim (ℕ_discrete n 1) [
  | yes one ↦ ap₂ (empty_before h) (omega arith) (sym one)
  | no longer ↦ absurd (decided (rw (ne_eqb n 1 longer)))
]

module _ (h b : ℕ) where
  longer : (k i : ℕ) → empty_before h i (2 ^ suc k) ≡ 1
  unfolding empty_before
  longer k i = rw (ne_eqb (2 ^ suc k) 1 (λ e. omega (arith, e, pow_step 2 k, pow_pos k)))

  before_empty : (i : ℕ) → i < h → empty_before h i 1 ≡ 0
  unfolding empty_before
  before_empty i l = rw (lt-ltb i h l)

  itself : empty_before h h 1 ≡ 1
  unfolding empty_before
  itself = rw (le-ltb h h (omega arith))

  -- a span before tick h takes every probe that there is
  clear : (k i m : ℕ) → i + 2 ^ k ≤ h → m + 2 ^ suc k ≤ suc b → hit (empty_before h) b k i m ≡ Clear (m + (2 ^ suc k - 1))
  clear zero i m l few =
      hit-finished (empty_before h) b zero i m (omega arith) (λ e. refl) ∙ rw (before_empty i (omega arith))
  clear (suc k) i m l few =
      let all = 2 ^ suc k - 1 in
      hit_split (empty_before h) b k i m (omega (arith, pow_step 2 (suc k), pow_pos (suc k))) (longer k i)
      ∙ rw (
        clear k i (m + 1) (omega (arith, pow_step 2 k)) (omega (arith, pow_step 2 (suc k), pow_pos (suc k))),
        clear k (i + 2 ^ k) (m + 1 + all) (omega (arith, pow_step 2 k)) (omega (arith, pow_step 2 (suc k), pow_pos (suc k))),
      )
      (ap (λ (p : ℕ). Clear p) (omega (arith, pow_step 2 (suc k), pow_pos (suc k))))

  -- of 2^k ticks from tick i on, with m probes made before, tick h is the one r ticks after the first
  abbrev Takes : ℕ → ℕ → ℕ → ℕ → Type 0
  Takes k i r m = (p : ℕ) × (hit (empty_before h) b k i m ≡ Hit h 1 p) × (p + ones k r ≡ m + 2 * r + 1 + k)

  in_left : (k i r m : ℕ) → m < b → r < 2 ^ k → Takes k i r (m + 1) → Takes (suc k) i r m
  in_left k i r m few l (p, e, is) =
      (p, hit_split (empty_before h) b k i m few (longer k i) ∙ rw e, omega (arith, ones_left k r l))

  in_right : (k i r m : ℕ) → m + 2 ^ suc k < b → i + 2 ^ k ≤ h → Takes k (i + 2 ^ k) r (m + 1 + (2 ^ suc k - 1)) → Takes (suc k) i (2 ^ k + r) m
  in_right k i r m few l (p, e, is) = (
    p,
    hit_split (empty_before h) b k i m (omega arith) (longer k i) ∙ rw (clear k i (m + 1) l (omega arith), e),
    omega (arith, ones_right k r, pow_step 2 k, pow_pos k),
  )

  takes : (k i r m : ℕ) → i + r ≡ h → r < 2 ^ k → m + 2 * r + 1 + k ≤ b → Takes k i r m
  takes zero i r m at l few =
      let same : i ≡ h = omega arith in
      let none : ones 0 r ≡ 0 = ap (ones 0) (omega arith) ∙ ones_zero 0 in
      (m + 1, hit-finished (empty_before h) b zero i m (omega arith) (λ e. refl) ∙ rw (same, itself), omega (arith, none))
  takes (suc k) i r m at l few = elim (dec_lt r (2 ^ k)) [
    | yes left ↦ in_left k i r m (omega arith) left (takes k i r (m + 1) at left (omega arith))
    | no right ↦
        let q = r - 2 ^ k in
        let made = m + 1 + (2 ^ suc k - 1) in
        let rest = takes k (i + 2 ^ k) q made (omega arith) (omega (arith, pow_step 2 k)) (omega (arith, pow_step 2 k, pow_pos k)) in
        subst (λ (r : ℕ). Takes (suc k) i r m) (omega arith) (in_right k i q m (omega (arith, pow_step 2 k)) (omega arith) rest)
  ]

-- with any budget that is enough
pub worst : (k h b : ℕ) → h < 2 ^ k → 2 * h + 1 + k ≤ b
    → (p : ℕ) × (hit (empty_before h) b k 0 0 ≡ Hit h 1 p) × (p + ones k h ≡ 2 * h + 1 + k)
worst k h b l few = let f = takes h b k 0 h 0 (omega arith) l (omega arith) in (f.0, f.1, omega (arith, f.2))
