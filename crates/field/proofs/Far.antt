-- A point that a span does not come within the radius of has bounds (0, 0) on every span within it (`far_inside`): a place of the inner span is one
-- of the outer. And where the foot is strictly inside the inner span, it is strictly inside the outer one (`foot_widen`).
use mathlib.Core.Path.{◌≡◌, refl, sym, subst, ◌∙◌}
use mathlib.Core.Logic.{inl, inr}
use mathlib.Core.Bool.{Bool, true, false, cond, false≢true}
use native.Mathlib.Nat.{mul-pos}
use lib.IntN.{ℤ, pos, neg_ℤ, ◌*ℤ◌}
use lib.Signed.{lt_z, ◌<ℤ◌, ◌≤ℤ◌, clash_ℤ}
use Rattle.exact.proofs.Ring.{◌⊗◌, ⊝◌, #, ◌≔◌, ring}
use Rattle.exact.proofs.Order.{≤ℤ_of_eq, ≤ℤ_trans, ≤ℤ-<ℤ_trans, le_or_lt, nn_pos, mul_mono_r, mul_mono_lt, pos_mono, pos_mono_lt}
use Rattle.exact.proofs.Tests.{both_true, true_both, lt_z_true, lt-lt_z}
use Rattle.record.specs.declared.Node.{Node}
use Rattle.record.specs.Ranges.{PointRanges}
use Rattle.field.specs.Vectors.{Ray}
use Rattle.field.specs.declared.Span.{Span}
use Rattle.field.specs.declared.Prepared.{Prepared}
use Rattle.field.specs.Ray.{Ordered, Inside}
use Rattle.field.specs.Kernel.{Kernel}
use Rattle.field.specs.Bounds.{ray_square, prepare, foot_inside, weighted, point_bounds, no_bounds}
use Rattle.field.specs.Lawful.{Lawful}
use Rattle.field.specs.Reach.{reaches}
use Rattle.field.proofs.Distances.{radius-pos, nonneg}
use Rattle.field.proofs.Reach.{out_of_reach, reaches-exactly}
use Rattle.field.proofs.Nested.{widen}

-- ---- bounds of sizes 0

pub weighted_none : (w : ℤ) → weighted w 0 0 ≡ no_bounds
unfolding weighted
weighted_none w = by (lt_z w (pos 0))
  where
    z : w *ℤ pos 0 ≡ pos 0
    z = ring 1 (λ w. w ⊗ # 0 ≔ # 0) tt w

    by : (b : Bool) → cond b (record { low = w *ℤ pos 0; high = w *ℤ pos 0 }) (record { low = w *ℤ pos 0; high = w *ℤ pos 0 }) ≡ no_bounds
    by true = λ i. record { low = z i; high = z i }
    by false = λ i. record { low = z i; high = z i }

-- ---- a point out of reach

module _ (ray : Ray) (p : Node) (ranges : PointRanges p) {t s : Span} (ot : Ordered t) (os : Ordered s) (w : Inside t s) where
  abbrev a : ℤ
  a = ray_square ray

  abbrev q : Prepared
  q = prepare ray p

  -- out of reach of the outer span, it is out of reach of the inner one
  far_reach : reaches a q s ≡ false → reaches a q t ≡ false
  unfolding widen
  far_reach e = by (reaches a q t) refl
    where
      by : (b : Bool) → reaches a q t ≡ b → b ≡ false
      by true h =
          let x = (reaches-exactly ray p t (radius-pos ranges) ot).0 h in
          let far = (reaches-exactly ray p s (radius-pos ranges) os).1 (record { place = widen ot.ticks_low w x.place; nearer = x.nearer }) in
          absurd (false≢true (sym e ∙ far))
      by false h = refl

  pub far_inside : (k : Kernel) → Lawful k → reaches a q s ≡ false → point_bounds k a t q ≡ no_bounds
  unfolding point_bounds prepare
  far_inside k law e =
      let r = radius-pos ranges in
      let z = out_of_reach a q t (mul-pos r r) ot.ticks_low (nonneg ray p) (far_reach e) in
      rw (z.0, z.1, law.none.0, law.none.1) (weighted_none p.weight)

-- ---- the foot

cancel_lt : {x y c : ℤ} → pos 0 ≤ℤ c → (x *ℤ c) <ℤ (y *ℤ c) → x <ℤ y
cancel_lt {x} {y} {c} n h = elim (le_or_lt y x) [ inl l ↦ absurd (clash_ℤ h (mul_mono_r l n)) | inr l ↦ l ]

<ℤ_≤ℤ_trans : {x y z : ℤ} → x <ℤ y → y ≤ℤ z → x <ℤ z
<ℤ_≤ℤ_trans {x} {y} {z} h k = elim (le_or_lt z x) [ inl l ↦ absurd (clash_ℤ h (≤ℤ_trans k l)) | inr l ↦ l ]

module _ (a : ℤ) (nn : pos 0 ≤ℤ a) (p : Prepared) {t s : Span} (ot : Ordered t) (os : Ordered s) (w : Inside t s) where
  abbrev foot : Span → ℤ
  foot s = neg_ℤ (p.m *ℤ pos s.ticks)

  swap : (x y z : ℤ) → x *ℤ y *ℤ z ≡ x *ℤ z *ℤ y
  swap = ring 3 (λ x y z. x ⊗ y ⊗ z ≔ x ⊗ z ⊗ y) tt

  -- the foot, by the ticks of both
  foot_turn : foot t *ℤ pos s.ticks ≡ foot s *ℤ pos t.ticks
  foot_turn = ring 3 (λ m x y. ⊝ (m ⊗ x) ⊗ y ≔ ⊝ (m ⊗ y) ⊗ x) tt p.m (pos t.ticks) (pos s.ticks)

  ticks_nn : pos 0 ≤ℤ pos t.ticks
  ticks_nn = nn_pos t.ticks

  ticks-pos : pos 0 <ℤ pos s.ticks
  ticks-pos = pos_mono_lt os.ticks_low

  after-start : (pos t.from *ℤ a) <ℤ foot t → (pos s.from *ℤ a) <ℤ foot s
  after-start h =
      let outer : (pos s.from *ℤ a *ℤ pos t.ticks) ≤ℤ (pos t.from *ℤ a *ℤ pos s.ticks)
      = ≤ℤ_trans (≤ℤ_of_eq (swap (pos s.from) a (pos t.ticks)))
      (≤ℤ_trans (mul_mono_r (pos_mono w.from) nn) (≤ℤ_of_eq (swap (pos t.from) (pos s.ticks) a))) in
      cancel_lt ticks_nn (subst (λ (z : ℤ). (pos s.from *ℤ a *ℤ pos t.ticks) <ℤ z) foot_turn (≤ℤ-<ℤ_trans outer (mul_mono_lt h ticks-pos)))

  before_end : foot t <ℤ (pos t.to *ℤ a) → foot s <ℤ (pos s.to *ℤ a)
  before_end h =
      let outer : (pos t.to *ℤ a *ℤ pos s.ticks) ≤ℤ (pos s.to *ℤ a *ℤ pos t.ticks)
      = ≤ℤ_trans (≤ℤ_of_eq (swap (pos t.to) a (pos s.ticks)))
      (≤ℤ_trans (mul_mono_r (pos_mono w.to) nn) (≤ℤ_of_eq (swap (pos s.to) (pos t.ticks) a))) in
      cancel_lt ticks_nn (subst (λ (z : ℤ). z <ℤ (pos s.to *ℤ a *ℤ pos t.ticks)) foot_turn (<ℤ_≤ℤ_trans (mul_mono_lt h ticks-pos) outer))

  pub foot_widen : foot_inside a p t ≡ true → foot_inside a p s ≡ true
  unfolding foot_inside
  foot_widen e =
      let b = both_true (lt_z (pos t.from *ℤ a) (foot t)) (lt_z (foot t) (pos t.to *ℤ a)) e in
      true_both
      (lt-lt_z (pos s.from *ℤ a) (foot s) (after-start (lt_z_true (pos t.from *ℤ a) (foot t) b.0)))
      (lt-lt_z (foot s) (pos s.to *ℤ a) (before_end (lt_z_true (foot t) (pos t.to *ℤ a) b.1)))
