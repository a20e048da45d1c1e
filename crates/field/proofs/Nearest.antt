-- The farthest and the nearest place of a span, for any squared distance D n d = dist e m a n d: the farthest is an end, the nearest is the foot of
-- the perpendicular where that is strictly inside, and else an end. a may be 0: then the foot is not inside.
-- `nearest … .is x` says that no place x is nearer, and `.q_is R` that `high_q` is worked out from there.
use mathlib.Core.Path.{◌≡◌, refl, sym, ◌∙◌, ap, ap₂, subst}
use mathlib.Core.Logic.{◌⊎◌, inl, inr}
use mathlib.Core.Bool.{Bool, true, false, cond, ◌&&◌}
use Prim.Native.Nat.{ℕ, ◌-◌, ◌*◌, ◌/◌, ◌≤◌, ◌<◌, min, max}
use native.Mathlib.Nat.{le_trans, le_of_eq, le_antisymm, mul_comm, mul-pos, mul-le-mul_left, mul-le-mul_right}
use native.Mathlib.Omega.{arith}
use lib.IntN.{ℤ, pos, neg_ℤ, nat_abs, ◌-ℤ◌, ◌*ℤ◌}
use lib.Signed.{lt_z, ◌≤ℤ◌, ◌<ℤ◌, clash_ℤ}
use Rattle.exact.specs.Distance.{dist}
use Rattle.exact.specs.Rounding.{ceil}
use Rattle.exact.proofs.Ring.{◌⊕◌, ◌⊖◌, ⊝◌, ◌⊗◌, ◌≔◌, ring}
use Rattle.exact.proofs.Order.{nn_pos, sub_nn, <ℤ-le, <ℤ_trans, le_or_lt, pos_inj, pos_reflect}
use Rattle.exact.proofs.Absolute.{pos-nat_abs-neg}
use Rattle.exact.proofs.Tests.{lt_z_true, lt_z_false}
use Rattle.exact.proofs.Certificates.{◌≦◌by◌, le, nn}
use Rattle.exact.proofs.Naturals.{≤-total, sub-mul}
use Rattle.exact.proofs.Rounding.{ceil_mono}
use Rattle.exact.proofs.Distance.{FootOutside, dist_max_ℕ, dist_min_ℕ, dist_foot_ℕ, dist_foot_met}
use Rattle.field.specs.declared.Span.{Span}
use Rattle.field.specs.Ray.{Ordered, Place}
use Rattle.field.specs.declared.Prepared.{Prepared}
use Rattle.field.specs.Bounds.{foot_inside, low_q, high_q}
use Rattle.field.proofs.Quotients.{span_positive}

-- ---- the ends as places

pub first : {s : Span} → Ordered s → Place s
first {s} o = record {
  n = s.from;
  m = s.ticks;
  proper = o.ticks_low;
  after = le_of_eq (mul_comm s.from s.ticks);
  before = le_trans (le_of_eq (mul_comm s.ticks s.from)) (mul-le-mul_right s.ticks o.order);
}

pub last : {s : Span} → Ordered s → Place s
last {s} o = record {
  n = s.to;
  m = s.ticks;
  proper = o.ticks_low;
  after = le_trans (mul-le-mul_right s.ticks o.order) (le_of_eq (mul_comm s.to s.ticks));
  before = le_of_eq (mul_comm s.ticks s.to);
}

-- ---- the two places; the square of a place x is that of its denominator

abbrev pub sq : {s : Span} → Place s → ℕ
sq x = x.m * x.m

pub record Farthest (D : ℕ → ℕ → ℕ) (s : Span) : Type 0 where
  pub place : Place s
  pub is : (x : Place s) → D x.n x.m * sq place ≤ D place.n place.m * sq x
  pub q_is : (R : ℕ) → low_q (R * (s.ticks * s.ticks)) (max (D s.from s.ticks) (D s.to s.ticks))
      ≡ 65536 * (R * sq place - D place.n place.m) / (R * sq place)

pub record Nearest (p : Prepared) (A N : ℕ) (D : ℕ → ℕ → ℕ) (s : Span) : Type 0 where
  pub place : Place s
  pub is : (x : Place s) → D place.n place.m * sq x ≤ D x.n x.m * sq place
  pub q_is : (R : ℕ) → 0 < R
      → cond (foot_inside (pos A) p s) (high_q (R * A) N) (high_q (R * (s.ticks * s.ticks)) (min (D s.from s.ticks) (D s.to s.ticks)))
      ≡ ceil (65536 * (R * sq place - D place.n place.m)) (R * sq place)

-- ---- the fraction at the foot: N/a is N a/a²

ratio : (A R N : ℕ) → (R * A - N) * (R * (A * A)) ≡ (R * (A * A) - N * A) * (R * A)
ratio A R N =
    pos_inj (ring 3 (λ R x A. x ⊗ (R ⊗ (A ⊗ A)) ≔ x ⊗ A ⊗ (R ⊗ A)) tt (pos R) (pos (R * A - N)) (pos A))
    ∙ ap (λ (x : ℕ). x * (R * A)) (sub-mul (R * A) N A
    ∙ ap (λ (x : ℕ). x - N * A) (pos_inj (ring 2 (λ R A. R ⊗ A ⊗ A ≔ R ⊗ (A ⊗ A)) tt (pos R) (pos A))))

high_ratio : (A R : ℕ) → 0 < A → 0 < R → (N x : ℕ) → x ≡ N * A → high_q (R * A) N ≡ ceil (65536 * (R * (A * A) - x)) (R * (A * A))
unfolding high_q
high_ratio A R hA hR N x hx =
    le_antisymm
    (ceil_mono 65536 (R * A - N) (R * A) (R * (A * A) - x) (R * (A * A)) (mul-pos hR hA) (mul-pos hR (mul-pos hA hA)) (le_of_eq eq))
    (ceil_mono 65536 (R * (A * A) - x) (R * (A * A)) (R * A - N) (R * A) (mul-pos hR (mul-pos hA hA)) (mul-pos hR hA) (le_of_eq (sym eq)))
  where
    eq : (R * A - N) * (R * (A * A)) ≡ (R * (A * A) - x) * (R * A)
    eq = rw hx (ratio A R N)

foot_scale : (A N k x : ℕ) → N * k ≤ A * x → N * A * k ≤ x * (A * A)
foot_scale A N k x h =
    le_trans (le_of_eq (pos_inj (ring 3 (λ N k A. N ⊗ A ⊗ k ≔ A ⊗ (N ⊗ k)) tt (pos N) (pos k) (pos A))))
    (le_trans (mul-le-mul_left A h) (le_of_eq (pos_inj (ring 2 (λ x A. A ⊗ (A ⊗ x) ≔ x ⊗ (A ⊗ A)) tt (pos x) (pos A)))))

module _ (p : Prepared) (A N : ℕ) (D : ℕ → ℕ → ℕ) (D_is : (n d : ℕ) → pos (D n d) ≡ dist p.e p.m (pos A) (pos n) (pos d))
    (N_is : pos N ≡ p.e *ℤ pos A -ℤ p.m *ℤ p.m) (s : Span) (o : Ordered s) where
  abbrev m : ℤ
  m = p.m

  abbrev i : ℕ
  i = s.from

  abbrev j : ℕ
  j = s.to

  abbrev T : ℕ
  T = s.ticks

  -- ---- the farthest

  ends_max : (x : Place s) → D x.n x.m * (T * T) ≤ max (D i T) (D j T) * sq x
  ends_max x =
      rw (mul_comm (D x.n x.m) (T * T), mul_comm (max (D i T) (D j T)) (sq x))
      (dist_max_ℕ p.e m (pos A) i j T x.n x.m (D i T) (D j T) (D x.n x.m) (nn_pos A)
      (D_is i T) (D_is j T) (D_is x.n x.m) x.after x.before)

  low_at : (t : ℕ) → max (D i T) (D j T) ≡ D t T → (R : ℕ)
      → low_q (R * (T * T)) (max (D i T) (D j T)) ≡ 65536 * (R * (T * T) - D t T) / (R * (T * T))
  unfolding low_q
  low_at t h R = ap (λ (x : ℕ). 65536 * (R * (T * T) - x) / (R * (T * T))) h

  pub farthest : Farthest D s
  unfolding first last
  farthest = go (≤-total (D i T) (D j T))
    where
      left : (x y : ℕ) → y ≤ x → max x y ≡ x
      left x y h = omega arith

      right : (x y : ℕ) → x ≤ y → max x y ≡ y
      right x y h = omega arith

      go : (D i T ≤ D j T) ⊎ (D j T ≤ D i T) → Farthest D s
      go (inl h) = record {
        place = last o;
        is = λ x. subst (λ (k : ℕ). D x.n x.m * (T * T) ≤ k * sq x) (right (D i T) (D j T) h) (ends_max x);
        q_is = low_at j (right (D i T) (D j T) h);
      }
      go (inr h) = record {
        place = first o;
        is = λ x. subst (λ (k : ℕ). D x.n x.m * (T * T) ≤ k * sq x) (left (D i T) (D j T) h) (ends_max x);
        q_is = low_at i (left (D i T) (D j T) h);
      }

  -- ---- the nearest, where the foot is not strictly inside: an end

  ends_min : FootOutside m (pos A) (pos i) (pos j) (pos T) → (x : Place s) → min (D i T) (D j T) * sq x ≤ D x.n x.m * (T * T)
  ends_min out x =
      rw (mul_comm (min (D i T) (D j T)) (sq x), mul_comm (D x.n x.m) (T * T))
      (dist_min_ℕ p.e m (pos A) i j T x.n x.m (D i T) (D j T) (D x.n x.m) (nn_pos A)
      (D_is i T) (D_is j T) (D_is x.n x.m) x.after x.before out)

  abbrev Near : ℕ → ℕ
  Near R = cond (foot_inside (pos A) p s) (high_q (R * A) N) (high_q (R * (T * T)) (min (D i T) (D j T)))

  abbrev AtEnd : Type 0
  AtEnd = (R : ℕ) → Near R ≡ high_q (R * (T * T)) (min (D i T) (D j T))

  high_at : AtEnd → (t : ℕ) → min (D i T) (D j T) ≡ D t T → (R : ℕ) → 0 < R → Near R ≡ ceil (65536 * (R * (T * T) - D t T)) (R * (T * T))
  unfolding high_q
  high_at q t h R hR = q R ∙ ap (λ (x : ℕ). ceil (65536 * (R * (T * T) - x)) (R * (T * T))) h

  at_end : FootOutside m (pos A) (pos i) (pos j) (pos T) → AtEnd → Nearest p A N D s
  unfolding first last
  at_end out q = go (≤-total (D i T) (D j T))
    where
      left : (x y : ℕ) → x ≤ y → min x y ≡ x
      left x y h = omega arith

      right : (x y : ℕ) → y ≤ x → min x y ≡ y
      right x y h = omega arith

      go : (D i T ≤ D j T) ⊎ (D j T ≤ D i T) → Nearest p A N D s
      go (inl h) = record {
        place = first o;
        is = λ x. subst (λ (k : ℕ). k * sq x ≤ D x.n x.m * (T * T)) (left (D i T) (D j T) h) (ends_min out x);
        q_is = high_at q i (left (D i T) (D j T) h);
      }
      go (inr h) = record {
        place = last o;
        is = λ x. subst (λ (k : ℕ). k * sq x ≤ D x.n x.m * (T * T)) (right (D i T) (D j T) h) (ends_min out x);
        q_is = high_at q j (right (D i T) (D j T) h);
      }

  -- ---- where it is strictly inside: the place −m/a

  abbrev foot : ℤ
  foot = neg_ℤ (m *ℤ pos T)

  below : (pos i *ℤ pos A) <ℤ foot → neg_ℤ m ≡ pos (nat_abs m)
  below h = elim (le_or_lt (pos 0) m) [
    | inl k ↦ clash_ℤ h (le 4 (λ m T A i. ⊝ (m ⊗ T) ≦ i ⊗ A by i ⊗ A ⊕ m ⊗ T) tt m (pos T) (pos A) (pos i) (search nn))
    | inr k ↦ sym (pos-nat_abs-neg (<ℤ-le k))
  ]

  a_pos : (pos i *ℤ pos A) <ℤ foot → foot <ℤ (pos j *ℤ pos A) → 0 < A
  a_pos h k = span_positive i j (pos A) (<ℤ_trans h k)

  foot_place : (pos i *ℤ pos A) <ℤ foot → foot <ℤ (pos j *ℤ pos A) → Place s
  foot_place h k = record {
    n = nat_abs m;
    m = A;
    proper = a_pos h k;
    after = pos_reflect (subst (λ (x : ℤ). (pos i *ℤ pos A) ≤ℤ (pos T *ℤ x)) (below h)
        (le 4 (λ m T A i. i ⊗ A ≦ T ⊗ (⊝ m) by ⊝ (m ⊗ T) ⊖ i ⊗ A) tt m (pos T) (pos A) (pos i) (sub_nn (<ℤ-le h))));
    before = pos_reflect (subst (λ (x : ℤ). (pos T *ℤ x) ≤ℤ (pos j *ℤ pos A)) (below h)
        (le 4 (λ m T A j. T ⊗ (⊝ m) ≦ j ⊗ A by j ⊗ A ⊖ ⊝ (m ⊗ T)) tt m (pos T) (pos A) (pos j) (sub_nn (<ℤ-le k))));
  }

  foot_met : (pos i *ℤ pos A) <ℤ foot → D (nat_abs m) A ≡ N * A
  foot_met h =
      pos_inj (D_is (nat_abs m) A
      ∙ ap (λ (x : ℤ). dist p.e m (pos A) x (pos A)) (sym (below h))
      ∙ dist_foot_met p.e m (pos A)
      ∙ ap (λ (x : ℤ). x *ℤ pos A) (sym N_is))

  at_foot : (pos i *ℤ pos A) <ℤ foot → foot <ℤ (pos j *ℤ pos A) → ((R : ℕ) → Near R ≡ high_q (R * A) N) → Nearest p A N D s
  unfolding foot_place
  at_foot h k q = record {
    place = foot_place h k;
    is = λ x. subst (λ (z : ℕ). z * sq x ≤ D x.n x.m * (A * A)) (sym (foot_met h))
        (foot_scale A N (sq x) (D x.n x.m) (dist_foot_ℕ p.e m A x.n x.m (D x.n x.m) N (D_is x.n x.m) N_is));
    q_is = λ R hR. q R ∙ high_ratio A R (a_pos h k) hR N (D (nat_abs m) A) (foot_met h);
  }

  pub nearest : Nearest p A N D s
  unfolding foot_inside
  nearest = go (lt_z (pos i *ℤ pos A) foot) (lt_z foot (pos j *ℤ pos A)) refl refl
    where
      on : (b c : Bool) → lt_z (pos i *ℤ pos A) foot ≡ b → lt_z foot (pos j *ℤ pos A) ≡ c → (R : ℕ)
          → Near R ≡ cond (b && c) (high_q (R * A) N) (high_q (R * (T * T)) (min (D i T) (D j T)))
      on b c h k R = ap₂ (λ (b c : Bool). cond (b && c) (high_q (R * A) N) (high_q (R * (T * T)) (min (D i T) (D j T)))) h k

      go : (b c : Bool) → lt_z (pos i *ℤ pos A) foot ≡ b → lt_z foot (pos j *ℤ pos A) ≡ c → Nearest p A N D s
      go true true h k = at_foot (lt_z_true (pos i *ℤ pos A) foot h) (lt_z_true foot (pos j *ℤ pos A) k) (on true true h k)
      go true false h k = at_end (inr (lt_z_false foot (pos j *ℤ pos A) k)) (on true false h k)
      go false c h k = at_end (inl (lt_z_false (pos i *ℤ pos A) foot h)) (on false c h k)
