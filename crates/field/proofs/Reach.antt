-- Points in reach of a span (document 02, P3). The test is true exactly where qhi is not 0 (`reaches_high`), and so, by theorem 1, exactly where
-- some place of the span is nearer the centre than the radius (`reaches-exactly`). Where it is false, both q are 0 (`out_of_reach`). It is false
-- where the ray's whole line is farther than the radius (`line_far`).
use mathlib.Core.Path.{◌≡◌, refl, sym, ap, subst, ◌∙◌}
use mathlib.Core.Bool.{Bool, true, false, cond, ◌||◌}
use Prim.Native.Nat.{ℕ, ◌*◌, ◌-◌, ◌≤◌, ◌<◌, min, max}
use native.Mathlib.Nat.{le_trans, le_of_eq, mul-pos, mul_assoc, mul_left_comm, mul-le-mul_right, le_of_mul-le-mul_left}
use native.Mathlib.Decide.{dec_lt}
use native.Mathlib.Omega.{arith}
use borrow.Author.Tests.{ltb-true, ltb-false, lt-ltb, le-ltb}
use lib.Dec.{ltb}
use lib.IntN.{ℤ, nat_abs}
use Rattle.exact.proofs.Tests.{same_test}
use Rattle.exact.proofs.Naturals.{factor_pos}
use Rattle.exact.proofs.Rounding.{ceil_test}
use Rattle.exact.proofs.Distance.{dist_foot_ℕ}
use Rattle.record.specs.declared.Node.{Node}
use Rattle.field.specs.Vectors.{Ray}
use Rattle.field.specs.declared.Span.{Span}
use Rattle.field.specs.declared.Prepared.{Prepared}
use Rattle.field.specs.Ray.{radius, Ordered}
use Rattle.field.specs.Kernel.{u_den, u_num}
use Rattle.field.specs.Bounds.{ray_square, prepare, NonNegative, distance_at, foot_inside, foot_distance, scaled_square, high_q, qlo, qhi}
use Rattle.field.specs.Extremes.{Extremes}
use Rattle.field.specs.Reach.{reaches, InReach}
use Rattle.field.proofs.Quotients.{foot_positive, low_q_zero}
use Rattle.field.proofs.Distances.{at_is, foot_is}
use Rattle.field.proofs.Extremes.{extremes}
use Rattle.field.proofs.Between.{den_pos, high_holds}

-- ---- the test is that qhi is not 0

high_q_test : (s d : ℕ) → 0 < s → ltb 0 (high_q s d) ≡ ltb d s
unfolding high_q
high_q_test s d h =
    let n = 65536 * (s - d) in
    ceil_test n s h
    ∙ same_test (ltb 0 n) (ltb d s) (λ e. lt-ltb d s (omega (arith, ltb-true 0 n e))) (λ e. lt-ltb 0 n (omega (arith, ltb-true d s e)))

-- the lesser of two is below k where one is
lesser_test : (x y k : ℕ) → ltb (min x y) k ≡ (ltb x k || ltb y k)
lesser_test x y k = elim (dec_lt x k) [
  | yes h ↦ rw (lt-ltb x k h, lt-ltb (min x y) k (omega arith))
  | no n ↦ rw (le-ltb x k (omega (arith, n))) (elim (dec_lt y k) [
    | yes h ↦ rw (lt-ltb y k h, lt-ltb (min x y) k (omega arith))
    | no m ↦ rw (le-ltb y k (omega (arith, m)), le-ltb (min x y) k (omega (arith, n, m)))
  ])
]

module _ (a : ℤ) (p : Prepared) (s : Span) (square : 0 < nat_abs p.square) (ticks : 0 < s.ticks) where
  abbrev T : ℕ
  T = s.ticks

  abbrev i : ℕ
  i = distance_at a p s.from T

  abbrev j : ℕ
  j = distance_at a p s.to T

  abbrev A : ℕ
  A = nat_abs a

  -- the distance at the foot, times a
  abbrev N : ℕ
  N = foot_distance a p

  -- r² T²
  abbrev whole : ℕ
  whole = scaled_square p (T * T)

  whole_pos : 0 < whole
  whole_pos = mul-pos square (mul-pos ticks ticks)

  pub reaches_high : reaches a p s ≡ ltb 0 (qhi a p s)
  unfolding reaches qhi
  reaches_high = go (foot_inside a p s) refl
    where
      go : (b : Bool) → foot_inside a p s ≡ b → reaches a p s ≡ ltb 0 (qhi a p s)
      go true e = rw e (sym (high_q_test (scaled_square p A) N (mul-pos square (foot_positive a p s e))))
      go false e = rw e (sym (high_q_test whole (min i j) whole_pos ∙ lesser_test i j whole))

  -- ---- where it is false

  -- no place is nearer than the foot
  foot_nearest : NonNegative p.e p.m a → (t : ℕ) → N * (T * T) ≤ A * distance_at a p t T
  foot_nearest nn t = dist_foot_ℕ p.e p.m A t T (distance_at a p t T) N (at_is p nn t T) (foot_is p nn)

  -- so where the foot is no nearer than the radius, none is
  foot_far : NonNegative p.e p.m a → 0 < A → scaled_square p A ≤ N → (t : ℕ) → whole ≤ distance_at a p t T
  foot_far nn positive h t =
      le_of_mul-le-mul_left {k = A}
      (le_trans (le_of_eq (mul_left_comm A (nat_abs p.square) (T * T) ∙ sym (mul_assoc (nat_abs p.square) A (T * T))))
      (le_trans (mul-le-mul_right (T * T) h) (foot_nearest nn t)))
      positive

  pub out_of_reach : NonNegative p.e p.m a → reaches a p s ≡ false → (qlo a p s ≡ 0) × (qhi a p s ≡ 0)
  unfolding reaches qlo
  out_of_reach nn e =
      (low_q_zero whole (max i j) (go (foot_inside a p s) refl), let h = ltb-false 0 (qhi a p s) (sym reaches_high ∙ e) in omega (arith, h))
    where
      picked : {b : Bool} → foot_inside a p s ≡ b → cond b (ltb N (scaled_square p A)) (ltb i whole || ltb j whole) ≡ false
      picked h = subst (λ (b : Bool). cond b (ltb N (scaled_square p A)) (ltb i whole || ltb j whole) ≡ false) h e

      go : (b : Bool) → foot_inside a p s ≡ b → whole ≤ max i j
      go true h =
          le_trans (foot_far nn (foot_positive a p s h) (ltb-false N (scaled_square p A) (picked h)) s.from) (omega arith)
      go false h = let k = ltb-false (min i j) whole (lesser_test i j whole ∙ picked h) in omega (arith, k)

  -- where the foot is farther than the radius, inside or not; a is not 0 there, since N is not
  pub line_far : NonNegative p.e p.m a → scaled_square p A < N → reaches a p s ≡ false
  unfolding reaches
  line_far nn h = go (foot_inside a p s) refl
    where
      far : (t : ℕ) → whole ≤ distance_at a p t T
      far t =
          let k : 0 < N * (T * T) = mul-pos (omega (arith, h)) (mul-pos ticks ticks) in
          foot_far nn (factor_pos A (distance_at a p t T) k (foot_nearest nn t)) (omega (arith, h)) t

      go : (b : Bool) → foot_inside a p s ≡ b → reaches a p s ≡ false
      go true e = rw e (le-ltb N (scaled_square p A) (omega (arith, h)))
      go false e = rw (e, le-ltb i whole (far s.from), le-ltb j whole (far s.to))

-- ---- it is what the document says

module _ (ray : Ray) (p : Node) (s : Span) (hr : 1 ≤ radius p) (o : Ordered s) where
  ends : Extremes ray p s
  ends = extremes ray p s hr o

  abbrev high : ℕ
  high = qhi (ray_square ray) (prepare ray p) s

  -- 65536 times the numerator of the greatest u
  abbrev most : ℕ
  most = 65536 * u_num ray p ends.greatest.n ends.greatest.m

  test : reaches (ray_square ray) (prepare ray p) s ≡ ltb 0 high
  unfolding prepare
  test = reaches_high (ray_square ray) (prepare ray p) s (mul-pos hr hr) o.ticks_low

  high_test : ltb 0 high ≡ ltb 0 most
  high_test = ap (ltb 0) ends.high_is ∙ ceil_test most (u_den p ends.greatest.m) (den_pos hr ends ends.greatest)

  pub reaches-exactly : let test = reaches (ray_square ray) (prepare ray p) s in (test ≡ true → InReach ray p s) × (InReach ray p s → test ≡ true)
  reaches-exactly = (
    λ e. let h = ltb-true 0 most (sym high_test ∙ sym test ∙ e) in record { place = ends.greatest; nearer = omega (arith, h) },
    λ x. test ∙ lt-ltb 0 high (factor_pos high (u_den p x.place.m) (omega (arith, x.nearer)) (high_holds hr ends x.place)),
  )
