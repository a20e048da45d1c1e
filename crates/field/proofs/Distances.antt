-- The numbers e, m and a of a ray and a point, from the coordinates: the squared distance at a place is a sum of three squares, and so is the
-- foot's, so neither is negative (`nonneg`). `distance_is ray p n m : distance_at (ray_square ray) (prepare ray p) n m ≡ squared_distance ray p n m`.
use mathlib.Core.Path.{◌≡◌, sym, ◌∙◌, ap, subst}
use Prim.Native.Nat.{ℕ, ◌≤◌}
use lib.IntN.{ℤ, pos, nat_abs, ◌-ℤ◌, ◌*ℤ◌}
use lib.Signed.{◌≤ℤ◌}
use Rattle.exact.specs.Distance.{dist}
use Rattle.exact.proofs.Tests.{positive_small}
use Rattle.exact.proofs.Absolute.{pos-nat_abs_nn}
use Rattle.exact.proofs.Vector.{nn_square3}
use Rattle.exact.proofs.Distance.{dist_squares, foot_squares}
use Rattle.record.specs.declared.Node.{Node}
use Rattle.record.specs.Ranges.{PointRanges}
use Rattle.field.specs.Vectors.{Ray}
use Rattle.field.specs.Vectors.{Offset}
use Rattle.field.specs.declared.Prepared.{Prepared}
use Rattle.field.specs.Ray.{inner, radius, to_start, direction, from_centre, squared_distance}
use Rattle.field.specs.Bounds.{ray_square, prepare, NonNegative, distance_at, foot_distance}

inner_nn : (u : Offset) → pos 0 ≤ℤ inner u u
inner_nn u = nn_square3 u.x u.y u.z

pub radius-pos : {p : Node} → PointRanges p → 1 ≤ radius p
radius-pos h = (positive_small h.radius_low h.radius_high).0

-- ---- of any numbers whose squared distances are not negative

module _ {a : ℤ} (p : Prepared) (nn : NonNegative p.e p.m a) where
  pub square_is : pos (nat_abs a) ≡ a
  square_is = pos-nat_abs_nn nn.a_nn

  pub at_is : (n d : ℕ) → pos (distance_at a p n d) ≡ dist p.e p.m (pos (nat_abs a)) (pos n) (pos d)
  unfolding distance_at
  at_is n d = pos-nat_abs_nn (nn.dist_nn n d) ∙ ap (λ (z : ℤ). dist p.e p.m z (pos n) (pos d)) (sym square_is)

  pub foot_is : pos (foot_distance a p) ≡ p.e *ℤ pos (nat_abs a) -ℤ p.m *ℤ p.m
  unfolding foot_distance
  foot_is = pos-nat_abs_nn nn.foot_nn ∙ ap (λ (z : ℤ). p.e *ℤ z -ℤ p.m *ℤ p.m) (sym square_is)

-- ---- of a ray and a point

module _ (ray : Ray) (p : Node) where
  abbrev e : ℤ
  e = (prepare ray p).e

  abbrev m : ℤ
  m = (prepare ray p).m

  abbrev a : ℤ
  a = ray_square ray

  -- |m (A − c) + n (B − A)|²
  squares : (n d : ℕ) → dist e m a (pos n) (pos d) ≡ inner (from_centre ray p n d) (from_centre ray p n d)
  unfolding prepare ray_square
  squares n d =
      let u = to_start ray p in
      let v = direction ray in
      dist_squares u.x u.y u.z v.x v.y v.z (pos n) (pos d)

  pub nonneg : NonNegative e m a
  unfolding prepare ray_square
  nonneg =
      let u = to_start ray p in
      let v = direction ray in
      record {
        a_nn = inner_nn v;
        dist_nn = λ n d. subst (λ (z : ℤ). pos 0 ≤ℤ z) (sym (squares n d)) (inner_nn (from_centre ray p n d));
        foot_nn = subst (λ (z : ℤ). pos 0 ≤ℤ z) (sym (foot_squares u.x u.y u.z v.x v.y v.z))
            (nn_square3 (u.x *ℤ v.y -ℤ u.y *ℤ v.x) (u.x *ℤ v.z -ℤ u.z *ℤ v.x) (u.y *ℤ v.z -ℤ u.z *ℤ v.y));
      }

  pub distance_is : (n d : ℕ) → distance_at a (prepare ray p) n d ≡ squared_distance ray p n d
  unfolding distance_at squared_distance
  distance_is n d = ap nat_abs (squares n d)

  pub squared_sum : (n d : ℕ) → pos (squared_distance ray p n d) ≡ inner (from_centre ray p n d) (from_centre ray p n d)
  unfolding squared_distance
  squared_sum n d = pos-nat_abs_nn (inner_nn (from_centre ray p n d))
