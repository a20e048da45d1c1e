-- Theorem 2. A span within a span has no looser bounds, for a point (`point_nested`) and for every tree (`tree_nested`); so what decides a span
-- decides each span in it (`state_nested`) and each of its ticks (`tick_nested`) alike. The two spans may count by different ticks.
use mathlib.Core.Path.{◌≡◌, sym}
use Prim.Native.Nat.{ℕ, ◌*◌, ◌≤◌, ◌<◌}
use native.Mathlib.Nat.{le_trans, le_of_eq, mul-le-mul_right, le_of_mul-le-mul_right}
use native.Mathlib.Omega.{arith}
use lib.IntN.{pos}
use Rattle.exact.proofs.Ring.{◌⊗◌, ◌≔◌, ring}
use Rattle.exact.proofs.Order.{≤ℤ_trans, ≤ℤ-<ℤ_trans, pos_inj, pos_reflect}
use Rattle.exact.proofs.Rounding.{floor_mono, ceil_mono}
use Rattle.record.specs.declared.Node.{Node}
use Rattle.record.specs.Ranges.{PointRanges}
use Rattle.field.specs.Vectors.{Ray}
use Rattle.field.specs.declared.Span.{Span}
use Rattle.field.specs.Ray.{radius, tick, Ordered, Place, Inside}
use Rattle.field.specs.Kernel.{Kernel, u_den, u_num, u}
use Rattle.field.specs.Tree.{items}
use Rattle.field.specs.Solid.{Solid, Valid}
use Rattle.field.specs.Bounds.{ray_square, prepare, qlo, qhi, point_bounds, bounding_on, no_bounds, tree_bounds, Within, Decides}
use Rattle.field.proofs.Tree.{value_related, tree_items}
use Rattle.field.proofs.Distances.{radius-pos}
use Rattle.field.specs.Lawful.{Lawful}
use Rattle.field.proofs.Extremes.{extremes}
use Rattle.field.proofs.Between.{den_pos}
use Rattle.field.proofs.Width.{tick_ordered}
use Rattle.field.proofs.Points.{point_within}
use Rattle.field.proofs.Operators.{join_within}
use Rattle.field.proofs.States.{empty_high, inside_low, empty_state, inside_state}
use Rattle.field.proofs.Enclosure.{low_le_high}

-- ---- the places of the inner span are places of the outer one

unfoldable pub widen : {t s : Span} → 1 ≤ t.ticks → Inside t s → Place t → Place s
widen {t} {s} h w x = record {
  n = x.n;
  m = x.m;
  proper = x.proper;
  after =
      le_of_mul-le-mul_right {k = t.ticks}
      (le_trans (le_of_eq (swap s.from x.m t.ticks))
      (le_trans (mul-le-mul_right x.m w.from)
      (le_trans (le_of_eq (swap t.from s.ticks x.m))
      (le_trans (mul-le-mul_right s.ticks x.after) (le_of_eq (turn t.ticks x.n s.ticks))))))
      h;
  before =
      le_of_mul-le-mul_right {k = t.ticks}
      (le_trans (le_of_eq (sym (turn t.ticks x.n s.ticks)))
      (le_trans (mul-le-mul_right s.ticks x.before)
      (le_trans (le_of_eq (swap t.to x.m s.ticks))
      (le_trans (mul-le-mul_right x.m w.to) (le_of_eq (swap s.to t.ticks x.m))))))
      h;
}
  where
    swap : (a b c : ℕ) → a * b * c ≡ a * c * b
    swap a b c = pos_inj (ring 3 (λ a b c. a ⊗ b ⊗ c ≔ a ⊗ c ⊗ b) tt (pos a) (pos b) (pos c))

    turn : (a b c : ℕ) → a * b * c ≡ c * b * a
    turn a b c = pos_inj (ring 3 (λ a b c. a ⊗ b ⊗ c ≔ c ⊗ b ⊗ a) tt (pos a) (pos b) (pos c))

-- ---- a point

module _ (ray : Ray) (p : Node) (hr : 1 ≤ radius p) {t s : Span} (ot : Ordered t) (os : Ordered s) (w : Inside t s) where
  low_nested : qlo (ray_square ray) (prepare ray p) s ≤ qlo (ray_square ray) (prepare ray p) t
  unfolding u widen
  low_nested =
      let x = extremes ray p s hr os in
      let y = extremes ray p t hr ot in
      let a = x.least in
      let b = y.least in
      le_trans (le_of_eq x.low_is)
      (le_trans
      (floor_mono 65536 (u_num ray p a.n a.m) (u_den p a.m) (u_num ray p b.n b.m) (u_den p b.m)
      (den_pos hr x a) (den_pos hr y b) (pos_reflect (x.is_least (widen ot.ticks_low w b)).cross))
      (le_of_eq (sym y.low_is)))

  high_nested : qhi (ray_square ray) (prepare ray p) t ≤ qhi (ray_square ray) (prepare ray p) s
  unfolding u widen
  high_nested =
      let x = extremes ray p s hr os in
      let y = extremes ray p t hr ot in
      let a = x.greatest in
      let b = y.greatest in
      le_trans (le_of_eq y.high_is)
      (le_trans
      (ceil_mono 65536 (u_num ray p b.n b.m) (u_den p b.m) (u_num ray p a.n a.m) (u_den p a.m)
      (den_pos hr y b) (den_pos hr x a) (pos_reflect (x.is_greatest (widen ot.ticks_low w b)).cross))
      (le_of_eq (sym x.high_is)))

  pub point_nested : (k : Kernel) → Lawful k
      → Within (point_bounds k (ray_square ray) t (prepare ray p)) (point_bounds k (ray_square ray) s (prepare ray p))
  point_nested k law = point_within k law ray p hr s t low_nested high_nested

-- ---- every tree

module _ (solid : Solid) (valid : Valid solid) (ray : Ray) where
  pub tree_nested : {t s : Span} → Ordered t → Ordered s → Inside t s → Within (tree_bounds solid ray t) (tree_bounds solid ray s)
  unfolding tree_bounds
  tree_nested {t} {s} ot os w =
      value_related (bounding_on solid ray t) (bounding_on solid ray s) Within PointRanges
      (λ p h. point_nested ray p (radius-pos h) ot os w solid.kernel valid.lawful) (join_within solid.iso)
      (items solid.nodes) no_bounds no_bounds (tree_items solid.nodes valid.tree)

  -- ---- a decided span

  pub state_nested : {t s : Span} → Ordered t → Ordered s → Inside t s → Decides solid.iso (tree_bounds solid ray s) (tree_bounds solid ray t)
  state_nested {t} {s} ot os w =
      let n = tree_nested ot os w in
      let b = tree_bounds solid ray t in
      let c = tree_bounds solid ray s in
      record {
        empty = λ e. empty_state solid.iso b (≤ℤ-<ℤ_trans n.high (empty_high solid.iso c e));
        inside = λ e. inside_state solid.iso b (low_le_high solid valid ray ot) (≤ℤ_trans (inside_low solid.iso c e) n.low);
      }

  -- so does each of its ticks
  pub tick_nested : {s : Span} → Ordered s → (t : ℕ) → s.from ≤ t → t < s.to
      → Decides solid.iso (tree_bounds solid ray s) (tree_bounds solid ray (tick t s.ticks))
  tick_nested {s} o t h g =
      state_nested (tick_ordered t o.ticks_low) o
      (record { from = mul-le-mul_right s.ticks h; to = mul-le-mul_right s.ticks (omega arith) })
