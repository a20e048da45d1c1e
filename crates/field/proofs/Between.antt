-- What follows from a span's extremes: 65536 u lies between qlo and qhi at every place (`low_holds`, `high_holds`).
use mathlib.Core.Path.{sym}
use Prim.Native.Nat.{ℕ, ◌*◌, ◌≤◌, ◌<◌}
use native.Mathlib.Nat.{le_trans, le_of_eq, mul-pos, mul-le-mul_right, div-mul-le_self}
use Rattle.exact.proofs.Order.{pos_reflect}
use Rattle.exact.proofs.Rounding.{le-ceil, floor_mono, ceil_mono}
use Rattle.record.specs.declared.Node.{Node}
use Rattle.field.specs.Vectors.{Ray}
use Rattle.field.specs.declared.Span.{Span}
use Rattle.field.specs.Ray.{radius, Place}
use Rattle.field.specs.Kernel.{u_den, u_num, u}
use Rattle.field.specs.Bounds.{ray_square, prepare, qlo, qhi}
use Rattle.field.specs.Extremes.{Extremes}

pub u_den-pos : (p : Node) → 1 ≤ radius p → {m : ℕ} → 1 ≤ m → 0 < u_den p m
u_den-pos p h k = mul-pos (mul-pos h h) (mul-pos k k)

module _ {ray : Ray} {p : Node} {s : Span} (hr : 1 ≤ radius p) (f : Extremes ray p s) where
  abbrev num : Place s → ℕ
  num x = u_num ray p x.n x.m

  abbrev den : Place s → ℕ
  den x = u_den p x.m

  pub den_pos : (x : Place s) → 0 < den x
  den_pos x = u_den-pos p hr x.proper

  pub low_holds : (x : Place s) → qlo (ray_square ray) (prepare ray p) s * den x ≤ 65536 * num x
  unfolding u
  low_holds x =
      le_trans
      (mul-le-mul_right (den x)
      (le_trans (le_of_eq f.low_is)
      (floor_mono 65536 (num f.least) (den f.least) (num x) (den x) (den_pos f.least) (den_pos x)
      (pos_reflect (f.is_least x).cross))))
      (div-mul-le_self (65536 * num x) (den x))

  pub high_holds : (x : Place s) → 65536 * num x ≤ qhi (ray_square ray) (prepare ray p) s * den x
  unfolding u
  high_holds x =
      le_trans (le-ceil (65536 * num x) (den x) (den_pos x))
      (mul-le-mul_right (den x)
      (le_trans
      (ceil_mono 65536 (num x) (den x) (num f.greatest) (den f.greatest) (den_pos x) (den_pos f.greatest)
      (pos_reflect (f.is_greatest x).cross))
      (le_of_eq (sym f.high_is))))
