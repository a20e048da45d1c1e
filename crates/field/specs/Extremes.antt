-- What qlo and qhi are to be (document 01, "Bounds"): "For each point, take the exact least and greatest u over all places of the stretch, fractional
-- ones too. qlo is 65536 × the least, rounded down. qhi is 65536 × the greatest, rounded up." Theorem 1 says that they are.
use Rattle.std.specs.Prelude.{◌≡◌, ◌*◌, ◌/◌}
use Rattle.exact.specs.Rounding.{ceil}
use Rattle.exact.specs.Fraction.{Fraction, ◌≼◌}
use Rattle.record.specs.declared.Node.{Node}
use Rattle.field.specs.Vectors.{Ray}
use Rattle.field.specs.declared.Span.{Span}
use Rattle.field.specs.Ray.{Place}
use Rattle.field.specs.Kernel.{u_den, u_num, u}
use Rattle.field.specs.Bounds.{ray_square, prepare, qlo, qhi}

-- u at a place of a span
abbrev pub u_at : Ray → Node → {s : Span} → Place s → Fraction
u_at ray p x = u ray p x.n x.m

pub record Extremes (ray : Ray) (p : Node) (s : Span) : Type 0 where
  pub least : Place s
  pub greatest : Place s
  pub is_least : (x : Place s) → u_at ray p least ≼ u_at ray p x
  pub is_greatest : (x : Place s) → u_at ray p x ≼ u_at ray p greatest
  pub low_is : qlo (ray_square ray) (prepare ray p) s ≡ 65536 * u_num ray p least.n least.m / u_den p least.m
  pub high_is : qhi (ray_square ray) (prepare ray p) s ≡ ceil (65536 * u_num ray p greatest.n greatest.m) (u_den p greatest.m)
