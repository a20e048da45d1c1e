-- Points in reach of a span (document 02, P3): "whether the stretch comes within the radius: yes exactly if some place of it, fractional ones too,
-- is nearer the centre than the radius". `reaches` is the test, in products; `InReach` is what it says (`reaches-exactly`).
use Rattle.std.specs.Prelude.{Bool, cond, ◌||◌, ℕ, ◌*◌, ◌<◌, ltb, ℤ, nat_abs}
use Rattle.record.specs.declared.Node.{Node}
use Rattle.field.specs.Vectors.{Ray}
use Rattle.field.specs.declared.Span.{Span}
use Rattle.field.specs.declared.Prepared.{Prepared}
use Rattle.field.specs.Ray.{radius, squared_distance, Place}
use Rattle.field.specs.Bounds.{distance_at, foot_inside, foot_distance, scaled_square}

-- is d < r at the place t/T? d² T² < r² T²
abbrev pub nearer_at : ℤ → Prepared → ℕ → ℕ → Bool
nearer_at a p t T = ltb (distance_at a p t T) (scaled_square p (T * T))

-- and at "the place nearest the centre", −m/a? d² a < r² a
abbrev pub foot_nearer : ℤ → Prepared → Bool
foot_nearer a p = ltb (foot_distance a p) (scaled_square p (nat_abs a))

-- is d < r at the span's nearest place: the foot where that is strictly inside, and else an end?
unfoldable pub reaches : ℤ → Prepared → Span → Bool
reaches a p s = cond (foot_inside a p s) (foot_nearer a p) (nearer_at a p s.from s.ticks || nearer_at a p s.to s.ticks)

-- "some place of it, fractional ones too, is nearer the centre than the radius": d² < r², times m²
pub record InReach (ray : Ray) (p : Node) (s : Span) : Type 0 where
  pub place : Place s
  pub nearer : squared_distance ray p place.n place.m < radius p * radius p * (place.m * place.m)
