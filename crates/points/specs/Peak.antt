-- What no probe changes of a point on a ray: 65536 × u at "the place nearest the centre", rounded up. It is the qhi of every span that has this place
-- strictly inside (document 01, "Bounds").
use Rattle.std.specs.Prelude.{◌≡◌, cond, ℕ, ℤ, pos, nat_abs}
use Rattle.field.specs.declared.Prepared.{Prepared}
use Rattle.field.specs.Ray.{whole_ray}
use Rattle.field.specs.Bounds.{foot_inside, foot_distance, high_q, scaled_square}
use Rattle.points.specs.declared.Reached.{Reached}
use Rattle.points.specs.Ranges.{PreparedRanges}

-- the q there
abbrev pub foot_q : ℤ → Prepared → ℕ
foot_q a p = high_q (scaled_square p (nat_abs a)) (foot_distance a p)

-- 0 where the place is not strictly inside the ray
unfoldable pub peak_of : ℤ → Prepared → ℕ
peak_of a p = cond (foot_inside a p whole_ray) (foot_q a p) 0

-- a point that the ray reaches, with its peak
abbrev pub reached_on : ℤ → Prepared → Reached
reached_on a p = record { point = p; peak = pos (peak_of a p) }

-- its numbers are in range, and the peak is its own
pub record ReachedRanges (a : ℤ) (p : Reached) : Type 0 where
  pub ranges : PreparedRanges a p.point
  pub peak_is : p.peak ≡ pos (peak_of a p.point)
