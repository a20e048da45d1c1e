-- The kernel (document 01, "The field"): "a point of weight w gives w × u², where u = 1 − d²/r² if d < r and 0 otherwise"; of degree 6 (document 02,
-- P9) it is "u³". The power of u, and what is rounded or tolerated on account of it, is a parameter: `quartic` and `sextic` are the two kernels.
use Rattle.std.specs.Prelude.{ℕ, ◌*◌, ◌-◌, ◌/◌, ◌^◌, pos}
use Rattle.exact.specs.Fraction.{Fraction, ◌over◌, times}
use Rattle.exact.specs.Rounding.{ceil}
use Rattle.record.specs.declared.Node.{Node}
use Rattle.field.specs.Vectors.{Ray}
use Rattle.field.specs.Ray.{radius, squared_distance}

-- 1 as bounds have it, "in units of 1/2³²"
abbrev pub fixed_one : ℕ
fixed_one = 4294967296

pub record Kernel : Type 0 where
  -- of u
  pub power : ℕ
  -- 2³² × (q/65536)^power, rounded down and up
  pub low : ℕ → ℕ
  pub high : ℕ → ℕ
  -- the tolerance of one point and tick is |w| × (slope × S/(T r) + slack)
  pub slope : ℕ
  pub slack : Fraction

-- degree 4, "n = 4": u², and the sizes are q²
abbrev pub quartic : Kernel
quartic = record { power = 2; low = λ q. q * q; high = λ q. q * q; slope = 4; slack = pos 1 over 16384 }

-- "degree 6 of the same published kernel, u³": "the sizes are qlo³/65536 rounded down and qhi³/65536 rounded up", and a tick's tolerance "uses
-- 3S/(512 r) + 7/65536", with 1,024 ticks
abbrev pub sextic : Kernel
sextic = record { power = 3; low = λ q. q * q * q / 65536; high = λ q. ceil (q * q * q) 65536; slope = 6; slack = pos 7 over 65536 }

-- ---- u at the place n/m: u_num/u_den

-- r² × m²
abbrev pub u_den : Node → ℕ → ℕ
u_den p m = radius p * radius p * (m * m)

-- (r² − d²) × m², and 0 where d ≥ r: the difference of natural numbers is 0 there
abbrev pub u_num : Ray → Node → ℕ → ℕ → ℕ
u_num ray p n m = u_den p m - squared_distance ray p n m

-- "u = 1 − d²/r² if d < r and 0 otherwise"
unfoldable pub u : Ray → Node → ℕ → ℕ → Fraction
u ray p n m = pos (u_num ray p n m) over u_den p m

-- "a point of weight w gives w × u²", of degree 6 w × u³: w × u^power
unfoldable pub point_at : Kernel → Ray → ℕ → ℕ → Node → Fraction
point_at k ray n m p = times p.weight (pos (u_num ray p n m ^ k.power) over (u_den p m ^ k.power))
