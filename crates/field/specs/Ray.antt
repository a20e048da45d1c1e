-- Rays, spans of a ray and the places on it (document 01, "The field"). Coordinates are whole steps.
-- "A fractional place of the ray is n/m of the way from A to B"; what is said of it is said of whole numbers, multiplied by m or by m².
use Rattle.std.specs.Prelude.{ℕ, ◌+◌, ◌*◌, ◌≤◌, ℤ, pos, nat_abs, ◌+ℤ◌, ◌-ℤ◌, ◌*ℤ◌}
use Rattle.exact.specs.Vector.{dot3}
use Rattle.record.specs.declared.Node.{Node}
use Rattle.field.specs.Vectors.{Position}
use Rattle.field.specs.Vectors.{Offset}
use Rattle.field.specs.Vectors.{Ray}
use Rattle.field.specs.declared.Span.{Span}

-- ---- offsets

-- p − q
abbrev pub difference : Position → Position → Offset
difference p q = record { x = p.x -ℤ q.x; y = p.y -ℤ q.y; z = p.z -ℤ q.z }

-- the inner product, "of A−c and B−A"
abbrev pub inner : Offset → Offset → ℤ
inner u v = dot3 u.x u.y u.z v.x v.y v.z

-- m u + n v
abbrev pub combination : Offset → ℕ → Offset → ℕ → Offset
combination u m v n = record {
  x = u.x *ℤ pos m +ℤ v.x *ℤ pos n;
  y = u.y *ℤ pos m +ℤ v.y *ℤ pos n;
  z = u.z *ℤ pos m +ℤ v.z *ℤ pos n;
}

-- ---- a ray and a point

-- c, a point's centre
abbrev pub centre : Node → Position
centre p = record { x = p.x; y = p.y; z = p.z }

-- r, its radius
abbrev pub radius : Node → ℕ
radius p = nat_abs p.radius

-- A − c
abbrev pub to_start : Ray → Node → Offset
to_start ray p = difference ray.start (centre p)

-- B − A
abbrev pub direction : Ray → Offset
direction ray = difference ray.end ray.start

-- "S is |dx| + |dy| + |dz| from A to B."
abbrev pub extent : Ray → ℕ
extent ray = nat_abs (direction ray).x + nat_abs (direction ray).y + nat_abs (direction ray).z

-- the place n/m from a point's centre, times m: m (A − c) + n (B − A)
abbrev pub from_centre : Ray → Node → ℕ → ℕ → Offset
from_centre ray p n m = combination (to_start ray p) m (direction ray) n

-- d² × m²: the squared distance of the place n/m from the centre
unfoldable pub squared_distance : Ray → Node → ℕ → ℕ → ℕ
squared_distance ray p n m = nat_abs (inner (from_centre ray p n m) (from_centre ray p n m))

-- ---- spans (the document's stretches of ray): from i/T to j/T of the way, T being the number of ticks

-- "Tick t is the closed stretch from t/1024 to (t+1)/1024 of the way", of T ticks
abbrev pub tick : ℕ → ℕ → Span
tick t T = record { from = t; to = t + 1; ticks = T }

-- the n ticks from tick i on, of T
abbrev pub ticks : ℕ → ℕ → ℕ → Span
ticks i n T = record { from = i; to = i + n; ticks = T }

-- "its exact middle": the place (2 t + 1)/(2 T), halfway from t/T to (t + 1)/T, alone
abbrev pub middle : ℕ → ℕ → Span
middle t T = record { from = 2 * t + 1; to = 2 * t + 1; ticks = 2 * T }

-- the whole ray, one span
abbrev pub whole_ray : Span
whole_ray = record { from = 0; to = 1; ticks = 1 }

-- a span that has places
pub record Ordered (s : Span) : Type 0 where
  pub ticks_low : 1 ≤ s.ticks
  pub order : s.from ≤ s.to

-- a place n/m that a span holds: i × m ≤ T × n ≤ j × m; "tick t holds it if t × m ≤ 1,024 × n ≤ (t+1) × m"
pub record Place (s : Span) : Type 0 where
  pub n : ℕ
  pub m : ℕ
  pub proper : 1 ≤ m
  pub after : s.from * m ≤ s.ticks * n
  pub before : s.ticks * n ≤ s.to * m

-- the span t lies within the span s, and may count by other ticks; "A smaller stretch has no looser bounds"
pub record Inside (t s : Span) : Type 0 where
  pub from : s.from * t.ticks ≤ t.from * s.ticks
  pub to : t.to * s.ticks ≤ s.to * t.ticks

-- "one whole-step place": the ray that stays there, whose ends coincide (document 02, P8), and its start alone, the place 0/1
abbrev pub constant_ray : Position → Ray
constant_ray p = record { start = p; end = p }

abbrev pub at_start : Span
at_start = record { from = 0; to = 0; ticks = 1 }
