-- The ticks of a ray: the state of a span of them, for any number T of ticks; the number that document 01's calls cut a ray into; and how many
-- probes are enough.
use Rattle.std.specs.Prelude.{ℕ, ◌+◌, ◌*◌, ◌-◌}
use Rattle.field.specs.Vectors.{Ray}
use Rattle.field.specs.Ray.{ticks}
use Rattle.field.specs.Solid.{Solid}
use Rattle.field.specs.Marks.{span_state}

-- "A ray […] is cut into 1,024 equal ticks": 2^10
abbrev pub exponent : ℕ
exponent = 10

-- "A full cast takes at most 2,047", so "A budget of 2,047 is always enough": of T ticks, 2 T − 1
abbrev pub enough : ℕ → ℕ
enough T = 2 * T - 1

-- "a first hit found at tick h costs at most 2h + 11 probes" (document 02, P7): of 2^k ticks, 2 h + 1 + k
abbrev pub hit_cost : ℕ → ℕ → ℕ
hit_cost k h = 2 * h + 1 + k

-- the state of the n ticks from tick i on, of T
unfoldable pub ray_state : Solid → Ray → ℕ → ℕ → ℕ → ℕ
ray_state solid ray T i n = span_state solid ray (ticks i n T)
