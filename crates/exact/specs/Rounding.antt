-- Quotients of natural numbers, rounded up: `ceil 7 2` is 4. Rounded down, the quotient is the library's `◌/◌`: `7 / 2` is 3.
use Rattle.std.specs.Prelude.{ℕ, ◌+◌, ◌-◌, ◌/◌}

-- x/b rounded up
unfoldable pub ceil : ℕ → ℕ → ℕ
ceil x b = (x + (b - 1)) / b
