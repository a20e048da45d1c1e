-- The greater and the lesser of two integers, picked as code does it: `if x < y { y } else { x }` is `max_ℤ x y`.
use Rattle.std.specs.Prelude.{cond, ℤ}
use Rattle.std.specs.Int.Signed.{lt_z}

-- the greater
unfoldable pub max_ℤ : ℤ → ℤ → ℤ
max_ℤ a b = cond (lt_z a b) b a

-- the lesser
unfoldable pub min_ℤ : ℤ → ℤ → ℤ
min_ℤ a b = cond (lt_z a b) a b
