-- The ray lister's input (document 01, "Rays and places tried"): "A and B as six signed 16-bit numbers", "little-endian".
use Rattle.std.specs.Prelude.{List, ℕ, ◌+◌}
use Rattle.record.specs.Bytes.{i16}
use Rattle.field.specs.Vectors.{Position}

-- the place whose three numbers stand from a byte on
unfoldable pub position_at : List ℕ → ℕ → Position
position_at input at = record { x = i16 input at; y = i16 input (at + 2); z = i16 input (at + 4) }
