-- Vectors of three integers, coordinate by coordinate: `dot3 u v w x y z` is (u, v, w) · (x, y, z).
use Rattle.std.specs.Prelude.{ℤ, pos, nat_abs, ◌+ℤ◌, ◌*ℤ◌}

-- the inner product
abbrev pub dot3 : ℤ → ℤ → ℤ → ℤ → ℤ → ℤ → ℤ
dot3 u v w x y z = u *ℤ x +ℤ v *ℤ y +ℤ w *ℤ z

-- the sum of the squares of the coordinates
abbrev pub square3 : ℤ → ℤ → ℤ → ℤ
square3 x y z = dot3 x y z x y z

-- the sum of the sizes of the coordinates
abbrev pub size3 : ℤ → ℤ → ℤ → ℤ
size3 x y z = pos (nat_abs x) +ℤ pos (nat_abs y) +ℤ pos (nat_abs z)
