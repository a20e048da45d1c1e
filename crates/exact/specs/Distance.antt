-- The squared distance along a ray. With u from the point to the ray's start, v along the ray, e = u·u, m = u·v and a = v·v,
-- the place n/d of the ray has the squared distance |u + (n/d) v|², and `dist e m a n d` is that times d².
-- Of u = (0, 1, 2) and v = (2, 0, 0), half way: `dist (pos 5) (pos 0) (pos 4) (pos 1) (pos 2)` is 24, and the squared distance 24/4.
use Rattle.std.specs.Prelude.{ℤ, pos, ◌+ℤ◌, ◌*ℤ◌}

-- c + b x + a x²
abbrev pub quad : ℤ → ℤ → ℤ → ℤ → ℤ
quad c b a x = c +ℤ b *ℤ x +ℤ a *ℤ x *ℤ x

-- e d² + 2 m n d + a n²
abbrev pub dist : ℤ → ℤ → ℤ → ℤ → ℤ → ℤ
dist e m a n d = e *ℤ d *ℤ d +ℤ pos 2 *ℤ m *ℤ n *ℤ d +ℤ a *ℤ n *ℤ n
