-- Fractions of an integer and a natural number. They are compared by cross products, and no operation reduces them:
-- `plus (pos 1 over 2) (pos 1 over 2)` is `pos 4 over 4`.
use Rattle.std.specs.Prelude.{Bool, cond, ℕ, ◌*◌, ◌≤◌, ℤ, pos, nat_abs, ◌+ℤ◌, ◌-ℤ◌, ◌*ℤ◌, ◌≤ℤ◌, ◌<ℤ◌}
use Rattle.std.specs.Int.Signed.{le_z}

-- num/den
pub record Fraction : Type 0 where
  pub num : ℤ
  pub den : ℕ

infix 60 ◌over◌
-- n/d
abbrev pub ◌over◌ : ℤ → ℕ → Fraction
n over d = record { num = n; den = d }

-- the denominator is not 0
abbrev pub Proper : Fraction → Type 0
Proper x = 1 ≤ x.den

infix 50 ◌≼◌ ◌≺◌
-- at most (a record, so that the two fractions can be inferred from a hypothesis)
pub record ◌≼◌ (x y : Fraction) : Type 0 where
  pub cross : (x.num *ℤ pos y.den) ≤ℤ (y.num *ℤ pos x.den)

-- less than
pub record ◌≺◌ (x y : Fraction) : Type 0 where
  pub cross : (x.num *ℤ pos y.den) <ℤ (y.num *ℤ pos x.den)

-- the test of x ≼ y
abbrev pub at_most : Fraction → Fraction → Bool
at_most x y = le_z (x.num *ℤ pos y.den) (y.num *ℤ pos x.den)

-- x + y
unfoldable pub plus : Fraction → Fraction → Fraction
plus x y = (x.num *ℤ pos y.den +ℤ y.num *ℤ pos x.den) over (x.den * y.den)

-- the greater of the two
unfoldable pub greater : Fraction → Fraction → Fraction
greater x y = cond (at_most x y) y x

-- the lesser of the two
unfoldable pub lesser : Fraction → Fraction → Fraction
lesser x y = cond (at_most x y) x y

-- n − x, of an integer n
unfoldable pub less : ℤ → Fraction → Fraction
less n x = (n *ℤ pos x.den -ℤ x.num) over x.den

-- n · x, of an integer n
abbrev pub times : ℤ → Fraction → Fraction
times n x = (n *ℤ x.num) over x.den

-- |x − n|, of an integer n
abbrev pub apart : Fraction → ℤ → Fraction
apart x n = pos (nat_abs (x.num -ℤ n *ℤ pos x.den)) over x.den
