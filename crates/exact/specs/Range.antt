-- Ranges: tests that a number is from one number to another, and bounds of an integer's size.
-- `between 24 65536 (length file)` asks whether a file has 24 to 65536 bytes; `Small 4096 w` says that w is from −4096 to 4096.
use Rattle.std.specs.Prelude.{Bool, false, ◌&&◌, ℕ, ◌≤◌, leb, eqb, ℤ, pos, negsuc, nat_abs}
use Rattle.std.specs.Int.Signed.{le_z}

-- is n from lo to hi?
abbrev pub between : ℕ → ℕ → ℕ → Bool
between lo hi n = leb lo n && leb n hi

-- is z from lo to hi?
abbrev pub between_ℤ : ℤ → ℤ → ℤ → Bool
between_ℤ lo hi z = le_z lo z && le_z z hi

-- are two integers equal?
abbrev pub eq_ℤ : ℤ → ℤ → Bool
eq_ℤ (pos a) (pos b) = eqb a b
eq_ℤ (pos a) (negsuc b) = false
eq_ℤ (negsuc a) (pos b) = false
eq_ℤ (negsuc a) (negsuc b) = eqb a b

-- z is from −k to k (a record, so that z can be inferred from a hypothesis)
pub record Small (k : ℕ) (z : ℤ) : Type 0 where
  pub abs : nat_abs z ≤ k

-- three coordinates, each from −k to k
pub record Small3 (k : ℕ) (u v w : ℤ) : Type 0 where
  pub x : Small k u
  pub y : Small k v
  pub z : Small k w
