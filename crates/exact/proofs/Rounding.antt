-- Quotients rounded down (`x / b`) and up (`ceil x b`): what they bound, and that they keep the order of the fractions.
-- `floor_mono 65536 a b c d hb hd h : 65536 * a / b ≤ 65536 * c / d`, from `h : a * d ≤ c * b`, which says a/b ≤ c/d.
use mathlib.Core.Path.{◌≡◌, sym, ◌∙◌}
use Prim.Native.Nat.{ℕ, suc, ◌+◌, ◌*◌, ◌-◌, ◌/◌, ◌≤◌, ◌<◌}
use native.Mathlib.Nat.{le_trans, le_of_eq, suc-mul, mul_assoc, mul_right_comm, mul-le-mul_left, mul-le-mul_right, le_of_mul-le-mul_right}
use native.Mathlib.Nat.{div-mul-le_self, le-div_iff_mul-le, div-lt_iff_lt-mul, lt-div-mul-add}
use native.Mathlib.Decide.{dec_lt}
use native.Mathlib.Omega.{arith}
use borrow.Author.Tests.{lt-ltb, le-ltb}
use lib.Dec.{ltb}
use Rattle.exact.specs.Rounding.{ceil}
use Rattle.exact.proofs.Naturals.{factor_pos}

-- x ≤ ⌈x/b⌉ b, and ⌈x/b⌉ is the least such
pub le-ceil : (x b : ℕ) → 0 < b → x ≤ ceil x b * b
unfolding ceil
le-ceil x b h = let k : x + (b - 1) < (x + (b - 1)) / b * b + b = lt-div-mul-add h in omega arith

pub ceil_least : (x b q : ℕ) → 0 < b → x ≤ q * b → ceil x b ≤ q
unfolding ceil
ceil_least x b q h l =
    let e : suc q * b ≡ q * b + b = suc-mul q b in
    let k : (x + (b - 1)) / b < suc q = (div-lt_iff_lt-mul h).1 (omega arith) in
    omega arith

-- rounded up, only 0 is 0
pub ceil_test : (x b : ℕ) → 0 < b → ltb 0 (ceil x b) ≡ ltb 0 x
ceil_test x b h = elim (dec_lt 0 x) [
  | yes k ↦ lt-ltb 0 (ceil x b) (factor_pos (ceil x b) b k (le-ceil x b h)) ∙ sym (lt-ltb 0 x k)
  | no n ↦ le-ltb 0 (ceil x b) (ceil_least x b 0 h (omega (arith, n))) ∙ sym (le-ltb 0 x (omega (arith, n)))
]

-- rounding moves a quotient by less than 1, down and up
pub floor_within : (x b : ℕ) → 0 < b → x ≤ x / b * b + b
floor_within x b h = let k : x < x / b * b + b = lt-div-mul-add h in omega arith

pub ceil_within : (x b : ℕ) → ceil x b * b ≤ x + b
unfolding ceil
ceil_within x b = le_trans (div-mul-le_self (x + (b - 1)) b) (omega arith)

-- ---- the order of fractions: a/b ≤ c/d is a d ≤ c b

-- k a d ≤ k c b
scaled : (k a b c d : ℕ) → a * d ≤ c * b → k * a * d ≤ k * c * b
scaled k a b c d h = rw (mul_assoc k a d, mul_assoc k c b) (mul-le-mul_left k h)

module _ (k a b c d : ℕ) (hb : 0 < b) (hd : 0 < d) (h : a * d ≤ c * b) where
  pub floor_mono : k * a / b ≤ k * c / d
  floor_mono =
      (le-div_iff_mul-le hd).1
      (le_of_mul-le-mul_right {k = b}
      (le_trans (le_of_eq (mul_right_comm (k * a / b) d b))
      (le_trans (mul-le-mul_right d (div-mul-le_self (k * a) b)) (scaled k a b c d h)))
      hb)

  pub ceil_mono : ceil (k * a) b ≤ ceil (k * c) d
  ceil_mono =
      ceil_least (k * a) b (ceil (k * c) d) hb
      (le_of_mul-le-mul_right {k = d}
      (le_trans (scaled k a b c d h)
      (le_trans (mul-le-mul_right b (le-ceil (k * c) d hd)) (le_of_eq (mul_right_comm (ceil (k * c) d) d b))))
      hd)
