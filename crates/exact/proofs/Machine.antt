-- Signed machine arithmetic: a signed local holds bits, every value that is read from it is `back w z`, and an operation must not wrap.
-- `Holds w k y z` says that y, as code at width w computes it, is z, and that z is from −k to k. It is built along the expression from
-- `param`, `lit`, `⊞`, `⊟`, `⊠`, with a `read` at each local; `fit` then answers the need of an operation and the field `is` the return.
-- For x * y + 2, of x and y with `hx : Small 4096 x` and `hy : Small 4096 y`: `fit (read (param hx tt ⊠ param hy tt) tt ⊞ lit (pos 2)) tt`.
use mathlib.Core.Path.{◌≡◌, refl, sym, ap, ap₂, ◌∙◌, subst}
use mathlib.Core.Bool.{Bool}
use Prim.Native.Nat.{ℕ, ◌+◌, ◌*◌, ◌^◌, ◌≤◌}
use native.Mathlib.Nat.{mul-le-mul, le_trans, le_refl, add-le-add, lt_of_le_of_lt, le_of_eq}
use borrow.Author.Tests.{eq-eqb, eqb-true}
use lib.Dec.{T, ltb, ltb→lt, eqb}
use lib.IntN.{ℤ, pos, nat_abs, neg_ℤ, ◌+ℤ◌, ◌-ℤ◌, ◌*ℤ◌}
use lib.Signed.{non_neg, lt_z, le_z, nat_abs-le}
use mir.Syntax.{Width}
use mir.Val.{bits, hbits, Fits, SFits, to_z, of_z}
use mir.Facts.{to_z-of_z, to_z_pos, Fits-nat_abs}
use Rattle.exact.specs.Range.{Small, eq_ℤ}
use Rattle.exact.proofs.Tests.{same_test, eq_ℤ_true, eq_ℤ_refl}
use Rattle.exact.proofs.Absolute.{nat_abs-neg, nat_abs-add, nat_abs_mul, mag_le-nat_abs}

-- what is read back from a local of width w that was given z
abbrev pub back : Width → ℤ → ℤ
back w z = to_z w (of_z w z)

-- the range check computes: k is a numeral, and `tt` its proof
pub small_fits : {w : Width} {k : ℕ} {z : ℤ} → Small k z → T (ltb k (2 ^ hbits w)) → SFits w z
small_fits {w} {k} {z} h t = record { sfits = lt_of_le_of_lt (le_trans (mag_le-nat_abs z) h.abs) (ltb→lt k (2 ^ hbits w) t) }

pub fits_small : {w : Width} {z : ℤ} → SFits w z → Small (2 ^ hbits w) z
fits_small {z = z} f = record { abs = nat_abs-le z f.sfits }

-- ---- an expression of the code, its value, and a bound of its size

pub record Holds (w : Width) (k : ℕ) (y z : ℤ) : Type 0 where
  pub is : y ≡ z
  pub size : Small k z

-- the result of an operation fits
pub fit : {w : Width} {k : ℕ} {y z : ℤ} → Holds w k y z → T (ltb k (2 ^ hbits w)) → SFits w y
fit {w} h t = subst (SFits w) (sym h.is) (small_fits h.size t)

-- and is as small
pub sized : {w : Width} {k : ℕ} {y z : ℤ} → Holds w k y z → Small k y
sized {k = k} h = subst (Small k) (sym h.is) h.size

-- the value of a local that was given the result
pub read : {w : Width} {k : ℕ} {y z : ℤ} → Holds w k y z → T (ltb k (2 ^ hbits w)) → Holds w k (back w y) z
read h t = record { is = to_z-of_z (fit h t) ∙ h.is; size = h.size }

-- a number, a parameter as it is read, and a literal
pub given : {w : Width} {k : ℕ} {z : ℤ} → Small k z → Holds w k z z
given h = record { is = refl; size = h }

pub param : {w : Width} {k : ℕ} {z : ℤ} → Small k z → T (ltb k (2 ^ hbits w)) → Holds w k (back w z) z
param h t = read (given h) t

pub lit : {w : Width} (z : ℤ) → Holds w (nat_abs z) z z
lit z = given (record { abs = le_refl (nat_abs z) })

-- a number that fits, as it is read
pub as_read : {w : Width} {z : ℤ} → SFits w z → Holds w (2 ^ hbits w) (back w z) z
as_read f = record { is = to_z-of_z f; size = fits_small f }

-- a cast to another signed width keeps the value
pub recast : {w w' : Width} {k : ℕ} {y z : ℤ} → Holds w k y z → Holds w' k y z
recast h = record { is = h.is; size = h.size }

infixl 6 ◌⊞◌ ◌⊟◌
infixl 7 ◌⊠◌
pub ◌⊞◌ : {w : Width} {a b : ℕ} {x y u v : ℤ} → Holds w a x u → Holds w b y v → Holds w (a + b) (x +ℤ y) (u +ℤ v)
◌⊞◌ {u = u} {v = v} h k = record {
  is = cc (h.is, k.is);
  size = record { abs = le_trans (nat_abs-add u v) (add-le-add h.size.abs k.size.abs) };
}

pub neg : {w : Width} {a : ℕ} {x u : ℤ} → Holds w a x u → Holds w a (neg_ℤ x) (neg_ℤ u)
neg {u = u} h = record { is = ap neg_ℤ h.is; size = record { abs = le_trans (le_of_eq (nat_abs-neg u)) h.size.abs } }

pub ◌⊟◌ : {w : Width} {a b : ℕ} {x y u v : ℤ} → Holds w a x u → Holds w b y v → Holds w (a + b) (x -ℤ y) (u -ℤ v)
h ⊟ k = h ⊞ neg k

pub ◌⊠◌ : {w : Width} {a b : ℕ} {x y u v : ℤ} → Holds w a x u → Holds w b y v → Holds w (a * b) (x *ℤ y) (u *ℤ v)
◌⊠◌ {u = u} {v = v} h k = record {
  is = cc (h.is, k.is);
  size = record { abs = le_trans (le_of_eq (nat_abs_mul u v)) (mul-le-mul h.size.abs k.size.abs) };
}

-- a test of two values that the code reads
pub lt_of : {w : Width} {a b : ℕ} {x y u v : ℤ} {t : Bool} → Holds w a x u → Holds w b y v → lt_z x y ≡ t → lt_z u v ≡ t
lt_of h k e = cc (h.is, k.is)

pub le_of : {w : Width} {a b : ℕ} {x y u v : ℤ} {t : Bool} → Holds w a x u → Holds w b y v → le_z x y ≡ t → le_z u v ≡ t
le_of h k e = cc (h.is, k.is)

-- ---- unsigned numbers: n ≤ k is shown by `mul-le-mul` and `add-le-add` of `native.Mathlib.Nat`, along the expression

pub fits_u : {w : Width} {k n : ℕ} → n ≤ k → T (ltb k (2 ^ bits w)) → Fits w n
fits_u {w} {k} h t = record { fits = lt_of_le_of_lt h (ltb→lt k (2 ^ bits w) t) }

-- a cast to a signed number asks `fit_u`, and what is read back is `from_u`
pub fit_u : {w : Width} {k n : ℕ} → n ≤ k → T (ltb k (2 ^ hbits w)) → SFits w (pos n)
fit_u h t = small_fits (record { abs = h }) t

pub from_u : {w : Width} {k n : ℕ} → n ≤ k → T (ltb k (2 ^ hbits w)) → Holds w k (to_z w n) (pos n)
from_u {w} {k} h t = record { is = to_z_pos w (lt_of_le_of_lt h (ltb→lt k (2 ^ hbits w) t)); size = record { abs = h } }

-- a cast of a signed number that is not negative to an unsigned one
pub to_u : {w w' : Width} {k : ℕ} {y z : ℤ} → Holds w k y z → T (non_neg z) → T (ltb k (2 ^ hbits w)) → T (ltb (hbits w) (bits w'))
    → T (non_neg y) × Fits w' (nat_abs y)
to_u h n t l = (subst (λ (x : ℤ). T (non_neg x)) (sym h.is) n, Fits-nat_abs l (fit h t))

-- ---- numbers that fit: parameters, fields, and the results of calls

pub same : (w : Width) (z : ℤ) → SFits w z → back w z ≡ z
same w z f = to_z-of_z f

-- the result r of a call, with what the callee ensures of it
pub known : (w : Width) {r z : ℤ} → SFits w r → r ≡ z → back w r ≡ z
known w f e = to_z-of_z f ∙ e

pub known_to_u : (w : Width) {w' : Width} {r z : ℤ} → SFits w r → r ≡ z → T (non_neg z) → T (ltb (hbits w) (bits w'))
    → T (non_neg (back w r)) × Fits w' (nat_abs (back w r))
known_to_u w f e n l =
    (subst (λ (x : ℤ). T (non_neg x)) (sym (known w f e)) n, Fits-nat_abs l (subst (SFits w) (sym (to_z-of_z f)) f))

-- an operation or a test on two of them
module _ {w : Width} {a b : ℤ} (fa : SFits w a) (fb : SFits w b) where
  pub op_read : {A : Type 0} (f : ℤ → ℤ → A) → f (back w a) (back w b) ≡ f a b
  op_read f = ap₂ f (to_z-of_z fa) (to_z-of_z fb)

  pub op_known : {A : Type 0} (f : ℤ → ℤ → A) {t : A} → f (back w a) (back w b) ≡ t → f a b ≡ t
  op_known f e = sym (op_read f) ∙ e

-- ---- the tests `==` and `!=`, which compare bits

pub bits_inj : {w : Width} {a b : ℤ} → SFits w a → SFits w b → of_z w a ≡ of_z w b → a ≡ b
bits_inj {w} f g e = sym (to_z-of_z f) ∙ ap (to_z w) e ∙ to_z-of_z g

-- `n.kind == 1`, in code at 32 bits: `bits_eq {w = w32} f (fit_u (le_refl 1) tt) : eqb (of_z w32 kind) 1 ≡ eq_ℤ kind (pos 1)`
pub bits_eq : {w : Width} {a b : ℤ} → SFits w a → SFits w b → eqb (of_z w a) (of_z w b) ≡ eq_ℤ a b
bits_eq {w} {a} {b} f g =
    same_test (eqb (of_z w a) (of_z w b)) (eq_ℤ a b)
    (λ e. rw (bits_inj f g (eqb-true (of_z w a) (of_z w b) e)) (eq_ℤ_refl b))
    (λ e. eq-eqb (of_z w a) (of_z w b) (ap (of_z w) (eq_ℤ_true a b e)))
