-- Natural numbers: a few laws that the library leaves out, and how ℕ uses the solver and the certificates of ℤ.
-- An identity is the solver's at `pos`, with `pos_inj`:
-- `pos_inj (ring 2 (λ a b. a ⊗ (b ⊕ b) ≔ # 2 ⊗ a ⊗ b) tt (pos a) (pos b)) : a * (b + b) ≡ 2 * a * b`.
use mathlib.Core.Path.{◌≡◌, sym, ◌∙◌, ap, ap₂}
use mathlib.Core.Logic.{◌⊎◌, inl, inr}
use Prim.Native.Nat.{ℕ, zero, suc, ◌+◌, ◌*◌, ◌-◌, ◌/◌, ◌%◌, ◌^◌, ◌≤◌, ◌<◌}
use native.Mathlib.Nat.{mul_comm, mul-sub, mul_right_comm, mul-mul-mul_comm, one-mul, zero-mul, add-zero, div-add-mod', pow-zero, pow-suc}
use native.Mathlib.Decide.{dec_le}
use native.Mathlib.Omega.{arith}

pub ≤-total : (x y : ℕ) → (x ≤ y) ⊎ (y ≤ x)
≤-total x y = elim (dec_le x y) [ yes h ↦ inl h | no n ↦ inr (omega (arith, n)) ]

pub sub-mul : (x y k : ℕ) → (x - y) * k ≡ x * k - y * k
sub-mul x y k = mul_comm (x - y) k ∙ mul-sub k x y ∙ ap₂ ◌-◌ (mul_comm k x) (mul_comm k y)

-- a product that is not 0 has no factor 0
pub factor_pos : {x : ℕ} (n k : ℕ) → 0 < x → x ≤ n * k → 0 < n
factor_pos zero k h l = absurd (omega (arith, h, l, zero-mul k))
factor_pos (suc n) k h l = omega arith

-- clamped differences of fractions: from D/t ≤ E/s, the difference (K − E/s)⁺ is at most (K − D/t)⁺, cleared of denominators
pub clamp : (K s t D E : ℕ) → D * s ≤ E * t → (K * s - E) * t ≤ (K * t - D) * s
clamp K s t D E h = rw (sub-mul (K * s) E t, sub-mul (K * t) D s) (let e : K * s * t ≡ K * t * s = mul_right_comm K s t in omega arith)

-- a number without a remainder is its quotient's multiple
pub whole_quotient : (n d : ℕ) → n % d ≡ 0 → n ≡ n / d * d
whole_quotient n d z = sym (div-add-mod' n d) ∙ ap (λ (k : ℕ). n / d * d + k) z ∙ add-zero (n / d * d)

-- ---- powers

pub pow_two : (x : ℕ) → x ^ 2 ≡ x * x
pow_two x = pow-suc x 1 ∙ ap (λ (y : ℕ). y * x) (pow-suc x 0 ∙ ap (λ (y : ℕ). y * x) (pow-zero x) ∙ one-mul x)

pub pow_three : (x : ℕ) → x ^ 3 ≡ x * x * x
pow_three x = pow-suc x 2 ∙ ap (λ (y : ℕ). y * x) (pow_two x)

pub mul-pow : (x y n : ℕ) → (x * y) ^ n ≡ x ^ n * y ^ n
mul-pow x y zero = pow-zero (x * y) ∙ sym (ap₂ ◌*◌ (pow-zero x) (pow-zero y))
mul-pow x y (suc n) =
    pow-suc (x * y) n ∙ ap (λ (z : ℕ). z * (x * y)) (mul-pow x y n) ∙ mul-mul-mul_comm (x ^ n) (y ^ n) x y
    ∙ sym (ap₂ ◌*◌ (pow-suc x n) (pow-suc y n))
