-- Ticks' bits packed into bytes: bit t mod 8 of byte t/8 is that of tick t (`packed-bit`). Of one run of ticks after another, the second's number
-- counts 2^n times (`from_append`), and its bytes follow (`packed-append`). Of bits that are all b, the number is b (2^n − 1) (`from_all`), and each
-- byte 255 b (`packed_all`).
use Prim.Native.Nat.{ℕ, zero, suc, ◌+◌, ◌*◌, ◌/◌, ◌%◌, ◌^◌, ◌≤◌, ◌<◌}
use native.Mathlib.Nat.{zero-add, add-zero, add-suc, suc-add, mul_assoc, pow-suc, pow-succ', two-pow-succ, div-div-eq-div-mul, div-add-mod}
use native.Mathlib.Numerals.{add-one}
use native.Mathlib.Decide.{ℕ_discrete}
use native.Mathlib.Omega.{arith}
use mathlib.Core.Path.{◌≡◌, refl, sym, ap, ap₂, ◌∙◌}
use mathlib.Core.List.{List, [], ◌∷◌, ◌++◌, append-nil, append_assoc}
use mathlib.Core.Bool.{Bool, true, false, cond, ◌&&◌, ◌||◌}
use lib.Dec.{eqb}
use lib.ListN.{length, get_or, replicate, length-append, replicate-append-replicate, get_or-append}
use lib.Seq.{get_or_at}
use Rattle.field.specs.Bounds.{crossing_mark, inside_mark}
use Rattle.cast.specs.Column.{tick_bit, from_bits, packed}

-- a tick's bit is 0 or 1
pub bit_few : (mark : ℕ) (middle : Bool) → tick_bit mark middle ≤ 1
unfolding tick_bit
bit_few mark middle = one_or_zero (eqb mark inside_mark || (eqb mark crossing_mark && middle))
  where
    one_or_zero : (t : Bool) → cond t 1 0 ≤ 1
    one_or_zero true = omega arith
    one_or_zero false = omega arith

twice : (x k : ℕ) → x * 2 ^ suc k ≡ x * 2 ^ k * 2
twice x k = ap (λ (m : ℕ). x * m) (pow-suc 2 k) ∙ sym (mul_assoc x (2 ^ k) 2)

-- ---- the bytes

module _ (bit : ℕ → ℕ) where
  pub length-packed : (n : ℕ) → length (packed bit n) ≡ n
  unfolding packed
  length-packed zero = refl
  length-packed (suc n) = length-append (packed bit n) (from_bits bit (8 * n) 8 ∷ []) ∙ omega (arith, length-packed n)

  packed_byte : (n k : ℕ) → k < n → get_or (packed bit n) k 0 ≡ from_bits bit (8 * k) 8
  unfolding packed
  packed_byte zero k h = absurd (omega arith)
  packed_byte (suc n) k h =
      elim (ℕ_discrete k n) [
        | yes e ↦ rw e (get_or_at (packed bit n) (from_bits bit (8 * n) 8) [] 0 n (length-packed n))
        | no d ↦ get_or-append (packed bit n) (from_bits bit (8 * n) 8 ∷ []) 0 k (omega (arith, length-packed n, d))
            ∙ packed_byte n k (omega (arith, d))
      ]

  module _ (few : (t : ℕ) → bit t ≤ 1) where
    -- bit k of the number of n ticks' bits
    bit_of_lem : (n t k : ℕ) → k < n → from_bits bit t n / 2 ^ k % 2 ≡ bit (t + k)
    unfolding from_bits
    bit_of_lem zero t k h = absurd (omega arith)
    bit_of_lem (suc n) t zero h = omega (arith, few t, ap bit (add-zero t))
    bit_of_lem (suc n) t (suc k) h =
        let whole = bit t + 2 * from_bits bit (suc t) n in
        let halved : whole / 2 ≡ from_bits bit (suc t) n = omega (arith, few t) in
        let next : suc t + k ≡ t + suc k = omega arith in
        rw (pow-succ' 2 k, ← div-div-eq-div-mul whole 2 (2 ^ k), halved) (bit_of_lem n (suc t) k (omega arith) ∙ ap bit next)

    -- it has n digits
    pub from_below : (n t : ℕ) → from_bits bit t n < 2 ^ n
    unfolding from_bits
    from_below zero t = omega arith
    from_below (suc n) t = omega (arith, few t, two-pow-succ n, from_below n (suc t))

    pub packed-bit : (n t : ℕ) → t < 8 * n → get_or (packed bit n) (t / 8) 0 / 2 ^ (t % 8) % 2 ≡ bit t
    packed-bit n t h =
        rw (packed_byte n (t / 8) (omega arith)) (bit_of_lem 8 (8 * (t / 8)) (t % 8) (omega arith) ∙ ap bit (div-add-mod t 8))

-- ---- two columns whose ticks' bits are the same

module _ (f g : ℕ → ℕ) where
  pub from_same : (n t : ℕ) → ((i : ℕ) → i < t + n → f i ≡ g i) → from_bits f t n ≡ from_bits g t n
  unfolding from_bits
  from_same zero t same = refl
  from_same (suc n) t same =
      ap₂ (λ (b c : ℕ). b + 2 * c) (same t (omega arith)) (from_same n (suc t) (λ i h. same i (omega arith)))

  pub packed_same : (n : ℕ) → ((t : ℕ) → t < 8 * n → f t ≡ g t) → packed f n ≡ packed g n
  unfolding packed
  packed_same zero same = refl
  packed_same (suc n) same =
      ap₂ (λ (l : List ℕ) (b : ℕ). l ++ b ∷ []) (packed_same n (λ t h. same t (omega arith)))
      (from_same 8 (8 * n) (λ i h. same i (omega arith)))

-- ---- one run of ticks after another

module _ (bit : ℕ → ℕ) where
  -- ticks counted from tick a on
  pub from_along : (a n t : ℕ) → from_bits bit (a + t) n ≡ from_bits (λ (x : ℕ). bit (a + x)) t n
  unfolding from_bits
  from_along a zero t = refl
  from_along a (suc n) t =
      ap (λ (m : ℕ). bit (a + t) + 2 * m) (ap (λ (x : ℕ). from_bits bit x n) (sym (add-suc a t)) ∙ from_along a n (suc t))

  pub from_append : (a b t : ℕ) → from_bits bit t (a + b) ≡ from_bits bit t a + from_bits bit (a + t) b * 2 ^ a
  unfolding from_bits
  from_append zero b t = rw (zero-add b, zero-add t) (omega arith)
  from_append (suc a) b t =
      let next : suc a + t ≡ a + suc t = omega arith in
      rw (suc-add a b, next) (omega (arith, from_append a b (suc t), twice (from_bits bit (a + suc t) b) a))

  pub packed-append : (a b : ℕ) → packed bit (a + b) ≡ packed bit a ++ packed (λ (t : ℕ). bit (8 * a + t)) b
  unfolding packed
  packed-append a zero = ap (packed bit) (add-zero a) ∙ sym (append-nil (packed bit a))
  packed-append a (suc b) =
      let later : ℕ → ℕ = λ t. bit (8 * a + t) in
      let place : 8 * (a + b) ≡ 8 * a + 8 * b = omega arith in
      ap (packed bit) (add-suc a b)
      ∙ ap₂ (λ (l : List ℕ) (m : ℕ). l ++ m ∷ []) (packed-append a b)
      (ap (λ (t : ℕ). from_bits bit t 8) place ∙ from_along (8 * a) 8 (8 * b))
      ∙ append_assoc (packed bit a) (packed later b) (from_bits later (8 * b) 8 ∷ [])

  -- ---- ticks that all have the same bit

  module _ (b : ℕ) where
    pub from_all : (n t : ℕ) → ((i : ℕ) → i < t + n → bit i ≡ b) → from_bits bit t n + b ≡ b * 2 ^ n
    unfolding from_bits
    from_all zero t all = omega arith
    from_all (suc n) t all = omega (arith, all t (omega arith), from_all n (suc t) (λ i h. all i (omega arith)), twice b n)

    pub packed_all : (n : ℕ) → ((t : ℕ) → t < 8 * n → bit t ≡ b) → packed bit n ≡ replicate n (255 * b)
    unfolding packed
    packed_all zero all = refl
    packed_all (suc n) all =
        let byte : from_bits bit (8 * n) 8 ≡ 255 * b = omega (arith, from_all 8 (8 * n) (λ i h. all i (omega arith))) in
        ap₂ (λ (l : List ℕ) (m : ℕ). l ++ m ∷ []) (packed_all n (λ t h. all t (omega arith))) byte
        ∙ replicate-append-replicate n 1 (255 * b)
        ∙ ap (λ (k : ℕ). replicate k (255 * b)) (add-one n)
