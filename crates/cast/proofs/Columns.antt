-- A column's search, over any state of spans and any middles: what each way out of `byte_span` and of `column_span` shows. The ticks of a finished
-- span have one bit, since its marks are equal and a middle counts only where it is one crossing tick (`finished-bit`); those of a halved span have
-- the halves' (`left_bit`, `right_bit`).
use mathlib.Core.Path.{◌≡◌, refl, sym, ap, ap₂, subst, ◌∙◌}
use mathlib.Core.List.{List, ◌++◌}
use mathlib.Core.Bool.{Bool}
use Prim.Native.Nat.{ℕ, zero, suc, ◌+◌, ◌-◌, ◌*◌, ◌/◌, ◌%◌, ◌^◌, ◌≤◌, ◌<◌}
use native.Mathlib.Nat.{zero-div, zero-mul, add_assoc}
use native.Mathlib.Decide.{ℕ_discrete}
use native.Mathlib.Omega.{arith, pow_step}
use borrow.Author.Tests.{ne_eqb}
use lib.Arith.{digits_lt}
use lib.ListN.{length, get_or, set, drop, replicate, get_or-replicate, get_or-append}
use lib.Pow.{pow_pos, pow-add, pow_mono, shl_exact, ones_lt, ones_split, high}
use lib.Seq.{sets, get_or-append-add}
use Rattle.exact.proofs.Buffers.{sets-append, sets-whole}
use Rattle.field.specs.Bounds.{empty_mark, crossing_mark}
use Rattle.halving.specs.Halving.{probe_count, span_marks}
use Rattle.halving.proofs.Halving.{count_split, count-finished, count_below, marks_split, marks_finished, length_marks}
use Rattle.cast.specs.declared.ByteCast.{ByteCast}
use Rattle.cast.specs.Column.{column_bytes, tick_bit, from_bits, packed, span_bit, SpanBits}
use Rattle.cast.proofs.Bits.{bit_few, length-packed, from_same, packed_same, from_below, from_along, from_append, from_all}
use Rattle.cast.proofs.Bits.{packed-append, packed_all}

-- ---- bits in a byte

ones : (n : ℕ) → n ≤ 8 → 255 / 2 ^ (8 - n) ≡ 2 ^ n - 1
ones n h =
    let all : n + (8 - n) ≡ 8 = omega arith in
    let cut : 255 ≡ (2 ^ n - 1) * 2 ^ (8 - n) + (2 ^ (8 - n) - 1) = ap (λ (m : ℕ). 2 ^ m - 1) (sym all) ∙ ones_split n (8 - n) in
    ap (λ (m : ℕ). m / 2 ^ (8 - n)) cut ∙ high (2 ^ n - 1) (8 - n) (ones_lt (8 - n))

-- n of eight equal bits
equal_bits : (b n : ℕ) → b ≤ 1 → n ≤ 8 → 255 * b / 2 ^ (8 - n) + b ≡ b * 2 ^ n
equal_bits zero n few h = omega (arith, zero-div (2 ^ (8 - n)), zero-mul (2 ^ n))
equal_bits (suc zero) n few h = omega (arith, ones n h, pow_pos n)
equal_bits (suc (suc b)) n few h = absurd (omega arith)

-- n bits above n others
module _ {n x y : ℕ} (h : n ≤ 4) (x-few : x < 2 ^ n) (y-few : y < 2 ^ n) where
  pub shifted : y * 2 ^ n % 2 ^ 8 ≡ y * 2 ^ n
  shifted = shl_exact n n 8 y-few (omega arith)

  pub joined_fits : x + y * 2 ^ n % 2 ^ 8 < 2 ^ 8
  joined_fits =
      let whole : n + n ≤ 8 = omega arith in
      let room : 2 ^ n * 2 ^ n ≤ 2 ^ 8 = subst (λ (m : ℕ). m ≤ 2 ^ 8) (pow-add 2 n n) (pow_mono whole) in
      omega (arith, shifted, digits_lt y-few x-few)

-- two to the power k, up to 3
pub up_to_eight : {k n : ℕ} → n ≡ 2 ^ k → k ≤ 3 → (1 ≤ n) × (n ≤ 8)
up_to_eight {k} {n} size h = (omega (arith, size, pow_pos k), omega (arith, size, pow_mono {i = k} {j = 3} h))

-- the ticks of n bytes
pub eight_times : (k n : ℕ) → n ≡ 2 ^ k → 8 * n ≡ 2 ^ (k + 3)
eight_times k n size = omega (arith, size, pow-add 2 k 3)

-- the middle decides nothing of a mark that is not crossing
decided_bit : (mark : ℕ) (x y : Bool) → (mark ≡ crossing_mark → ⊥) → tick_bit mark x ≡ tick_bit mark y
unfolding tick_bit
decided_bit mark x y n = rw (ne_eqb mark crossing_mark n)

-- fewer probes than twice the ticks
pub probes_few : (st : ℕ → ℕ → ℕ) (k i n p : ℕ) → n ≡ 2 ^ k → p ≡ probe_count st k i → p < 2 * n
probes_few st k i n p size is = omega (arith, size, is, count_below st k i, pow_step 2 k)

module _ (st : ℕ → ℕ → ℕ) (mid : ℕ → Bool) where
  few : (k i t : ℕ) → span_bit st mid k i t ≤ 1
  unfolding span_bit
  few k i t = bit_few (get_or (span_marks st k i) t empty_mark) (mid (i + t))

  -- what `byte_span` promises, but for the room
  given : (k i n : ℕ) (r : ByteCast) → r.bits ≡ from_bits (span_bit st mid k i) 0 n → r.probes ≡ probe_count st k i → SpanBits st mid k i n r
  given k i n r e f = record { bits = e; room = rw e (from_below (span_bit st mid k i) (few k i) n 0); probes = f }

  -- ---- a span that is decided or one tick long

  module _ (k i len : ℕ) (size : len ≡ 2 ^ k) (finished : st i len ≡ 1 → k ≡ 0) where
    by_level : st i (2 ^ k) ≡ 1 → k ≡ 0
    by_level = subst (λ (n : ℕ). st i n ≡ 1 → k ≡ 0) size finished

    one_probe : probe_count st k i ≡ 1
    one_probe = count-finished st k i by_level

    finished-bit : (t : ℕ) → t < len → span_bit st mid k i t ≡ tick_bit (st i len) (mid i)
    unfolding span_bit
    finished-bit t h =
        let mark : get_or (span_marks st k i) t empty_mark ≡ st i len
        = ap (λ (ms : List ℕ). get_or ms t empty_mark) (marks_finished st k i by_level)
        ∙ get_or-replicate (2 ^ k) t (st i (2 ^ k)) empty_mark (omega (arith, size))
        ∙ ap (λ (n : ℕ). st i n) (sym size) in
        ap (λ (m : ℕ). tick_bit m (mid (i + t))) mark
        ∙ elim (ℕ_discrete (st i len) 1) [
          | yes u ↦
              let one : len ≡ 1 = size ∙ ap (λ (n : ℕ). 2 ^ n) (finished u) in
              let here : i + t ≡ i = omega arith in
              ap (λ (x : ℕ). tick_bit (st i len) (mid x)) here
          | no n ↦ decided_bit (st i len) (mid (i + t)) (mid i) n
        ]

    pub bits_finished : (r : ByteCast) → len ≤ 8 → r.bits ≡ 255 * tick_bit (st i len) (mid i) / 2 ^ (8 - len) → r.probes ≡ 1
        → SpanBits st mid k i len r
    bits_finished r h e f =
        let b = tick_bit (st i len) (mid i) in
        let all = from_all (span_bit st mid k i) b len 0 (λ t h. finished-bit t (omega arith)) in
        let equal = equal_bits b len (bit_few (st i len) (mid i)) h in
        given k i len r (omega (arith, e, all, equal)) (f ∙ sym one_probe)

  -- ---- a span that is halved

  module _ (k i len j half : ℕ) (size : len ≡ 2 ^ k) (e : k ≡ suc j) (is-half : half ≡ 2 ^ j) (undecided : st i len ≡ 1) where
    by_half : st i (2 ^ suc j) ≡ 1
    by_half = ap (λ (n : ℕ). st i n) (sym (size ∙ ap (λ (j : ℕ). 2 ^ j) e)) ∙ undecided

    both_halves : half + half ≡ len
    both_halves = omega (arith, is-half, size ∙ ap (λ (j : ℕ). 2 ^ j) e, pow_step 2 j)

    halves_probes : (p q : ℕ) → p ≡ probe_count st j i → q ≡ probe_count st j (i + half) → 1 + p + q ≡ probe_count st k i
    halves_probes p q p-is q_is =
        let right = q_is ∙ ap (λ (x : ℕ). probe_count st j (i + x)) is-half in
        omega (arith, p-is, right, ap (λ (n : ℕ). probe_count st n i) e ∙ count_split st j i by_half)

    halves_marks : span_marks st k i ≡ span_marks st j i ++ span_marks st j (i + half)
    halves_marks =
        ap (λ (n : ℕ). span_marks st n i) e
        ∙ marks_split st j i by_half
        ∙ ap (λ (x : ℕ). span_marks st j i ++ span_marks st j (i + x)) (sym is-half)

    long : length (span_marks st j i) ≡ half
    long = length_marks st j i ∙ sym is-half

    left_bit : (t : ℕ) → t < half → span_bit st mid k i t ≡ span_bit st mid j i t
    unfolding span_bit
    left_bit t h =
        ap (λ (m : ℕ). tick_bit m (mid (i + t)))
        (ap (λ (ms : List ℕ). get_or ms t empty_mark) halves_marks
        ∙ get_or-append (span_marks st j i) (span_marks st j (i + half)) empty_mark t (omega (arith, long)))

    right_bit : (t : ℕ) → span_bit st mid k i (half + t) ≡ span_bit st mid j (i + half) t
    unfolding span_bit
    right_bit t =
        ap₂ (λ (m x : ℕ). tick_bit m (mid x))
        (ap (λ (ms : List ℕ). get_or ms (half + t) empty_mark) halves_marks
        ∙ ap (λ (n : ℕ). get_or (span_marks st j i ++ span_marks st j (i + half)) (n + t) empty_mark) (sym long)
        ∙ get_or-append-add (span_marks st j i) (span_marks st j (i + half)) t empty_mark)
        (sym (add_assoc i half t))

    pub bits_halved : (l r w : ByteCast) → SpanBits st mid j i half l → SpanBits st mid j (i + half) half r
        → w.bits ≡ l.bits + r.bits * 2 ^ half → w.probes ≡ 1 + l.probes + r.probes → SpanBits st mid k i len w
    bits_halved l r w left right bits probes =
        let bit = span_bit st mid k i in
        let low : from_bits bit 0 half ≡ l.bits = from_same bit (span_bit st mid j i) half 0 (λ t h. left_bit t (omega arith)) ∙ sym left.bits in
        let high : from_bits bit (half + 0) half ≡ r.bits =
        from_along bit half half 0
        ∙ from_same (λ (x : ℕ). bit (half + x)) (span_bit st mid j (i + half)) half 0 (λ t h. right_bit t)
        ∙ sym right.bits in
        given k i len w
        (bits
        ∙ sym (ap (λ (n : ℕ). from_bits bit 0 n) (sym both_halves)
        ∙ from_append bit half half 0
        ∙ ap₂ (λ (x y : ℕ). x + y * 2 ^ half) low high))
        (probes ∙ halves_probes l.probes r.probes left.probes right.probes)

    -- the same of whole bytes
    packed_halved : (n : ℕ) → half ≡ 8 * n
        → packed (span_bit st mid k i) (n + n) ≡ packed (span_bit st mid j i) n ++ packed (span_bit st mid j (i + half)) n
    packed_halved n eight =
        let bit = span_bit st mid k i in
        packed-append bit n n
        ∙ ap₂ (λ (u v : List ℕ). u ++ v) (packed_same bit (span_bit st mid j i) n (λ t h. left_bit t (omega arith)))
        (packed_same (λ (t : ℕ). bit (8 * n + t)) (span_bit st mid j (i + half)) n (λ t h. ap (λ (m : ℕ). bit (m + t)) (sym eight) ∙ right_bit t))

  -- ---- the n = 2^k bytes from byte i on

  module _ (k i n : ℕ) (size : n ≡ 2 ^ k) (out : List ℕ) where
    -- what `column_span` promises of its probes and of the buffer
    abbrev pub Column : ℕ → List ℕ → Type 0
    Column p l = (p ≡ probe_count st (k + 3) (8 * i)) × (l ≡ sets out i (packed (span_bit st mid (k + 3) (8 * i)) n))

    pub byte_made : (r : ByteCast) → k ≡ 0 → SpanBits st mid 3 (8 * i) 8 r → Column r.probes (set out i r.bits)
    unfolding packed
    byte_made r z s =
        let level : 3 ≡ k + 3 = omega arith in
        let one : 1 ≡ n = sym (size ∙ ap (λ (k : ℕ). 2 ^ k) z) in (
          s.probes ∙ ap (λ (k : ℕ). probe_count st k (8 * i)) level,
          ap (λ (b : ℕ). set out i b) s.bits ∙ ap₂ (λ (k n : ℕ). sets out i (packed (span_bit st mid k (8 * i)) n)) level one,
        )

    pub bytes_finished : (l : List ℕ) → (st (8 * i) (8 * n) ≡ 1 → ⊥)
        → l ≡ sets out i (replicate n (255 * tick_bit (st (8 * i) (8 * n)) (mid (8 * i)))) → Column 1 l
    bytes_finished l decided filled =
        let finished : st (8 * i) (8 * n) ≡ 1 → k + 3 ≡ 0 = λ u. absurd (decided u) in (
          sym (one_probe (k + 3) (8 * i) (8 * n) (eight_times k n size) finished),
          filled
              ∙ ap (λ (u : List ℕ). sets out i u)
              (sym (packed_all (span_bit st mid (k + 3) (8 * i)) (tick_bit (st (8 * i) (8 * n)) (mid (8 * i))) n
              (finished-bit (k + 3) (8 * i) (8 * n) (eight_times k n size) finished))),
        )

    pub bytes_halved : (j half : ℕ) → k ≡ suc j → half ≡ 2 ^ j → st (8 * i) (8 * n) ≡ 1 → (p q : ℕ) (l l' : List ℕ)
        → p ≡ probe_count st (j + 3) (8 * i) → l ≡ sets out i (packed (span_bit st mid (j + 3) (8 * i)) half)
        → q ≡ probe_count st (j + 3) (8 * (i + half)) → l' ≡ sets l (i + half) (packed (span_bit st mid (j + 3) (8 * (i + half))) half)
        → Column (1 + p + q) l'
    bytes_halved j half e is-half undecided p q l l' p-is l_is q_is l'-is =
        let up : k + 3 ≡ suc (j + 3) = omega arith in
        let place : 8 * (i + half) ≡ 8 * i + 8 * half = omega arith in
        let both : half + half ≡ n = omega (arith, is-half, size ∙ ap (λ (k : ℕ). 2 ^ k) e, pow_step 2 j) in
        let ticks = eight_times k n size in
        let half-ticks = eight_times j half is-half in
        let left = packed (span_bit st mid (j + 3) (8 * i)) half in
        let right = packed (span_bit st mid (j + 3) (8 * i + 8 * half)) half in (
          halves_probes (k + 3) (8 * i) (8 * n) (j + 3) (8 * half) ticks up half-ticks undecided p q p-is
              (q_is ∙ ap (λ (x : ℕ). probe_count st (j + 3) x) place),
          l'-is
              ∙ ap (λ (x : ℕ). sets l (i + half) (packed (span_bit st mid (j + 3) x) half)) place
              ∙ ap (λ (l : List ℕ). sets l (i + half) right) l_is
              ∙ ap (λ (m : ℕ). sets (sets out i left) (i + m) right) (sym (length-packed (span_bit st mid (j + 3) (8 * i)) half))
              ∙ sets-append left right out i
              ∙ ap (λ (u : List ℕ). sets out i u)
              (sym (packed_halved (k + 3) (8 * i) (8 * n) (j + 3) (8 * half) ticks up half-ticks undecided half refl)
              ∙ ap (packed (span_bit st mid (k + 3) (8 * i))) both),
        )

  -- a whole column, by its ticks' bits
  pub column_whole : (k : ℕ) (bit : ℕ → ℕ) → ((t : ℕ) → span_bit st mid k 0 t ≡ bit t) → (out l : List ℕ) → column_bytes ≤ length out
      → l ≡ sets out 0 (packed (span_bit st mid k 0) column_bytes) → l ≡ packed bit column_bytes ++ drop column_bytes out
  column_whole k bit same out l room wrote =
      wrote
      ∙ ap (λ (u : List ℕ). sets out 0 u) (packed_same (span_bit st mid k 0) bit column_bytes (λ t h. same t))
      ∙ sets-whole (packed bit column_bytes) out column_bytes (length-packed bit column_bytes) room
