-- Exact rounding: a fraction over a power of two is rounded to itself, where its digits are no more than the format keeps, the power does not reach
-- below the format and nothing overflows.
use Rattle.std.proofs.Common.{◌≡◌, ℕ, suc, ◌+◌, ◌-◌, ◌*◌, ◌^◌, ◌<◌, ◌≤◌, Bool, ℤ, pos, negsuc, sym, ap, ◌∙◌, subst, le_of_suc-le-suc, zero-lt-suc}
use Rattle.std.proofs.Common.{mul_assoc, mul_comm, lt_of_mul-lt-mul_right, mul-lt-mul_of_pos_right, lt_of_not-le, mul-one, sub-add_cancel}
use Rattle.std.proofs.Common.{mul_right_comm, not-le_of_lt, pow_pos, pow-add}
use lib.Pow.{pow-lt}
use lib.Ieee.{Format, prec, emax, low, up, down, round}
use lib.Ieee.Exact.{HasValue, round_exact}

exp_le : (a b : ℕ) → 2 ^ a ≤ 2 ^ b → a ≤ b
exp_le a b h = le_of_suc-le-suc (lt_of_not-le (λ (g : suc b ≤ a). not-le_of_lt (pow-lt g) h))

under : (f : Format) (num den w : ℕ) → num * 2 ^ low f ≡ w * den → num < 2 ^ suc (emax f) * den → w < 2 ^ (low f + suc (emax f))
under f num den w e h =
    let g : 2 ^ suc (emax f) * den * 2 ^ low f ≡ 2 ^ (low f + suc (emax f)) * den =
    mul_right_comm (2 ^ suc (emax f)) den (2 ^ low f)
    ∙ ap (λ (z : ℕ). z * den) (mul_comm (2 ^ suc (emax f)) (2 ^ low f) ∙ sym (pow-add 2 (low f) (suc (emax f)))) in
    lt_of_mul-lt-mul_right den (subst (λ (z : ℕ). z < 2 ^ (low f + suc (emax f)) * den) e
    (subst (λ (z : ℕ). num * 2 ^ low f < z) g (mul-lt-mul_of_pos_right h (pow_pos (low f)))))

-- q * 2 ^ (e + t), for a q of no more digits than the format keeps, where e does not reach below the format and nothing overflows
pub exact : (f : Format) (s : Bool) (q : ℕ) (e : ℤ) (t : ℕ) → q < 2 ^ prec f → down e ≤ 2 ^ low f → q * up e * 2 ^ t < 2 ^ suc (emax f) * down e
    → HasValue (round f s (q * up e * 2 ^ t) (down e)) s (q * up e * 2 ^ t) (down e)
exact f s q (pos k) t Q L H =
    let j : q * 2 ^ k * 2 ^ t * 2 ^ low f ≡ q * 2 ^ (k + t + low f) * 1 = simp (pow-add, mul-one, mul_assoc) in
    round_exact f s (q * 2 ^ k * 2 ^ t) 1 q (k + t + low f) (zero-lt-suc 0) Q (under f (q * 2 ^ k * 2 ^ t) 1 (q * 2 ^ (k + t + low f)) j H) j
exact f s q (negsuc k) t Q L H =
    let d = low f - suc k in
    let b : 2 ^ d * 2 ^ suc k ≡ 2 ^ low f = sym (pow-add 2 d (suc k)) ∙ ap (λ (z : ℕ). 2 ^ z) (sub-add_cancel (exp_le (suc k) (low f) L)) in
    let j : q * 1 * 2 ^ t * 2 ^ low f ≡ q * 2 ^ (t + d) * 2 ^ suc k =
    ap (λ (z : ℕ). z * 2 ^ t * 2 ^ low f) (mul-one q)
    ∙ ap (λ (z : ℕ). q * 2 ^ t * z) (sym b)
    ∙ sym (mul_assoc (q * 2 ^ t) (2 ^ d) (2 ^ suc k))
    ∙ ap (λ (z : ℕ). z * 2 ^ suc k) (mul_assoc q (2 ^ t) (2 ^ d) ∙ ap (λ (z : ℕ). q * z) (sym (pow-add 2 t d))) in
    round_exact f s (q * 1 * 2 ^ t) (2 ^ suc k) q (t + d) (pow_pos (suc k)) Q (under f (q * 1 * 2 ^ t) (2 ^ suc k) (q * 2 ^ (t + d)) j H) j

-- r / down e, with those bounds
pub fraction : (f : Format) (s : Bool) (r : ℕ) (e : ℤ) → r < 2 ^ prec f → down e ≤ 2 ^ low f → r < 2 ^ suc (emax f) * down e
    → HasValue (round f s r (down e)) s r (down e)
fraction f s r (pos k) Q L H =
    let z : r * 1 * 1 ≡ r = mul-one (r * 1) ∙ mul-one r in
    subst (λ (n : ℕ). HasValue (round f s n 1) s n 1) z (exact f s r (pos 0) 0 Q L (subst (λ (n : ℕ). n < 2 ^ suc (emax f) * 1) (sym z) H))
fraction f s r (negsuc k) Q L H =
    let z : r * 1 * 1 ≡ r = mul-one (r * 1) ∙ mul-one r in
    subst (λ (n : ℕ). HasValue (round f s n (2 ^ suc k)) s n (2 ^ suc k)) z
    (exact f s r (negsuc k) 0 Q L (subst (λ (n : ℕ). n < 2 ^ suc (emax f) * 2 ^ suc k) (sym z) H))
