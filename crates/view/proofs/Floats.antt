-- A float's exact value, as a fraction with a sign.
use Rattle.std.proofs.Common.{◌≡◌, ℕ, zero, suc, ◌*◌, Bool, true, false, pos, ◌*ℤ◌, neg_ℤ, nat_abs, sym, refl, ap, ◌∙◌, zero-mul}
use lib.Ieee.{Float, nan, inf, fin, down}
use lib.Ieee.Exact.{HasValue}
use Rattle.view.specs.Floats.{signed, Equals}

pub abs_signed : (s : Bool) (n : ℕ) → nat_abs (signed s n) ≡ n
abs_signed true zero = refl
abs_signed true (suc n) = refl
abs_signed false n = refl

pub signed-times : (s : Bool) (q c : ℕ) → signed s (q * c) ≡ signed s q *ℤ pos c
signed-times false q c = refl
signed-times true zero c = ap (λ (z : ℕ). neg_ℤ (pos z)) (zero-mul c) ∙ sym (ap pos (zero-mul c))
signed-times true (suc q) c = refl

-- a float of the value ±a/c equals it
pub equals : (y : Float) (s : Bool) (a c : ℕ) → HasValue y s a c → Equals y (signed s a) c
equals nan s a c v = absurd v
equals (inf t) s a c v = absurd v
equals (fin t m e) s a c v = rw (v.0, v.1) (signed-times s a (down e))
