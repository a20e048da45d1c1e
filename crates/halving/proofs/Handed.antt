-- What a cast hands over: the marks of the ticks that it looked at, stored from the buffer's start on, and then 3 for the others (`handed-over`);
-- of a complete one, every mark (`handed_all`).
use Prim.Native.Nat.{ℕ, ◌-◌, ◌≤◌}
use mathlib.Core.Path.{◌≡◌, sym, ap, ◌∙◌}
use mathlib.Core.List.{List, ◌++◌, append-nil}
use native.Mathlib.Omega.{arith}
use native.Mathlib.Nat.{zero-add, le_of_eq}
use lib.ListN.{length, take, drop, replicate, length-append, length-replicate}
use lib.Seq.{sets, length-take-le, take_all}
use Rattle.exact.proofs.Buffers.{sets-append, sets-whole}
use Rattle.field.specs.Bounds.{not_looked_at}
use Rattle.halving.specs.declared.Cast.{Cast}
use Rattle.halving.specs.declared.Cast.TheVariants.{Complete}
use Rattle.halving.specs.Halving.{cast_looked_at, handed}

pub handed_all : (n p : ℕ) (ms : List ℕ) → length ms ≡ n → handed n (Complete p) ms ≡ ms
unfolding handed cast_looked_at
handed_all n p ms all =
    let none : n - n ≡ 0 = omega arith in
    ap (λ (k : ℕ). take n ms ++ replicate k not_looked_at) none ∙ append-nil (take n ms) ∙ take_all n ms (le_of_eq all)

-- of n ticks with the marks ms, of which a cast that answers w looked at some
pub handed-over : (n : ℕ) (w : Cast) (ms : List ℕ) → length ms ≡ n → cast_looked_at n w ≤ n → (out l l' : List ℕ) → n ≤ length out
    → l ≡ sets out 0 (take (cast_looked_at n w) ms) → l' ≡ sets l (cast_looked_at n w) (replicate (n - cast_looked_at n w) not_looked_at)
    → l' ≡ handed n w ms ++ drop n out
unfolding handed
handed-over n w ms all within out l l' room wrote marked =
    let looked = cast_looked_at n w in
    let rest = replicate {A = ℕ} (n - looked) not_looked_at in
    let rest_long : length rest ≡ n - looked = length-replicate {A = ℕ} (n - looked) not_looked_at in
    let long : length (take looked ms) ≡ looked = length-take-le looked ms (omega (arith, within, all)) in
    marked
    ∙ ap (λ (l : List ℕ). sets l looked rest) wrote
    ∙ ap (λ (i : ℕ). sets (sets out 0 (take looked ms)) i rest) (sym (zero-add (length (take looked ms)) ∙ long))
    ∙ sets-append (take looked ms) rest out 0
    ∙ sets-whole (take looked ms ++ rest) out n (omega (arith, length-append (take looked ms) rest, long, rest_long, within)) room
