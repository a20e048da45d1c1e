-- The constants of the code are bit patterns, which `of_bits` turns into `fin s m e`.
use Rattle.std.proofs.Common.{◌≡◌, true, false, T, ℤ, sym, ap, ◌∙◌, w32, w64, Some, None}
use Rattle.std.specs.Float.{float_to_signed}
use lib.Ieee.{Float, binary32, of_bits, neg, le, eq, fits, of_int}
use denote.Floats.{passes}
use Rattle.exact.proofs.Machine.{back, small_fits, same, known}
use Rattle.exact.proofs.Tests.{true_both}
use Rattle.view.specs.Steps.{times64, steps_of, Exactly, Steps}
use Rattle.view.proofs.Whole.{inside, Ranged, ranged, unranged, cut_of, truncates, cut_is, cut_small, castable, whole_yes, whole_no, exactly}
use Rattle.view.proofs.in_steps.Goals as goal

promised : (x : Float) {r : Steps} → r ≡ steps_of x → Exactly x r
promised x e = rw e (exactly x)

-- the float as the code reads it, and its product
module _ (x p : Float) (held : T (fits binary32 x)) (is : p ≡ times64 x) where
  -- both tests passed
  range : le (neg (of_bits binary32 1157619712)) p ≡ true → le p (of_bits binary32 1157619712) ≡ true → Ranged x
  unfolding of_bits neg
  range low high = ranged x held (ap inside (sym is) ∙ true_both low high)

  -- one test failed
  out : inside p ≡ false → None ≡ steps_of x
  out h = sym (unranged x held (ap inside (sym is) ∙ h))

  out_low : le (neg (of_bits binary32 1157619712)) p ≡ false → None ≡ steps_of x
  unfolding of_bits neg
  out_low low = out (rw low)

  out_high : le (neg (of_bits binary32 1157619712)) p ≡ true → le p (of_bits binary32 1157619712) ≡ false → None ≡ steps_of x
  unfolding of_bits neg
  out_high low high = out (rw (low, high))

  module _ (r : Ranged x) {n : ℤ} (given : n ≡ float_to_signed w64 p) where
    -- the number read from the truncation's bits
    cut : back w64 n ≡ cut_of r
    cut = let e = given ∙ cut_is is r in known w64 (rw e (small_fits (cut_small r) tt)) e

    -- the comparison with it cast back
    yes : eq (of_int binary32 (back w64 n)) p ≡ true → Some (back w32 (back w64 n)) ≡ steps_of x
    yes h =
        ap (λ (z : ℤ). Some (back w32 z)) cut
        ∙ ap Some (same w32 (cut_of r) (small_fits (cut_small r) tt))
        ∙ whole_yes is r (ap (λ (z : ℤ). eq (of_int binary32 z) p) (sym cut) ∙ h)

    no : eq (of_int binary32 (back w64 n)) p ≡ false → None ≡ steps_of x
    no h = whole_no is r (ap (λ (z : ℤ). eq (of_int binary32 z) p) (sym cut) ∙ h)

pub truncating_f32_to_i64-n-requires : goal.truncating_f32_to_i64-n-requires
truncating_f32_to_i64-n-requires c =
    let held = passes (fits binary32 c.args.x) c.well_formed.0.1 in
    let t = truncates c.scale-p.ensures (range c.args.x c.scale-p.result held c.scale-p.ensures c.if-p.true c.if-p-2.true) in
    record { lower_bound = t.0; upper_bound = t.1 }

pub int_to_float-n : goal.int_to_float-n
int_to_float-n c =
    let held = passes (fits binary32 c.args.x) c.well_formed.0.1 in
    let r = range c.args.x c.scale-p.result held c.scale-p.ensures c.if-p.true c.if-p-2.true in
    rw (cut c.args.x c.scale-p.result held c.scale-p.ensures r c.truncating_f32_to_i64-n.ensures) (castable _ (cut_small r))

pub overflow_cast-result : goal.overflow_cast-result
overflow_cast-result c =
    let held = passes (fits binary32 c.args.x) c.well_formed.0.1 in
    let r = range c.args.x c.scale-p.result held c.scale-p.ensures c.if-p.true c.if-p-2.true in
    rw (cut c.args.x c.scale-p.result held c.scale-p.ensures r c.truncating_f32_to_i64-n.ensures) (small_fits (cut_small r) tt)

pub returns-then-n-p : goal.returns-then-n-p
returns-then-n-p c =
    let held = passes (fits binary32 c.args.x) c.well_formed.0.1 in
    let r = range c.args.x c.scale-p.result held c.scale-p.ensures c.if-p.true c.if-p-2.true in
    let e = yes c.args.x c.scale-p.result held c.scale-p.ensures r c.truncating_f32_to_i64-n.ensures c.if-n-p.true in
    record { answer = e; exactly = promised c.args.x e }

pub returns-else-n-p : goal.returns-else-n-p
returns-else-n-p c =
    let held = passes (fits binary32 c.args.x) c.well_formed.0.1 in
    let r = range c.args.x c.scale-p.result held c.scale-p.ensures c.if-p.true c.if-p-2.true in
    let e = no c.args.x c.scale-p.result held c.scale-p.ensures r c.truncating_f32_to_i64-n.ensures c.if-n-p.false in
    record { answer = e; exactly = promised c.args.x e }

pub returns-else-p-2 : goal.returns-else-p-2
returns-else-p-2 c =
    let held = passes (fits binary32 c.args.x) c.well_formed.0.1 in
    let e = out_high c.args.x c.scale-p.result held c.scale-p.ensures c.if-p.true c.if-p-2.false in
    record { answer = e; exactly = promised c.args.x e }

pub returns-else-p : goal.returns-else-p
returns-else-p c =
    let held = passes (fits binary32 c.args.x) c.well_formed.0.1 in
    let e = out_low c.args.x c.scale-p.result held c.scale-p.ensures c.if-p.false in
    record { answer = e; exactly = promised c.args.x e }
