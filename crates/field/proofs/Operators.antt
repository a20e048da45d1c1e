-- What depends on the operators, each law by cases over them: an operator's bounds enclose its value (`join_encloses`), are no looser for operands
-- that are no looser (`join_within`), are no wider than its operands' tolerances added (`join_narrow`) and no larger than they (`join_size`).
-- Sum, greater and lesser do one thing to lows and to highs, and have the laws as such (`Endwise`); cut is the lesser with a complement.
use mathlib.Core.Path.{◌≡◌, sym, subst}
use mathlib.Core.Logic.{◌⊎◌, inl, inr}
use Prim.Native.Nat.{ℕ, ◌+◌, ◌*◌, ◌≤◌}
use native.Mathlib.Omega.{arith}
use lib.IntN.{ℤ, pos, nat_abs, ◌+ℤ◌, ◌-ℤ◌}
use lib.Signed.{◌≤ℤ◌, ≤ℤ_refl}
use Rattle.exact.specs.Extrema.{max_ℤ, min_ℤ}
use Rattle.exact.specs.Fraction.{Fraction, Proper, ◌≼◌, plus, greater, lesser}
use Rattle.exact.proofs.Ring.{◌⊕◌, ◌⊖◌, ◌≔◌, ring}
use Rattle.exact.proofs.Linear.{down, cross, sub_parts, nat_abs_parts}
use Rattle.exact.proofs.Order.{add_mono, sub_mono}
use Rattle.exact.proofs.Absolute.{nat_abs-add}
use Rattle.exact.proofs.Picks.{picked, spread, carried}
use Rattle.exact.proofs.Extrema.{min_is, max_picks, min_picks, max_mono, min_mono, nat_abs-max, nat_abs-min}
use Rattle.exact.proofs.Fractions.{≼_trans, ≼-over, plus_proper, plus_mono, plus-over, plus_up, plus_nn, less_proper, less_anti, less-over}
use Rattle.exact.proofs.Fractions.{greater_picks, lesser_picks, greater_mono, lesser_mono}
use Rattle.field.specs.declared.Bounds.{Bounds}
use Rattle.field.specs.Kernel.{fixed_one}
use Rattle.field.specs.Tree.{Operator}
use Rattle.field.specs.Field.{complement, join_fractions}
use Rattle.field.specs.Bounds.{level, endwise, complement_bounds, join_bounds, units, Encloses, Within, NoWider}
use Rattle.field.proofs.Points.{one-pos}

-- ---- one operation on values, f, and on ends, g

-- a rise of g is no farther than its operands' rises together, than the earlier's alone or than the later's alone
abbrev Spread : ℤ → ℤ → ℤ → Type 0
Spread w a b = (w ≡ a +ℤ b) ⊎ ((w ≤ℤ a) ⊎ (w ≤ℤ b))

-- f and g are the same of units; both rise with their operands; g does not spread them or make them larger
pub record Endwise (f : Fraction → Fraction → Fraction) (g : ℤ → ℤ → ℤ) : Type 0 where
  pub proper : (x y : Fraction) → Proper x → Proper y → Proper (f x y)
  pub same : (a b : ℤ) → (units (g a b) ≼ f (units a) (units b)) × (f (units a) (units b) ≼ units (g a b))
  pub value_mono : (x y x' y' : Fraction) → Proper x → Proper y → Proper x' → Proper y' → x ≼ x' → y ≼ y' → f x y ≼ f x' y'
  pub end_mono : (a b c d : ℤ) → a ≤ℤ c → b ≤ℤ d → g a b ≤ℤ g c d
  pub spread : (a b c d : ℤ) → Spread (g c d -ℤ g a b) (c -ℤ a) (d -ℤ b)
  pub size : (a b : ℤ) → nat_abs (g a b) ≤ nat_abs a + nat_abs b

sum_endwise : Endwise plus ◌+ℤ◌
sum_endwise = record {
  proper = plus_proper;
  same = λ a b. plus-over a b fixed_one;
  value_mono = λ x y x' y' p q p' q' h k. plus_mono h k;
  end_mono = λ a b c d h k. add_mono h k;
  spread = λ a b c d. inl (ring 4 (λ a b c d. c ⊕ d ⊖ (a ⊕ b) ≔ c ⊖ a ⊕ (d ⊖ b)) tt a b c d);
  size = nat_abs-add;
}

greater-endwise : Endwise greater max_ℤ
greater-endwise = record {
  proper = picked greater_picks Proper;
  same = carried max_picks greater_picks units (λ a b h. ≼-over fixed_one h);
  value_mono = λ x y x' y' p q p' q' h k. greater_mono p' q' h k;
  end_mono = λ a b c d h k. max_mono h k;
  spread = λ a b c d. inr (spread max_picks (λ (high low : ℤ). high -ℤ low) (λ x y z h. sub_mono (≤ℤ_refl x) h) c d a b);
  size = λ a b. omega (arith, nat_abs-max a b);
}

lesser-endwise : Endwise lesser min_ℤ
lesser-endwise = record {
  proper = picked lesser_picks Proper;
  same = λ a b. let e = carried min_picks lesser_picks units (λ a b h. ≼-over fixed_one h) a b in (e.1, e.0);
  value_mono = λ x y x' y' p q p' q' h k. lesser_mono p q h k;
  end_mono = λ a b c d h k. min_mono h k;
  spread = λ a b c d. inr (spread min_picks (λ (low high : ℤ). high -ℤ low) (λ x y z h. sub_mono h (≤ℤ_refl x)) a b c d);
  size = λ a b. omega (arith, nat_abs-min a b);
}

-- ---- enclosing

complement_encloses : (iso : ℕ) (b : Bounds) (y : Fraction) → Encloses b y → Encloses (complement_bounds iso b) (complement iso y)
complement_encloses iso b y k = record {
  proper = less_proper _ y k.proper;
  above = subst (λ (z : Fraction). z ≼ complement iso y) (less-over (pos (2 * iso)) b.high fixed_one) (less_anti (pos (2 * iso)) k.below);
  below = subst (λ (z : Fraction). complement iso y ≼ z) (less-over (pos (2 * iso)) b.low fixed_one) (less_anti (pos (2 * iso)) k.above);
}

module _ {f : Fraction → Fraction → Fraction} {g : ℤ → ℤ → ℤ} (e : Endwise f g) (a b : Bounds) (x y : Fraction)
    (h : Encloses a x) (k : Encloses b y) where
  joined : (l m : ℤ) → Proper (f (units l) (units m))
  joined l m = e.proper (units l) (units m) one-pos one-pos

  endwise_encloses : Encloses (endwise g a b) (f x y)
  endwise_encloses = record {
    proper = e.proper x y h.proper k.proper;
    above = ≼_trans (joined a.low b.low) (e.same a.low b.low).0
        (e.value_mono (units a.low) (units b.low) x y one-pos one-pos h.proper k.proper h.above k.above);
    below = ≼_trans (joined a.high b.high)
        (e.value_mono x y (units a.high) (units b.high) h.proper k.proper one-pos one-pos h.below k.below)
        (e.same a.high b.high).1;
  }

pub join_encloses : (iso : ℕ) (o : Operator) (a b : Bounds) (x y : Fraction) → Encloses a x → Encloses b y
    → Encloses (join_bounds iso o a b) (join_fractions iso o x y)
unfolding join_bounds join_fractions
join_encloses iso Operator.sum a b x y h k = endwise_encloses sum_endwise a b x y h k
join_encloses iso Operator.greater a b x y h k = endwise_encloses greater-endwise a b x y h k
join_encloses iso Operator.lesser a b x y h k = endwise_encloses lesser-endwise a b x y h k
join_encloses iso Operator.cut a b x y h k =
    endwise_encloses lesser-endwise a (complement_bounds iso b) x (complement iso y) h (complement_encloses iso b y k)

-- ---- no looser

complement_within : (iso : ℕ) {b d : Bounds} → Within b d → Within (complement_bounds iso b) (complement_bounds iso d)
complement_within iso k = record { low = sub_mono (≤ℤ_refl (level (2 * iso))) k.high; high = sub_mono (≤ℤ_refl (level (2 * iso))) k.low }

endwise_within : {f : Fraction → Fraction → Fraction} {g : ℤ → ℤ → ℤ} → Endwise f g → (a b c d : Bounds) → Within a c → Within b d
    → Within (endwise g a b) (endwise g c d)
endwise_within e a b c d h k = record {
  low = e.end_mono c.low d.low a.low b.low h.low k.low;
  high = e.end_mono a.high b.high c.high d.high h.high k.high;
}

pub join_within : (iso : ℕ) (o : Operator) (a b c d : Bounds) → Within a c → Within b d → Within (join_bounds iso o a b) (join_bounds iso o c d)
unfolding join_bounds
join_within iso Operator.sum a b c d h k = endwise_within sum_endwise a b c d h k
join_within iso Operator.greater a b c d h k = endwise_within greater-endwise a b c d h k
join_within iso Operator.lesser a b c d h k = endwise_within lesser-endwise a b c d h k
join_within iso Operator.cut a b c d h k =
    endwise_within lesser-endwise a (complement_bounds iso b) c (complement_bounds iso d) h (complement_within iso k)

-- ---- no wider

-- b is no wider than y, which is not negative
pub record Narrow (b : Bounds) (y : Fraction) : Type 0 where
  pub no_wider : NoWider b y
  pub nonneg : pos 0 ≤ℤ y.num

abbrev width : Bounds → ℤ
width b = b.high -ℤ b.low

complement_narrow : (iso : ℕ) (b : Bounds) (y : Fraction) → Narrow b y → Narrow (complement_bounds iso b) y
complement_narrow iso b y k = record {
  no_wider = record {
    proper = k.no_wider.proper;
    width = subst (λ (w : ℤ). units w ≼ y) (ring 3 (λ l h n. h ⊖ l ≔ n ⊖ l ⊖ (n ⊖ h)) tt b.low b.high (level (2 * iso))) k.no_wider.width;
  };
  nonneg = k.nonneg;
}

module _ (a b : Bounds) (x y : Fraction) (h : Narrow a x) (k : Narrow b y) where
  -- a width that is spread no farther
  spread_narrow : (w : ℤ) → Spread w (width a) (width b) → units w ≼ plus x y
  spread_narrow w (inl e) =
      subst (λ (z : ℤ). units z ≼ plus x y) (sym e)
      (≼_trans (plus_proper (units (width a)) (units (width b)) one-pos one-pos)
      (plus-over (width a) (width b) fixed_one).0 (plus_mono h.no_wider.width k.no_wider.width))
  spread_narrow w (inr (inl l)) =
      ≼_trans h.no_wider.proper (≼_trans one-pos (≼-over fixed_one l) h.no_wider.width) (plus_up x y h.nonneg k.nonneg).0
  spread_narrow w (inr (inr l)) =
      ≼_trans k.no_wider.proper (≼_trans one-pos (≼-over fixed_one l) k.no_wider.width) (plus_up x y h.nonneg k.nonneg).1

  endwise_narrow : {f : Fraction → Fraction → Fraction} {g : ℤ → ℤ → ℤ} → Endwise f g → Narrow (endwise g a b) (plus x y)
  endwise_narrow {g = g} e = record {
    no_wider = record {
      proper = plus_proper x y h.no_wider.proper k.no_wider.proper;
      width = spread_narrow (width (endwise g a b)) (e.spread a.low b.low a.high b.high);
    };
    nonneg = plus_nn x y h.nonneg k.nonneg;
  }

pub join_narrow : (iso : ℕ) (o : Operator) (a b : Bounds) (x y : Fraction) → Narrow a x → Narrow b y → Narrow (join_bounds iso o a b) (plus x y)
unfolding join_bounds
join_narrow iso Operator.sum a b x y h k = endwise_narrow a b x y h k sum_endwise
join_narrow iso Operator.greater a b x y h k = endwise_narrow a b x y h k greater-endwise
join_narrow iso Operator.lesser a b x y h k = endwise_narrow a b x y h k lesser-endwise
join_narrow iso Operator.cut a b x y h k =
    endwise_narrow a (complement_bounds iso b) x y h (complement_narrow iso b y k) lesser-endwise

-- ---- no larger

-- |low| + |high|
abbrev pub size : Bounds → ℕ
size b = nat_abs b.low + nat_abs b.high

-- the lesser with b is larger than a by no more than b lies below 0
lesser-size : (a b : ℤ) → nat_abs (min_ℤ a b) ≤ nat_abs a + down b
lesser-size a b = elim (min_is a b) [
  | inl h ↦ rw h.1 (omega arith)
  | inr h ↦ rw h.1 (omega (arith, cross h.0, nat_abs_parts a, nat_abs_parts b))
]

-- n − b, of a natural n, lies below 0 by no more than the size of b
complement-size : (n : ℕ) (b : ℤ) → down (pos n -ℤ b) ≤ nat_abs b
complement-size n b = omega (arith, sub_parts (pos n) b, nat_abs_parts b, nat_abs_parts (pos n -ℤ b))

cut-size : (n : ℕ) (a b : ℤ) → nat_abs (min_ℤ a (pos n -ℤ b)) ≤ nat_abs a + nat_abs b
cut-size n a b = omega (arith, lesser-size a (pos n -ℤ b), complement-size n b)

endwise-size : {f : Fraction → Fraction → Fraction} {g : ℤ → ℤ → ℤ} → Endwise f g → (a b : Bounds) → size (endwise g a b) ≤ size a + size b
endwise-size e a b = omega (arith, e.size a.low b.low, e.size a.high b.high)

pub join_size : (iso : ℕ) (o : Operator) (a b : Bounds) → size (join_bounds iso o a b) ≤ size a + size b
unfolding join_bounds
join_size iso Operator.sum a b = endwise-size sum_endwise a b
join_size iso Operator.greater a b = endwise-size greater-endwise a b
join_size iso Operator.lesser a b = endwise-size lesser-endwise a b
join_size iso Operator.cut a b =
    omega (arith, cut-size (2 * iso * fixed_one) a.low b.high, cut-size (2 * iso * fixed_one) a.high b.low)
