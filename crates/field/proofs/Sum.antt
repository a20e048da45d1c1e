-- A tree's fold in which every operator adds is the sum over the tree's points: `sum_fold`. An operator replaces two held values by their sum,
-- so the held values added up are at every step the points passed, added up.
use mathlib.Core.Path.{◌≡◌, sym, ◌∙◌, ap}
use mathlib.Core.List.{List, [], ◌∷◌}
use Prim.Native.Nat.{◌≤◌}
use native.Mathlib.Omega.{arith}
use lib.IntN.{pos}
use lib.ListN.{length, get_or}
use Rattle.exact.specs.Fraction.{Fraction, ◌over◌, plus}
use Rattle.exact.proofs.Fractions.{plus_assoc, plus_comm, plus_none}
use Rattle.record.specs.declared.Node.{Node}
use Rattle.record.specs.Ranges.{PointRanges}
use Rattle.part.specs.Accepted.{Tree}
use Rattle.field.specs.Tree.{Item, point, operator, Algebra, items, join_top, step, run, tree_value, Postfix}
use Rattle.field.specs.Tolerance.{sum_over}
use Rattle.field.proofs.Tree.{join_length, run-one, tree_items}

-- every operator adds
abbrev pub adding : (Node → Fraction) → Algebra Node Fraction
adding f = record { value = f; join = λ o x y. plus x y }

-- the held values added
total : List Fraction → Fraction
total [] = pos 0 over 1
total (x ∷ held) = plus x (total held)

joined : (held : List Fraction) → 2 ≤ length held → total (join_top plus held) ≡ total held
unfolding total join_top
joined [] h = absurd (omega arith)
joined (b ∷ []) h = absurd (omega arith)
joined (b ∷ (a ∷ held)) h = ap (λ (x : Fraction). plus x (total held)) (plus_comm a b) ∙ plus_assoc b a (total held)

module _ (f : Node → Fraction) (Q : Node → Type 0) where
  adds : (is : List (Item Node)) (held : List Fraction) → Postfix Q is (length held)
      → total (run (adding f) is held) ≡ plus (sum_over f is) (total held)
  unfolding Postfix run step sum_over total
  adds [] held h = sym (plus_comm (pos 0 over 1) (total held) ∙ plus_none (total held))
  adds (point p ∷ later) held h =
      adds later (f p ∷ held) h.2
      ∙ sym (plus_assoc (sum_over f later) (f p) (total held))
      ∙ ap (λ (x : Fraction). plus x (total held)) (plus_comm (sum_over f later) (f p))
  adds (operator o ∷ later) held h =
      adds later (join_top plus held) (rw (join_length plus held h.0) h.1)
      ∙ ap (λ (x : Fraction). plus (sum_over f later) x) (joined held h.0)

  one_left : (held : List Fraction) (d : Fraction) → length held ≡ 1 → total held ≡ get_or held 0 d
  unfolding total
  one_left [] d h = absurd (omega arith)
  one_left (x ∷ []) d h = plus_none x
  one_left (x ∷ (y ∷ held)) d h = absurd (omega arith)

  pub fold_adds : (is : List (Item Node)) (d : Fraction) → Postfix Q is 0 → tree_value (adding f) d is ≡ sum_over f is
  unfolding tree_value total
  fold_adds is d h = sym (one_left (run (adding f) is []) d (run-one (adding f) Q is [] h)) ∙ adds is [] h ∙ plus_none (sum_over f is)

pub sum_fold : (f : Node → Fraction) (ns : List Node) → Tree ns → sum_over f (items ns) ≡ tree_value (adding f) (pos 0 over 1) (items ns)
sum_fold f ns tree = sym (fold_adds f PointRanges (items ns) (pos 0 over 1) (tree_items ns tree))
