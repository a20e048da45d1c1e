-- Overlaps and cut-outs (document 02, P1): where the value that an operator makes is at or above the iso-value, that is, solid. Of greater: where
-- either operand is. Of lesser, an overlap: where both are. Of cut, which "keeps the earlier operand and removes the later": where the earlier is,
-- and the later is not above the iso-value. Said of two values (`greater_solid` and its like), and of the exact fields of two trees of nodes and of
-- the tree that an operator makes of them (`greater_part` and its like).
use mathlib.Core.Path.{◌≡◌, refl, ap, ◌∙◌}
use mathlib.Core.Logic.{◌↔◌, ◌⊎◌, inl, inr}
use mathlib.Core.List.{List, [], ◌∷◌, ◌++◌}
use mathlib.Core.Bool.{false}
use Prim.Native.Nat.{ℕ, ◌*◌}
use lib.IntN.{ℤ, pos}
use Rattle.exact.specs.Fraction.{Fraction, ◌over◌, Proper, ◌≼◌, less}
use Rattle.exact.specs.Range.{eq_ℤ}
use Rattle.exact.proofs.Certificates.{◌≦◌by◌, le, nn}
use Rattle.exact.proofs.Ring.{◌⊖◌, ◌⊗◌, #}
use Rattle.exact.proofs.Picks.{picked, later_l, later_r}
use Rattle.exact.proofs.Fractions.{≼_trans, less_proper, greater_is, greater_picks, lesser_picks}
use Rattle.record.specs.declared.Node.{Node}
use Rattle.record.specs.Nodes.{is_point}
use Rattle.part.specs.Accepted as part
use Rattle.field.specs.Vectors.{Ray}
use Rattle.field.specs.declared.Span.{Span}
use Rattle.field.specs.Ray.{Ordered, Place}
use Rattle.field.specs.Kernel.{Kernel}
use Rattle.field.specs.Lawful.{Lawful}
use Rattle.field.specs.Tree.{Operator, operator_of}
use Rattle.field.specs.Field.{complement, join_fractions, field_at}
use Rattle.field.proofs.Enclosure.{enclosure}
use Rattle.field.proofs.Subtrees.{solid_with, joined_field}

-- at or above the iso-value, and at or below it
abbrev IsSolid : ℕ → Fraction → Type 0
IsSolid iso x = pos iso over 1 ≼ x

abbrev NotAbove : ℕ → Fraction → Type 0
NotAbove iso x = x ≼ pos iso over 1

-- ---- two values

module _ (iso : ℕ) (x y : Fraction) (p : Proper x) (q : Proper y) where
  pub greater_solid : IsSolid iso (join_fractions iso Operator.greater x y) ↔ (IsSolid iso x ⊎ IsSolid iso y)
  unfolding join_fractions
  greater_solid = (
    λ h. elim (greater_is x y) [ inl e ↦ inr (rw e.1 at h) | inr e ↦ inl (rw e.1 at h) ],
    λ s. elim s [ inl h ↦ ≼_trans p h (later_l greater_picks x y) | inr h ↦ ≼_trans q h (later_r greater_picks x y) ],
  )

  pub lesser_solid : IsSolid iso (join_fractions iso Operator.lesser x y) ↔ (IsSolid iso x × IsSolid iso y)
  unfolding join_fractions
  lesser_solid =
      let proper = picked lesser_picks Proper x y p q in (
        λ h. (≼_trans proper h (later_l lesser_picks x y), ≼_trans proper h (later_r lesser_picks x y)),
        λ h. picked lesser_picks (IsSolid iso) x y h.0 h.1,
      )

-- twice the iso-value minus y
complement_solid : (iso : ℕ) (y : Fraction) → IsSolid iso (complement iso y) ↔ NotAbove iso y
unfolding less
complement_solid iso y = (
  λ h. record {
    cross = le 3 (λ i n d. n ⊗ # 1 ≦ i ⊗ d by (# 2 ⊗ i ⊗ d ⊖ n) ⊗ # 1 ⊖ i ⊗ d) tt (pos iso) y.num (pos y.den) (search (nn, h.cross));
  },
  λ h. record {
    cross = le 3 (λ i n d. i ⊗ d ≦ (# 2 ⊗ i ⊗ d ⊖ n) ⊗ # 1 by i ⊗ d ⊖ n ⊗ # 1) tt (pos iso) y.num (pos y.den) (search (nn, h.cross));
  },
)

pub cut_solid : (iso : ℕ) (x y : Fraction) → Proper x → Proper y
    → IsSolid iso (join_fractions iso Operator.cut x y) ↔ (IsSolid iso x × NotAbove iso y)
unfolding join_fractions
cut_solid iso x y p q =
    let both = lesser_solid iso x (complement iso y) p (less_proper (pos (2 * iso)) y q) in
    let later = complement_solid iso y in (
      λ h. ((both.0 h).0, later.0 (both.0 h).1),
      λ h. both.1 (h.0, later.1 h.1),
    )

-- ---- an earlier and a later tree of nodes, then the node of an operator, at a place of a ray

module _ (k : Kernel) (law : Lawful k) (iso : ℕ) (es ls : List Node) (te : part.Tree es) (tl : part.Tree ls) (o : Node) (ray : Ray)
    {s : Span} (ordered : Ordered s) (x : Place s) where
  abbrev at : List Node → Fraction
  at ns = field_at (solid_with k iso ns) ray x.n x.m

  proper : (ns : List Node) → part.Tree ns → Proper (at ns)
  proper ns t = (enclosure (solid_with k iso ns) (record { lawful = law; tree = t }) ray ordered x).proper

  whole : (kind : ℤ) → eq_ℤ kind (pos 1) ≡ false → o.kind ≡ kind → at (es ++ (ls ++ o ∷ [])) ≡ join_fractions iso (operator_of kind) (at es) (at ls)
  unfolding is_point
  whole kind f e = joined_field k iso es ls o te tl (rw e f) ray x.n x.m ∙ ap (λ (z : ℤ). join_fractions iso (operator_of z) (at es) (at ls)) e

  pub greater_part : o.kind ≡ pos 3 → IsSolid iso (at (es ++ (ls ++ o ∷ []))) ↔ (IsSolid iso (at es) ⊎ IsSolid iso (at ls))
  unfolding operator_of
  greater_part e = rw (whole (pos 3) refl e) (greater_solid iso (at es) (at ls) (proper es te) (proper ls tl))

  pub lesser_part : o.kind ≡ pos 4 → IsSolid iso (at (es ++ (ls ++ o ∷ []))) ↔ (IsSolid iso (at es) × IsSolid iso (at ls))
  unfolding operator_of
  lesser_part e = rw (whole (pos 4) refl e) (lesser_solid iso (at es) (at ls) (proper es te) (proper ls tl))

  pub cut_part : o.kind ≡ pos 5 → IsSolid iso (at (es ++ (ls ++ o ∷ []))) ↔ (IsSolid iso (at es) × NotAbove iso (at ls))
  unfolding operator_of
  cut_part e = rw (whole (pos 5) refl e) (cut_solid iso (at es) (at ls) (proper es te) (proper ls tl))
