-- `foot_distance`: the difference is at most 2⁵³ in size and not negative, so the machine's number is the exact one.
use mathlib.Core.Path.{ap}
use Prim.Native.Nat.{◌^◌}
use lib.IntN.{ℤ, nat_abs, ◌-ℤ◌, ◌*ℤ◌}
use lib.Signed.{yes_non_neg}
use mir.Syntax.{w64}
use Rattle.exact.proofs.Machine.{Holds, back, param, read, fit, to_u, ◌⊟◌, ◌⊠◌}
use Rattle.field.specs.declared.Prepared.{Prepared}
use Rattle.field.specs.Bounds.{foot_distance}
use Rattle.points.specs.Ranges.{PreparedRanges}
use Rattle.points.proofs.foot_distance.Goals as goal

-- e a − m², as the code computes it
difference : {a : ℤ} {p : Prepared} → PreparedRanges a p
    → Holds w64 (2 ^ 53) (back w64 (back w64 p.e *ℤ back w64 a) -ℤ back w64 (back w64 p.m *ℤ back w64 p.m)) (p.e *ℤ a -ℤ p.m *ℤ p.m)
difference r =
    read (param r.e_small tt ⊠ param r.a_small tt) tt ⊟ read (param r.m_small tt ⊠ param r.m_small tt) tt

pub overflow_sub-result : goal.overflow_sub-result
overflow_sub-result c = fit (difference c.requires) tt

pub overflow_cast-result : goal.overflow_cast-result
overflow_cast-result c = to_u (read (difference c.requires) tt) (yes_non_neg c.requires.nonneg.foot_nn) tt tt

pub returns : goal.returns
unfolding foot_distance
returns c = ap nat_abs (read (difference c.requires) tt).is
