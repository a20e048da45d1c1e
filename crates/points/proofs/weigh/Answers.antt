-- `weigh`: an end is at most 2⁴⁴ in size, and the weight's sign says which size makes which end.
use Prim.Native.Nat.{ℕ, ◌^◌, ◌≤◌}
use lib.IntN.{ℤ, pos, ◌*ℤ◌}
use mir.Syntax.{w64}
use mir.Val.{to_z}
use Rattle.exact.specs.Range.{Small}
use Rattle.exact.proofs.Machine.{Holds, back, param, lit, read, from_u, lt_of, ◌⊠◌}
use Rattle.field.specs.Bounds.{weighted}
use Rattle.points.proofs.weigh.Goals as goal

-- an end of the bounds, as the code multiplies
end : {w : ℤ} {x : ℕ} → Small 4096 w → x ≤ 2 ^ 32 → Holds w64 (2 ^ 44) (back w64 w *ℤ to_z w64 x) (w *ℤ pos x)
end w x = param w tt ⊠ from_u x tt

pub returns-then-w-lt0 : goal.returns-then-w-lt0
unfolding weighted
returns-then-w-lt0 c =
    let h = c.requires in
    rw (lt_of {w = w64} (param h.0 tt) (lit (pos 0)) c.if-w-lt0.true)
    (cc ((read {w = w64} (end h.0 h.1) tt).is, (read {w = w64} (end h.0 h.2) tt).is))

pub returns-else-w-lt0 : goal.returns-else-w-lt0
unfolding weighted
returns-else-w-lt0 c =
    let h = c.requires in
    rw (lt_of {w = w64} (param h.0 tt) (lit (pos 0)) c.if-w-lt0.false)
    (cc ((read {w = w64} (end h.0 h.1) tt).is, (read {w = w64} (end h.0 h.2) tt).is))
