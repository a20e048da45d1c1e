-- `distance_at`: each product and sum is at most 2⁵² in size and the whole is not negative, so the machine's number is the exact one.
use mathlib.Core.Path.{subst, ap}
use Prim.Native.Nat.{ℕ, ◌+◌, ◌^◌, ◌≤◌}
use lib.IntN.{ℤ, pos, nat_abs, ◌+ℤ◌, ◌*ℤ◌}
use lib.Signed.{yes_non_neg}
use mir.Syntax.{w64}
use mir.Val.{to_z}
use Rattle.exact.proofs.Machine.{Holds, back, param, lit, read, fit, from_u, to_u, ◌⊞◌, ◌⊠◌}
use Rattle.exact.proofs.Ring.{◌⊕◌, ◌⊗◌, #, ◌≔◌, ring}
use Rattle.exact.specs.Distance.{dist}
use Rattle.field.specs.declared.Prepared.{Prepared}
use Rattle.field.specs.Bounds.{distance_at}
use Rattle.points.specs.Ranges.{PreparedRanges}
use Rattle.points.proofs.distance_at.Goals as goal

module _ {a : ℤ} {p : Prepared} {n d : ℕ} (r : PreparedRanges a p) (h : (n ≤ 4096) × (d ≤ 4096)) where
  squared : Holds w64 (2 ^ 24) (to_z w64 d *ℤ to_z w64 d) (pos d *ℤ pos d)
  squared = from_u h.1 tt ⊠ from_u h.1 tt

  first : Holds w64 (2 ^ 50) (back w64 p.e *ℤ back w64 (to_z w64 d *ℤ to_z w64 d)) (p.e *ℤ (pos d *ℤ pos d))
  first = param r.e_small tt ⊠ read squared tt

  crossed : Holds w64 (2 ^ 38) (back w64 p.m *ℤ to_z w64 d) (p.m *ℤ pos d)
  crossed = param r.m_small tt ⊠ from_u h.1 tt

  doubled : Holds w64 (2 ^ 39) (pos 2 *ℤ back w64 (back w64 p.m *ℤ to_z w64 d)) (pos 2 *ℤ (p.m *ℤ pos d))
  doubled = lit (pos 2) ⊠ read crossed tt

  along : Holds w64 (2 ^ 38) (back w64 a *ℤ to_z w64 n) (a *ℤ pos n)
  along = param r.a_small tt ⊠ from_u h.0 tt

  slope : Holds w64 (2 ^ 39 + 2 ^ 38)
      (back w64 (pos 2 *ℤ back w64 (back w64 p.m *ℤ to_z w64 d)) +ℤ back w64 (back w64 a *ℤ to_z w64 n))
      (pos 2 *ℤ (p.m *ℤ pos d) +ℤ a *ℤ pos n)
  slope = read doubled tt ⊞ read along tt

  second : Holds w64 (2 ^ 51 + 2 ^ 50)
      (to_z w64 n *ℤ back w64 (back w64 (pos 2 *ℤ back w64 (back w64 p.m *ℤ to_z w64 d)) +ℤ back w64 (back w64 a *ℤ to_z w64 n)))
      (pos n *ℤ (pos 2 *ℤ (p.m *ℤ pos d) +ℤ a *ℤ pos n))
  second = from_u h.0 tt ⊠ read slope tt

  whole : Holds w64 (2 ^ 52)
      (back w64 (back w64 p.e *ℤ back w64 (to_z w64 d *ℤ to_z w64 d))
      +ℤ back w64 (to_z w64 n
      *ℤ back w64 (back w64 (pos 2 *ℤ back w64 (back w64 p.m *ℤ to_z w64 d)) +ℤ back w64 (back w64 a *ℤ to_z w64 n))))
      (dist p.e p.m a (pos n) (pos d))
  whole =
      subst (Holds w64 (2 ^ 52) _)
      (ring 5 (λ e m a n d. e ⊗ (d ⊗ d) ⊕ n ⊗ (# 2 ⊗ (m ⊗ d) ⊕ a ⊗ n) ≔ e ⊗ d ⊗ d ⊕ # 2 ⊗ m ⊗ n ⊗ d ⊕ a ⊗ n ⊗ n) tt
      p.e p.m a (pos n) (pos d))
      (read first tt ⊞ read second tt)

pub overflow_mul-result-2 : goal.overflow_mul-result-2
overflow_mul-result-2 c = fit (first c.requires.prepared_ranges c.requires.t_bound) tt

pub overflow_mul-result-3 : goal.overflow_mul-result-3
overflow_mul-result-3 c = fit (crossed c.requires.prepared_ranges c.requires.t_bound) tt

pub overflow_mul-result-4 : goal.overflow_mul-result-4
overflow_mul-result-4 c = fit (doubled c.requires.prepared_ranges c.requires.t_bound) tt

pub overflow_mul-result-5 : goal.overflow_mul-result-5
overflow_mul-result-5 c = fit (along c.requires.prepared_ranges c.requires.t_bound) tt

pub overflow_add-result : goal.overflow_add-result
overflow_add-result c = fit (slope c.requires.prepared_ranges c.requires.t_bound) tt

pub overflow_mul-result-6 : goal.overflow_mul-result-6
overflow_mul-result-6 c = fit (second c.requires.prepared_ranges c.requires.t_bound) tt

pub overflow_add-result-2 : goal.overflow_add-result-2
overflow_add-result-2 c = fit (whole c.requires.prepared_ranges c.requires.t_bound) tt

pub overflow_cast-result : goal.overflow_cast-result
overflow_cast-result c =
    let r = c.requires.prepared_ranges in
    to_u (read (whole r c.requires.t_bound) tt) (yes_non_neg (r.nonneg.dist_nn _ _)) tt tt

pub returns : goal.returns
unfolding distance_at
returns c = ap nat_abs (read (whole c.requires.prepared_ranges c.requires.t_bound) tt).is
