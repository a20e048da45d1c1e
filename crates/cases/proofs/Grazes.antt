-- Rays that graze a ball about the origin (document 02, P3), as rows of a table that one theorem covers: whether a span comes within the radius, and
-- the point's qhi there, which is 0 exactly where it does not.
use mathlib.Core.Path.{◌≡◌, refl}
use mathlib.Core.List.{List, [], ◌∷◌, map}
use mathlib.Core.Bool.{Bool, true, false}
use Prim.Native.Nat.{ℕ}
use lib.IntN.{ℤ, pos, neg_ℤ}
use Rattle.exact.specs.Rounding.{ceil}
use Rattle.record.specs.declared.Node.{Node}
use Rattle.field.specs.Vectors.{Ray}
use Rattle.field.specs.declared.Span.{Span}
use Rattle.field.specs.Ray.{tick, ticks, at_start}
use Rattle.field.specs.Bounds.{ray_square, prepare, distance_at, foot_inside, foot_distance, high_q, qhi}
use Rattle.field.specs.Reach.{reaches}
use Rattle.cases.proofs.Rays.{at}

pub record Graze : Type 0 where
  pub r : ℕ
  pub ray : Ray
  pub span : Span

-- along x at this y
abbrev along : ℤ → ℤ → ℤ → Ray
along y x x' = record { start = at x y; end = at x' y }

abbrev ball : ℕ → Node
ball r = record { kind = pos 1; radius = pos r; x = pos 0; y = pos 0; z = pos 0; weight = pos 1 }

unfoldable pub answer : Graze → Bool × ℕ
answer g =
    let a = ray_square g.ray in
    let p = prepare g.ray (ball g.r) in
    (reaches a p g.span, qhi a p g.span)

abbrev whole : ℕ → Ray → Graze
whole r ray = record { r = r; ray = ray; span = ticks 0 1024 1024 }

abbrev over : ℕ → Ray → Span → Graze
over r ray span = record { r = r; ray = ray; span = span }

-- ticks 511 and 512 meet at x = 1
abbrev shifted : Ray
shifted = along (pos 0) (neg_ℤ (pos 2045)) (pos 2047)

-- the middle, at x = 0, is the place nearest the centre
abbrev centred : ℤ → Ray
centred y = along y (neg_ℤ (pos 2047)) (pos 2047)

unfoldable pub rows : List (Graze × (Bool × ℕ))
rows =
    -- r 1: at the radius exactly, and one step inside, through the centre
    (whole 1 (along (pos 1) (neg_ℤ (pos 1)) (pos 1)), (false, 0))
    ∷ (whole 1 (along (pos 0) (neg_ℤ (pos 1)) (pos 1)), (true, 65536))
    -- ends at the radius, and at the centre
    ∷ (whole 1 (along (pos 0) (neg_ℤ (pos 3)) (neg_ℤ (pos 1))), (false, 0))
    ∷ (whole 1 (along (pos 0) (neg_ℤ (pos 1)) (pos 0)), (true, 65536))
    -- a tick that passes the ball between its ends, and the tick after it, which begins at the radius
    ∷ (over 1 shifted (tick 511 1024), (true, 65536))
    ∷ (over 1 shifted (tick 512 1024), (false, 0))
    -- r 1,024: one step outside, at the radius, one step inside: 65536 × 2047/1024²
    ∷ (whole 1024 (centred (pos 1025)), (false, 0))
    ∷ (whole 1024 (centred (pos 1024)), (false, 0))
    ∷ (whole 1024 (centred (pos 1023)), (true, 128))
    -- the half that ends at the nearest place, and the ticks before, which end out of reach
    ∷ (over 1024 (centred (pos 1023)) (ticks 0 512 1024), (true, 128))
    ∷ (over 1024 (centred (pos 1023)) (ticks 0 500 1024), (false, 0))
    -- a whole-step place, whose ray has no length: the centre, and a place at the radius
    ∷ (over 1 (along (pos 0) (pos 0) (pos 0)) at_start, (true, 65536))
    ∷ (over 1 (along (pos 0) (pos 1) (pos 1)) at_start, (false, 0))
    ∷ []

pub grazes : map (λ r. answer r.0) rows ≡ map (λ r. r.1) rows
unfolding rows answer ceil ray_square prepare distance_at foot_inside foot_distance high_q qhi reaches
grazes = refl
