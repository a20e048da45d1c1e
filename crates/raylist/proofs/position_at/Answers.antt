use mathlib.Core.Path.{◌≡◌, ◌∙◌}
use lib.IntN.{ℤ}
use mir.Syntax.{w32}
use mir.Facts.{to_z-of_z}
use borrow.Author.Rules.{sfits_of}
use Rattle.field.specs.Vectors.{Position}
use Rattle.raylist.specs.Input.{position_at}
use Rattle.raylist.proofs.position_at.Goals as goal

same_position : {x x' y y' z z' : ℤ} → x ≡ x' → y ≡ y' → z ≡ z'
    → ◌≡◌ {A = Position} (record { x = x; y = y; z = z }) (record { x = x'; y = y'; z = z' })
same_position x y z = λ i. record { x = x i; y = y i; z = z i }

pub returns : goal.returns
unfolding position_at
returns c =
    same_position
    (to_z-of_z (sfits_of {w = w32} c.i16_at.type_inv) ∙ c.i16_at.ensures)
    (to_z-of_z (sfits_of {w = w32} c.i16_at-2.type_inv) ∙ c.i16_at-2.ensures)
    (to_z-of_z (sfits_of {w = w32} c.i16_at-3.type_inv) ∙ c.i16_at-3.ensures)
