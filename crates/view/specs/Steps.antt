-- Millimetres as a float to whole steps (document 01, "Viewer's first hit"): "Sixty-four times each must be whole; minus zero is 0."
use Rattle.std.specs.Prelude.{◌≡◌, ℕ, ◌*◌, ◌/◌, ◌%◌, Bool, true, false, cond, ◌&&◌, ℤ, pos, ◌==◌, Float, Option, Some, None}
use Rattle.std.specs.Float.{nan, inf, fin, binary32}
use Rattle.std.specs.Float.Ieee.{up, down, mul}
use Rattle.record.specs.Nodes.{coordinate}
use Rattle.view.specs.Floats.{signed, Equals}

-- 64 times a float, as floats are multiplied
unfoldable pub times64 : Float → Float
times64 x = mul binary32 x (fin false 1 (pos 6))

-- a coordinate in whole steps, if it has them
abbrev pub Steps : Type 0
Steps = Option ℤ

-- ±num/den, where it is whole and in range
unfoldable pub whole_steps : Bool → ℕ → ℕ → Steps
whole_steps s num den =
    let n = signed s (num / den) in
    cond (num % den == 0 && coordinate n) (Some n) None

-- question 15 of one float: "is each float finite and its 64-fold whole, from −2,047 to 2,047?"
unfoldable pub steps_of : Float → Steps
steps_of nan = None
steps_of (inf s) = None
steps_of (fin s m e) = whole_steps s (m * up e * 64) (down e)

-- n is the float in steps: 64 times the float's exact value, in range
abbrev pub InSteps : Float → ℤ → Type 0
InSteps x n = Equals x n 64 × (coordinate n ≡ true)

-- an answer is n exactly where n is the float in steps
abbrev pub Exactly : Float → Steps → Type 0
Exactly x r = (n : ℤ) → (r ≡ Some n → InSteps x n) × (InSteps x n → r ≡ Some n)
