-- What a host in C hands over and gets, beside the numbers that stand with their answers: `cast_number` and `hit_number` (halving, specs/Answers) and
-- `column_number` (cast, specs/Column).
use Rattle.std.specs.Prelude.{◌⊎◌, List, [], ◌∷◌, ℕ, ◌+◌, ◌*◌, ◌^◌, ◌≤◌, ℤ, Float, Ok, Err}
use Rattle.field.specs.declared.Vector.{Vector}
use Rattle.field.specs.declared.Segment.{Segment}
use Rattle.view.specs.Ray.{ViewRay}
use Rattle.tally.specs.Counts.{after_tally, Tally}
use Rattle.tally.specs.Lent.{totals_in, totals_out}
use Rattle.record.specs.Questions.{number}
use Rattle.part.specs.File.{Checked}
use Rattle.writer.specs.Writer.{Written}
use Rattle.bounds.specs.Place.{BoundsAnswer}
use Rattle.tally.specs.Saved.{Saved}

-- ---- handed over

-- a place of its three coordinates, in whole steps or in millimetres
abbrev pub place_at : {T : Type 0} → T → T → T → Vector T
place_at x y z = record { x = x; y = y; z = z }

-- A and B, three coordinates each
abbrev pub ray_of : {T : Type 0} → T → T → T → T → T → T → Segment T
ray_of ax ay az bx by bz = record { start = place_at ax ay az; end = place_at bx by bz }

-- the viewer's, in millimetres
abbrev pub view_ray_of : Float → Float → Float → Float → Float → Float → ViewRay
view_ray_of ax ay az bx by bz = ray_of ax ay az bx by bz

-- ---- given back

-- a number tells by its size what it is: a refusal is 1 to `most`, any other is at least 65,536
abbrev pub Told : ℕ → ℕ → Type 0
Told most n = ((1 ≤ n) × (n ≤ most)) ⊎ (65536 ≤ n)

-- the check of a file: the refusal number, or version × 2³² + node count × 65,536 + iso-value
unfoldable pub check_number : Checked → ℕ
check_number (Err refusal) = number refusal
check_number (Ok summary) = summary.version * 2 ^ 32 + summary.nodes * 65536 + summary.iso

-- the bounds at a place: the refusal number, or 65,536; and the lent pair afterwards, low and high
unfoldable pub bounds_number : BoundsAnswer → ℕ
bounds_number (Err refusal) = number refusal
bounds_number (Ok b) = 65536

unfoldable pub bounds_left : BoundsAnswer → List ℤ → List ℤ
bounds_left (Err refusal) lent = lent
bounds_left (Ok b) lent = b.low ∷ b.high ∷ []

-- a write: the refusal number, or 65,536 + the place just after the trailer
unfoldable pub write_number : Written → ℕ
write_number (Err refusal) = number refusal
write_number (Ok end) = 65536 + end

-- a saved record: the refusal number, or 65,536 where it is read
unfoldable pub saved_number : Saved → ℕ
saved_number (Err refusal) = number refusal
saved_number (Ok totals) = 65536

-- ---- the running totals as a host lends them, three numbers (tally, specs/Lent)

-- after a call
unfoldable pub lent_after : Tally → List ℕ → List ℕ
lent_after tally lent = totals_out (after_tally (totals_in lent) tally)

-- after a saved record: its totals, where it is read
unfoldable pub saved_left : Saved → List ℕ → List ℕ
saved_left (Err refusal) lent = lent
saved_left (Ok totals) lent = totals_out totals
