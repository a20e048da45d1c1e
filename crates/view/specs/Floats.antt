-- The exact value of a float. A finite float `fin s m e` is m × 2^e, negative where s is true; 2^e is the fraction up e / down e.
use Rattle.std.specs.Prelude.{◌≡◌, ℕ, ◌*◌, ◌/◌, Bool, true, false, ℤ, pos, ◌*ℤ◌, neg_ℤ, Float}
use Rattle.std.specs.Float.{nan, inf, fin, binary32}
use Rattle.std.specs.Float.Ieee.{up, down, round}

-- n, or −n where s is true
abbrev pub signed : Bool → ℕ → ℤ
signed true n = neg_ℤ (pos n)
signed false n = pos n

-- "equal to" n/d "exactly", both sides multiplied by their denominators
abbrev pub Equals : Float → ℤ → ℕ → Type 0
Equals nan n d = ⊥
Equals (inf s) n d = ⊥
Equals (fin s m e) n d = signed s (m * up e * d) ≡ n *ℤ pos (down e)

-- the float nearest to the place of tick h, of so many ticks: h/ticks
unfoldable pub place_of : ℕ → ℕ → Float
place_of ticks h = round binary32 false h ticks

-- the tick at a place: that many times the place, rounded down
unfoldable pub tick_at : ℕ → Float → ℕ
tick_at ticks nan = 0
tick_at ticks (inf s) = 0
tick_at ticks (fin s m e) = m * up e * ticks / down e
