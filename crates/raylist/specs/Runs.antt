-- Runs of marks (document 01, "Rays and places tried"): "Each run line has the word, its first tick and the tick after its last; neighbours with one
-- mark are one run."
use Rattle.std.specs.Prelude.{◌≡◌, ◌⊎◌, List, ℕ, ◌≤◌, ◌<◌, length, get_or}

-- the ticks from `first` on and before `after` are one run, as far as it goes
pub record Run (marks : List ℕ) (first after : ℕ) : Type 0 where
  pub some : first < after
  pub within : after ≤ length marks
  -- of one mark
  pub same : (t : ℕ) → first ≤ t → t < after → get_or marks t 0 ≡ get_or marks first 0
  -- and it goes no further: the marks end there, or the next one differs
  pub maximal : (after ≡ length marks) ⊎ (get_or marks after 0 ≡ get_or marks first 0 → ⊥)
