-- What the search works on: the prepared numbers of a ray and a part's nodes, and spans of 2^k ticks.
use Rattle.std.specs.Prelude.{◌≡◌, ℕ, ◌+◌, ◌^◌, ◌≤◌}
use Rattle.field.specs.Ray.{ticks}
use Rattle.field.specs.Bounds.{state_of}
use Rattle.bounds.specs.Probe.{prepared_bounds}
use Rattle.halving.specs.declared.search.Search.{Search}

-- the state of the n ticks from tick i on, from the prepared numbers
unfoldable pub state_in : Search → ℕ → ℕ → ℕ
state_in s i n = state_of s.part.iso (prepared_bounds s.part s.prepared.now (ticks i n s.ticks))

-- n ticks from tick i on, of T, that are 2^k
pub record Halvable (T i n k : ℕ) : Type 0 where
  pub size : n ≡ 2 ^ k
  pub end : i + n ≤ T
