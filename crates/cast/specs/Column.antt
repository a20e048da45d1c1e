-- A column (document 01, "Calls"; document 02, P6): "bit t mod 8 (lowest is 0) of byte t/8 (rounded down) is 1 if tick t is" solid, "else 0". Inside
-- it is, empty it is not, and "A crossing tick is solid if the low and high bounds at its exact middle add up to at least 2 × iso × 2³²."
use Rattle.std.specs.Prelude.{ℕ, zero, suc, ◌+◌, ◌*◌, ◌^◌, ◌<◌, ◌≡◌, List, [], ◌∷◌, ◌++◌, Bool, cond, ◌&&◌, ◌||◌, eqb, get_or}
use Rattle.std.specs.Prelude.{Result, Ok, Err}
use Rattle.record.specs.Questions.{number}
use Rattle.record.specs.declared.Refusal.{Refusal}
use Rattle.field.specs.Vectors.{Ray}
use Rattle.field.specs.Ray.{middle}
use Rattle.field.specs.Solid.{Solid}
use Rattle.field.specs.Bounds.{empty_mark, crossing_mark, inside_mark, tree_bounds, solid_by}
use Rattle.field.specs.Marks.{mark_of}
use Rattle.bounds.specs.Probe.{prepared_bounds}
use Rattle.halving.specs.declared.search.Search.{Search}
use Rattle.halving.specs.Halving.{probe_count, span_marks}
use Rattle.cast.specs.declared.ByteCast.{ByteCast}

-- 128 bytes for 1,024 ticks
abbrev pub column_bytes : ℕ
column_bytes = 128

-- ---- a tick's bit

-- the bounds at the middle of tick t of T "add up to at least 2 × iso × 2³²"
unfoldable pub middle_solid : Solid → Ray → ℕ → ℕ → Bool
middle_solid solid ray T t = solid_by solid.iso (tree_bounds solid ray (middle t T))

-- the bit of a tick with this mark, by whether its middle is solid
unfoldable pub tick_bit : ℕ → Bool → ℕ
tick_bit mark solid = cond (eqb mark inside_mark || (eqb mark crossing_mark && solid)) 1 0

-- the bit of tick t of T
unfoldable pub bit_of : Solid → Ray → ℕ → ℕ → ℕ
bit_of solid ray T t = tick_bit (mark_of solid ray T t) (middle_solid solid ray T t)

-- ---- a column's bytes

-- the number of n ticks' bits, from tick t on, the first one lowest
unfoldable pub from_bits : (ℕ → ℕ) → ℕ → ℕ → ℕ
from_bits bit t zero = 0
from_bits bit t (suc n) = bit t + 2 * from_bits bit (suc t) n

-- the first n bytes, of eight ticks each
unfoldable pub packed : (ℕ → ℕ) → ℕ → List ℕ
packed bit zero = []
packed bit (suc n) = packed bit n ++ from_bits bit (8 * n) 8 ∷ []

-- ---- its answer

-- the probes, or the refusal
abbrev pub ColumnAnswer : Type 0
ColumnAnswer = Result ℕ Refusal

-- document 01's number for each case of an answer: "the refusal number or 65,536 + probes"
unfoldable pub column_number : ColumnAnswer → ℕ
column_number (Err refusal) = number refusal
column_number (Ok probes) = 65536 + probes

-- how many of n ticks were looked at: none if it is refused, otherwise all
unfoldable pub column_looked_at : ℕ → ColumnAnswer → ℕ
column_looked_at n (Err refusal) = 0
column_looked_at n (Ok probes) = n

-- ---- for the inner functions: from the prepared numbers, whether the middle of tick t is solid, and its bit by the ticks' marks

unfoldable pub middle_in : Search → ℕ → Bool
middle_in s t = solid_by s.part.iso (prepared_bounds s.part s.prepared.now (middle t s.ticks))

unfoldable pub bit_in : Search → List ℕ → ℕ → ℕ
bit_in s marks t = tick_bit (get_or marks t empty_mark) (middle_in s t)

-- ---- for the search, over any state of spans, and any choice of the ticks whose middles are solid

module _ (state : ℕ → ℕ → ℕ) (solid : ℕ → Bool) where
  -- the bit of tick i + t, by the marks of the 2^k ticks from tick i on
  unfoldable pub span_bit : ℕ → ℕ → ℕ → ℕ
  span_bit k i t = tick_bit (get_or (span_marks state k i) t empty_mark) (solid (i + t))

  -- what a cast of these n ticks gives: their bits, a number of n binary digits, and the probes
  pub record SpanBits (k i n : ℕ) (r : ByteCast) : Type 0 where
    pub bits : r.bits ≡ from_bits (span_bit k i) 0 n
    pub room : r.bits < 2 ^ n
    pub probes : r.probes ≡ probe_count state k i
