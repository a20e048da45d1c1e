-- What a full cast and a first hit answer (document 01, "Calls"): how the search ended, or the refusal; how many ticks they looked at; and document
-- 01's number for each case, as the slicing host gets it.
use Rattle.std.specs.Prelude.{ℕ, ◌+◌, ◌*◌, ◌^◌, Result, Ok, Err}
use Rattle.record.specs.declared.Refusal.{Refusal}
use Rattle.record.specs.Questions.{number}
use Rattle.halving.specs.declared.Cast.{Cast}
use Rattle.halving.specs.declared.Cast.TheVariants as cast
use Rattle.halving.specs.declared.FirstHit.{FirstHit}
use Rattle.halving.specs.declared.FirstHit.TheVariants as found
use Rattle.halving.specs.Halving.{cast_looked_at}
use Rattle.halving.specs.FirstHit.{hit_looked_at}

abbrev pub CastAnswer : Type 0
CastAnswer = Result Cast Refusal

abbrev pub HitAnswer : Type 0
HitAnswer = Result FirstHit Refusal

-- ---- how many of n ticks: none if it is refused

unfoldable pub cast_reaches : ℕ → CastAnswer → ℕ
cast_reaches n (Err refusal) = 0
cast_reaches n (Ok cast) = cast_looked_at n cast

unfoldable pub hit_reaches : ℕ → HitAnswer → ℕ
hit_reaches n (Err refusal) = 0
hit_reaches n (Ok found) = hit_looked_at n found

-- ---- numbers

-- "the refusal number, or 65,536 + probes if complete, or 131,072 + probes if spent"
unfoldable pub cast_number : CastAnswer → ℕ
cast_number (Err refusal) = number refusal
cast_number (Ok (cast.Complete probes)) = 65536 + probes
cast_number (Ok (cast.Spent tick probes)) = 131072 + probes

-- "the refusal number, or k × 2³² + tick × 65,536 + probes, where k is 1 for a crossing hit, 2 for an inside hit, 3 for clear (tick 0), 4 for spent":
-- a hit's k is its mark
unfoldable pub hit_number : HitAnswer → ℕ
hit_number (Err refusal) = number refusal
hit_number (Ok (found.Hit tick mark probes)) = mark * 2 ^ 32 + tick * 65536 + probes
hit_number (Ok (found.Clear probes)) = 3 * 2 ^ 32 + probes
hit_number (Ok (found.Spent tick probes)) = 4 * 2 ^ 32 + tick * 65536 + probes
