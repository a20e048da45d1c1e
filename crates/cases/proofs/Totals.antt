-- Running totals (document 02, P4): saved records, and what calls add around 2³² and at 2⁶⁴ − 1, each as rows of a table that one theorem covers;
-- and that a saved record gives back any three numbers that were saved, each unchanged (`saved_back`).
use Rattle.std.specs.Prelude.{Ok, Err, Some, None}
use mathlib.Core.Path.{◌≡◌, refl}
use mathlib.Core.List.{List, [], ◌∷◌, ◌++◌, map}
use Prim.Native.Nat.{ℕ, ◌^◌, ◌<◌}
use lib.ListN.{replicate}
use Rattle.record.specs.Bytes.{u16, u32}
use Rattle.record.specs.Questions.{first_no}
use Rattle.record.specs.declared.Refusal.TheVariants as no
use Rattle.writer.specs.Bytes.{u16_bytes, u32_bytes}
use Rattle.writer.proofs.Numbers.{u32_back}
use Rattle.tally.specs.declared.Totals.{Totals}
use Rattle.tally.specs.Counts.{ceiling, capped, after_tally, Tally}
use Rattle.tally.specs.Saved.{saved_questions, saved_totals, saved_by, read_saved, Saved}

abbrev of : ℕ → ℕ → ℕ → Totals
of casts probes refusals = record { casts = casts; probes = probes; refusals = refusals }

-- ---- saved records

unfoldable pub saved_rows : List (List ℕ × Saved)
saved_rows =
    ([], Err no.SavedLength)
    ∷ (replicate 11 0, Err no.SavedLength)
    ∷ (replicate 13 0, Err no.SavedLength)
    ∷ (replicate 12 0, Ok (of 0 0 0))
    -- each byte in its place
    ∷ (1 ∷ 2 ∷ 3 ∷ 4 ∷ 5 ∷ 6 ∷ 7 ∷ 8 ∷ 9 ∷ 10 ∷ 11 ∷ 12 ∷ [], Ok (of 67305985 134678021 202050057))
    -- each number at its ceiling
    ∷ (replicate 12 255, Ok (of 4294967295 4294967295 4294967295))
    ∷ []

pub saved_records : map (λ r. read_saved r.0) saved_rows ≡ map (λ r. r.1) saved_rows
unfolding saved_rows u16 u32 first_no saved_questions saved_totals saved_by read_saved
saved_records = refl

-- three numbers as they are saved
abbrev saved_form : Totals → List ℕ
saved_form t = u32_bytes t.casts ++ u32_bytes t.probes ++ u32_bytes t.refusals

pub saved_back : (t : Totals) → t.casts < 2 ^ 32 → t.probes < 2 ^ 32 → t.refusals < 2 ^ 32 → read_saved (saved_form t) ≡ Ok t
unfolding u16 u32 first_no saved_questions saved_totals saved_by read_saved u16_bytes u32_bytes
saved_back t c p r = λ i. Ok (of (u32_back t.casts c i) (u32_back t.probes p i) (u32_back t.refusals r i))

-- ---- what calls add

unfoldable pub count_rows : List ((Totals × Tally) × Totals)
count_rows =
    ((of 0 0 0, Some 39), of 1 39 0)
    ∷ ((of 0 0 0, None), of 0 0 1)
    -- past 32 bits
    ∷ ((of 4294967295 4294967295 4294967295, Some 39), of 4294967296 4294967334 4294967295)
    ∷ ((of 4294967295 4294967295 4294967295, None), of 4294967295 4294967295 4294967296)
    -- at the ceiling, each by itself
    ∷ ((of 7 18446744073709551576 7, Some 39), of 8 ceiling 7)
    ∷ ((of 7 18446744073709551577 7, Some 39), of 8 ceiling 7)
    ∷ ((of ceiling 7 ceiling, Some 39), of ceiling 46 ceiling)
    ∷ ((of ceiling ceiling ceiling, Some 2047), of ceiling ceiling ceiling)
    ∷ ((of ceiling ceiling ceiling, None), of ceiling ceiling ceiling)
    ∷ []

pub counts : map (λ r. after_tally r.0.0 r.0.1) count_rows ≡ map (λ r. r.1) count_rows
unfolding count_rows capped after_tally
counts = refl
