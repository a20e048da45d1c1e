-- Saved records of running totals (document 02, P4): three numbers of 32 bits.
use Rattle.std.specs.Prelude.{ℕ, ◌≡◌, List, [], ◌∷◌, length, eqb, Result, Ok, Err}
use Rattle.record.specs.Bytes.{u32}
use Rattle.record.specs.Questions.{Question, first_no, Verdict}
use Rattle.record.specs.declared.Refusal.{Refusal}
use Rattle.record.specs.declared.Refusal.TheVariants as no
use Rattle.tally.specs.declared.Totals.{Totals}

-- "is a saved record exactly 12 bytes, else 18"
unfoldable pub saved_questions : List ℕ → List Question
saved_questions saved = (no.SavedLength, eqb (length saved) 12) ∷ []

-- "casts, probes, refusals, little-endian", 32 bits each
unfoldable pub saved_totals : List ℕ → Totals
saved_totals saved = record { casts = u32 saved 0; probes = u32 saved 4; refusals = u32 saved 8 }

-- its totals, or the refusal
abbrev pub Saved : Type 0
Saved = Result Totals Refusal

-- what is answered, by the verdict on its question
unfoldable pub saved_by : Verdict → List ℕ → Saved
saved_by (Ok tt) saved = Ok (saved_totals saved)
saved_by (Err refusal) saved = Err refusal

-- the answer to a saved record
unfoldable pub read_saved : List ℕ → Saved
read_saved saved = saved_by (first_no (saved_questions saved)) saved

-- what each case says: the bytes are not 12 and the refusal is 18, or they are 12 and the totals are the numbers in them
unfoldable pub SavedSays : List ℕ → Saved → Type 0
SavedSays saved (Err refusal) = (length saved ≡ 12 → ⊥) × (refusal ≡ no.SavedLength)
SavedSays saved (Ok totals) = (length saved ≡ 12) × (totals ≡ saved_totals saved)

-- the record in use afterwards: it "is read into the new record with each number unchanged"; refused, "the record in use keeps its contents"
unfoldable pub after_saved : Totals → Saved → Totals
after_saved t (Err refusal) = t
after_saved t (Ok saved) = saved
