-- The part file: its trailer, its records, the check of a file (document 01, "The part file"; questions 1 to 11; document 02, P9).
use Rattle.std.specs.Prelude.{ℕ, zero, suc, ◌+◌, ◌-◌, ◌/◌, ◌%◌, ◌≡◌, List, [], ◌∷◌, ◌++◌, map, Bool, ◌&&◌, length, leb, eqb}
use Rattle.std.specs.Prelude.{Result, Ok, Err}
use Rattle.exact.specs.Range.{between}
use Rattle.record.specs.Bytes.{u16, u32, has_bytes}
use Rattle.record.specs.Questions.{Question, first_no, Verdict}
use Rattle.record.specs.Nodes.{held_after}
use Rattle.record.specs.Record.{record_at, record_questions}
use Rattle.record.specs.declared.Node.{Node}
use Rattle.record.specs.declared.Record.{Record}
use Rattle.record.specs.declared.Refusal.{Refusal}
use Rattle.record.specs.declared.Refusal.TheVariants as no
use Rattle.part.specs.declared.Summary.{Summary}

-- ---- the trailer: the last 12 bytes

unfoldable pub iso : List ℕ → ℕ
iso file = u16 file (length file - 12)

unfoldable pub version : List ℕ → ℕ
version file = u16 file (length file - 10)

-- in bytes, back from the file's end to the first record
unfoldable pub distance : List ℕ → ℕ
distance file = u32 file (length file - 8)

-- is it 1, degree 4, or 2, "degree 6 for all their points"? "question 3 reads 1 or 2" (document 02, P9)
abbrev pub version_known : ℕ → Bool
version_known v = between 1 2 v

-- hexadecimal 54 52 45 45
abbrev pub file_mark : List ℕ
file_mark = 0x54 ∷ 0x52 ∷ 0x45 ∷ 0x45 ∷ []

-- are these the last four bytes?
unfoldable pub marked : List ℕ → Bool
marked file = has_bytes file (length file - 4) file_mark

unfoldable pub trailer_questions : List ℕ → List Question
trailer_questions file =
    (no.Length, between 24 65536 (length file))
    ∷ (no.Mark, marked file)
    ∷ (no.Version, version_known (version file))
    ∷ (no.Distance, between 24 6144 (distance file) && eqb (distance file % 12) 0 && leb (distance file) (length file))
    ∷ (no.Iso, between 1 4096 (iso file))
    ∷ []

-- ---- the records: 12 bytes each

-- where the first record is
unfoldable pub start : List ℕ → ℕ
start file = length file - distance file

-- how many records there are before the trailer
unfoldable pub count : List ℕ → ℕ
count file = distance file / 12 - 1

-- n records from a place on
unfoldable pub records_from : List ℕ → ℕ → ℕ → List Record
records_from file zero at = []
records_from file (suc n) at = record_at file at ∷ records_from file n (at + 12)

unfoldable pub records : List ℕ → List Record
records file = records_from file (count file) (start file)

unfoldable pub nodes_from : List ℕ → ℕ → ℕ → List Node
nodes_from file n at = map (λ r. r.node) (records_from file n at)

unfoldable pub nodes : List ℕ → List Node
nodes file = nodes_from file (count file) (start file)

-- ---- the check of a file

-- questions 6 to 10 about each record in file order, and then 11 about what is held at the end
unfoldable pub records_questions : List Record → ℕ → List Question
records_questions [] held = (no.Root, eqb held 1) ∷ []
records_questions (r ∷ later) held = record_questions r held ++ records_questions later (held_after r.node held)

-- questions 1 to 11
unfoldable pub file_questions : List ℕ → List Question
file_questions file = trailer_questions file ++ records_questions (records file) 0

-- node count, iso-value and version
abbrev pub summary : List ℕ → Summary
summary file = record { nodes = count file; iso = iso file; version = version file }

-- these, or the refusal
abbrev pub Checked : Type 0
Checked = Result Summary Refusal

unfoldable pub answer_of : Verdict → List ℕ → Checked
answer_of (Ok tt) file = Ok (summary file)
answer_of (Err refusal) file = Err refusal

unfoldable pub check_file : List ℕ → Checked
check_file file = answer_of (first_no (file_questions file)) file

-- what each case of an answer says: that its refusal is the first no's; or that no question says no, and node count, iso-value and version
unfoldable pub Says : List ℕ → Checked → Type 0
Says file (Err refusal) = first_no (file_questions file) ≡ Err refusal
Says file (Ok part) =
    (first_no (file_questions file) ≡ Ok tt) × (part.nodes ≡ count file) × (part.iso ≡ iso file) × (part.version ≡ version file)
