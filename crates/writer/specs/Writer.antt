-- The writer (document 02, P2 and P9): its questions, its answer, what it leaves in the buffer, and what it promises of both.
use Rattle.std.specs.Prelude.{ℕ, ◌+◌, ◌/◌, ◌%◌, ◌≤◌, ◌≡◌, ◌⊎◌, List, [], ◌∷◌, ◌++◌, map, Bool, ◌&&◌, length, take, drop, ℤ, leb, eqb}
use Rattle.std.specs.Prelude.{Result, Ok, Err}
use Rattle.exact.specs.Range.{between}
use Rattle.record.specs.Questions.{Question, number, first_no, Verdict}
use Rattle.record.specs.declared.Refusal.{Refusal}
use Rattle.record.specs.declared.Refusal.TheVariants as no
use Rattle.part.specs.File.{iso, version, version_known, start, nodes, records_questions, summary, check_file}
use Rattle.nodes.specs.Numbers.{numbers}
use Rattle.writer.specs.Bytes.{Octets, size, part_bytes}
use Rattle.writer.specs.Given.{given, record_of}

-- ---- the questions

-- "is the number count a multiple of six from 6 to 3,066"
unfoldable pub counted : ℕ → Bool
counted n = between 6 3066 n && eqb (n % 6) 0

-- "do records and trailer end within the buffer and by byte 65,536", of so many nodes from a place on
unfoldable pub has_room : ℕ → ℕ → ℕ → Bool
has_room count room place = leb (place + size count) room && leb (place + size count) 65536

-- 16; 3, which "the writer asks […] before 5" (P9); 5; 6 to 10 about each node in order, and 11; 17. `i` is the iso-value, `v` the version and `room`
-- the buffer's length.
unfoldable pub writer_questions : List ℤ → ℕ → ℕ → ℕ → ℕ → List Question
writer_questions l i v room place =
    ((no.Numbers, counted (length l)) ∷ (no.Version, version_known v) ∷ (no.Iso, between 1 4096 i) ∷ [])
    ++ records_questions (map record_of (given l)) 0
    ++ ((no.Room, has_room (length l / 6) room place) ∷ [])

-- ---- the answer and the buffer

-- "the place just after the trailer", or the refusal
abbrev pub Written : Type 0
Written = Result ℕ Refusal

unfoldable pub answer_by : Verdict → List ℤ → ℕ → Written
answer_by (Ok tt) l place = Ok (place + size (length l / 6))
answer_by (Err refusal) l place = Err refusal

-- records and trailer from the place on, between what stood before and after; of a refused call, as it was
unfoldable pub buffer_by : Verdict → List ℤ → ℕ → ℕ → List ℕ → ℕ → List ℕ
buffer_by (Ok tt) l i v buffer place = take place buffer ++ part_bytes (given l) i v ++ drop (place + size (length l / 6)) buffer
buffer_by (Err refusal) l i v buffer place = buffer

unfoldable pub write_answer : List ℤ → ℕ → ℕ → ℕ → ℕ → Written
write_answer l i v room place = answer_by (first_no (writer_questions l i v room place)) l place

unfoldable pub buffer_left : List ℤ → ℕ → ℕ → List ℕ → ℕ → List ℕ
buffer_left l i v buffer place = buffer_by (first_no (writer_questions l i v (length buffer) place)) l i v buffer place

-- ---- what is promised of them

-- "What the reader makes of the bytes from the buffer's start to the trailer's end is exactly what was given, the iso-value included"; with P9
-- the version too. "Bytes outside the written part keep their contents."
pub record WrittenPart (l : List ℤ) (i v : ℕ) (before : List ℕ) (place end : ℕ) (after : List ℕ) : Type 0 where
  pub checked : check_file (take end after) ≡ Ok (record { nodes = length l / 6; iso = i; version = v })
  pub read : numbers (nodes (take end after)) ≡ l
  pub before_kept : take place after ≡ take place before
  pub after_kept : drop end after ≡ drop end before
  pub within : end ≤ length before
  pub short : end ≤ 65536

-- 3, 5 to 11, 16 or 17
abbrev pub WriteRefusal : Refusal → Type 0
WriteRefusal refusal = (refusal ≡ no.Version) ⊎ ((5 ≤ number refusal) × (number refusal ≤ 11)) ⊎ (refusal ≡ no.Numbers) ⊎ (refusal ≡ no.Room)

-- what each case of an answer says
unfoldable pub WriteSays : List ℤ → ℕ → ℕ → List ℕ → ℕ → Written → List ℕ → Type 0
WriteSays l i v before place (Err refusal) after =
    (first_no (writer_questions l i v (length before) place) ≡ Err refusal) × WriteRefusal refusal × (after ≡ before)
WriteSays l i v before place (Ok end) after = WrittenPart l i v before place end after

-- numbers, an iso-value and a version that were read from an accepted file without leading bytes, and a buffer that is no shorter
pub record ReadFrom (file : List ℕ) (l : List ℤ) (i v : ℕ) (room : ℕ) : Type 0 where
  pub octets : Octets file
  pub accepted : check_file file ≡ Ok (summary file)
  pub no_leading : start file ≡ 0
  pub numbers_read : l ≡ numbers (nodes file)
  pub iso_read : i ≡ iso file
  pub version_read : v ≡ version file
  pub room_enough : length file ≤ room

-- "for a file without leading bytes, writing what was read at place 0 returns that file"
unfoldable pub Returned : List ℤ → ℕ → ℕ → List ℕ → ℕ → Written → List ℕ → Type 0
Returned l i v before place answer after =
    (file : List ℕ) → ReadFrom file l i v (length before) → place ≡ 0 → (answer ≡ Ok (length file)) × (after ≡ file ++ drop (length file) before)
