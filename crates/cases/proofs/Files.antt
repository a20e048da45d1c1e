-- Worked files as rows of a table that one theorem covers (document 01, "Rays and places tried"; document 02, P9): a file, and what its check
-- answers.
use Rattle.std.specs.Prelude.{Ok, Err}
use Prim.Native.Nat.{ℕ, zero, suc, ◌<◌}
use mathlib.Core.Path.{◌≡◌, refl, ap, ◌∙◌}
use mathlib.Core.List.{List, [], ◌∷◌, ◌++◌, map}
use lib.ListN.{length, get_or, length-append, replicate}
use borrow.Author.Tests.{le-leb, lt-leb}
use native.Mathlib.Omega.{arith}
use lib.Dec.{lit≤}
use lib.IntN.{pos}
use Rattle.record.specs.Bytes.{u16, u32, i16, has_bytes, zeros}
use Rattle.record.specs.Questions.{first_no}
use Rattle.record.specs.Nodes.{is_point, kind_known, coordinate, in_range, for_point, for_operator, held_after}
use Rattle.record.specs.Record.{node_at, zero_bytes, record_at, node_questions, record_questions}
use Rattle.record.specs.declared.Refusal.TheVariants as no
use Rattle.part.specs.File.{iso, version, distance, marked, trailer_questions, start, count, records_from, records, nodes_from, nodes, Checked}
use Rattle.part.specs.File.{records_questions, file_questions, answer_of, check_file}
use Rattle.part.proofs.Leading.{leading_ignored}
use Rattle.nodes.specs.Numbers.{numbers}

-- ---- bytes

-- file K: its record, and its trailer
abbrev record_k : List ℕ
record_k = 0x01 ∷ 0x00 ∷ 0x00 ∷ 0x02 ∷ 0x00 ∷ 0x00 ∷ 0x00 ∷ 0x00 ∷ 0x00 ∷ 0x00 ∷ 0x04 ∷ 0x00 ∷ []

abbrev trailer_k : List ℕ
trailer_k = 0x01 ∷ 0x00 ∷ 0x01 ∷ 0x00 ∷ 0x18 ∷ 0x00 ∷ 0x00 ∷ 0x00 ∷ 0x54 ∷ 0x52 ∷ 0x45 ∷ 0x45 ∷ []

-- K's record with the two bytes of r, and of x, given
abbrev radius : ℕ → ℕ → List ℕ
radius a b = 1 ∷ 0 ∷ a ∷ b ∷ 0 ∷ 0 ∷ 0 ∷ 0 ∷ 0 ∷ 0 ∷ 4 ∷ 0 ∷ []

abbrev placed : ℕ → ℕ → List ℕ
placed a b = 1 ∷ 0 ∷ 0 ∷ 2 ∷ a ∷ b ∷ 0 ∷ 0 ∷ 0 ∷ 0 ∷ 4 ∷ 0 ∷ []

-- an operator's record, with its last byte given
abbrev operator : ℕ → ℕ → List ℕ
operator kind last = kind ∷ 0 ∷ 0 ∷ 0 ∷ 0 ∷ 0 ∷ 0 ∷ 0 ∷ 0 ∷ 0 ∷ 0 ∷ last ∷ []

-- a trailer: iso and the distance as two bytes each, and the version
abbrev trailer : ℕ → ℕ → ℕ → ℕ → ℕ → List ℕ
trailer a b v c d = a ∷ b ∷ v ∷ 0 ∷ c ∷ d ∷ 0 ∷ 0 ∷ 0x54 ∷ 0x52 ∷ 0x45 ∷ 0x45 ∷ []

-- n records of K
unfoldable pub copies : ℕ → List ℕ
copies zero = []
copies (suc n) = record_k ++ copies n

-- ---- the table

abbrev Row : Type 0
Row = List ℕ × Checked

-- accepted, with so many nodes and this iso-value, of version 1
abbrev accepted : ℕ → ℕ → Checked
accepted n i = Ok (record { nodes = n; iso = i; version = 1 })

unfoldable pub rows : List Row
rows =
    -- lengths: none, 23, 24 (file K)
    ([], Err no.Length)
    ∷ (replicate 23 0, Err no.Length)
    ∷ (record_k ++ trailer_k, accepted 1 1)
    -- bytes before the first record are ignored
    ∷ (0xff ∷ 0x02 ∷ record_k ++ trailer_k, accepted 1 1)
    -- bad mark and bad version; versions 0, 2, 3 and 257
    ∷ (record_k ++ 0x01 ∷ 0x00 ∷ 0x03 ∷ 0x00 ∷ 0x18 ∷ 0x00 ∷ 0x00 ∷ 0x00 ∷ 0x54 ∷ 0x52 ∷ 0x45 ∷ 0x46 ∷ [], Err no.Mark)
    ∷ (record_k ++ trailer 1 0 0 0x18 0, Err no.Version)
    ∷ (record_k ++ trailer 1 0 2 0x18 0, Ok (record { nodes = 1; iso = 1; version = 2 }))
    ∷ (record_k ++ trailer 1 0 3 0x18 0, Err no.Version)
    ∷ (record_k ++ 0x01 ∷ 0x00 ∷ 0x01 ∷ 0x01 ∷ 0x18 ∷ 0x00 ∷ 0x00 ∷ 0x00 ∷ 0x54 ∷ 0x52 ∷ 0x45 ∷ 0x45 ∷ [], Err no.Version)
    -- the distance is 25, 12, and more than the length
    ∷ (record_k ++ trailer 1 0 1 0x19 0, Err no.Distance)
    ∷ (record_k ++ trailer 1 0 1 0x0c 0, Err no.Distance)
    ∷ (record_k ++ trailer 1 0 1 0x24 0, Err no.Distance)
    -- iso 0, 4,096 and 4,097
    ∷ (record_k ++ trailer 0 0 1 0x18 0, Err no.Iso)
    ∷ (record_k ++ trailer 0 0x10 1 0x18 0, accepted 1 4096)
    ∷ (record_k ++ trailer 1 0x10 1 0x18 0, Err no.Iso)
    -- kinds 0 and 6
    ∷ (operator 0 0 ++ trailer_k, Err no.Kind)
    ∷ (operator 6 0 ++ trailer_k, Err no.Kind)
    -- an operator's last byte
    ∷ (operator 2 1 ++ trailer_k, Err no.ZeroBytes)
    ∷ (operator 5 1 ++ trailer_k, Err no.ZeroBytes)
    -- radius 1,024 and 1,025; x = -2047 and -2048
    ∷ (radius 0x00 0x04 ++ trailer_k, accepted 1 1)
    ∷ (radius 0x01 0x04 ++ trailer_k, Err no.Point)
    ∷ (placed 0x01 0xf8 ++ trailer_k, accepted 1 1)
    ∷ (placed 0x00 0xf8 ++ trailer_k, Err no.Point)
    -- a lone sum, and a lone cut
    ∷ (operator 2 0 ++ trailer_k, Err no.Operands)
    ∷ (operator 5 0 ++ trailer_k, Err no.Operands)
    -- the 65th held point; 64 and two values at the end; two points and each operator
    ∷ (copies 65 ++ trailer 1 0 1 0x18 0x03, Err no.Depth)
    ∷ (copies 64 ++ trailer 1 0 1 0x0c 0x03, Err no.Root)
    ∷ (copies 2 ++ trailer 1 0 1 0x24 0, Err no.Root)
    ∷ (copies 2 ++ operator 2 0 ++ trailer 1 0 1 0x30 0, accepted 3 1)
    ∷ (copies 2 ++ operator 3 0 ++ trailer 1 0 1 0x30 0, accepted 3 1)
    ∷ (copies 2 ++ operator 4 0 ++ trailer 1 0 1 0x30 0, accepted 3 1)
    ∷ (copies 2 ++ operator 5 0 ++ trailer 1 0 1 0x30 0, accepted 3 1)
    ∷ []

pub checked : map (λ r. check_file r.0) rows ≡ map (λ r. r.1) rows
unfolding rows copies u16 u32 i16 has_bytes zeros first_no is_point kind_known coordinate in_range for_point for_operator held_after
    node_at zero_bytes record_at node_questions record_questions
    iso version distance marked trailer_questions start count records_from records records_questions file_questions answer_of check_file
checked = refl

-- file K's node: a point at the origin, r 512, w 4
pub decoded : numbers (nodes (record_k ++ trailer_k)) ≡ pos 1 ∷ pos 512 ∷ pos 0 ∷ pos 0 ∷ pos 0 ∷ pos 4 ∷ []
unfolding u16 u32 i16 has_bytes zeros is_point distance start count node_at zero_bytes record_at records_from nodes_from nodes numbers
decoded = refl

-- ---- every file of a length

pub too_short : (file : List ℕ) → length file < 24 → check_file file ≡ Err no.Length
unfolding check_file file_questions trailer_questions first_no answer_of
too_short file h = rw (lt-leb 24 (length file) h)

pub too_long : (file : List ℕ) → 65536 < length file → check_file file ≡ Err no.Length
unfolding check_file file_questions trailer_questions first_no answer_of
too_long file h = rw (le-leb 24 (length file) (omega arith), lt-leb (length file) 65536 h)

-- file K after 65,512 bytes of any kind
pub longest : (lead : List ℕ) → length lead ≡ 65512 → check_file (lead ++ (record_k ++ trailer_k)) ≡ accepted 1 1
unfolding rows distance u32 u16
longest lead e =
    leading_ignored lead (record_k ++ trailer_k) (lit≤ tt) (lit≤ tt) (omega (arith, length-append lead (record_k ++ trailer_k)))
    ∙ ap (λ (answers : List Checked). get_or answers 2 (Err no.Length)) checked
