-- Worked writes as rows of a table that one theorem covers (document 02, P2 and P9): numbers, iso-value, version, the buffer's length, the
-- place, and what the questions answer; the bytes of three parts; and wrong bytes that the writer's promise refutes, each by one of its fields:
--     exchanged                     `read`
--     other_iso, other_version      `checked`
--     cleared_before, cleared_after `before_kept`, `after_kept`
--     changed_refused               a refused call changes no byte
--     other_file                    `Returned`
use Rattle.std.specs.Prelude.{Ok, Err}
use Prim.Native.Nat.{ℕ, zero, suc}
use native.Mathlib.Nat.{not-suc-le-zero}
use native.Mathlib.Omega.{arith}
use mathlib.Core.Path.{◌≡◌, refl, ap}
use mathlib.Core.List.{List, [], ◌∷◌, ◌++◌, map}
use mathlib.Core.Bool.{Bool, true, ◌&&◌}
use borrow.Author.Tests.{ltb-true}
use lib.ListN.{get_or, replicate}
use lib.IntN.{ℤ, pos, negsuc, nat_abs}
use lib.Dec.{ltb}
use Rattle.exact.proofs.Tests.{both_true}
use Rattle.record.specs.Bytes.{u16, u32, i16, has_bytes, zeros}
use Rattle.record.specs.Questions.{first_no, Verdict}
use Rattle.record.specs.Nodes.{is_point, kind_known, coordinate, in_range, for_point, for_operator, held_after}
use Rattle.record.specs.Record.{node_at, zero_bytes, record_at, node_questions, record_questions}
use Rattle.record.specs.declared.Refusal.TheVariants as no
use Rattle.part.specs.File.{iso, version, distance, marked, trailer_questions, start, count, records_from, records, nodes_from, nodes, Checked}
use Rattle.part.specs.File.{records_questions, file_questions, answer_of, check_file}
use Rattle.nodes.specs.Numbers.{numbers}
use Rattle.writer.specs.Bytes.{Octets, bits16, u16_bytes, u32_bytes, i16_bytes, record_bytes, records_bytes, size, trailer_bytes, part_bytes}
use Rattle.writer.specs.Given.{node_in, nodes_in, given, others_zero, record_of}
use Rattle.writer.specs.Writer.{counted, has_room, writer_questions, WriteSays, ReadFrom, Returned}

-- a point with its kind, r and x given; an operator with its w given
abbrev point : ℤ → ℤ → ℤ → List ℤ
point kind r x = kind ∷ r ∷ x ∷ pos 0 ∷ pos 0 ∷ pos 4 ∷ []

abbrev operator : ℤ → ℤ → List ℤ
operator kind w = kind ∷ pos 0 ∷ pos 0 ∷ pos 0 ∷ pos 0 ∷ w ∷ []

-- file K's
abbrev point_k : List ℤ
point_k = point (pos 1) (pos 512) (pos 0)

unfoldable pub points : ℕ → List ℤ
points zero = []
points (suc n) = point_k ++ points n

-- ---- the questions

pub record Row : Type 0 where
  pub numbers : List ℤ
  pub iso : ℕ
  pub version : ℕ
  pub room : ℕ
  pub place : ℕ
  pub answer : Verdict

abbrev row_of : ℕ → List ℤ → ℕ → ℕ → ℕ → Verdict → Row
row_of v l i room place answer = record { numbers = l; iso = i; version = v; room = room; place = place; answer = answer }

abbrev row : List ℤ → ℕ → ℕ → ℕ → Verdict → Row
row l i room place answer = row_of 1 l i room place answer

unfoldable pub rows : List Row
rows =
    -- file K; its buffer one byte short; the last place, and one more; the largest place
    row point_k 1 24 0 (Ok tt)
    ∷ row point_k 1 23 0 (Err no.Room)
    ∷ row point_k 1 70000 65512 (Ok tt)
    ∷ row point_k 1 70000 65513 (Err no.Room)
    ∷ row point_k 1 24 18446744073709551615 (Err no.Room)
    -- none, five, seven and 3,072 numbers; 16 comes before 5
    ∷ row [] 1 24 0 (Err no.Numbers)
    ∷ row (replicate 5 (pos 1)) 1 24 0 (Err no.Numbers)
    ∷ row (pos 1 ∷ point_k) 0 24 0 (Err no.Numbers)
    ∷ row (points 512) 1 70000 0 (Err no.Numbers)
    -- versions 0, 2, 3 and 65,537; 16 comes before 3, and 3 before 5
    ∷ row_of 0 point_k 1 24 0 (Err no.Version)
    ∷ row_of 2 point_k 1 24 0 (Ok tt)
    ∷ row_of 3 point_k 1 24 0 (Err no.Version)
    ∷ row_of 65537 point_k 1 24 0 (Err no.Version)
    ∷ row_of 3 (pos 1 ∷ point_k) 1 24 0 (Err no.Numbers)
    ∷ row_of 3 point_k 0 24 0 (Err no.Version)
    -- iso-value 0, 4,096 and 4,097; 5 comes before 6
    ∷ row point_k 0 24 0 (Err no.Iso)
    ∷ row point_k 4096 24 0 (Ok tt)
    ∷ row point_k 4097 24 0 (Err no.Iso)
    ∷ row (operator (pos 0) (pos 0)) 0 24 0 (Err no.Iso)
    -- kinds 0, 6, 257 and −1; 6 comes before 17
    ∷ row (operator (pos 0) (pos 0)) 1 24 0 (Err no.Kind)
    ∷ row (operator (pos 6) (pos 0)) 1 24 0 (Err no.Kind)
    ∷ row (point (pos 257) (pos 512) (pos 0)) 1 24 0 (Err no.Kind)
    ∷ row (point (negsuc 0) (pos 512) (pos 0)) 1 0 0 (Err no.Kind)
    -- an operator's other numbers, also one that is 0 in its low 16 bits; 7 comes before 9
    ∷ row (operator (pos 2) (pos 1)) 1 24 0 (Err no.ZeroBytes)
    ∷ row (operator (pos 2) (pos 65536)) 1 24 0 (Err no.ZeroBytes)
    -- r 1,024, 1,025 and 65,537; x −2,047, −2,048 and 65,536
    ∷ row (point (pos 1) (pos 1024) (pos 0)) 1 24 0 (Ok tt)
    ∷ row (point (pos 1) (pos 1025) (pos 0)) 1 24 0 (Err no.Point)
    ∷ row (point (pos 1) (pos 65537) (pos 0)) 1 24 0 (Err no.Point)
    ∷ row (point (pos 1) (pos 512) (negsuc 2046)) 1 24 0 (Ok tt)
    ∷ row (point (pos 1) (pos 512) (negsuc 2047)) 1 24 0 (Err no.Point)
    ∷ row (point (pos 1) (pos 512) (pos 65536)) 1 24 0 (Err no.Point)
    -- a lone cut; the 65th held point; 64 values at the end, and two; two points and a cut; 11 comes before 17
    ∷ row (operator (pos 5) (pos 0)) 1 24 0 (Err no.Operands)
    ∷ row (points 65) 1 70000 0 (Err no.Depth)
    ∷ row (points 64) 1 70000 0 (Err no.Root)
    ∷ row (points 2) 1 0 0 (Err no.Root)
    ∷ row (points 2 ++ operator (pos 5) (pos 0)) 1 48 0 (Ok tt)
    ∷ row (points 2 ++ operator (pos 5) (pos 0)) 1 47 0 (Err no.Room)
    ∷ []

pub asked : map (λ r. first_no (writer_questions r.numbers r.iso r.version r.room r.place)) rows ≡ map (λ r. r.answer) rows
unfolding
    rows points first_no is_point kind_known coordinate in_range for_point for_operator held_after node_questions record_questions records_questions
    node_in nodes_in given others_zero record_of size counted has_room writer_questions
asked = refl

-- ---- the bytes

-- file K; and a point at x = −2,047 before a sum, iso-value 4,096
pub written_K : part_bytes (given point_k) 1 1
    ≡ 0x01 ∷ 0x00 ∷ 0x00 ∷ 0x02 ∷ 0x00 ∷ 0x00 ∷ 0x00 ∷ 0x00 ∷ 0x00 ∷ 0x00 ∷ 0x04 ∷ 0x00
    ∷ 0x01 ∷ 0x00 ∷ 0x01 ∷ 0x00 ∷ 0x18 ∷ 0x00 ∷ 0x00 ∷ 0x00 ∷ 0x54 ∷ 0x52 ∷ 0x45 ∷ 0x45 ∷ []
unfolding node_in nodes_in given bits16 u16_bytes u32_bytes i16_bytes record_bytes records_bytes size trailer_bytes part_bytes
written_K = refl

pub written_negative : part_bytes (given (point (pos 1) (pos 1024) (negsuc 2046) ++ operator (pos 2) (pos 0))) 4096 1
    ≡ 0x01 ∷ 0x00 ∷ 0x00 ∷ 0x04 ∷ 0x01 ∷ 0xf8 ∷ 0x00 ∷ 0x00 ∷ 0x00 ∷ 0x00 ∷ 0x04 ∷ 0x00
    ∷ 0x02 ∷ 0x00 ∷ 0x00 ∷ 0x00 ∷ 0x00 ∷ 0x00 ∷ 0x00 ∷ 0x00 ∷ 0x00 ∷ 0x00 ∷ 0x00 ∷ 0x00
    ∷ 0x00 ∷ 0x10 ∷ 0x01 ∷ 0x00 ∷ 0x24 ∷ 0x00 ∷ 0x00 ∷ 0x00 ∷ 0x54 ∷ 0x52 ∷ 0x45 ∷ 0x45 ∷ []
unfolding node_in nodes_in given bits16 u16_bytes u32_bytes i16_bytes record_bytes records_bytes size trailer_bytes part_bytes
written_negative = refl

-- file K with version 2
pub written_2 : part_bytes (given point_k) 1 2
    ≡ 0x01 ∷ 0x00 ∷ 0x00 ∷ 0x02 ∷ 0x00 ∷ 0x00 ∷ 0x00 ∷ 0x00 ∷ 0x00 ∷ 0x00 ∷ 0x04 ∷ 0x00
    ∷ 0x01 ∷ 0x00 ∷ 0x02 ∷ 0x00 ∷ 0x18 ∷ 0x00 ∷ 0x00 ∷ 0x00 ∷ 0x54 ∷ 0x52 ∷ 0x45 ∷ 0x45 ∷ []
unfolding node_in nodes_in given bits16 u16_bytes u32_bytes i16_bytes record_bytes records_bytes size trailer_bytes part_bytes
written_2 = refl

-- ---- wrong bytes

-- a point at (1, 2, 0), written at place 1 of a buffer of 26 bytes that are 0x77
abbrev point_a : List ℤ
point_a = pos 1 ∷ pos 512 ∷ pos 1 ∷ pos 2 ∷ pos 0 ∷ pos 4 ∷ []

abbrev lent : List ℕ
lent = replicate 26 0x77

-- its part file, with x, y and the iso-value given, between two bytes
abbrev left : ℕ → ℕ → ℕ → ℕ → ℕ → List ℕ
left a x y i b =
    a ∷ 0x01 ∷ 0x00 ∷ 0x00 ∷ 0x02 ∷ x ∷ 0x00 ∷ y ∷ 0x00 ∷ 0x00 ∷ 0x00 ∷ 0x04 ∷ 0x00
    ∷ i ∷ 0x00 ∷ 0x01 ∷ 0x00 ∷ 0x18 ∷ 0x00 ∷ 0x00 ∷ 0x00 ∷ 0x54 ∷ 0x52 ∷ 0x45 ∷ 0x45 ∷ b ∷ []

pub exchanged : WriteSays point_a 1 1 lent 1 (Ok 25) (left 0x77 2 1 1 0x77) → ⊥
unfolding WriteSays u16 u32 i16 distance start count node_at zero_bytes record_at records_from nodes_from nodes numbers
exchanged says = omega (arith, ap (λ (l : List ℤ). nat_abs (get_or l 2 (pos 0))) says.read)

iso_of : Checked → ℕ
iso_of (Err refusal) = 0
iso_of (Ok s) = s.iso

pub other_iso : WriteSays point_a 1 1 lent 1 (Ok 25) (left 0x77 1 2 3 0x77) → ⊥
unfolding
    WriteSays iso_of u16 u32 i16 has_bytes zeros first_no is_point kind_known coordinate in_range for_point for_operator held_after node_at
    zero_bytes record_at node_questions record_questions iso version distance marked trailer_questions start count records_from records
    records_questions file_questions answer_of check_file
other_iso says = omega (arith, ap iso_of says.checked)

version_of : Checked → ℕ
version_of (Err refusal) = 0
version_of (Ok s) = s.version

-- version 1 written where 2 was given
pub other_version : WriteSays point_a 1 2 lent 1 (Ok 25) (left 0x77 1 2 1 0x77) → ⊥
unfolding
    WriteSays version_of u16 u32 i16 has_bytes zeros first_no is_point kind_known coordinate in_range for_point for_operator held_after node_at
    zero_bytes record_at node_questions record_questions iso version distance marked trailer_questions start count records_from records
    records_questions file_questions answer_of check_file
other_version says = omega (arith, ap version_of says.checked)

pub cleared_before : WriteSays point_a 1 1 lent 1 (Ok 25) (left 0 1 2 1 0x77) → ⊥
unfolding WriteSays
cleared_before says = omega (arith, ap (λ (l : List ℕ). get_or l 0 0) says.before_kept)

pub cleared_after : WriteSays point_a 1 1 lent 1 (Ok 25) (left 0x77 1 2 1 0) → ⊥
unfolding WriteSays
cleared_after says = omega (arith, ap (λ (l : List ℕ). get_or l 0 0) says.after_kept)

pub changed_refused : WriteSays point_a 0 1 lent 1 (Err no.Iso) (left 0x77 1 2 0 0x77) → ⊥
unfolding WriteSays
changed_refused (first, refusal, same) = omega (arith, ap (λ (l : List ℕ). get_or l 1 0) same)

-- ---- file K, read and written again

abbrev file_k : List ℕ
file_k = part_bytes (given point_k) 1 1

-- that bytes are bytes, by computing
all_below : List ℕ → Bool
all_below [] = true
all_below (b ∷ later) = ltb b 256 && all_below later

octets : (l : List ℕ) → all_below l ≡ true → Octets l
unfolding all_below
octets [] e k h = absurd (not-suc-le-zero h)
octets (b ∷ later) e zero h = ltb-true b 256 (both_true (ltb b 256) (all_below later) e).0
octets (b ∷ later) e (suc k) h = octets later (both_true (ltb b 256) (all_below later) e).1 k (omega arith)

read_K : ReadFrom file_k point_k 1 1 24
unfolding
    all_below node_in nodes_in given bits16 u16_bytes u32_bytes i16_bytes record_bytes records_bytes size trailer_bytes part_bytes u16 u32 i16
    has_bytes zeros first_no is_point kind_known coordinate in_range for_point for_operator held_after node_at zero_bytes record_at node_questions
    record_questions iso version distance marked trailer_questions start count records_from records nodes_from nodes records_questions
    file_questions answer_of check_file numbers
read_K = record {
  octets = octets file_k refl;
  accepted = refl;
  no_leading = refl;
  numbers_read = refl;
  iso_read = refl;
  version_read = refl;
  room_enough = omega arith;
}

pub other_file : (after : List ℕ) → get_or after 5 0 ≡ 1 → Returned point_k 1 1 (replicate 24 0x77) 0 (Ok 24) after → ⊥
unfolding Returned node_in nodes_in given bits16 u16_bytes u32_bytes i16_bytes record_bytes records_bytes size trailer_bytes part_bytes
other_file after one returned =
    let e : get_or after 5 0 ≡ 0 = ap (λ (l : List ℕ). get_or l 5 0) (returned file_k read_K refl).1 in
    omega arith
