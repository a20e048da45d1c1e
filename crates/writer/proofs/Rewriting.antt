-- Writing what was read from an accepted file: its bytes from the first record on (`rewritten_part`), which without leading bytes are the file
-- (`rewritten`); and that the questions accept it (`read_writable`).
use Rattle.std.specs.Prelude.{Ok}
use Prim.Native.Nat.{ℕ, zero, suc, ◌+◌, ◌-◌, ◌*◌, ◌≤◌, ◌<◌}
use native.Mathlib.Nat.{add-zero}
use native.Mathlib.Omega.{arith}
use mathlib.Core.Path.{◌≡◌, refl, sym, ap, ap₂, ◌∙◌}
use mathlib.Core.List.{List, [], ◌∷◌, ◌++◌, map, append_assoc}
use mathlib.Core.Bool.{Bool, true, false, cond}
use lib.ListN.{length, drop, replicate, length-replicate, get_or-replicate}
use lib.Seq.{drop-length}
use Rattle.record.specs.Bytes.{byte, u16, u32, i16, has_bytes, zeros}
use Rattle.record.specs.Questions.{first_no}
use Rattle.record.specs.Nodes.{is_point, for_operator, held_after}
use Rattle.record.specs.Record.{node_at, zero_bytes, record_at, record_questions}
use Rattle.record.specs.declared.Record.{Record}
use Rattle.record.proofs.Questions.{all_yes, yes_append}
use Rattle.part.specs.File.{iso, version, distance, file_mark, marked, trailer_questions, start, count, records_from, records, nodes_from, nodes}
use Rattle.part.specs.File.{records_questions, file_questions}
use Rattle.part.specs.Accepted.{Trailer}
use Rattle.part.proofs.Records.{nodes-length}
use Rattle.part.proofs.Trailer.{accepted_trailer, records_end, count_low, count_high}
use Rattle.writer.specs.Bytes.{Octets, u16_bytes, u32_bytes, record_bytes, records_bytes, size, trailer_bytes, part_bytes}
use Rattle.writer.specs.Given.{others_zero, record_of}
use Rattle.writer.proofs.Pieces.{piece, pieces, has_byte, has_piece, u16_split, u16_first, u16_pair, i16_pair, u32_four}
use Rattle.writer.proofs.Reading.{Writable}

-- ---- the zero bytes of a record that was read

zero_at : (file : List ℕ) (at n k : ℕ) → zeros file (at + 1) n ≡ true → k < n → byte file (at + suc k) ≡ 0
unfolding zeros
zero_at file at n k e h =
    let f : at + suc k ≡ at + 1 + k = omega arith in
    ap (byte file) f ∙ has_byte file (at + 1) (replicate n 0) k e (omega (arith, length-replicate {A = ℕ} n 0)) ∙ get_or-replicate n k 0 0 h

zero_pair : (file : List ℕ) (at k : ℕ) → zeros file (at + 1) 11 ≡ true → suc k < 11 → u16 file (at + suc k) ≡ 0
zero_pair file at k e h = u16_split file at (suc k) ∙ rw (zero_at file at 11 k e (omega arith), zero_at file at 11 (suc k) e h)

module _ (file : List ℕ) (at : ℕ) (e : (record_at file at).zeroed ≡ true) where
  pub second-zero : byte file (at + 1) ≡ 0
  unfolding record_at zero_bytes
  second-zero = go (is_point (node_at file at)) e
    where
      go : (t : Bool) → zeros file (at + 1) (cond t 1 11) ≡ true → byte file (at + 1) ≡ 0
      go true f = zero_at file at 1 0 f (omega arith)
      go false f = zero_at file at 11 0 f (omega arith)

  -- an operator's numbers are zero
  read_zero : zeros file (at + 1) 11 ≡ true → others_zero (node_at file at) ≡ true
  unfolding others_zero node_at i16
  read_zero z =
      rw (
        zero_pair file at 1 z (omega arith),
        zero_pair file at 3 z (omega arith),
        zero_pair file at 5 z (omega arith),
        zero_pair file at 7 z (omega arith),
        zero_pair file at 9 z (omega arith),
      )

  -- so a record that was read is its node's
  pub read_record : record_of (node_at file at) ≡ record_at file at
  unfolding record_of record_at zero_bytes for_operator
  read_record =
      ap (λ (t : Bool). record { node = node_at file at; zeroed = t }) (go (is_point (node_at file at)) e ∙ sym e)
    where
      go : (t : Bool) → zeros file (at + 1) (cond t 1 11) ≡ true → cond t true (others_zero (node_at file at)) ≡ true
      go true f = refl
      go false f = read_zero f

zeroed : (r : Record) (held : ℕ) → first_no (record_questions r held) ≡ Ok tt → r.zeroed ≡ true
unfolding record_questions
zeroed r held ok = all_yes (record_questions r held) ok 1

pub read_records : (file : List ℕ) (n at held : ℕ) → first_no (records_questions (records_from file n at) held) ≡ Ok tt
    → map record_of (nodes_from file n at) ≡ records_from file n at
unfolding records_from nodes_from records_questions record_at
read_records file zero at held ok = refl
read_records file (suc n) at held ok =
    let r = record_at file at in
    let after = held_after r.node held in
    let q = yes_append (record_questions r held) (records_questions (records_from file n (at + 12)) after) ok in
    ap₂ ◌∷◌ (read_record file at (zeroed r held q.0)) (read_records file n (at + 12) after q.1)

-- ---- the bytes

module _ (file : List ℕ) (octets : Octets file) where
  record_bytes_lem : (at : ℕ) → (record_at file at).zeroed ≡ true → record_bytes (node_at file at) ≡ byte file at ∷ piece file at 1 11
  unfolding record_bytes node_at
  record_bytes_lem at e =
      rw (
        u16_pair file octets at 2,
        i16_pair file octets at 4,
        i16_pair file octets at 6,
        i16_pair file octets at 8,
        i16_pair file octets at 10,
        second-zero file at e,
      )

  records_bytes_lem : (n at held : ℕ) → first_no (records_questions (records_from file n at) held) ≡ Ok tt → at + 12 * n ≤ length file
      → records_bytes (nodes_from file n at) ++ drop (at + 12 * n) file ≡ drop at file
  unfolding records_from nodes_from records_questions records_bytes record_at
  records_bytes_lem zero at held ok h = ap (λ (j : ℕ). drop j file) (add-zero at)
  records_bytes_lem (suc n) at held ok h =
      let r = record_at file at in
      let after = held_after r.node held in
      let q = yes_append (record_questions r held) (records_questions (records_from file n (at + 12)) after) ok in
      let e : at + 12 * suc n ≡ at + 12 + 12 * n = omega arith in
      append_assoc (record_bytes (node_at file at)) (records_bytes (nodes_from file n (at + 12))) (drop (at + 12 * suc n) file)
      ∙ ap (λ (l : List ℕ). record_bytes (node_at file at) ++ l)
      (ap (λ (j : ℕ). records_bytes (nodes_from file n (at + 12)) ++ drop j file) e ∙ records_bytes_lem n (at + 12) after q.1 (omega arith))
      ∙ ap (λ (l : List ℕ). l ++ drop (at + 12) file) (record_bytes_lem at (zeroed r held q.0))
      ∙ sym (pieces file at 11 (omega arith))

  -- a trailer's bytes, from its numbers at a place
  trailer_bytes_lem : (at n i v : ℕ) → at + 12 ≡ length file → u16 file at ≡ i → u16 file (at + 2) ≡ v → u32 file (at + 4) ≡ 12 * n + 12
      → has_bytes file (at + 8) file_mark ≡ true → trailer_bytes n i v ≡ drop at file
  unfolding size trailer_bytes
  trailer_bytes_lem at n i v long is ver d mark =
      let p : u16_bytes i ≡ byte file at ∷ byte file (at + 1) ∷ [] = ap u16_bytes (sym is) ∙ u16_first file octets at in
      let q : u16_bytes v ≡ piece file at 2 2 = ap u16_bytes (sym ver) ∙ u16_pair file octets at 2 in
      let r : u32_bytes (12 * n + 12) ≡ piece file at 4 4 = ap u32_bytes (sym d) ∙ u32_four file octets at 4 in
      let s : piece file at 8 4 ≡ file_mark = has_piece file at 8 file_mark mark in
      let e : drop (at + 12) file ≡ [] = ap (λ (j : ℕ). drop j file) long ∙ drop-length file in
      ap₂ ◌++◌ (ap₂ ◌++◌ (ap₂ ◌++◌ p q) r) (sym s)
      ∙ ap (λ (l : List ℕ). byte file at ∷ piece file at 1 11 ++ l) (sym e)
      ∙ sym (pieces file at 11 (omega arith))

  -- ---- an accepted file

  module _ (ok : first_no (file_questions file) ≡ Ok tt) where
    questions : (first_no (trailer_questions file) ≡ Ok tt) × (first_no (records_questions (records_from file (count file) (start file)) 0) ≡ Ok tt)
    unfolding file_questions records
    questions = yes_append (trailer_questions file) (records_questions (records file) 0) ok

    trailer : Trailer file
    trailer = accepted_trailer file ok

    trailer_end : start file + 12 * count file + 12 ≡ length file
    trailer_end = records_end trailer

    -- a place in the trailer, from its start and from the file's end
    from_end : (k j : ℕ) → k + j ≡ 12 → length file - j ≡ start file + 12 * count file + k
    from_end k j h = omega (arith, trailer_end)

    marked_is : marked file ≡ true
    unfolding trailer_questions
    marked_is = all_yes (trailer_questions file) questions.0 1

    distance_is : distance file ≡ 12 * count file + 12
    unfolding count
    distance_is = let t = trailer in omega (arith, t.distance-whole)

    -- records and trailer, whatever stands before them
    pub rewritten_part : part_bytes (nodes file) (iso file) (version file) ≡ drop (start file) file
    unfolding part_bytes nodes iso version distance marked
    rewritten_part =
        let at = start file + 12 * count file in
        let i : u16 file at ≡ u16 file (length file - 12) = ap (u16 file) (sym (add-zero at) ∙ sym (from_end 0 12 refl)) in
        let v : u16 file (at + 2) ≡ u16 file (length file - 10) = ap (u16 file) (sym (from_end 2 10 refl)) in
        let d : u32 file (at + 4) ≡ 12 * count file + 12 = ap (u32 file) (sym (from_end 4 8 refl)) ∙ distance_is in
        let m : has_bytes file (at + 8) file_mark ≡ true =
        ap (λ (j : ℕ). has_bytes file j file_mark) (sym (from_end 8 4 refl)) ∙ marked_is in
        ap (λ (l : List ℕ). records_bytes (nodes_from file (count file) (start file)) ++ l)
        (ap (λ (n : ℕ). trailer_bytes n (iso file) (version file)) (nodes-length file (count file) (start file))
        ∙ trailer_bytes_lem at (count file) (iso file) (version file) trailer_end i v d m)
        ∙ records_bytes_lem (count file) (start file) 0 questions.1 (omega (arith, trailer_end))

    -- and for a file without leading bytes, the file
    pub rewritten : distance file ≡ length file → part_bytes (nodes file) (iso file) (version file) ≡ file
    unfolding start
    rewritten e =
        let z : length file - distance file ≡ 0 = omega arith in
        rewritten_part ∙ ap (λ (k : ℕ). drop k file) z

-- what was read is accepted by the writer's questions
pub read_writable : (file : List ℕ) → first_no (file_questions file) ≡ Ok tt → Writable (nodes file) (iso file) (version file)
unfolding file_questions records nodes
read_writable file ok =
    let t = accepted_trailer file ok in
    let l = nodes-length file (count file) (start file) in
    let q = (yes_append (trailer_questions file) (records_questions (records file) 0) ok).1 in
    record {
      some = omega (arith, l, count_low t);
      few = omega (arith, l, count_high t);
      version_low = t.version_low;
      version_high = t.version_high;
      iso_low = t.iso_low;
      iso_high = t.iso_high;
      yes_to_all = rw (read_records file (count file) (start file) 0 q) q;
    }
