-- Bytes before the first record are ignored: a file with more of them is answered, and read, alike.
-- `leading_ignored lead file long within short : check_file (lead ++ file) ≡ check_file file`, and `leading_nodes` says it of the nodes.
use Rattle.std.specs.Prelude.{Ok, Err}
use Prim.Native.Nat.{ℕ, zero, suc, ◌+◌, ◌-◌, ◌≤◌}
use native.Mathlib.Nat.{add_assoc}
use native.Mathlib.Omega.{arith}
use mathlib.Core.Path.{◌≡◌, refl, ap}
use mathlib.Core.List.{List, [], ◌∷◌, ◌++◌, map}
use borrow.Author.Tests.{le-leb}
use lib.ListN.{length, length-append}
use lib.Seq.{get_or-append-add}
use Rattle.exact.proofs.Tests.{true_between}
use Rattle.record.specs.Bytes.{u16, u32, i16, has_bytes, zeros}
use Rattle.record.specs.Questions.{first_no, Verdict}
use Rattle.record.specs.Record.{node_at, record_at}
use Rattle.part.specs.File.{iso, version, distance, marked, trailer_questions, start, count, records_from, records, nodes_from, nodes}
use Rattle.part.specs.File.{file_questions, answer_of, check_file}

module _ (lead file : List ℕ) where
  -- ---- at a place that is moved on by the leading bytes

  pub u16_moved : (at : ℕ) → u16 (lead ++ file) (length lead + at) ≡ u16 file at
  unfolding u16
  u16_moved at = rw (add_assoc (length lead) at 1, get_or-append-add lead file at 0, get_or-append-add lead file (at + 1) 0)

  pub u32_moved : (at : ℕ) → u32 (lead ++ file) (length lead + at) ≡ u32 file at
  unfolding u32
  u32_moved at = rw (add_assoc (length lead) at 2, u16_moved at, u16_moved (at + 2))

  i16_moved : (at : ℕ) → i16 (lead ++ file) (length lead + at) ≡ i16 file at
  unfolding i16
  i16_moved at = rw (u16_moved at)

  pub has_bytes_moved : (at : ℕ) (bytes : List ℕ) → has_bytes (lead ++ file) (length lead + at) bytes ≡ has_bytes file at bytes
  unfolding has_bytes
  has_bytes_moved at [] = refl
  has_bytes_moved at (b ∷ bytes) = rw (get_or-append-add lead file at 0, add_assoc (length lead) at 1, has_bytes_moved (at + 1) bytes)

  node_moved : (at : ℕ) → node_at (lead ++ file) (length lead + at) ≡ node_at file at
  unfolding node_at
  node_moved at =
      rw (
        add_assoc (length lead) at 2,
        add_assoc (length lead) at 4,
        add_assoc (length lead) at 6,
        add_assoc (length lead) at 8,
        add_assoc (length lead) at 10,
        get_or-append-add lead file at 0,
        u16_moved (at + 2),
        i16_moved (at + 4),
        i16_moved (at + 6),
        i16_moved (at + 8),
        i16_moved (at + 10),
      )

  record_moved : (at : ℕ) → record_at (lead ++ file) (length lead + at) ≡ record_at file at
  unfolding record_at zeros
  record_moved at = rw (node_moved at, add_assoc (length lead) at 1, has_bytes_moved (at + 1) _)

  pub records_moved : (n at : ℕ) → records_from (lead ++ file) n (length lead + at) ≡ records_from file n at
  unfolding records_from
  records_moved zero at = refl
  records_moved (suc n) at = rw (record_moved at, add_assoc (length lead) at 12, records_moved n (at + 12))

  -- ---- the trailer and the records of the whole

  pub back : (k : ℕ) → k ≤ length file → length (lead ++ file) - k ≡ length lead + (length file - k)
  back k h = simp length-append (omega arith)

  module _ (long : 24 ≤ length file) (within : distance file ≤ length file) where
    distance_moved : distance (lead ++ file) ≡ distance file
    unfolding distance
    distance_moved = rw (back 8 (omega arith)) (u32_moved (length file - 8))

    iso_moved : iso (lead ++ file) ≡ iso file
    unfolding iso
    iso_moved = rw (back 12 (omega arith)) (u16_moved (length file - 12))

    version_moved : version (lead ++ file) ≡ version file
    unfolding version
    version_moved = rw (back 10 (omega arith)) (u16_moved (length file - 10))

    marked_moved : marked (lead ++ file) ≡ marked file
    unfolding marked
    marked_moved = rw (back 4 (omega arith)) (has_bytes_moved (length file - 4) _)

    count_moved : count (lead ++ file) ≡ count file
    unfolding count
    count_moved = rw distance_moved

    start_moved : start (lead ++ file) ≡ length lead + start file
    unfolding start
    start_moved = rw distance_moved (back (distance file) within)

    all_records_moved : records (lead ++ file) ≡ records file
    unfolding records
    all_records_moved = rw (count_moved, start_moved) (records_moved (count file) (start file))

    pub leading_nodes : nodes (lead ++ file) ≡ nodes file
    unfolding nodes nodes_from records
    leading_nodes = ap (map (λ r. r.node)) all_records_moved

    -- the whole is no longer than a file may be
    module _ (short : length (lead ++ file) ≤ 65536) where
      sizes : (length file ≤ 65536) × (24 ≤ length (lead ++ file)) × (distance file ≤ length (lead ++ file))
      sizes = let e = length-append lead file in (omega arith, omega arith, omega arith)

      trailer_moved : trailer_questions (lead ++ file) ≡ trailer_questions file
      unfolding trailer_questions
      trailer_moved =
          rw (
            marked_moved,
            version_moved,
            distance_moved,
            iso_moved,
            true_between 24 65536 (length (lead ++ file)) sizes.1 short,
            true_between 24 65536 (length file) long sizes.0,
            le-leb (distance file) (length (lead ++ file)) sizes.2,
            le-leb (distance file) (length file) within,
          )

      questions_moved : file_questions (lead ++ file) ≡ file_questions file
      unfolding file_questions
      questions_moved = rw (trailer_moved, all_records_moved)

      pub leading_ignored : check_file (lead ++ file) ≡ check_file file
      unfolding check_file answer_of
      leading_ignored = rw questions_moved (same (first_no (file_questions file)))
        where
          same : (v : Verdict) → answer_of v (lead ++ file) ≡ answer_of v file
          same (Ok tt) = rw (count_moved, iso_moved, version_moved)
          same (Err n) = refl
