-- Records and trailer read back, whatever stands before them: the check accepts them, and their nodes are the given ones.
-- `part_accepted w before short : check_file (before ++ part_bytes ns i v) ≡ Accepted …`, from `w : Writable ns i v`; `part_nodes` says it of
-- the nodes.
use Rattle.std.specs.Prelude.{Ok}
use Prim.Native.Nat.{ℕ, ◌+◌, ◌*◌, ◌%◌, ◌≤◌}
use native.Mathlib.Omega.{arith}
use mathlib.Core.Path.{◌≡◌, refl, ap, ◌∙◌}
use mathlib.Core.List.{List, [], ◌∷◌, ◌++◌, map}
use borrow.Author.Tests.{le-leb, eq-eqb}
use lib.ListN.{length, length-append}
use Rattle.exact.proofs.Tests.{true_between}
use Rattle.record.specs.Questions.{first_no, next}
use Rattle.part.specs.File.{iso, version, distance, trailer_questions, start, count, records, nodes_from, nodes}
use Rattle.part.specs.File.{records_questions, file_questions, answer_of, check_file}
use Rattle.record.specs.declared.Node.{Node}
use Rattle.record.proofs.Questions.{first_no-append}
use Rattle.part.proofs.Leading.{leading_ignored, leading_nodes}
use Rattle.writer.specs.Bytes.{size, trailer_bytes, records_bytes, part_bytes}
use Rattle.writer.specs.Given.{record_of}
use Rattle.writer.proofs.Records.{length-records, records_back}
use Rattle.writer.proofs.Trailer.{length_trailer, iso_back, version_back, distance_back, marked_back}

-- nodes, an iso-value and a version that the questions accept
pub record Writable (ns : List Node) (i v : ℕ) : Type 0 where
  pub some : 1 ≤ length ns
  pub few : length ns ≤ 511
  pub version_low : 1 ≤ v
  pub version_high : v ≤ 2
  pub iso_low : 1 ≤ i
  pub iso_high : i ≤ 4096
  pub yes_to_all : first_no (records_questions (map record_of ns) 0) ≡ Ok tt

pub length_part : (ns : List Node) (i v : ℕ) → length (part_bytes ns i v) ≡ size (length ns)
unfolding part_bytes size
length_part ns i v = rw (length-append, length-records ns, length_trailer (length ns) i v)

nodes_of : (ns : List Node) → map (λ r. r.node) (map record_of ns) ≡ ns
unfolding record_of
nodes_of [] = refl
nodes_of (n ∷ later) = ap (λ (l : List Node). n ∷ l) (nodes_of later)

module _ {ns : List Node} {i v : ℕ} (w : Writable ns i v) where
  long : length (part_bytes ns i v) ≡ 12 * length ns + 12
  unfolding size
  long = length_part ns i v

  pub part_iso : iso (part_bytes ns i v) ≡ i
  unfolding part_bytes
  part_iso = iso_back (records_bytes ns) (length ns) i v (omega arith)

  pub part_version : version (part_bytes ns i v) ≡ v
  unfolding part_bytes
  part_version = version_back (records_bytes ns) (length ns) i v (omega (arith, w.version_high))

  pub part_distance : distance (part_bytes ns i v) ≡ 12 * length ns + 12
  unfolding size part_bytes
  part_distance = distance_back (records_bytes ns) (length ns) i v w.few

  pub part_count : count (part_bytes ns i v) ≡ length ns
  unfolding count
  part_count = rw part_distance (omega arith)

  part_start : start (part_bytes ns i v) ≡ 0
  unfolding start
  part_start = rw (part_distance, long) (omega arith)

  pub part_records : records (part_bytes ns i v) ≡ map record_of ns
  unfolding records part_bytes
  part_records = rw (part_count, part_start) (records_back ns 0 (trailer_bytes (length ns) i v) w.yes_to_all)

  part_trailer : first_no (trailer_questions (part_bytes ns i v)) ≡ Ok tt
  unfolding trailer_questions first_no part_bytes
  part_trailer =
      rw (
        true_between 24 65536 (length (part_bytes ns i v)) (omega (arith, long)) (omega (arith, long)),
        marked_back (records_bytes ns) (length ns) i v,
        part_version,
        true_between 1 2 v w.version_low w.version_high,
        part_distance,
        part_iso,
        true_between 24 6144 (12 * length ns + 12) (omega arith) (omega arith),
        eq-eqb ((12 * length ns + 12) % 12) 0 (omega arith),
        le-leb (12 * length ns + 12) (length (part_bytes ns i v)) (omega (arith, long)),
        true_between 1 4096 i w.iso_low w.iso_high,
      )

  pub part_yes : first_no (file_questions (part_bytes ns i v)) ≡ Ok tt
  unfolding file_questions next
  part_yes = rw (first_no-append, part_trailer, part_records) w.yes_to_all

  module _ (before : List ℕ) (short : length before + size (length ns) ≤ 65536) where
    pub part_accepted : check_file (before ++ part_bytes ns i v) ≡ Ok (record { nodes = length ns; iso = i; version = v })
    unfolding check_file answer_of size
    part_accepted =
        leading_ignored before (part_bytes ns i v) (omega (arith, long)) (omega (arith, long, part_distance))
        (omega (arith, long, length-append before (part_bytes ns i v)))
        ∙ rw (part_yes, part_count, part_iso, part_version)

    pub part_nodes : nodes (before ++ part_bytes ns i v) ≡ ns
    unfolding nodes nodes_from records
    part_nodes =
        leading_nodes before (part_bytes ns i v) (omega (arith, long)) (omega (arith, long, part_distance))
        ∙ ap (map (λ r. r.node)) part_records ∙ nodes_of ns
