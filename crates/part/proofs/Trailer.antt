-- What an accepted trailer says of the file's numbers: the records lie within it.
-- `records_end (accepted_trailer file ok) : start file + 12 * count file + 12 ≡ length file`.
use Rattle.std.specs.Prelude.{Ok}
use Prim.Native.Nat.{ℕ, ◌+◌, ◌*◌, ◌%◌, ◌≤◌}
use native.Mathlib.Omega.{arith}
use mathlib.Core.Path.{◌≡◌}
use mathlib.Core.List.{List}
use mathlib.Core.Bool.{◌&&◌}
use borrow.Author.Tests.{leb-true, eqb-true}
use lib.ListN.{length}
use lib.Dec.{leb, eqb}
use Rattle.exact.specs.Range.{between}
use Rattle.exact.proofs.Tests.{both_true, between_true}
use Rattle.record.specs.Questions.{first_no}
use Rattle.record.proofs.Questions.{all_yes, yes_append}
use Rattle.part.specs.File.{iso, version, distance, trailer_questions, start, count, records, records_questions, file_questions}
use Rattle.part.specs.Accepted.{Trailer}

pub trailer_facts : (file : List ℕ) → first_no (trailer_questions file) ≡ Ok tt → Trailer file
unfolding trailer_questions
trailer_facts file ok =
    let d = distance file in
    let q = all_yes (trailer_questions file) ok in
    let length-ok = between_true 24 65536 (length file) (q 0) in
    let version-ok = between_true 1 2 (version file) (q 2) in
    let q4 = both_true (between 24 6144 d && eqb (d % 12) 0) (leb d (length file)) (q 3) in
    let q4-low = both_true (between 24 6144 d) (eqb (d % 12) 0) q4.0 in
    let d-ok = between_true 24 6144 d q4-low.0 in
    let iso-ok = between_true 1 4096 (iso file) (q 4) in
    record {
      long = length-ok.0;
      short = length-ok.1;
      version_low = version-ok.0;
      version_high = version-ok.1;
      distance_low = d-ok.0;
      distance_high = d-ok.1;
      distance-whole = eqb-true (d % 12) 0 q4-low.1;
      distance_within = leb-true d (length file) q4.1;
      iso_low = iso-ok.0;
      iso_high = iso-ok.1;
    }

pub accepted_trailer : (file : List ℕ) → first_no (file_questions file) ≡ Ok tt → Trailer file
unfolding file_questions
accepted_trailer file ok = trailer_facts file (yes_append (trailer_questions file) (records_questions (records file) 0) ok).0

-- the records and the trailer end with the file
pub records_end : {file : List ℕ} → Trailer file → start file + 12 * count file + 12 ≡ length file
unfolding start count
records_end t = omega (arith, t.distance-whole)

pub count_low : {file : List ℕ} → Trailer file → 1 ≤ count file
unfolding count
count_low t = omega arith

pub count_high : {file : List ℕ} → Trailer file → count file ≤ 511
unfolding count
count_high t = omega arith
