-- An accepted file's trailer and nodes are as document 01 asks: `accepted_file`, from the check's answer.
-- `(accepted_file file e).tree.well_formed` says that each node finds what it needs held, from `e : check_file file ≡ Accepted part`.
use Rattle.std.specs.Prelude.{Ok}
use Prim.Native.Nat.{ℕ}
use mathlib.Core.Path.{◌≡◌}
use mathlib.Core.List.{List, [], ◌∷◌, map}
use borrow.Author.Tests.{eqb-true}
use Rattle.record.specs.Questions.{first_no}
use Rattle.record.specs.Nodes.{held_after}
use Rattle.record.specs.Record.{record_questions}
use Rattle.record.specs.declared.Record.{Record}
use Rattle.record.proofs.Questions.{all_yes, yes_append}
use Rattle.record.proofs.Ranges.{ready}
use Rattle.part.specs.File.{count, start, trailer_questions, records, nodes_from, nodes, records_questions, file_questions}
use Rattle.part.specs.File.{summary, answer_of, check_file}
use Rattle.part.specs.Accepted.{WellFormed, AcceptedFile}
use Rattle.part.specs.declared.Summary.{Summary}
use Rattle.part.proofs.Records.{nodes-length}
use Rattle.part.proofs.Trailer.{accepted_trailer, count_low, count_high}
use Rattle.part.proofs.File.{accepted}

well_formed : (rs : List Record) (held : ℕ) → first_no (records_questions rs held) ≡ Ok tt → WellFormed (map (λ r. r.node) rs) held
unfolding records_questions WellFormed
well_formed [] held ok = eqb-true held 1 (all_yes (records_questions [] held) ok 0)
well_formed (r ∷ later) held ok =
    let q = yes_append (record_questions r held) (records_questions later (held_after r.node held)) ok in
    (ready r held q.0, well_formed later (held_after r.node held) q.1)

pub accepted_file : (file : List ℕ) {part : Summary} → check_file file ≡ Ok part → AcceptedFile file
unfolding file_questions records nodes nodes_from
accepted_file file e =
    let ok = accepted file e in
    let t = accepted_trailer file ok in
    let counted = nodes-length file (count file) (start file) in
    record {
      trailer = t;
      counted = counted;
      tree = record {
        some = rw counted (count_low t);
        few = rw counted (count_high t);
        well_formed = well_formed (records file) 0 (yes_append (trailer_questions file) (records_questions (records file) 0) ok).1;
      };
    }

-- the answer's numbers are the file's
pub accepted_summary : (file : List ℕ) {part : Summary} → check_file file ≡ Ok part → part ≡ summary file
unfolding check_file answer_of
accepted_summary file e =
    let f : Ok (summary file) ≡ Ok _ = rw (accepted file e) at e in
    cc
