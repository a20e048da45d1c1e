-- What the writer promises beside its equations (document 02, P2): what was given is read back, all else is kept (`write_says`), and what was read
-- from a file is that file again (`write_returns`).
use Rattle.std.specs.Prelude.{Ok, Err}
use Prim.Native.Nat.{ℕ, ◌+◌, ◌/◌, ◌%◌, ◌≤◌}
use native.Mathlib.Nat.{zero-add}
use native.Mathlib.Omega.{arith}
use mathlib.Core.Path.{◌≡◌, refl, sym, ap, ap₂, ◌∙◌, subst}
use mathlib.Core.List.{List, ◌++◌, append_assoc}
use mathlib.Core.Bool.{true}
use borrow.Author.Tests.{le-leb, eq-eqb}
use lib.ListN.{length, take, drop, length-append}
use lib.Seq.{length-take-le, take_at, drop_at}
use lib.IntN.{ℤ}
use Rattle.exact.proofs.Tests.{true_between, true_both}
use Rattle.record.specs.Questions.{first_no, next, Verdict}
use Rattle.record.specs.declared.Node.{Node}
use Rattle.part.specs.File.{distance, start, nodes, check_file, file_questions}
use Rattle.part.specs.Accepted.{Trailer}
use Rattle.part.proofs.File.{accepted}
use Rattle.part.proofs.Trailer.{accepted_trailer}
use Rattle.nodes.specs.Numbers.{numbers}
use Rattle.nodes.proofs.Numbers.{numbers-length}
use Rattle.writer.specs.Bytes.{size, part_bytes}
use Rattle.writer.specs.Given.{given}
use Rattle.writer.specs.Writer.{counted, has_room, writer_questions, write_answer, buffer_left, WrittenPart, WriteSays, ReadFrom, Returned, Written}
use Rattle.writer.proofs.Given.{given-length, numbers-given, given-numbers}
use Rattle.writer.proofs.Reading.{Writable, length_part, part_accepted, part_nodes}
use Rattle.writer.proofs.Rewriting.{rewritten, read_writable}
use Rattle.writer.proofs.Asked.{AcceptedWrite, accepted_write, in_order, refusal_number}
use Rattle.writer.proofs.Buffer.{refused, answer_end, buffer_written}

-- ---- what was given is read back, and all else is kept

module _ (l : List ℤ) (i v : ℕ) (buffer : List ℕ) (place : ℕ) where
  module _ (ok : first_no (writer_questions l i v (length buffer) place) ≡ Ok tt) where
    abbrev end : ℕ
    end = place + size (length l / 6)

    facts : AcceptedWrite l i v (length buffer) place
    facts = accepted_write l i v (length buffer) place ok

    length_lead : length (take place buffer) ≡ place
    length_lead = length-take-le place buffer (omega (arith, facts.within))

    length_file : length (take place buffer ++ part_bytes (given l) i v) ≡ end
    length_file = rw (length-append, length_lead, length_part (given l) i v, given-length l)

    -- the bytes from the buffer's start to the trailer's end
    file_is : take end (buffer_left l i v buffer place) ≡ take place buffer ++ part_bytes (given l) i v
    file_is =
        ap (take end) (buffer_written l i v buffer place ok)
        ∙ take_at (take place buffer ++ part_bytes (given l) i v) (drop end buffer) end length_file

    short : length (take place buffer) + size (length (given l)) ≤ 65536
    short = rw (length_lead, given-length l) facts.short

    written_part : WrittenPart l i v buffer place end (buffer_left l i v buffer place)
    written_part = record {
      checked =
          ap check_file file_is ∙ part_accepted facts.writable (take place buffer) short
          ∙ ap (λ (n : ℕ). Ok (record { nodes = n; iso = i; version = v })) (given-length l);
      read =
          ap (λ (f : List ℕ). numbers (nodes f)) file_is ∙ ap numbers (part_nodes facts.writable (take place buffer) short)
          ∙ numbers-given l facts.count.whole;
      before_kept =
          ap (take place) (buffer_written l i v buffer place ok ∙ append_assoc (take place buffer) (part_bytes (given l) i v) (drop end buffer))
          ∙ take_at (take place buffer) (part_bytes (given l) i v ++ drop end buffer) place length_lead;
      after_kept =
          ap (drop end) (buffer_written l i v buffer place ok)
          ∙ drop_at (take place buffer ++ part_bytes (given l) i v) (drop end buffer) end length_file;
      within = facts.within;
      short = facts.short;
    }

  pub write_says : WriteSays l i v buffer place (write_answer l i v (length buffer) place) (buffer_left l i v buffer place)
  unfolding WriteSays
  write_says = go (first_no (writer_questions l i v (length buffer) place)) refl
    where
      go : (verdict : Verdict) → first_no (writer_questions l i v (length buffer) place) ≡ verdict
          → WriteSays l i v buffer place (write_answer l i v (length buffer) place) (buffer_left l i v buffer place)
      go (Ok tt) ok = rw (answer_end l i v buffer place ok) (written_part ok)
      go (Err n) e =
          let r = refused l i v buffer place e in
          rw r.0 (e, refusal_number l i v (length buffer) place e, r.1)

-- ---- what was read is the file again

module _ (file : List ℕ) (i v : ℕ) (buffer : List ℕ) (f : ReadFrom file (numbers (nodes file)) i v (length buffer)) where
  ok : first_no (file_questions file) ≡ Ok tt
  ok = accepted file f.accepted

  trailer : Trailer file
  trailer = accepted_trailer file ok

  whole : distance file ≡ length file
  unfolding start
  whole = omega (arith, f.no_leading, trailer.distance_within)

  same : part_bytes (nodes file) i v ≡ file
  same = ap₂ (part_bytes (nodes file)) f.iso_read f.version_read ∙ rewritten file f.octets ok whole

  six : length (numbers (nodes file)) / 6 ≡ length (nodes file)
  six = let h = numbers-length (nodes file) in omega arith

  -- records and trailer end where the file does
  ends : 0 + size (length (numbers (nodes file)) / 6) ≡ length file
  ends = zero-add _ ∙ ap size six ∙ sym (length_part (nodes file) i v) ∙ ap length same

  writable : Writable (nodes file) i v
  writable = rw (f.iso_read, f.version_read) (read_writable file ok)

  counted_yes : counted (length (numbers (nodes file))) ≡ true
  unfolding counted
  counted_yes =
      let h = numbers-length (nodes file) in
      let w = writable in
      true_both (true_between 6 3066 (length (numbers (nodes file))) (omega (arith, w.some)) (omega (arith, w.few)))
      (eq-eqb (length (numbers (nodes file)) % 6) 0 (omega arith))

  room_yes : has_room (length (numbers (nodes file)) / 6) (length buffer) 0 ≡ true
  unfolding has_room
  room_yes = rw ends (true_both (le-leb (length file) (length buffer) f.room_enough) (le-leb (length file) 65536 trailer.short))

  questions_yes : first_no (writer_questions (numbers (nodes file)) i v (length buffer) 0) ≡ Ok tt
  unfolding next
  questions_yes =
      rw (
        in_order (numbers (nodes file)) i v (length buffer) 0,
        counted_yes,
        true_between 1 2 v writable.version_low writable.version_high,
        true_between 1 4096 i writable.iso_low writable.iso_high,
        given-numbers (nodes file),
        writable.yes_to_all,
        room_yes,
      )

  returned : (write_answer (numbers (nodes file)) i v (length buffer) 0 ≡ Ok (length file))
      × (buffer_left (numbers (nodes file)) i v buffer 0 ≡ file ++ drop (length file) buffer)
  returned =
      let e : part_bytes (given (numbers (nodes file))) i v ≡ file =
      ap (λ (ns : List Node). part_bytes ns i v) (given-numbers (nodes file)) ∙ same in (
        answer_end (numbers (nodes file)) i v buffer 0 questions_yes ∙ ap Ok ends,
        buffer_written (numbers (nodes file)) i v buffer 0 questions_yes ∙ ap₂ (λ (u : List ℕ) (j : ℕ). u ++ drop j buffer) e ends,
      )

pub write_returns : (l : List ℤ) (i v : ℕ) (buffer : List ℕ) (place : ℕ)
    → Returned l i v buffer place (write_answer l i v (length buffer) place) (buffer_left l i v buffer place)
unfolding Returned
write_returns l i v buffer place file f e =
    rw (e, f.numbers_read) (returned file i v buffer (subst (λ (m : List ℤ). ReadFrom file m i v (length buffer)) f.numbers_read f))

-- so an answer and a buffer that are as the equations say keep every promise
pub promised : (l : List ℤ) (i v : ℕ) (buffer : List ℕ) (place : ℕ) {answer : Written} {after : List ℕ}
    → answer ≡ write_answer l i v (length buffer) place → after ≡ buffer_left l i v buffer place
    → (answer ≡ write_answer l i v (length buffer) place)
    × ((after ≡ buffer_left l i v buffer place) × (WriteSays l i v buffer place answer after × Returned l i v buffer place answer after))
promised l i v buffer place e f = (e, (f, (rw (e, f) (write_says l i v buffer place), rw (e, f) (write_returns l i v buffer place))))
