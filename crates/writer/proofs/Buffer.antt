-- The answer and the buffer by the verdict: of a refused call (`refused`), and of one whose records and trailer are stored (`stored`).
use Rattle.std.specs.Prelude.{Ok, Err}
use Prim.Native.Nat.{ℕ, ◌+◌, ◌*◌, ◌/◌, ◌≤◌}
use native.Mathlib.Nat.{add_assoc}
use mathlib.Core.Path.{◌≡◌, sym, ap, ◌∙◌}
use mathlib.Core.List.{List, ◌++◌}
use lib.ListN.{length, take, drop}
use lib.Seq.{sets, sets-eq}
use lib.IntN.{ℤ}
use Rattle.exact.proofs.Buffers.{sets-append}
use Rattle.record.specs.Questions.{first_no}
use Rattle.record.specs.declared.Refusal.{Refusal}
use Rattle.writer.specs.Bytes.{records_bytes, size, trailer_bytes, part_bytes}
use Rattle.writer.specs.Given.{given}
use Rattle.writer.specs.Writer.{writer_questions, answer_by, buffer_by, write_answer, buffer_left}
use Rattle.writer.proofs.Records.{length-records}
use Rattle.writer.proofs.Reading.{length_part}
use Rattle.writer.proofs.Given.{given-length}
use Rattle.writer.proofs.Asked.{accepted_write}

module _ (l : List ℤ) (i v : ℕ) (buffer : List ℕ) (place : ℕ) where
  pub refused : {e : Refusal} → first_no (writer_questions l i v (length buffer) place) ≡ Err e
      → (write_answer l i v (length buffer) place ≡ Err e) × (buffer_left l i v buffer place ≡ buffer)
  unfolding write_answer answer_by buffer_left buffer_by
  refused eq = (rw eq, rw eq)

  module _ (ok : first_no (writer_questions l i v (length buffer) place) ≡ Ok tt) where
    pub answer_end : write_answer l i v (length buffer) place ≡ Ok (place + size (length l / 6))
    unfolding write_answer answer_by
    answer_end = rw ok

    pub buffer_written : buffer_left l i v buffer place ≡ take place buffer ++ part_bytes (given l) i v ++ drop (place + size (length l / 6)) buffer
    unfolding buffer_left buffer_by
    buffer_written = rw ok

    -- as the code answers and stores them
    pub stored_end : write_answer l i v (length buffer) place ≡ Ok (place + 12 * (length l / 6) + 12)
    unfolding size
    stored_end = answer_end ∙ ap Ok (sym (add_assoc place (12 * (length l / 6)) 12))

    pub stored : sets (sets buffer place (records_bytes (given l))) (place + 12 * (length l / 6)) (trailer_bytes (length l / 6) i v)
        ≡ buffer_left l i v buffer place
    unfolding part_bytes
    stored =
        let n = given-length l in
        let u = records_bytes (given l) in
        let t = trailer_bytes (length l / 6) i v in
        let e : length u ≡ 12 * (length l / 6) = length-records (given l) ∙ ap (λ (k : ℕ). 12 * k) n in
        let w : length (part_bytes (given l) i v) ≡ size (length l / 6) = length_part (given l) i v ∙ ap size n in
        let h : place + length (part_bytes (given l) i v) ≤ length buffer = rw w (accepted_write l i v (length buffer) place ok).within in
        ap (λ (k : ℕ). sets (sets buffer place u) (place + k) t) (sym e) ∙ sets-append u t buffer place
        ∙ ap (λ (k : ℕ). sets buffer place (u ++ trailer_bytes k i v)) (sym n)
        ∙ sets-eq (part_bytes (given l) i v) buffer place h
        ∙ ap (λ (k : ℕ). take place buffer ++ part_bytes (given l) i v ++ drop (place + k) buffer) w ∙ sym buffer_written
