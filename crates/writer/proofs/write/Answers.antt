use Rattle.std.proofs.Common.{◌≡◌, ℕ, ◌+◌, ◌*◌, ◌/◌, ◌≤◌, List, length, sym, ap, ◌∙◌, arith, Ok}
use lib.IntN.{ℤ}
use lib.Seq.{sets}
use mir.Syntax.{w64}
use Rattle.exact.proofs.Machine.{fits_u}
use Rattle.record.specs.Questions.{first_no}
use Rattle.record.proofs.Questions.{passed_on}
use Rattle.writer.specs.Bytes.{size, trailer_bytes}
use Rattle.writer.specs.Given.{given}
use Rattle.writer.specs.Writer.{writer_questions}
use Rattle.writer.proofs.Records.{all_storable}
use Rattle.writer.proofs.Asked.{accepted_write}
use Rattle.writer.proofs.Buffer.{refused, stored_end, stored}
use Rattle.writer.proofs.Promises.{promised}
use Rattle.writer.proofs.write.Goals as goal

-- where the trailer ends
record Ends (l : List ℤ) (buffer : List ℕ) (place : ℕ) : Type 0 where
  short : place + 12 * (length l / 6) + 12 ≤ 65536
  within : place + 12 * (length l / 6) + 12 ≤ length buffer

ends : (l : List ℤ) (i v : ℕ) (buffer : List ℕ) (place : ℕ) → first_no (writer_questions l i v (length buffer) place) ≡ Ok tt → Ends l buffer place
unfolding size
ends l i v buffer place ok =
    let f = accepted_write l i v (length buffer) place ok in
    record { short = omega (arith, f.short); within = omega (arith, f.within) }

pub returns-in_err-writer_questions : goal.returns-in_err-writer_questions
returns-in_err-writer_questions c =
    let a = c.args in
    let e = refused a.numbers.now a.iso a.version a.buffer.now a.place (sym c.writer_questions.ensures ∙ c.in_err-writer_questions.was) in
    let p =
    promised a.numbers.now a.iso a.version a.buffer.now a.place (passed_on c.from_residual.result c.from_residual.ensures.1 ∙ sym e.0) (sym e.1) in
    record { answer = p.0; bytes = p.1.0; says = p.1.1.0; returned = p.1.1.1 }

pub put_records-requires-clause-all_storable : goal.put_records-requires-clause-all_storable
unfolding given
put_records-requires-clause-all_storable c =
    let a = c.args in
    let yes = sym c.writer_questions.ensures ∙ c.in_ok-writer_questions.was in
    let f = accepted_write a.numbers.now a.iso a.version (length a.buffer.now) a.place yes in
    all_storable (given a.numbers.now) 0 f.writable.yes_to_all

pub put_records-requires-clause-n_in_bounds_2 : goal.put_records-requires-clause-n_in_bounds_2
put_records-requires-clause-n_in_bounds_2 c =
    let a = c.args in
    let g = ends a.numbers.now a.iso a.version a.buffer.now a.place (sym c.writer_questions.ensures ∙ c.in_ok-writer_questions.was) in
    omega (arith, g.within)

pub overflow_add-after : goal.overflow_add-after
overflow_add-after c =
    let a = c.args in
    let g = ends a.numbers.now a.iso a.version a.buffer.now a.place (sym c.writer_questions.ensures ∙ c.in_ok-writer_questions.was) in
    fits_u {w = w64} {k = 65536} (omega (arith, g.short)) tt

pub put_trailer-requires-clause-count_bound : goal.put_trailer-requires-clause-count_bound
put_trailer-requires-clause-count_bound c =
    let a = c.args in
    let yes = sym c.writer_questions.ensures ∙ c.in_ok-writer_questions.was in
    (accepted_write a.numbers.now a.iso a.version (length a.buffer.now) a.place yes).count.few

pub put_trailer-requires-clause-to_in_bounds : goal.put_trailer-requires-clause-to_in_bounds
put_trailer-requires-clause-to_in_bounds c =
    let a = c.args in
    let g = ends a.numbers.now a.iso a.version a.buffer.now a.place (sym c.writer_questions.ensures ∙ c.in_ok-writer_questions.was) in
    let k : length c.put_records.new.out ≡ length a.buffer.now = c.put_records.auto.out in
    omega (arith, g.within, k)

pub overflow_add-result : goal.overflow_add-result
overflow_add-result c =
    let a = c.args in
    let g = ends a.numbers.now a.iso a.version a.buffer.now a.place (sym c.writer_questions.ensures ∙ c.in_ok-writer_questions.was) in
    fits_u {w = w64} {k = 65536} g.short tt

pub returns : goal.returns
unfolding given
returns c =
    let a = c.args in
    let l = a.numbers.now in
    let y = sym c.writer_questions.ensures ∙ c.in_ok-writer_questions.was in
    let e = stored_end l a.iso a.version a.buffer.now a.place y in
    let p =
    promised l a.iso a.version a.buffer.now a.place (sym e)
    (c.put_trailer.ensures
    ∙ ap (λ (o : List ℕ). sets o (a.place + 12 * (length l / 6)) (trailer_bytes (length l / 6) a.iso a.version)) c.put_records.ensures
    ∙ stored l a.iso a.version a.buffer.now a.place y) in
    record { answer = p.0; bytes = p.1.0; says = p.1.1.0; returned = p.1.1.1 }
