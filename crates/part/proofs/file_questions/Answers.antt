use Rattle.std.proofs.Common.{arith, sym, ◌∙◌}
use Rattle.record.specs.Questions.{next}
use Rattle.record.proofs.Questions.{first_no-append, passed_on}
use Rattle.part.specs.File.{file_questions, records}
use Rattle.part.proofs.Trailer.{trailer_facts, records_end}
use Rattle.part.proofs.file_questions.Goals as goal

pub returns-in_err-trailer_questions : goal.returns-in_err-trailer_questions
unfolding file_questions next
returns-in_err-trailer_questions c =
    passed_on c.from_residual.result c.from_residual.ensures.1
    ∙ (rw (first_no-append, ← c.trailer_questions.ensures, c.in_err-trailer_questions.was))

pub count_of-requires : goal.count_of-requires
count_of-requires c = trailer_facts _ (sym c.trailer_questions.ensures ∙ c.in_ok-trailer_questions.was)

pub start_of-requires : goal.start_of-requires
start_of-requires c = trailer_facts _ (sym c.trailer_questions.ensures ∙ c.in_ok-trailer_questions.was)

pub records_questions-requires : goal.records_questions-requires
records_questions-requires c =
    rw (c.start_of.ensures, c.count_of.ensures)
    (omega (arith, records_end (trailer_facts _ (sym c.trailer_questions.ensures ∙ c.in_ok-trailer_questions.was))))

pub returns : goal.returns
unfolding file_questions records next
returns c =
    rw (first_no-append, ← c.trailer_questions.ensures, c.in_ok-trailer_questions.was, ← c.count_of.ensures, ← c.start_of.ensures)
    c.records_questions.ensures
