use Rattle.std.proofs.Common.{arith, sym, ◌∙◌}
use Rattle.record.proofs.Questions.{passed_on}
use Rattle.part.specs.File.{check_file, answer_of, Says}
use Rattle.part.proofs.Trailer.{accepted_trailer}
use Rattle.part.proofs.check.Goals as goal

pub returns-in_err-file_questions-clause-answer : goal.returns-in_err-file_questions-clause-answer
unfolding check_file answer_of
returns-in_err-file_questions-clause-answer c =
    passed_on c.from_residual.result c.from_residual.ensures.1 ∙ (rw (sym c.file_questions.ensures ∙ c.in_err-file_questions.was))

pub returns-in_err-file_questions-clause-says : goal.returns-in_err-file_questions-clause-says
unfolding Says
returns-in_err-file_questions-clause-says c =
    rw (passed_on c.from_residual.result c.from_residual.ensures.1) (sym c.file_questions.ensures ∙ c.in_err-file_questions.was)

pub count_of-requires : goal.count_of-requires
count_of-requires c = accepted_trailer _ (sym c.file_questions.ensures ∙ c.in_ok-file_questions.was)

pub iso_of-requires : goal.iso_of-requires
iso_of-requires c = omega (arith, accepted_trailer _ (sym c.file_questions.ensures ∙ c.in_ok-file_questions.was))

pub version_of-requires : goal.version_of-requires
version_of-requires c = omega (arith, accepted_trailer _ (sym c.file_questions.ensures ∙ c.in_ok-file_questions.was))

pub returns-clause-answer : goal.returns-clause-answer
unfolding check_file answer_of
returns-clause-answer c =
    rw (sym c.file_questions.ensures ∙ c.in_ok-file_questions.was, c.count_of.ensures, c.iso_of.ensures, c.version_of.ensures)

pub returns-clause-says : goal.returns-clause-says
unfolding Says
returns-clause-says c =
    (sym c.file_questions.ensures ∙ c.in_ok-file_questions.was, c.count_of.ensures, c.iso_of.ensures, c.version_of.ensures)
