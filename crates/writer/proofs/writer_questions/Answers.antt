use Rattle.std.proofs.Common.{sym, ◌∙◌}
use Rattle.record.proofs.Questions.{asked_yes}
use Rattle.writer.proofs.Asked.{counted_facts}
use Rattle.writer.proofs.writer_questions.Goals as goal

pub has_room-requires : goal.has_room-requires
has_room-requires c = (counted_facts _ (sym c.is_counted.ensures ∙ asked_yes _ _ (sym c.ask.ensures ∙ c.in_ok-ask.was))).few
