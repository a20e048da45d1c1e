-- `main`: an accepted file has at most 511 nodes.
use mathlib.Core.Path.{sym, ◌∙◌}
use Rattle.part.proofs.Trailer.{count_high}
use Rattle.part.proofs.Accepted.{accepted_file, accepted_summary}
use Rattle.partlist.proofs.main.Goals as goal

pub print_accepted-requires : goal.print_accepted-requires
print_accepted-requires c =
    let e = sym c.load.ensures.answer ∙ c.in-Ok.is in
    rw (accepted_summary _ e) (count_high (accepted_file _ e).trailer)
