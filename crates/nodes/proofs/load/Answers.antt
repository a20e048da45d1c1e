use Rattle.std.proofs.Common.{arith, rules, ◌≡◌, ◌*◌, ◌≤◌, List, length, ℕ, ℤ, sym, ◌∙◌}
use Rattle.part.specs.Accepted.{Trailer}
use Rattle.part.specs.File.{count, start, nodes}
use Rattle.part.proofs.Trailer.{accepted_trailer, records_end, count_high}
use Rattle.part.proofs.Accepted.{accepted_summary}
use Rattle.part.proofs.File.{accepted, refused}
use Rattle.nodes.specs.Numbers.{numbers_room, handed_over, loaded}
use Rattle.nodes.proofs.Numbers.{nodes_stored}
use Rattle.nodes.proofs.load.Goals as goal

fits : {file : List ℕ} (out : List ℤ) → Trailer file → length out ≡ numbers_room → 6 * count file ≤ length out
fits out t e = omega (arith, count_high t)

pub start_of-requires : goal.start_of-requires
start_of-requires c = accepted_trailer _ (accepted _ (sym c.check.ensures.answer ∙ c.in_ok-part.was))

pub put_nodes-requires-clause-n_in_bounds : goal.put_nodes-requires-clause-n_in_bounds
put_nodes-requires-clause-n_in_bounds c =
    let e = sym c.check.ensures.answer ∙ c.in_ok-part.was in
    rw (c.start_of.ensures, accepted_summary _ e) (omega (arith, records_end (accepted_trailer _ (accepted _ e))))

pub put_nodes-requires-clause-n_in_bounds_2 : goal.put_nodes-requires-clause-n_in_bounds_2
put_nodes-requires-clause-n_in_bounds_2 c =
    let e = sym c.check.ensures.answer ∙ c.in_ok-part.was in
    let long : length c.args.out.now ≡ numbers_room = search rules in
    rw (accepted_summary _ e) (fits c.args.out.now (accepted_trailer _ (accepted _ e)) long)

pub returns-in_err-part-clause-numbers : goal.returns-in_err-part-clause-numbers
unfolding loaded handed_over
returns-in_err-part-clause-numbers c = rw (refused c.args.file.now (sym c.check.ensures.answer ∙ c.in_err-part.was))

pub returns-clause-numbers : goal.returns-clause-numbers
unfolding loaded handed_over nodes
returns-clause-numbers c =
    let file = c.args.file.now in
    let e = sym c.check.ensures.answer ∙ c.in_ok-part.was in
    let yes = accepted file e in
    let long : length c.args.out.now ≡ numbers_room = search rules in
    rw yes
    (c.put_nodes.ensures
    ∙ rw (c.start_of.ensures, accepted_summary file e)
    (nodes_stored file (count file) (start file) c.args.out.now (fits c.args.out.now (accepted_trailer file yes) long)))
