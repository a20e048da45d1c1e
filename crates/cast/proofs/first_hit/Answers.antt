-- A refusal is the first no's, and an accepted ray is searched in the numbers that `load_ray` left.
use mathlib.Core.Path.{refl, sym, ◌∙◌}
use native.Mathlib.Omega.{arith}
use Rattle.record.proofs.Questions.{passed_on}
use Rattle.cast.proofs.Calls.{searchable, states_are, hit_refused, hit_made}
use Rattle.cast.proofs.first_hit.Goals as goal

pub invariant_of-s : goal.invariant_of-s
invariant_of-s c = record {
  searchable = searchable _ _ _ _ refl c.load_ray.ensures.numbers (sym c.load_ray.ensures.answer ∙ c.in_ok-part.was) (omega arith) (omega arith);
}

pub returns-in_err-part : goal.returns-in_err-part
returns-in_err-part c =
    let f = hit_refused c.args.file.now c.args.ray c.args.budget (sym c.load_ray.ensures.answer ∙ c.in_err-part.was) in
    rw (passed_on c.from_residual.result c.from_residual.ensures.1) (record { answer = f.0; demands = f.1 })

pub returns : goal.returns
returns c =
    let e = sym c.load_ray.ensures.answer ∙ c.in_ok-part.was in
    let f = hit_made c.args.file.now c.args.ray c.args.budget c.hit_ticks.result
    (states_are c.args.file.now c.args.ray _ _ refl c.load_ray.ensures.numbers e) e c.hit_ticks.ensures in
    record { answer = f.0; demands = f.1 }
