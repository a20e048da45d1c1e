-- A refusal is the first no's, and an accepted ray is searched in the numbers that `load_buffer` left.
use mathlib.Core.Path.{refl, sym, ◌∙◌}
use native.Mathlib.Omega.{arith}
use Rattle.record.proofs.Questions.{passed_on}
use Rattle.cast.proofs.Calls.{ray_accepted, room_enough, searchable, states_are, cast_refused, cast_made}
use Rattle.cast.proofs.full_cast.Goals as goal

pub invariant_of-s : goal.invariant_of-s
invariant_of-s c =
    record {
      searchable = searchable _ _ _ _ refl c.load_buffer.ensures.numbers (ray_accepted _ _ _ _ (sym c.load_buffer.ensures.answer ∙ c.in_ok-part.was))
          (omega arith) (omega arith);
    }

pub cast_ticks-requires-clause-ticks_in_bounds : goal.cast_ticks-requires-clause-ticks_in_bounds
cast_ticks-requires-clause-ticks_in_bounds c = room_enough _ _ _ _ (sym c.load_buffer.ensures.answer ∙ c.in_ok-part.was)

pub returns-in_err-part : goal.returns-in_err-part
returns-in_err-part c =
    let f = cast_refused c.args.file.now c.args.ray c.args.budget c.args.marks.now (sym c.load_buffer.ensures.answer ∙ c.in_err-part.was) in
    rw (passed_on c.from_residual.result c.from_residual.ensures.1) (record { answer = f.0; bytes = f.1.0; demands = f.1.1 })

pub returns : goal.returns
returns c =
    let e = sym c.load_buffer.ensures.answer ∙ c.in_ok-part.was in
    let w = c.cast_ticks in
    let f = cast_made c.args.file.now c.args.ray c.args.budget c.args.marks.now w.result w.new.out
    (states_are c.args.file.now c.args.ray _ _ refl c.load_buffer.ensures.numbers (ray_accepted _ _ _ _ e)) e w.ensures.answer w.ensures.bytes in
    record { answer = f.0; bytes = f.1.0; demands = f.1.1 }
