-- A refusal is the first no's, and an accepted ray is searched in the numbers that `load_buffer` left.
use mathlib.Core.Path.{refl, sym, ◌∙◌}
use native.Mathlib.Omega.{arith}
use Rattle.record.proofs.Questions.{passed_on}
use Rattle.cast.proofs.Calls.{ray_accepted, room_enough, searchable, states_are}
use Rattle.march.proofs.Calls.{march_refused, march_made}
use Rattle.march.proofs.marching_cast.Goals as goal

pub invariant_of-s : goal.invariant_of-s
invariant_of-s c =
    record {
      searchable = searchable _ _ _ _ refl c.load_buffer.ensures.numbers (ray_accepted _ _ _ _ (sym c.load_buffer.ensures.answer ∙ c.in_ok-part.was))
          (omega arith) (omega arith);
    }

pub march_ticks-requires : goal.march_ticks-requires
march_ticks-requires c = record { ticks_in_bounds = room_enough _ _ _ _ (sym c.load_buffer.ensures.answer ∙ c.in_ok-part.was) }

pub returns-in_err-part : goal.returns-in_err-part
returns-in_err-part c =
    let f = march_refused c.args.file.now c.args.ray c.args.budget c.args.marks.now (sym c.load_buffer.ensures.answer ∙ c.in_err-part.was) in
    rw (passed_on c.from_residual.result c.from_residual.ensures.1) (record { answer = f.0; bytes = f.1.0; demands = f.1.1 })

pub returns : goal.returns
returns c =
    let e = sym c.load_buffer.ensures.answer ∙ c.in_ok-part.was in
    let w = c.march_ticks in
    let f = march_made c.args.file.now c.args.ray c.args.budget c.args.marks.now w.result w.new.out
    (states_are c.args.file.now c.args.ray _ _ refl c.load_buffer.ensures.numbers (ray_accepted _ _ _ _ e)) e w.ensures.answer w.ensures.bytes in
    record { answer = f.0; bytes = f.1.0; demands = f.1.1 }
