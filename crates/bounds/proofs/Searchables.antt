-- That a ray can be searched has one proof at most (`searchable_prop`), as what a type holds must.
use Rattle.std.specs.Prelude.{List, [], ◌∷◌, ℕ, suc, pred, ℤ}
use Rattle.std.proofs.Props.{props}
use Rattle.part.specs.declared.Summary.{Summary}
use Rattle.points.specs.Peak.{ReachedRanges}
use Rattle.points.specs.declared.Reached.{Reached}
use Rattle.program.specs.Steps.{Step, Program}
use Rattle.bounds.specs.Probe.{Searchable}

ranges_prop : (a : ℤ) (p : Reached) → IsProp (ReachedRanges a p)
ranges_prop a p = hlevel props

program_prop : (a : ℤ) (room : ℕ) (ss : List (Step Reached)) (held : ℕ) → IsProp (Program (ReachedRanges a) room ss held)
unfolding Program
program_prop a room [] held = hlevel props
program_prop a room (Step.point p ∷ later) held = hlevel (props, ranges_prop a p, program_prop a room later (suc held))
program_prop a room (Step.operator o ∷ later) held = hlevel (props, program_prop a room later (pred held))
program_prop a room (Step.before o ∷ later) held = hlevel (props, program_prop a room later held)
program_prop a room (Step.after o ∷ later) held = hlevel (props, program_prop a room later held)

pub searchable_prop : (l : List ℤ) (part : Summary) (T : ℕ) → IsProp (Searchable l part T)
searchable_prop l part T = hlevel (props, program_prop)
