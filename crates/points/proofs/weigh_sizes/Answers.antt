use native.Mathlib.Omega.{arith}
use mir.Syntax.{w64}
use borrow.Author.Tests.{ne_eqb}
use Rattle.exact.specs.Rounding.{ceil}
use Rattle.exact.proofs.Machine.{param}
use Rattle.field.specs.Solid.{kernel_of}
use Rattle.points.proofs.weigh_sizes.Goals as goal

pub returns-in-2 : goal.returns-in-2
unfolding kernel_of ceil
returns-in-2 c = rw (c.in-2.is, ← (param {w = w64} c.requires.0 tt).is) c.weigh.ensures

pub returns-in_default : goal.returns-in_default
unfolding kernel_of ceil
returns-in_default c =
    rw (ne_eqb c.args.part.version 2 (omega arith), ← (param {w = w64} c.requires.0 tt).is) c.weigh-in_default.ensures
