use lib.Ieee.{of_bits}
use Rattle.std.proofs.Common.{refl}
use Rattle.view.specs.Steps.{times64}
use Rattle.view.proofs.scale.Goals as goal

pub returns : goal.returns
unfolding times64 of_bits
returns c = refl
