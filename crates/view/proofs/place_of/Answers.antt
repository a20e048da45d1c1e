-- Both numbers are floats exactly, and their quotient is the fraction rounded once.
use Rattle.std.proofs.Common.{le_trans, lit≤}
use Rattle.view.proofs.Places.{divided}
use Rattle.view.proofs.place_of.Goals as goal

pub returns : goal.returns
returns c =
    let few = le_trans c.requires.2 (lit≤ tt) in
    divided c.args.tick c.args.ticks (le_trans c.requires.0 few) few c.requires.1
