use Rattle.std.proofs.Common.{arith}
use Rattle.numbers.proofs.Numbers.{cast_number_fits}
use Rattle.fenalukki.proofs.fenalukki_full_cast_counted.Goals as goal

pub cast_number-requires : goal.cast_number-requires
cast_number-requires c = let e = c.full_cast-cast.ensures in cast_number_fits _ _ _ (omega arith) _ e.demands.counted
