use Rattle.std.proofs.Common.{arith}
use Rattle.cast.specs.Ticks.{exponent}
use Rattle.numbers.proofs.Numbers.{hosts_ray, column_number_fits}
use Rattle.fenalukki.proofs.Host.{host_column}
use Rattle.fenalukki.proofs.fenalukki_column_counted.Goals as goal

pub column_number-requires : goal.column_number-requires
column_number-requires c = let e = c.column-probed.ensures in column_number_fits _ _ exponent (omega arith) _ e.demands.counted

pub returns-clause-called : goal.returns-clause-called
returns-clause-called c =
    let e = c.column-probed.ensures in
    let f = c.ranges in
    let same = hosts_ray _ _ _ _ _ _ f.ax f.ay f.az f.bx f.by f.bz c.ray_of.ensures in
    host_column _ same _ _ _ (e.answer, (e.bytes, e.demands)) c.column_number.ensures
