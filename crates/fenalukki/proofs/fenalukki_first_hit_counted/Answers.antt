use Rattle.std.proofs.Common.{arith}
use Rattle.cast.specs.Ticks.{exponent}
use Rattle.numbers.proofs.Numbers.{hosts_ray, hit_number_fits}
use Rattle.fenalukki.proofs.Host.{host_hit}
use Rattle.fenalukki.proofs.fenalukki_first_hit_counted.Goals as goal

pub hit_number-requires : goal.hit_number-requires
hit_number-requires c = let e = c.first_hit-found.ensures in hit_number_fits _ _ exponent (omega arith) _ _ e.demands.alone e.demands.counted

pub returns-clause-called : goal.returns-clause-called
returns-clause-called c =
    let e = c.first_hit-found.ensures in
    let f = c.ranges in
    let same = hosts_ray _ _ _ _ _ _ f.ax f.ay f.az f.bx f.by f.bz c.ray_of.ensures in
    host_hit _ same _ _ (e.answer, e.demands) c.hit_number.ensures
