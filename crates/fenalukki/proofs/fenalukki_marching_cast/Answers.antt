use Rattle.std.proofs.Common.{arith}
use Rattle.numbers.proofs.Numbers.{hosts_ray, cast_number_fits}
use Rattle.fenalukki.proofs.Host.{host_march}
use Rattle.fenalukki.proofs.fenalukki_marching_cast.Goals as goal

pub cast_number-requires : goal.cast_number-requires
cast_number-requires c = let e = c.marching_cast.ensures in cast_number_fits _ _ _ (omega arith) _ e.demands.marks.counted

pub returns : goal.returns
returns c =
    let e = c.marching_cast.ensures in
    let f = c.ranges in
    let same = hosts_ray _ _ _ _ _ _ f.ax f.ay f.az f.bx f.by f.bz c.ray_of.ensures in
    host_march _ same _ _ _ _ (e.answer, (e.bytes, e.demands)) c.cast_number.ensures
