use Rattle.std.proofs.Common.{arith}
use Rattle.cast.specs.Ticks.{exponent}
use Rattle.numbers.specs.Numbers.{view_ray_of}
use Rattle.numbers.proofs.Numbers.{view_number_fits}
use Rattle.fenalukki.proofs.Host.{host_view, view_counted}
use Rattle.fenalukki.proofs.fenalukki_viewer_first_hit_counted.Goals as goal

pub hit_number-requires : goal.hit_number-requires
hit_number-requires c = let v = c.viewer_ticks-seen.ensures in view_number_fits _ _ exponent (omega arith) _ _ v.answer v.demands

pub returns-clause-called : goal.returns-clause-called
returns-clause-called c =
    let v = c.viewer_ticks-seen.ensures in
    let a = c.args in
    host_view _ {hosts = view_ray_of a.ax a.ay a.az a.bx a.by a.bz} c.ray_of.ensures _ _ v.answer v.demands c.hit_number.ensures

pub returns-clause-counted : goal.returns-clause-counted
returns-clause-counted c =
    let v = c.viewer_ticks-seen.ensures in
    let a = c.args in
    view_counted _ {hosts = view_ray_of a.ax a.ay a.az a.bx a.by a.bz} c.ray_of.ensures _ _ v.answer _ c.count_lent.ensures c.tally.ensures
