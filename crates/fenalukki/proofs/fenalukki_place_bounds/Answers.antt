use Rattle.numbers.proofs.Numbers.{hosts_place}
use Rattle.fenalukki.proofs.Host.{host_bounds}
use Rattle.fenalukki.proofs.fenalukki_place_bounds.Goals as goal

pub returns : goal.returns
returns c =
    let f = c.ranges in
    let same = hosts_place _ _ _ f.x f.y f.z c.place_at.ensures in
    let e = c.place_bounds.ensures in
    let n = c.bounds_number.ensures in
    host_bounds _ same _ _ (e.answer, e.says) (n.number, n.pair)
