use Rattle.fenalukki.proofs.Host.{host_restore}
use Rattle.fenalukki.proofs.fenalukki_restore_totals.Goals as goal

pub returns : goal.returns
returns c =
    let e = c.read_saved-answer.ensures in
    host_restore _ _ _ (e.answer, e.says) c.put_saved.ensures c.saved_number.ensures
