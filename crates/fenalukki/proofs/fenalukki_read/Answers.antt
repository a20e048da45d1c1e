use Rattle.numbers.proofs.Numbers.{check_number_fits}
use Rattle.fenalukki.proofs.Host.{host_read}
use Rattle.fenalukki.proofs.fenalukki_read.Goals as goal

pub check_number-requires : goal.check_number-requires
check_number-requires c = check_number_fits _ _ c.load.ensures.says

pub returns : goal.returns
returns c = let e = c.load.ensures in host_read _ _ _ (e.answer, (e.says, e.numbers)) c.check_number.ensures
