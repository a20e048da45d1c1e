use Rattle.numbers.proofs.Numbers.{check_number_fits}
use Rattle.fenalukki.proofs.Host.{host_check}
use Rattle.fenalukki.proofs.fenalukki_check.Goals as goal

pub check_number-requires : goal.check_number-requires
check_number-requires c = check_number_fits _ _ c.check.ensures.says

pub returns : goal.returns
returns c = let e = c.check.ensures in host_check _ _ (e.answer, e.says) c.check_number.ensures
