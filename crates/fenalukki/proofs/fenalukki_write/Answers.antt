use Rattle.numbers.proofs.Numbers.{write_number_fits}
use Rattle.fenalukki.proofs.Host.{host_write}
use Rattle.fenalukki.proofs.fenalukki_write.Goals as goal

pub write_number-requires : goal.write_number-requires
write_number-requires c = write_number_fits _ _ _ _ _ _ _ c.write.ensures.says

pub returns : goal.returns
returns c =
    let e = c.write.ensures in
    host_write _ _ _ _ _ _ (e.answer, (e.bytes, (e.says, e.returned))) c.write_number.ensures
