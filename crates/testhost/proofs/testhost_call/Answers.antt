use Rattle.testhost.proofs.Entries.{number_fits}
use Rattle.testhost.proofs.testhost_call.Goals as goal

pub number_of-requires : goal.number_of-requires
number_of-requires c = number_fits _ _ _ _ _ c.perform_by_value-counted.ensures.performed
