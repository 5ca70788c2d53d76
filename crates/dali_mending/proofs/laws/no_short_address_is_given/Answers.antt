use Rattle.dali_mending.proofs.Tabled.{none_is_given}
use Rattle.dali_mending.proofs.laws.no_short_address_is_given.Goals as goal

pub returns : goal.returns
returns c = none_is_given
