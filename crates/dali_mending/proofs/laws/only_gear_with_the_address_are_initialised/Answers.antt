use Rattle.dali_mending.proofs.Sparing.{others_take_no_part}
use Rattle.dali_mending.proofs.laws.only_gear_with_the_address_are_initialised.Goals as goal

pub returns : goal.returns
returns c = others_take_no_part
