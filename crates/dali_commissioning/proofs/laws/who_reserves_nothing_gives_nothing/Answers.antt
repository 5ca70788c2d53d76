use Rattle.dali_commissioning.proofs.Giving.{none_given}
use Rattle.dali_commissioning.proofs.laws.who_reserves_nothing_gives_nothing.Goals as goal

pub returns : goal.returns
returns c = none_given
