use Rattle.dali_commissioning.proofs.Larger.{replays}
use Rattle.dali_commissioning.proofs.laws.records_are_those_of_a_larger_block.Goals as goal

pub returns : goal.returns
returns c = replays
