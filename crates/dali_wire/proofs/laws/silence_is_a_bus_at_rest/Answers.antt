use Rattle.dali_wire.proofs.Rests.{silence_rests}
use Rattle.dali_wire.proofs.laws.silence_is_a_bus_at_rest.Goals as goal

pub returns : goal.returns
returns c = silence_rests
