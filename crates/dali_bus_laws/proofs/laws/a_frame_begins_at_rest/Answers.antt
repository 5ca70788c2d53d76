use Rattle.dali_bus_laws.proofs.Begun.{begins}
use Rattle.dali_bus_laws.proofs.laws.a_frame_begins_at_rest.Goals as goal

pub returns : goal.returns
returns c = begins
