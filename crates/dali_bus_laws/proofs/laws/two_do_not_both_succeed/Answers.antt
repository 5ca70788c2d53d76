use Rattle.dali_bus_laws.proofs.Two.{two_frames}
use Rattle.dali_bus_laws.proofs.laws.two_do_not_both_succeed.Goals as goal

pub returns : goal.returns
returns c = two_frames
