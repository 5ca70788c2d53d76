use Rattle.dali_bus_laws.proofs.Pairs.{pair_in_time}
use Rattle.dali_bus_laws.proofs.laws.a_pair_is_in_time.Goals as goal

pub returns : goal.returns
returns c = pair_in_time
