use Rattle.dali_bus_laws.proofs.Two.{sent_taken}
use Rattle.dali_bus_laws.proofs.laws.what_was_whole_was_taken.Goals as goal

pub returns : goal.returns
returns c = sent_taken
