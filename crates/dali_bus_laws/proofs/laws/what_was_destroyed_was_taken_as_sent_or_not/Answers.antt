use Rattle.dali_bus_laws.proofs.Broken.{broken_taken}
use Rattle.dali_bus_laws.proofs.laws.what_was_destroyed_was_taken_as_sent_or_not.Goals as goal

pub returns : goal.returns
returns c = broken_taken
