use Rattle.dali_wire.proofs.Asking.{edge_after_asking, time_after_asking}
use Rattle.dali_wire.proofs.laws.asking_changes_nothing.Goals as goal

pub returns : goal.returns
returns c = record { edge = edge_after_asking; time = time_after_asking }
