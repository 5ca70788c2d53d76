use Rattle.dali_bus_laws.proofs.Seen.{whole_seen}
use Rattle.dali_bus_laws.proofs.laws.a_whole_frame_was_seen.Goals as goal

pub returns : goal.returns
returns c = whole_seen
