use Rattle.dali_events.proofs.Interrupted.{foreign_taken}
use Rattle.dali_events.proofs.laws.foreign_frames_end_half_pairs.Goals as goal

pub returns : goal.returns
returns c = foreign_taken
