use Rattle.dali_port.proofs.Bounds.{frame_ends}
use Rattle.dali_port.proofs.laws.each_frame_ends_in_time.Goals as goal

pub returns : goal.returns
returns c = frame_ends
