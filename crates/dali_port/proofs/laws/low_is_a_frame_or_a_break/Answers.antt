use Rattle.dali_port.proofs.Begins.{low_is}
use Rattle.dali_port.proofs.laws.low_is_a_frame_or_a_break.Goals as goal

pub returns : goal.returns
returns c = low_is
