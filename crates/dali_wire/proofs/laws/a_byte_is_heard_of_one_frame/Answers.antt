use Rattle.dali_wire.proofs.OneFrame.{one_frame}
use Rattle.dali_wire.proofs.laws.a_byte_is_heard_of_one_frame.Goals as goal

pub returns : goal.returns
returns c = one_frame
