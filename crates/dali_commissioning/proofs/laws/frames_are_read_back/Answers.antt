use Rattle.dali_commissioning.proofs.Spelled.{put_back}
use Rattle.dali_commissioning.proofs.laws.frames_are_read_back.Goals as goal

pub returns : goal.returns
returns c = put_back c.frames_are_spelled.ensures.read
