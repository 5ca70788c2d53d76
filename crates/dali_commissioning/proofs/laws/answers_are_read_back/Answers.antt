use Rattle.dali_commissioning.proofs.Spelled.{told_back}
use Rattle.dali_commissioning.proofs.laws.answers_are_read_back.Goals as goal

pub returns : goal.returns
returns c = told_back c.frames_are_spelled.ensures.read
