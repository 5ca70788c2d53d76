use Rattle.dali_wire.proofs.Heard.{answer_heard}
use Rattle.dali_wire.proofs.laws.answers_are_heard.Goals as goal

pub returns : goal.returns
returns c = answer_heard
