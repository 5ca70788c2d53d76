use Rattle.dali_controller.proofs.Called.{surveys_call_before_they_give_up}
use Rattle.dali_controller.proofs.laws.surveys_call_before_they_give_up.Goals as goal

pub returns : goal.returns
returns c = surveys_call_before_they_give_up
