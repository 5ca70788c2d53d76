use Rattle.dali_events.proofs.Telling.{questions_leave_gear}
use Rattle.dali_events.proofs.laws.questions_leave_gear.Goals as goal

pub returns : goal.returns
returns c = questions_leave_gear
