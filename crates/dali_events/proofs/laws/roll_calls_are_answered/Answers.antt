use Rattle.dali_events.proofs.Search.Called.{called}
use Rattle.dali_events.proofs.laws.roll_calls_are_answered.Goals as goal

pub returns : goal.returns
returns c = called
