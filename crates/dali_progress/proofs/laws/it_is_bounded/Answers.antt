use Rattle.dali_progress.proofs.Beginnings.{bounded, few_events}
use Rattle.dali_progress.proofs.laws.it_is_bounded.Goals as goal

pub returns : goal.returns
returns c = record { frames = bounded; events = few_events }
