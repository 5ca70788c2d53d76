use Rattle.dali_events.proofs.Invariant.Growing.{plain_hearing}
use Rattle.dali_events.proofs.laws.plain_hearing_is_heard.Goals as goal

pub returns : goal.returns
returns c = plain_hearing
