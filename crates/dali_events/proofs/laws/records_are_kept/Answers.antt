use Rattle.dali_events.proofs.Invariant.Agreeing.{records_kept}
use Rattle.dali_events.proofs.laws.records_are_kept.Goals as goal

pub returns : goal.returns
returns c = records_kept
