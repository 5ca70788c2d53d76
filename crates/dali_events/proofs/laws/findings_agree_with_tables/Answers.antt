use Rattle.dali_events.proofs.Invariant.Agreeing.{findings_agree_in}
use Rattle.dali_events.proofs.laws.findings_agree_with_tables.Goals as goal

pub returns : goal.returns
returns c = findings_agree_in
