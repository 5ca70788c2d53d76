use Rattle.dali_events.proofs.Invariant.Agreeing.{told_by_gear}
use Rattle.dali_events.proofs.laws.random_addresses_are_told.Goals as goal

pub returns : goal.returns
returns c = told_by_gear
