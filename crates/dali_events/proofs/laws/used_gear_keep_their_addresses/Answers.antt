use Rattle.dali_events.proofs.Invariant.{Agreeing.used_kept, Growing.leaves_none, Starting.from_factory}
use Rattle.dali_events.proofs.laws.used_gear_keep_their_addresses.Goals as goal

pub returns : goal.returns
returns c = record { kept = used_kept; factory = leaves_none; start = from_factory }
