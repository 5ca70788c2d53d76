use Rattle.dali_events.proofs.Invariant.Agreeing.{gifts_owned, gifts_reserved, reservations_stay}
use Rattle.dali_events.proofs.laws.gifts_stay_reserved.Goals as goal

pub returns : goal.returns
returns c = record { reserved = gifts_reserved; owned = gifts_owned; stay = reservations_stay }
