use Rattle.dali_events.proofs.Page.Sites.{numbers_apart, plan_is_seen, block_is}
use Rattle.dali_events.proofs.laws.sites_meet_the_premises.Goals as goal

pub returns : goal.returns
returns c = record { numbers = numbers_apart; plan = plan_is_seen; block = block_is }
