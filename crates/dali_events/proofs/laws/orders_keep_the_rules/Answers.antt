use Rattle.dali_events.proofs.Page.Sites.{turn_kept, reserve_allowed, enrol_allowed, release_allowed}
use Rattle.dali_events.proofs.laws.orders_keep_the_rules.Goals as goal

pub returns : goal.returns
returns c = record { turn = turn_kept; reserve = reserve_allowed; enrol = enrol_allowed; release = release_allowed }
