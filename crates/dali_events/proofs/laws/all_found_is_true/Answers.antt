use Rattle.dali_events.proofs.Search.AllFound.{all_found, all_found_after}
use Rattle.dali_events.proofs.laws.all_found_is_true.Goals as goal

pub returns : goal.returns
returns c = record { now = all_found; afterwards = all_found_after }
