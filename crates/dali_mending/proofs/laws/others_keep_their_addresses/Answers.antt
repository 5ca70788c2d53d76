use Rattle.dali_mending.proofs.Sparing.{all_others_keep}
use Rattle.dali_mending.proofs.laws.others_keep_their_addresses.Goals as goal

pub returns : goal.returns
returns c = all_others_keep
