use Rattle.dali_mending.proofs.Tabled.{all_tabled_keep}
use Rattle.dali_mending.proofs.laws.the_gear_of_a_table_keeps_its_addresses.Goals as goal

pub returns : goal.returns
returns c = all_tabled_keep
