use Rattle.dali_folder.proofs.Settled.{settles, stays}
use Rattle.dali_folder.proofs.laws.a_folder_is_synced_or_not.Goals as goal

pub returns-clause-here : goal.returns-clause-here
returns-clause-here c passing place name was now pending near h = settles passing name was now h place near pending

pub returns-clause-elsewhere : goal.returns-clause-elsewhere
returns-clause-elsewhere c passing place name was now pending far h = stays passing name was now h place far pending
