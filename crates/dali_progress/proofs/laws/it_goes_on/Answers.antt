use Rattle.dali_progress.proofs.Beginnings.{goes_on}
use Rattle.dali_progress.proofs.laws.it_goes_on.Goals as goal

pub returns : goal.returns
returns c = goes_on
