use Rattle.dali_progress.proofs.Misheard.Goes.{rounds_but, goes_on, ends_truly}
use Rattle.dali_progress.proofs.laws.one_gear_blocks_nobody.Goals as goal

pub returns : goal.returns
returns c = record { plain = rounds_but; goes_on = goes_on; done = ends_truly }
