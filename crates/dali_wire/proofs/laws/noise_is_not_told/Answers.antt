use Rattle.dali_wire.proofs.Sound.{passed_over}
use Rattle.dali_wire.proofs.laws.noise_is_not_told.Goals as goal

pub returns-clause-edges : goal.returns-clause-edges
returns-clause-edges c = passed_over
