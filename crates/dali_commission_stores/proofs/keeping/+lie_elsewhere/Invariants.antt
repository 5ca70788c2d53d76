use Rattle.std.proofs.Common.{length}
use Rattle.dali_commission_stores.proofs.keeping.+lie_elsewhere.Given as goal

abbrev pub decreases-lie_elsewhere : goal.decreases-lie_elsewhere
decreases-lie_elsewhere g l = length l.names.now
