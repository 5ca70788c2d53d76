use Rattle.std.proofs.Common.{length}
use Rattle.dali_commission_replaced.proofs.replacing.+put_aside.Given as goal

abbrev pub decreases-put_aside : goal.decreases-put_aside
decreases-put_aside g l = length l.names.now
