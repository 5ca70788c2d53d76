use Rattle.std.proofs.Common.{length}
use Rattle.dali_commission_replaced.proofs.replacing.+are_unannounced.Given as goal

abbrev pub decreases-are_unannounced : goal.decreases-are_unannounced
decreases-are_unannounced g l = length l.names.now
