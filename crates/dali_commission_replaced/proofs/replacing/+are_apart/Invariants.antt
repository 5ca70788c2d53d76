use Rattle.std.proofs.Common.{length}
use Rattle.dali_commission_replaced.proofs.replacing.+are_apart.Given as goal

abbrev pub decreases-are_apart : goal.decreases-are_apart
decreases-are_apart l = length l.names.now
