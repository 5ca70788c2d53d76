use Rattle.std.proofs.Common.{length}
use Rattle.dali_commission_replaced.proofs.replacing.Replacing.+are_behind.Given as goal

abbrev pub decreases-are_behind : goal.decreases-are_behind
decreases-are_behind g l = length l.names.now
