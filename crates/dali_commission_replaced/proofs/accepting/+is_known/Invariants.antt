use Rattle.std.proofs.Common.{length}
use Rattle.dali_commission_replaced.proofs.accepting.+is_known.Given as goal

abbrev pub decreases-is_known : goal.decreases-is_known
decreases-is_known l = length l.all.now
