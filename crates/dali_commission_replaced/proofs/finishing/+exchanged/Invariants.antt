use Rattle.std.proofs.Common.{length}
use Rattle.dali_commission_replaced.proofs.finishing.+exchanged.Given as goal

abbrev pub decreases-exchanged : goal.decreases-exchanged
decreases-exchanged g l = length l.names.now
