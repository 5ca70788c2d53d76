use Rattle.std.proofs.Common.{length}
use Rattle.dali_commission_asked.proofs.sharing.+with_left.Given as goal

abbrev pub decreases-with_left : goal.decreases-with_left
decreases-with_left l = length l.mended.now
