use Rattle.std.proofs.Common.{length}
use Rattle.dali_commission_mended.proofs.mending.+say_lost.Given as goal

abbrev pub decreases-say_lost : goal.decreases-say_lost
decreases-say_lost g l = length l.erased.now
