use Rattle.std.proofs.Common.{length}
use Rattle.dali_commission_mended.proofs.mending.+say_mended.Given as goal

abbrev pub decreases-say_mended : goal.decreases-say_mended
decreases-say_mended g l = length l.mended.now
