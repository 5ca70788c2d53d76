use Rattle.std.proofs.Common.{length}
use Rattle.dali_commission_mended.proofs.mending.+mend_all.Given as goal

abbrev pub decreases-mend_all : goal.decreases-mend_all
decreases-mend_all g l = length l.shorts.now
