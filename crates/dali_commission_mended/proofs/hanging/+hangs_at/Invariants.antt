use Rattle.std.proofs.Common.{length}
use Rattle.dali_commission_mended.proofs.hanging.+hangs_at.Given as goal

abbrev pub decreases-hangs_at : goal.decreases-hangs_at
decreases-hangs_at g l = length l.shorts.now
