use Rattle.std.proofs.Common.{length}
use Rattle.dali_commission_mended.proofs.hanging.+look_for_all.Given as goal

abbrev pub decreases-look_for_all : goal.decreases-look_for_all
decreases-look_for_all g l = length l.replies.now
