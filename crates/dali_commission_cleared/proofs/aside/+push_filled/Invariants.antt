use Rattle.std.proofs.Common.{length}
use Rattle.dali_commission_cleared.proofs.aside.+push_filled.Given as goal

abbrev pub decreases-push_filled : goal.decreases-push_filled
decreases-push_filled g l = length l.records.now
