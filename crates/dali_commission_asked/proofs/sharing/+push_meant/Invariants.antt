use Rattle.std.proofs.Common.{length}
use Rattle.dali_commission_asked.proofs.sharing.+push_meant.Given as goal

abbrev pub decreases-push_meant : goal.decreases-push_meant
decreases-push_meant l = length l.replies.now
