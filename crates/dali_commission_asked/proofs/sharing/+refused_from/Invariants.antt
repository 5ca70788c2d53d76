use Rattle.std.proofs.Common.{length}
use Rattle.dali_commission_asked.proofs.sharing.+refused_from.Given as goal

abbrev pub decreases-refused_from : goal.decreases-refused_from
decreases-refused_from l = length l.replies.now
