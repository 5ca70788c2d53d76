use Rattle.std.proofs.Common.{length}
use Rattle.dali_commission_cleared.proofs.aside.+put_new_aside.Given as goal

abbrev pub decreases-put_new_aside : goal.decreases-put_new_aside
decreases-put_new_aside g l = length l.records.now
