use Rattle.std.proofs.Common.{length}
use Rattle.dali_commission_asked.proofs.identifying.+lit_by.Given as goal

abbrev pub decreases-lit_by : goal.decreases-lit_by
decreases-lit_by g l = length l.tries.now
