use Rattle.std.proofs.Common.{length}
use Rattle.dali_replacement.proofs.filling.+gather.Given as goal

abbrev pub decreases-gather : goal.decreases-gather
decreases-gather l = length l.tables.now
