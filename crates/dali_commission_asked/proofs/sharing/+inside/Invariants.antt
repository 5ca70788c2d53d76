use Rattle.std.proofs.Common.{length}
use Rattle.dali_commission_asked.proofs.sharing.+inside.Given as goal

abbrev pub decreases-inside : goal.decreases-inside
decreases-inside l = length l.pairs.now
