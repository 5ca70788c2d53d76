use Rattle.std.proofs.Common.{length}
use Rattle.dali_replacement.proofs.tables.+has.Given as goal

abbrev pub decreases-has : goal.decreases-has
decreases-has l = length l.pairs.now
