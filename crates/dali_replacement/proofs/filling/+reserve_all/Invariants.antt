use Rattle.std.proofs.Common.{length}
use Rattle.dali_replacement.proofs.filling.+reserve_all.Given as goal

abbrev pub decreases-reserve_all : goal.decreases-reserve_all
decreases-reserve_all g l = length l.pairs.now
