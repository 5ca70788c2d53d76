use Rattle.std.proofs.Common.{length}
use Rattle.dali_replacement.proofs.filling.+enrol_all.Given as goal

abbrev pub decreases-enrol_all : goal.decreases-enrol_all
decreases-enrol_all g l = length l.pairs.now
