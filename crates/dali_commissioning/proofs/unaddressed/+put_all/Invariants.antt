use Rattle.std.proofs.Common.{length}
use Rattle.dali_commissioning.proofs.unaddressed.+put_all.Given as goal

abbrev pub decreases-put_all : goal.decreases-put_all
decreases-put_all g l = length l.puttings.now
