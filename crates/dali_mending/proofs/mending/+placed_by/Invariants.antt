use Rattle.std.proofs.Common.{length}
use Rattle.dali_mending.proofs.mending.+placed_by.Given as goal

abbrev pub decreases-placed_by : goal.decreases-placed_by
decreases-placed_by l = length l.enrolled.now
