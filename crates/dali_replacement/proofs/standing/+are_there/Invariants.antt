use Rattle.std.proofs.Common.{length}
use Rattle.dali_replacement.proofs.standing.+are_there.Given as goal

abbrev pub decreases-are_there : goal.decreases-are_there
decreases-are_there l = length l.places.now
