use Rattle.std.proofs.Common.{length}
use Rattle.dali_replacement.proofs.swap.+are_at.Given as goal

abbrev pub decreases-are_at : goal.decreases-are_at
decreases-are_at l = length l.files.now
