use Rattle.std.proofs.Common.{length}
use Rattle.dali_replacement.proofs.tables.+are_new.Given as goal

abbrev pub decreases-are_new : goal.decreases-are_new
decreases-are_new l = length l.tables.now
