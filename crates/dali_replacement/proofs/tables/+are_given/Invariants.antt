use Rattle.std.proofs.Common.{length}
use Rattle.dali_replacement.proofs.tables.+are_given.Given as goal

abbrev pub decreases-are_given : goal.decreases-are_given
decreases-are_given l = length l.tables.now
