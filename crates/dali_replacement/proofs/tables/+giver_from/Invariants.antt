use Rattle.std.proofs.Common.{length}
use Rattle.dali_replacement.proofs.tables.+giver_from.Given as goal

abbrev pub decreases-giver_from : goal.decreases-giver_from
decreases-giver_from l = length l.records.now
