use Rattle.std.proofs.Common.{length}
use Rattle.dali_replacement.proofs.tables.+is_gathered.Given as goal

abbrev pub decreases-is_gathered : goal.decreases-is_gathered
decreases-is_gathered l = length l.tables.now
