use Rattle.std.proofs.Common.{length}
use Rattle.dali_replacement.proofs.tables.+has_all_but.Given as goal

abbrev pub decreases-has_all_but : goal.decreases-has_all_but
decreases-has_all_but l = length l.pairs.now
