use Rattle.std.proofs.Common.{length}
use Rattle.dali_replacement.proofs.tables.+have_all_of.Given as goal

abbrev pub decreases-have_all_of : goal.decreases-have_all_of
decreases-have_all_of l = length l.others.now
