use Rattle.std.proofs.Common.{length}
use Rattle.dali_replacement.proofs.tables.+have_all_but.Given as goal

abbrev pub decreases-have_all_but : goal.decreases-have_all_but
decreases-have_all_but l = length l.tables.now
