use Rattle.std.proofs.Common.{length}
use Rattle.dali_commission_cleared.proofs.aside.+rename_all.Given as goal

abbrev pub decreases-rename_all : goal.decreases-rename_all
decreases-rename_all g l = length l.names.now
