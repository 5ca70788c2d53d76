use Rattle.std.proofs.Common.{length}
use Rattle.dali_commission_asked.proofs.sharing.+reserved_in.Given as goal

abbrev pub decreases-reserved_in : goal.decreases-reserved_in
decreases-reserved_in l = length l.tables.now
