use Rattle.std.proofs.Common.{length}
use Rattle.dali_commission_stores.proofs.settling.+lies_all.Given as goal

abbrev pub decreases-lies_all : goal.decreases-lies_all
decreases-lies_all g l = length l.names.now
