use Rattle.std.proofs.Common.{length}
use Rattle.dali_commission_stores.proofs.records.+read_all.Given as goal

abbrev pub decreases-read_all : goal.decreases-read_all
decreases-read_all g l = length l.names.now
