use Rattle.std.proofs.Common.{length}
use Rattle.dali_commission_replaced.proofs.replacing.Replacing.+renew_all.Given as goal

abbrev pub decreases-renew_all : goal.decreases-renew_all
decreases-renew_all g l = length l.names.now
