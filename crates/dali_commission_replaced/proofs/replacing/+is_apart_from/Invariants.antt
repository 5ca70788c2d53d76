use Rattle.std.proofs.Common.{length}
use Rattle.dali_commission_replaced.proofs.replacing.+is_apart_from.Given as goal

abbrev pub decreases-is_apart_from : goal.decreases-is_apart_from
decreases-is_apart_from l = length l.others.now
