use Rattle.std.proofs.Common.{length}
use Rattle.dali_commission_replaced.proofs.replacing.+is_anywhere.Given as goal

abbrev pub decreases-is_anywhere : goal.decreases-is_anywhere
decreases-is_anywhere l = length l.tables.now
