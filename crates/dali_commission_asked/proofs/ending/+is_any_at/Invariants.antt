use Rattle.std.proofs.Common.{◌+◌, length}
use Rattle.dali_commission_asked.proofs.ending.+is_any_at.Given as goal

abbrev pub decreases-is_any_at : goal.decreases-is_any_at
decreases-is_any_at g l = length l.pairs.now + length l.numbers.now
