use Rattle.std.proofs.Common.{length}
use Rattle.dali_commission_stores.proofs.keeping.+is_free.Given as goal

abbrev pub decreases-is_free : goal.decreases-is_free
decreases-is_free g l = length l.names.now
