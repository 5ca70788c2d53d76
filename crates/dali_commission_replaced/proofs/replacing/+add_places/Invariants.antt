use Rattle.std.proofs.Common.{length}
use Rattle.dali_commission_replaced.proofs.replacing.+add_places.Given as goal

abbrev pub decreases-add_places : goal.decreases-add_places
decreases-add_places g l = length l.records.now
