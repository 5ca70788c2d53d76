use Rattle.std.proofs.Common.{length}
use Rattle.dali_commission_said.proofs.reports.+push_places.Given as goal

abbrev pub decreases-push_places : goal.decreases-push_places
decreases-push_places l = length l.places.now
