use Rattle.std.proofs.Common.{length}
use Rattle.dali_commission_said.proofs.reports.+push_passed.Given as goal

abbrev pub decreases-push_passed : goal.decreases-push_passed
decreases-push_passed l = length l.numbers.now
