use Rattle.std.proofs.Common.{length}
use Rattle.dali_commission_said.proofs.reports.+push_left_alone.Given as goal

abbrev pub decreases-push_left_alone : goal.decreases-push_left_alone
decreases-push_left_alone l = length l.numbers.now
