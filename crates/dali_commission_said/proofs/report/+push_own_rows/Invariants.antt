use Rattle.std.proofs.Common.{length}
use Rattle.dali_commission_said.proofs.report.+push_own_rows.Given as goal

abbrev pub decreases-push_own_rows : goal.decreases-push_own_rows
decreases-push_own_rows l = length l.rows.now
