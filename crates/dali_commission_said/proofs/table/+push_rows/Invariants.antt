use Rattle.std.proofs.Common.{length}
use Rattle.dali_commission_said.proofs.table.+push_rows.Given as goal

abbrev pub decreases-push_rows : goal.decreases-push_rows
decreases-push_rows l = length l.rows.now
