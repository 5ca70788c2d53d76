use Rattle.std.proofs.Common.{length}
use Rattle.dali_commission_program.proofs.object.+put_rows.Given as goal

abbrev pub decreases-put_rows : goal.decreases-put_rows
decreases-put_rows l = length l.rows.now
