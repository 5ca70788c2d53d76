use Rattle.dali_sqlite.proofs.Taken.{HasTaken}
use Rattle.dali_sqlite.proofs.rows.take_all.Given as goal

abbrev pub invariant-rows : goal.invariant-rows
invariant-rows l = HasTaken l.fn.kept l.kept l.rows l.before
