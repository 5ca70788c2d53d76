use Rattle.dali_sqlite.proofs.Left.{written_whole}
use Rattle.dali_sqlite.proofs.copy.file.Goals as goal

pub returns-in-Ok-clause-holds : goal.returns-in-Ok-clause-holds
returns-in-Ok-clause-holds c = written_whole _ c.args.bytes.now (rw c.new-file.ensures.empty at c.write_at.ensures.others) c.in-Ok.ensures.written
