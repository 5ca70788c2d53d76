use Rattle.std.proofs.Common.{rules}
use Rattle.dali_sqlite.proofs.write.write.Goals as goal

pub returns-clause-durable : goal.returns-clause-durable
returns-clause-durable g c clean xs count held = c.in_ok-insert.ensures.durable clean xs c.args.added.now (search rules) held
