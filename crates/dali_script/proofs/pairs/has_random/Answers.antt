use Rattle.dali_script.proofs.Lists.{random_found}
use Rattle.dali_script.proofs.pairs.has_random.Goals as goal

pub returns : goal.returns
returns c = rw c.is_some.ensures (random_found c.args.pairs.now c.args.random c.at_random.result c.at_random.ensures)
