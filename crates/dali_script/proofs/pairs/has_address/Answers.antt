use Rattle.dali_script.proofs.Lists.{address_found}
use Rattle.dali_script.proofs.pairs.has_address.Goals as goal

pub returns-clause-value : goal.returns-clause-value
returns-clause-value c = rw c.is_some.ensures (address_found c.args.pairs.now c.args.address c.at_address.result c.at_address.ensures.found)
