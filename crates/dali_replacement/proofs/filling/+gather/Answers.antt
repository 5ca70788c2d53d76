use Rattle.dali_replacement.proofs.Filled.{lacks_on}
use Rattle.dali_replacement.proofs.filling.+gather.Goals as goal

pub returns-clause-lacks : goal.returns-clause-lacks
returns-clause-lacks t c =
    lacks_on c.gather.result c.args.number c.args.all.now c.add_all.new.all c.gather.new.all c.in_ok-add_all.ensures.lacks
    c.gather.ensures.lacks
