use Rattle.dali_replacement.proofs.Filled.{lacks_on}
use Rattle.dali_replacement.proofs.filling.+add_all.Goals as goal

pub returns-clause-lacks : goal.returns-clause-lacks
returns-clause-lacks t c =
    lacks_on c.add_all.result c.args.number c.args.all.now c.add_other.new.all c.add_all.new.all c.in_ok-add_other.ensures.lacks
    c.add_all.ensures.lacks
