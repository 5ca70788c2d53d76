use Rattle.dali_standing.proofs.Done.{arc_power}
use Rattle.dali_standing.proofs.standing.is_arc_power.Goals as goal

pub returns : goal.returns
returns c = rw (c.is_arc.ensures, c.read.ensures.table) (arc_power c.args.frame)
