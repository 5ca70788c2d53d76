use Rattle.dali_mending.proofs.Planned.{cleared_is_plan}
use Rattle.dali_mending.proofs.laws.cleared_gear_are_a_plan.Goals as goal

pub returns : goal.returns
returns c = cleared_is_plan
