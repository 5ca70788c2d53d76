use Rattle.dali_mending.proofs.Planned.{mended_is_plan}
use Rattle.dali_mending.proofs.laws.mended_gear_are_a_plan.Goals as goal

pub returns : goal.returns
returns c = mended_is_plan
