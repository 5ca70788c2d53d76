use Rattle.dali_commission_program.proofs.Accepted.{accepted_is_plan}
use Rattle.dali_commission_program.proofs.laws.accepted_gear_are_a_plan.Goals as goal

pub returns : goal.returns
returns c = λ p q g a old new plan is. accepted_is_plan p q g a old new plan is
