use Rattle.dali_statement.proofs.Again.{ends_as_plan, replaced_is_plan}
use Rattle.dali_statement.proofs.laws.histories_begin_with_records.Goals as goal

pub returns : goal.returns
returns c = record { again = ends_as_plan; replaced = λ p q g a old new plan is. replaced_is_plan p q g a old new plan is }
