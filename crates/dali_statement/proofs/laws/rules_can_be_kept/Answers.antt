use Rattle.dali_statement.proofs.Histories.{whole_is_kept, in_step_is_kept}
use Rattle.dali_statement.proofs.laws.rules_can_be_kept.Goals as goal

pub returns : goal.returns
returns c = record { whole = whole_is_kept; in_step = in_step_is_kept }
