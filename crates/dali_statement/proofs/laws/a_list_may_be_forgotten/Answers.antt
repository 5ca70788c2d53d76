use Rattle.dali_statement.proofs.One.{may_longer, tells_longer}
use Rattle.dali_statement.proofs.laws.a_list_may_be_forgotten.Goals as goal

pub returns : goal.returns
returns c = record { rules = may_longer; told = tells_longer }
