use Rattle.dali_statement.proofs.Scripts.{rules_kept, query_tells}
use Rattle.dali_statement.proofs.laws.scripts_keep_the_rules.Goals as goal

pub returns : goal.returns
returns c = record { rules = rules_kept; told = query_tells }
