use Rattle.dali_statement.proofs.Histories.{unaddressed_is_needed, terminate_is_needed, none_programmed_is_needed}
use Rattle.dali_statement.proofs.laws.each_clause_of_an_opening_is_needed.Goals as goal

pub returns : goal.returns
returns c = record { unaddressed = unaddressed_is_needed; terminate = terminate_is_needed; program = none_programmed_is_needed }
