use Rattle.dali_script.proofs.Transactions.{compare_at, query_at, program_at, withdraw_at}
use Rattle.dali_script.proofs.laws.gear_are_searched_anew.Goals as goal

pub returns : goal.returns
returns c = record { compare = compare_at; query = query_at; program = program_at; withdraw = withdraw_at }
