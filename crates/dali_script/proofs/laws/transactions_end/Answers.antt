use Rattle.dali_script.proofs.Transactions.{room, complete_at, goes_on_at}
use Rattle.dali_script.proofs.laws.transactions_end.Goals as goal

pub returns : goal.returns
returns c = record { room = room; complete = complete_at; goes_on = goes_on_at }
