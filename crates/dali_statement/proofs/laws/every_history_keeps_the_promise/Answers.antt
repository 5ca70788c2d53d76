use Rattle.dali_statement.proofs.Whole.{every_history_keeps_the_promise}
use Rattle.dali_statement.proofs.laws.every_history_keeps_the_promise.Goals as goal

pub returns : goal.returns
returns c = every_history_keeps_the_promise
