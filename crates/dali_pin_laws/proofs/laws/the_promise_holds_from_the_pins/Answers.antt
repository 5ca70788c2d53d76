use Rattle.dali_pin_laws.proofs.Runs.{is_history, rows_are, keeps_at_pins}
use Rattle.dali_statement.specs.Page.{start}
use Rattle.dali_pin_laws.proofs.laws.the_promise_holds_from_the_pins.Goals as goal

pub returns : goal.returns
returns c = record {
  history = is_history;
  gear = λ p es run. rows_are (start p) es run;
  promise = keeps_at_pins;
}
