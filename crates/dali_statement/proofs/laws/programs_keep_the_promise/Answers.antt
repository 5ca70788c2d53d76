use Rattle.dali_statement.proofs.{Programs.programs_make_a_history, Whole.every_history_keeps_the_promise}
use Rattle.dali_statement.proofs.laws.programs_keep_the_promise.Goals as goal

pub returns : goal.returns
returns c = record {
  history = programs_make_a_history;
  promise = λ p ours own acts ms plan programs rest. every_history_keeps_the_promise p ms (programs_make_a_history p ours own acts ms plan programs rest);
}
