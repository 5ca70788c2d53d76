use Rattle.dali_progress.{proofs.Spared.Alone.alone_in_peace, proofs.Spared.Peace.unrefused_later, proofs.Spared.Calls.unrefused}
use Rattle.dali_progress.proofs.Spared.Peace.{unrefused_in_peace, run_in_peace, run_heard, promise_heard, begins_at_start}
use Rattle.dali_progress.proofs.laws.used_gear_that_were_heard_are_left_alone.Goals as goal

pub returns : goal.returns
returns c = record {
  heard = unrefused;
  later = unrefused_later;
  powered = unrefused_in_peace;
  undisturbed = alone_in_peace;
  run = run_heard;
  promise = promise_heard;
  peaceful = run_in_peace;
  start = begins_at_start;
}
