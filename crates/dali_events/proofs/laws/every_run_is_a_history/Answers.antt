use Rattle.dali_events.proofs.{Invariant.Safe.every_run_is_a_history, Page.Runs.frames_read}
use Rattle.dali_events.proofs.laws.every_run_is_a_history.Goals as goal

pub returns-clause-read : goal.returns-clause-read
returns-clause-read c = every_run_is_a_history

pub returns-clause-frames : goal.returns-clause-frames
returns-clause-frames c = frames_read
