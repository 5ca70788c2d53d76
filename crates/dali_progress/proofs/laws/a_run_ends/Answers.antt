use Rattle.dali_progress.proofs.{Ended.run_frames, Ended.run_ends, Refused.run_with_room, Refused.new_runs}
use Rattle.dali_progress.proofs.laws.a_run_ends.Goals as goal

pub returns : goal.returns
returns c = record { frames = λ b d. run_frames d b; ends = λ b d. run_ends d b; room = λ b d. run_with_room d b; new = new_runs }
