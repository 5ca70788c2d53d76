use Rattle.dali_capture.proofs.Logged.{read_back}
use Rattle.dali_capture.proofs.laws.logs_are_read_back.Goals as goal

pub returns : goal.returns
returns c = read_back
