use Rattle.dali_capture.proofs.Dumped.{read_back}
use Rattle.dali_capture.proofs.laws.dumps_are_read_back.Goals as goal

pub returns : goal.returns
returns c = read_back
