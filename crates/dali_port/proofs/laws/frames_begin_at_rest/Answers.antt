use Rattle.dali_port.proofs.Begins.{begins_by}
use Rattle.dali_port.proofs.laws.frames_begin_at_rest.Goals as goal

pub returns : goal.returns
returns c = begins_by
