use Rattle.dali_wire.proofs.Sending.{length_sent}
use Rattle.dali_wire.proofs.sender.Sender.forward.Goals as goal

pub returns-clause-count : goal.returns-clause-count
returns-clause-count c = length_sent 17 _
