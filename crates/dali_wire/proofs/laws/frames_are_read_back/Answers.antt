use Rattle.dali_wire.proofs.{EachTime.backward_read, EachTime.forward_read, ReadBack.backward_back, ReadBack.forward_back}
use Rattle.dali_wire.proofs.laws.frames_are_read_back.Goals as goal

pub returns-clause-backward : goal.returns-clause-backward
returns-clause-backward c = λ t since rest byte lo hi stop small. backward_back t lo hi byte since rest small stop

pub returns-clause-forward : goal.returns-clause-forward
returns-clause-forward c = λ t since rest f lo hi stop small smaller. forward_back t lo hi f since rest small smaller stop

pub returns-clause-backward_each : goal.returns-clause-backward_each
returns-clause-backward_each c = λ since first byte times. backward_read byte since first times

pub returns-clause-forward_each : goal.returns-clause-forward_each
returns-clause-forward_each c = λ since first times f. forward_read f since first times
