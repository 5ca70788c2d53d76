use Rattle.dali_wire.proofs.Joint.{one_answer, all_answers}
use Rattle.dali_wire.proofs.laws.joint_answers_are_one_byte.Goals as goal

pub returns-clause-all : goal.returns-clause-all
returns-clause-all c = λ t since n byte answers lo hi. all_answers t lo hi since n answers byte

pub returns-clause-one : goal.returns-clause-one
returns-clause-one c = λ t since bus byte lo hi. one_answer t lo hi since bus byte
