use Rattle.dali_folder_laws.proofs.System.{stops, ends}
use Rattle.dali_folder_laws.proofs.laws.the_system_leaves_what_a_stop_leaves.Goals as goal

pub returns-clause-stops : goal.returns-clause-stops
returns-clause-stops c passing part log call begun was now fit calm b h =
    let left = stops passing was now calm part log call begun fit b h in (left.1, left.2)

pub returns-clause-ends : goal.returns-clause-ends
returns-clause-ends c passing part log call was now fit calm there h = ends passing was now calm part log call fit there h
