use Rattle.dali_folder.proofs.Moving.{stop, ended}
use Rattle.dali_folder.proofs.laws.a_file_is_removed_or_not.Goals as goal

pub returns-clause-stops : goal.returns-clause-stops
returns-clause-stops c passing name begun was now calm = stop passing name was now calm begun

pub returns-clause-ends : goal.returns-clause-ends
returns-clause-ends c passing name was now calm = ended passing name was now calm
