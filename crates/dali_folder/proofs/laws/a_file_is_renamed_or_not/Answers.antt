use Rattle.dali_folder.proofs.Moving.{stop_renaming, ended_renaming}
use Rattle.dali_folder.proofs.laws.a_file_is_renamed_or_not.Goals as goal

pub returns-clause-stops : goal.returns-clause-stops
returns-clause-stops c passing log from to begun was now hides out near calm = stop_renaming passing log from to was now hides out near calm begun

pub returns-clause-ends : goal.returns-clause-ends
returns-clause-ends c passing log from to was now hides out near calm = ended_renaming passing log from to was now hides out near calm
