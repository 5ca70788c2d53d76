use Rattle.dali_controller.proofs.Acts.{machines_keep_to_scripts}
use Rattle.dali_controller.proofs.laws.machines_keep_to_scripts.Goals as goal

pub returns : goal.returns
returns c = machines_keep_to_scripts
