use Rattle.dali_c.proofs.Hosts.{calls_keep_to_scripts}
use Rattle.dali_c.proofs.laws.calls_keep_to_scripts.Goals as goal

pub returns : goal.returns
returns c = calls_keep_to_scripts
