use Rattle.dali_special.proofs.Table.{arc_of}
use Rattle.dali_special.proofs.laws.arc_power_is_no_special_command.Goals as goal

pub returns : goal.returns
returns c = arc_of
