use Rattle.dali_port.proofs.Runs.{known_all, begins_drawn}
use Rattle.dali_port.proofs.laws.nothing_is_sent_while_gear_draw.Goals as goal

pub returns : goal.returns
returns c = record { known = known_all; begins = begins_drawn }
