use Rattle.dali_port.proofs.Heard.{heard_is}
use Rattle.dali_port.proofs.Stretches.{whole_agrees}
use Rattle.dali_port.proofs.laws.what_is_whole_was_compared.Goals as goal

pub returns : goal.returns
returns c = record { heard = heard_is; whole = whole_agrees }
