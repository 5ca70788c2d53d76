use Rattle.dali_port.proofs.Course.{goes_on}
use Rattle.dali_port.proofs.laws.half_bits_are_in_time.Goals as goal

pub returns : goal.returns
returns c = goes_on
