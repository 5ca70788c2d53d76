use Rattle.dali_wire.proofs.Echoes.{missed_tells}
use Rattle.dali_wire.proofs.laws.only_echoes_are_passed_over.Goals as goal

pub returns-clause-missed : goal.returns-clause-missed
returns-clause-missed c = missed_tells
