use Rattle.dali_commissioning.proofs.Steps.{line_told}
use Rattle.dali_commissioning.proofs.conducting.put.Goals as goal

pub returns-clause-read : goal.returns-clause-read
returns-clause-read g c = line_told _ _ c.in_ok-told.told c.in_ok-told.ensures.of_bus c.in_ok-told.ensures.told
