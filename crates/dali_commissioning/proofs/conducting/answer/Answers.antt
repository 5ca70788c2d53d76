use Rattle.dali_commissioning.proofs.Steps.{unheard, same}
use Rattle.dali_commissioning.proofs.Rules.{same_last}
use Rattle.dali_commissioning.proofs.conducting.answer.Goals as goal

pub returns-in-Err-clause-left : goal.returns-in-Err-clause-left
returns-in-Err-clause-left g c = same g.K.Keep.is_up g.K.Keep.is_sound g.K.Keep.holds _

pub returns-in-Ok-commit-clause-read : goal.returns-in-Ok-commit-clause-read
returns-in-Ok-commit-clause-read g c = unheard _

pub returns-in-Err-clause-last : goal.returns-in-Err-clause-last
returns-in-Err-clause-last g c = same_last g.K.Keep.is_up g.K.Keep.is_sound g.K.Keep.holds _ _
