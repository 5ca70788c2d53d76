use Rattle.dali_commissioning.proofs.Lawfully.{woken, withdrawn, compared}
use Rattle.dali_commissioning.proofs.laws.asking_for_the_unaddressed_is_lawful.Goals as goal

pub returns-clause-woken : goal.returns-clause-woken
returns-clause-woken c = woken

pub returns-clause-withdrawn : goal.returns-clause-withdrawn
returns-clause-withdrawn c = withdrawn

pub returns-clause-compared : goal.returns-clause-compared
returns-clause-compared c = compared
