use Rattle.dali_commissioning.proofs.{Questions.answered, Questions.cleared, Questions.counted, Questions.arc_power, Puttings.unaddressed, Puttings.beside}
use Rattle.dali_commissioning.proofs.laws.questions_keep_the_rules_of_the_page.Goals as goal

pub returns-clause-answered : goal.returns-clause-answered
returns-clause-answered c = answered

pub returns-clause-cleared : goal.returns-clause-cleared
returns-clause-cleared c = cleared

pub returns-clause-census : goal.returns-clause-census
returns-clause-census c = counted

pub returns-clause-unaddressed : goal.returns-clause-unaddressed
returns-clause-unaddressed c = unaddressed

pub returns-clause-beside : goal.returns-clause-beside
returns-clause-beside c = beside

pub returns-clause-lit : goal.returns-clause-lit
returns-clause-lit c = arc_power
