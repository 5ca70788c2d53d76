use Rattle.dali_replacement.proofs.Moments.{within, own, others, back, others_back}
use Rattle.dali_replacement.proofs.laws.a_step_leads_to_the_next_moment.Goals as goal

pub returns-clause-within : goal.returns-clause-within
returns-clause-within c = within

pub returns-clause-own : goal.returns-clause-own
returns-clause-own c = own

pub returns-clause-others : goal.returns-clause-others
returns-clause-others c = others

pub returns-clause-back : goal.returns-clause-back
returns-clause-back c = back

pub returns-clause-others_back : goal.returns-clause-others_back
returns-clause-others_back c = others_back
