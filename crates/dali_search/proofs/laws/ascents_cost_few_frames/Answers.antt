use Rattle.dali_search.proofs.Questions.{first_begun, above_begun, begun_is, question_costs, begun_costs}
use Rattle.dali_search.proofs.laws.ascents_cost_few_frames.Goals as goal

pub returns-clause-first : goal.returns-clause-first
returns-clause-first c = first_begun

pub returns-clause-next : goal.returns-clause-next
returns-clause-next c = above_begun

pub returns-clause-begins : goal.returns-clause-begins
returns-clause-begins c = begun_is

pub returns-clause-each : goal.returns-clause-each
returns-clause-each c = question_costs

pub returns-clause-all : goal.returns-clause-all
returns-clause-all c = begun_costs
