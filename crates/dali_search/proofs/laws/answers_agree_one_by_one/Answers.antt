use Rattle.dali_search.proofs.Agreement.{agrees_more, agrees_before}
use Rattle.dali_search.proofs.laws.answers_agree_one_by_one.Goals as goal

pub returns-clause-more : goal.returns-clause-more
returns-clause-more c = agrees_more

pub returns-clause-before : goal.returns-clause-before
returns-clause-before c = agrees_before
