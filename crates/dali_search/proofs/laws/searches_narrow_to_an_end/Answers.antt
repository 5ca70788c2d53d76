use Rattle.dali_search.proofs.Answered.{begins, goes_on, says_least, ends, count, asks_below, finds_below, nobody}
use Rattle.dali_search.proofs.laws.searches_narrow_to_an_end.Goals as goal

pub returns-clause-begins : goal.returns-clause-begins
returns-clause-begins c = begins

pub returns-clause-goes_on : goal.returns-clause-goes_on
returns-clause-goes_on c = goes_on

pub returns-clause-ends : goal.returns-clause-ends
returns-clause-ends c = ends

pub returns-clause-count : goal.returns-clause-count
returns-clause-count c = count

pub returns-clause-least : goal.returns-clause-least
returns-clause-least c = says_least

pub returns-clause-asked : goal.returns-clause-asked
returns-clause-asked c = asks_below

pub returns-clause-found : goal.returns-clause-found
returns-clause-found c = finds_below

pub returns-clause-nobody : goal.returns-clause-nobody
returns-clause-nobody c = nobody
