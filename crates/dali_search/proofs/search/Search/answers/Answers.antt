use Rattle.std.proofs.Common.{sym}
use Rattle.dali_search.proofs.Led.{answers_length, is_search}
use Rattle.dali_search.proofs.search.Search.answers.Goals as goal

pub returns-clause-value : goal.returns-clause-value
returns-clause-value c = rw (← c.self.view_is) (sym (answers_length _ _))

pub returns-clause-search : goal.returns-clause-search
returns-clause-search c = rw (← c.self.view_is) (is_search c.self.inside.answers _ _ _ _ c.self.invariant.0)
