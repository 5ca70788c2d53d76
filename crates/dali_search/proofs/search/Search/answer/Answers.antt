use Rattle.dali_search.proofs.Narrowing.{stands_more, heard_told, step_told, probe_told, least_told, more_to_come, below_told}
use Rattle.dali_search.proofs.search.Search.answer.Goals as goal

pub returns-in_default-clause-least : goal.returns-in_default-clause-least
returns-in_default-clause-least c = rw (← c.self.view_is) (least_told _ _ _ c.self.invariant.0)

pub returns-in_default-clause-below : goal.returns-in_default-clause-below
returns-in_default-clause-below c = below_told _ _ _ c.self.invariant.0

pub invariant_of-self : goal.invariant_of-self
invariant_of-self c =
    stands_more c.self.inside.answers c.self.inside.left.low c.self.inside.left.high _ _ c.self.inside.probe _ c.self.inside.step _ c.args.yes
    c.self.invariant.0 c.in-Again.is c.self.invariant.1
    c.narrowed-self-inside.ensures.low c.narrowed-self-inside.ensures.high c.step-self-inside.ensures c.probe_after-self-inside.ensures

pub returns-clause-asked : goal.returns-clause-asked
returns-clause-asked c = λ _. rw (← c.self.view_is)
    (heard_told c.self.inside.answers c.self.inside.left.low c.self.inside.left.high _ _ c.self.inside.probe c.self.inside.step c.args.yes c.self.invariant.0
    c.in-Again.is c.self.invariant.1
    c.narrowed-self-inside.ensures.low c.narrowed-self-inside.ensures.high)

pub returns-clause-count : goal.returns-clause-count
returns-clause-count c = (invariant_of-self c).0.count

pub returns-clause-step : goal.returns-clause-step
returns-clause-step c = λ _. step_told _ _ _ (invariant_of-self c).0

pub returns-clause-next : goal.returns-clause-next
returns-clause-next c = probe_told _ _ _ (invariant_of-self c).0

pub returns-clause-least : goal.returns-clause-least
returns-clause-least c = least_told _ _ _ (invariant_of-self c).0

pub returns-clause-ends : goal.returns-clause-ends
returns-clause-ends c = more_to_come _ _ _ (invariant_of-self c).0
