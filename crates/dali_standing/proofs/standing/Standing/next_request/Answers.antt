use Rattle.dali_standing.proofs.Done.{first_may_be_sent, first_was_ordered}
use Rattle.dali_standing.proofs.standing.Standing.next_request.Goals as goal

pub returns-clause-may : goal.returns-clause-may
returns-clause-may c = first_may_be_sent _ _ c.pick.result c.self.view_is c.self.invariant (rw (← c.self.view_is) c.pick.ensures.next)

pub returns-clause-ordered : goal.returns-clause-ordered
returns-clause-ordered c = first_was_ordered _ _ c.pick.result c.self.view_is c.self.invariant (rw (← c.self.view_is) c.pick.ensures.next)
