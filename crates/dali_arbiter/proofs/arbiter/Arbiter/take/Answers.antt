use Rattle.dali_arbiter.proofs.Lists.{rest_held}
use Rattle.dali_arbiter.proofs.arbiter.Arbiter.take.Goals as goal

pub invariant_of-self : goal.invariant_of-self
invariant_of-self c = rest_held _ _ _ c.self.invariant c.take_first.ensures.rest
