use Rattle.dali_arbiter.proofs.Lists.{silent_held}
use Rattle.dali_arbiter.proofs.arbiter.Arbiter.silence.Goals as goal

pub invariant_of-self : goal.invariant_of-self
invariant_of-self c = silent_held _ _ _ _ c.self.invariant c.remove_of.ensures.rest

pub invariant_of-self-else-eq : goal.invariant_of-self-else-eq
invariant_of-self-else-eq c = silent_held _ _ _ _ c.self.invariant c.remove_of.ensures.rest
