use Rattle.dali_arbiter.proofs.Lists.{collision_held}
use Rattle.dali_arbiter.proofs.arbiter.Arbiter.collided.Goals as goal

pub invariant_of-self : goal.invariant_of-self
invariant_of-self c = collision_held _ _ _ c.self.invariant c.take_collision-other.ensures.rest
