use Rattle.dali_arbiter.proofs.Collisions.{collision_differs, collision_first}
use Rattle.dali_arbiter.proofs.laws.collisions_are_of_two_senders.Goals as goal

pub returns-clause-senders : goal.returns-clause-senders
returns-clause-senders c = collision_differs

pub returns-clause-then_next : goal.returns-clause-then_next
returns-clause-then_next c = collision_first
