use Rattle.std.proofs.Common.{◌≡◌, length}
use Rattle.dali_ring.specs.Queues.{list_of}
use Rattle.dali_arbiter.specs.Arbiter.{first_emptied}
use Rattle.dali_arbiter.proofs.waiting.empty_first.Given as goal

abbrev pub invariant-loop : goal.invariant-loop
invariant-loop l = (first_emptied l.waiting.lists ≡ first_emptied l.initial.waiting.lists) × (l.waiting.capacity ≡ l.initial.waiting.capacity)

abbrev pub decreases-loop : goal.decreases-loop
decreases-loop l = length (list_of l.waiting 1)
