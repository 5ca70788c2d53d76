use Rattle.dali_ring.proofs.Begins.{Begun}
use Rattle.dali_ring.proofs.links.Links.new.Given as goal

abbrev pub invariant-loop-list : goal.invariant-loop-list
invariant-loop-list g l = Begun l.slots l.capacity l.list
