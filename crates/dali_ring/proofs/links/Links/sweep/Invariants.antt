use Rattle.std.proofs.Common.{length}
use Rattle.dali_ring.{specs.Linked.follow, specs.Linked.link_at, specs.Linked.item_at, proofs.Sweeps.SweptTo}
use Rattle.dali_ring.proofs.links.Links.sweep.Given as goal

abbrev pub invariant-loop-item : goal.invariant-loop-item
invariant-loop-item g l =
    SweptTo g.T.Sent.from l.sender l.fn.self.slots l.fn.self.capacity l.self.slots l.self.capacity l.self.tails l.list l.before l.gone

abbrev pub decreases-loop-item : goal.decreases-loop-item
decreases-loop-item g l = length (follow (link_at l.self.slots) (item_at l.self.slots) l.self.capacity l.self.capacity l.before)
