use Rattle.std.proofs.Common.{◌≡◌, ◌-◌, drop}
use Rattle.dali_ring.specs.Queues.{first_from}
use Rattle.dali_ring.proofs.ring.Ring.best.Given as goal

abbrev pub invariant-loop-number : goal.invariant-loop-number
invariant-loop-number g l = first_from 1 l.self.lists ≡ first_from l.number (drop (l.number - 1) l.self.lists)
