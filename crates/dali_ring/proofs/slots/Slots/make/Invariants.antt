use Rattle.std.proofs.Common.{◌≡◌}
use Rattle.dali_ring.specs.Fresh.{fresh_to}
use Rattle.dali_ring.proofs.slots.Slots.make.Given as goal

abbrev pub invariant-loop-number : goal.invariant-loop-number
invariant-loop-number g l = (l.places.origin ≡ l.origin.pointer) × (l.places.count ≡ l.capacity) × (l.places.items ≡ fresh_to l.number)
