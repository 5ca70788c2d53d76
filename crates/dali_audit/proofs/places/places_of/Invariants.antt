use Rattle.std.proofs.Common.{◌≡◌, ◌+◌, length}
use Rattle.dali_audit.specs.Places.{places_from, places_in}
use Rattle.dali_audit.proofs.places.places_of.Given as goal

abbrev pub invariant-loop-rest : goal.invariant-loop-rest
invariant-loop-rest l = record {
  places : places_from l.reading l.before l.number l.rest l.places.items ≡ places_in l.items;
  count : l.number + length l.rest ≡ length l.items;
}

abbrev pub decreases-loop-rest : goal.decreases-loop-rest
decreases-loop-rest l = length l.rest
