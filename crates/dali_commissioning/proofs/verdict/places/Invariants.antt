use Rattle.std.proofs.Common.{◌≡◌, length}
use Rattle.dali_commissioning.specs.Places.{places_below}
use Rattle.dali_commissioning.proofs.verdict.places.Given as goal

abbrev pub invariant-loop-number : goal.invariant-loop-number
invariant-loop-number l = record {
  so_far : l.places.items ≡ places_below l.number l.kept l.others l.replies;
  all : length l.places.items ≡ l.number;
}
