use Rattle.std.proofs.Common.{◌≡◌, ◌≤◌, ◌++◌, drop, length, map}
use Rattle.std.specs.Vec.{vec_capacity}
use Rattle.dali_events.specs.Used.{earlier_gift}
use Rattle.dali_standing.proofs.fitted.note_used.Given as goal

abbrev pub invariant-loop-one : goal.invariant-loop-one
invariant-loop-one l = record {
  noted : l.gifts.items ++ map earlier_gift (drop l.one-index l.used) ≡ map earlier_gift l.fn.used;
  count : length l.gifts.items ≡ l.one-index;
  room : length l.fn.used ≤ vec_capacity l.gifts;
  capacity : vec_capacity l.gifts ≡ vec_capacity l.fn.gifts;
}
