use Rattle.std.proofs.Common.{◌≡◌, ◌≤◌, ◌++◌, drop, length}
use Rattle.std.specs.Vec.{vec_capacity}
use Rattle.dali_standing.specs.Standing.{seats_from}
use Rattle.dali_standing.proofs.standing.seats.Given as goal

abbrev pub invariant-loop-c : goal.invariant-loop-c
invariant-loop-c l = record {
  made : l.seats.items ++ seats_from l.c (drop l.c l.blocks) ≡ seats_from 0 l.fn.blocks;
  count : length l.seats.items ≡ l.c;
  room : length l.blocks ≤ vec_capacity l.seats;
}
