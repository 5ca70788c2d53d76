use Rattle.std.proofs.Common.{◌≡◌, ◌++◌, drop}
use Rattle.std.specs.Vec.{vec_capacity}
use Rattle.dali_gear.specs.Row.{stored_of}
use Rattle.dali_standing.proofs.fitted.note_stored.Given as goal

abbrev pub invariant-loop-number : goal.invariant-loop-number
invariant-loop-number l = record {
  noted : l.gifts.items ++ stored_of l.reach l.command l.number (drop l.number l.gear) ≡ l.fn.gifts.items ++ stored_of l.fn.reach l.fn.command 0 l.fn.gear;
  capacity : vec_capacity l.gifts ≡ vec_capacity l.fn.gifts;
}
