use Rattle.std.specs.Prelude.{◌≡◌, ℕ, ◌==◌, Bool, true, false, not, ◌&&◌, [], Option, Some, None}
use Rattle.std.specs.Prelude.{is_some, IfSome, if◌then◌else◌}
use Rattle.dali_frame.specs.Priority.{FIRST}
use Rattle.dali_frame.specs.Random.{value_of}
use Rattle.dali_special.specs.Command.{frame_of}
use Rattle.dali_special.specs.declared.command.Command.TheVariants.{Terminate}
use Rattle.dali_script.specs.declared.orders.End.TheVariants.{GaveUp}
use Rattle.dali_script.specs.declared.orders.Input.{Input}
use Rattle.dali_script.specs.declared.orders.Order.{Order}
use Rattle.dali_script.specs.declared.orders.Order.TheVariants.{Put, Commit, Done, Halt}
use Rattle.dali_script.specs.Due.{due_after, accepts, record_ordered}
use Rattle.dali_script.specs.Records.{Kept, Fits}
use Rattle.dali_controller.specs.declared.purpose.Purpose.{Purpose}
use Rattle.dali_controller.specs.declared.purpose.Purpose.TheVariants.{Visiting, Closing}
use Rattle.dali_controller.specs.Course.{address_for}
use Rattle.dali_controller.specs.Machine.{Machine}
use Rattle.dali_controller.specs.Orders.{IsGiven, machine_after}
use Rattle.dali_c.specs.Codes.{input_of}
use Rattle.dali_c.specs.Machines.{Holds}
use Rattle.dali_c.specs.Orders.{order_of, HasNoMore, IsSentSo}
use Rattle.dali_c.specs.declared.machine.PlainMachine.{PlainMachine}
use Rattle.dali_c.specs.declared.orders.PlainOrder.{PlainOrder}

-- A RUN THAT IS TO END BEFORE ITS TIME.

-- a short address is reserved for the gear at a random address, and the gear is not enrolled
abbrev pub is_unfinished : Kept → ℕ → Bool
is_unfinished k r = is_some (address_for k.reserved r) && not (is_some (address_for k.enrolled r))

-- Of the transactions that may begin, the end needs the visit of gear like that, so that no
-- reservation is left before its PROGRAM SHORT ADDRESS; and a close, which ends the run.
abbrev pub is_needed : Kept → Purpose → ℕ → Bool
is_needed k Visiting r = is_unfinished k r
is_needed k (Closing e) r = true
is_needed k _ r = false

-- NOTHING IS OUTSTANDING if a transaction is to begin that the end does not need
abbrev pub may_end : Machine → Option Order → Bool
may_end m (Some (Put p f)) =
    p == FIRST && not (is_needed m.kept m.course.purpose (value_of m.course.number))
may_end m (Some (Commit x)) = false
may_end m (Some (Done e)) = false
may_end m (Some (Halt w)) = false
may_end m None = false

-- A close begins in its place: TERMINATE, and then the end gave-up.
abbrev pub closed : Machine → Machine
closed m = record {
  id = m.id;
  kept = m.kept;
  trace = [];
  finding = m.finding;
  last = Some (Put FIRST (frame_of Terminate));
  tries = 0;
  silent = m.silent;
  course = record m.course { purpose = Closing GaveUp; from = 64; opened = true };
  heard = m.heard;
  asked = 0;
}

abbrev pub ended : Machine → Machine
ended m = if may_end m m.last then closed m else m

-- ONE STOP: what a step does, and then the close if nothing is outstanding, of an order and a
-- machine that were written as structs
abbrev pub stopped : Machine → Input → Order → Machine
stopped m i o = ended (machine_after m i o)

pub record Stops (m : Machine) (i : Input) (after : PlainMachine) (order : PlainOrder)
    : Type 0 where
  pub stepped : Order
  pub given : IsGiven m i stepped
  pub fits : IfSome (record_ordered (Some stepped)) (Fits m.kept.block)
  pub spelled : order_of order ≡ Some (stopped m i stepped).last
  pub more : HasNoMore order (stopped m i stepped).last
  pub sent : IsSentSo order (stopped m i stepped).trace (stopped m i stepped).last
  pub state : Holds after (stopped m i stepped)

-- of the machine that the struct held: what the numbers tell was due
abbrev pub HasStopped : PlainMachine → ℕ → ℕ → PlainMachine → PlainOrder → Type 0
HasStopped p input byte after order =
    (m : Machine) × (i : Input) × Holds p m × (input_of input byte ≡ Some i)
    × (accepts (due_after m.last) i ≡ true) × Stops m i after order
