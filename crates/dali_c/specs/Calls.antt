use Rattle.std.specs.Prelude.{◌≡◌, ℕ, ◌==◌, ◌↔◌, Some, IfSome, if◌then◌else◌}
use Rattle.dali_script.specs.declared.records.Record.{Record}
use Rattle.dali_script.specs.declared.orders.Input.{Input}
use Rattle.dali_script.specs.declared.orders.Order.{Order}
use Rattle.dali_script.specs.Records.{Kept, Fits, MayAdd}
use Rattle.dali_script.specs.Records.{IsAddressTaken, IsRandomTaken, IsNotReserved}
use Rattle.dali_script.specs.Due.{record_ordered}
use Rattle.dali_controller.specs.Machine.{Machine}
use Rattle.dali_controller.specs.Orders.{IsGiven, machine_after}
use Rattle.dali_c.specs.Orders.{order_of, HasNoMore, IsSentSo}
use Rattle.dali_c.specs.Machines.{VERSION, Holds}
use Rattle.dali_c.specs.declared.machine.PlainMachine.{PlainMachine}
use Rattle.dali_c.specs.declared.orders.PlainOrder.{PlainOrder}

-- THE STATUSES, as the header has them.
abbrev pub OK : ℕ
OK = 0

abbrev pub NOT_DUE : ℕ
NOT_DUE = 1

abbrev pub NO_MACHINE : ℕ
NO_MACHINE = 2

abbrev pub BAD_ARGUMENT : ℕ
BAD_ARGUMENT = 3

abbrev pub NO_RECORDS : ℕ
NO_RECORDS = 4

abbrev pub DOES_NOT_FIT : ℕ
DOES_NOT_FIT = 5

abbrev pub ADDRESS_TAKEN : ℕ
ADDRESS_TAKEN = 6

abbrev pub RANDOM_TAKEN : ℕ
RANDOM_TAKEN = 7

abbrev pub NOT_RESERVED : ℕ
NOT_RESERVED = 8

abbrev pub OTHER_VERSION : ℕ
OTHER_VERSION = 9

-- what is answered of a struct that holds no machine
abbrev pub refusal : PlainMachine → ℕ
refusal p = if p.state.version == VERSION then NO_MACHINE else OTHER_VERSION

-- what is answered if a record is to be added to records
pub record AnswersAdd (k : Kept) (x : Record) (status : ℕ) : Type 0 where
  pub ok : (status ≡ OK) ↔ (Fits k.block x × MayAdd k x)
  pub fits : (status ≡ DOES_NOT_FIT) ↔ (Fits k.block x → ⊥)
  pub address_taken : (status ≡ ADDRESS_TAKEN) ↔ (Fits k.block x × IsAddressTaken k x)
  pub random_taken : (status ≡ RANDOM_TAKEN) ↔ (Fits k.block x × IsRandomTaken k x)
  pub not_reserved : (status ≡ NOT_RESERVED) ↔ (Fits k.block x × IsNotReserved k x)

-- ONE STEP: what `Machine::step` of the controller promises, of an order and a machine that were
-- written as structs.
pub record Steps (m : Machine) (i : Input) (after : PlainMachine) (order : PlainOrder)
    : Type 0 where
  pub ordered : Order
  pub spelled : order_of order ≡ Some (Some ordered)
  pub more : HasNoMore order (Some ordered)
  pub sent : IsSentSo order (machine_after m i ordered).trace (Some ordered)
  pub given : IsGiven m i ordered
  pub state : Holds after (machine_after m i ordered)
  pub fits : IfSome (record_ordered (Some ordered)) (Fits m.kept.block)
