use Rattle.std.specs.Prelude.{◌≡◌, ℕ, Bool, true, false, List, [], ◌∷◌, Some}
use Rattle.dali_script.specs.declared.orders.Input.{Input}
use Rattle.dali_script.specs.Due.{due_after, accepts}
use Rattle.dali_controller.specs.Machine.{Machine}
use Rattle.dali_controller.specs.Acts.{Steps as MachineSteps}
use Rattle.dali_c.specs.Codes.{input_of}
use Rattle.dali_c.specs.Orders.{order_of}
use Rattle.dali_c.specs.Machines.{Holds}
use Rattle.dali_c.specs.Calls.{Steps}
use Rattle.dali_c.specs.Stops.{HasStopped}
use Rattle.dali_c.specs.declared.machine.PlainMachine.{PlainMachine}
use Rattle.dali_c.specs.declared.orders.PlainOrder.{PlainOrder}

-- WHAT A HOST IN C DOES with one struct.

-- a step of the machine that the struct held: what the numbers tell was due
abbrev pub HasStepped : PlainMachine → ℕ → ℕ → PlainMachine → PlainOrder → Type 0
HasStepped p input byte after order =
    (m : Machine) × (i : Input) × Holds p m × (input_of input byte ≡ Some i)
    × (accepts (due_after m.last) i ≡ true) × Steps m i after order

-- A CALL of dali_machine_step, or of dali_machine_stop, that was answered OK: its numbers, and both
-- structs after it
pub record Call : Type 0 where
  pub is_stop : Bool
  pub input : ℕ
  pub byte : ℕ
  pub after : PlainMachine
  pub order : PlainOrder

abbrev pub HasCalled : Bool → PlainMachine → Call → Type 0
HasCalled true p c = HasStopped p c.input c.byte c.after c.order
HasCalled false p c = HasStepped p c.input c.byte c.after c.order

-- calls one after the other, from this struct on
abbrev pub AreCalls : PlainMachine → List Call → Type 0
AreCalls p [] = Unit {0}
AreCalls p (c ∷ calls) = HasCalled c.is_stop p c × AreCalls c.after calls

-- what their numbers tell and their structs order
abbrev pub AreSpelled : List Call → MachineSteps → Type 0
AreSpelled [] [] = Unit {0}
AreSpelled [] (s ∷ steps) = ⊥
AreSpelled (c ∷ calls) [] = ⊥
AreSpelled (c ∷ calls) (s ∷ steps) =
    (input_of c.input c.byte ≡ Some s.0) × (order_of c.order ≡ Some (Some s.1))
    × AreSpelled calls steps
