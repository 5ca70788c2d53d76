use Rattle.std.proofs.Common.{◌≡◌, ◌==◌, if◌then◌else◌, ℕ, Bool, true, false, Option, Some, None, refl, sym, ◌∙◌, List}
use Rattle.dali_script.specs.{Due.due_after, Due.accepts, Records.Kept, declared.orders.Input.Input}
use Rattle.dali_statement.specs.Own.{AreOwn}
use Rattle.dali_controller.specs.{Machine.Machine, Machine.at_first, Acts.acts_of, Acts.own_of}
use Rattle.dali_controller.specs.Acts.{Steps as MachineSteps}
use Rattle.dali_controller.proofs.Acts.{stands_first}
use Rattle.dali_c.specs.{Codes.input_of, Machines.Holds, Calls.Steps, Calls.refusal, Calls.OK, Calls.NOT_DUE, Calls.BAD_ARGUMENT}
use Rattle.dali_c.specs.{Calls.NO_MACHINE, Calls.OTHER_VERSION, Machines.VERSION}
use Rattle.dali_c.specs.{Hosts.HasStepped, Hosts.Call, Hosts.AreCalls, Hosts.AreSpelled}
use Rattle.dali_c.specs.{declared.machine.PlainMachine.PlainMachine, declared.orders.PlainOrder.PlainOrder}
use Rattle.dali_c.proofs.Stops.{calls_own}

-- A HOST'S CALLS KEEP TO THE SCRIPTS.

not_due_is_not_ok : {A : Type 0} → NOT_DUE ≡ OK → A
not_due_is_not_ok e = absurd (cc)

bad_is_not_ok : {A : Type 0} → BAD_ARGUMENT ≡ OK → A
bad_is_not_ok e = absurd (cc)

-- what is answered of a struct that holds no machine
pub refused : {A : Type 0} (p : PlainMachine) → refusal p ≡ OK → A
refused p e = go (p.state.version == VERSION) e where
  go : {A : Type 0} (same : Bool) → (if same then NO_MACHINE else OTHER_VERSION) ≡ OK → A
  go true e = absurd (cc)
  go false e = absurd (cc)

-- what is answered OK was done
pub stepped : (p after : PlainMachine) (input byte status : ℕ) (order : PlainOrder) (m : Machine) → Holds p m
    → ((j : Machine) (i : Input) → Holds p j → input_of input byte ≡ Some i → accepts (due_after j.last) i ≡ true
    → (status ≡ OK) × Steps j i after order)
    → ((j : Machine) (i : Input) → Holds p j → input_of input byte ≡ Some i → accepts (due_after j.last) i ≡ false → status ≡ NOT_DUE)
    → (input_of input byte ≡ None → status ≡ BAD_ARGUMENT)
    → status ≡ OK → HasStepped p input byte after order
stepped p after input byte status order m holds done not_due bad ok = go (input_of input byte) refl where
  told : (i : Input) → input_of input byte ≡ Some i → (may : Bool) → accepts (due_after m.last) i ≡ may → HasStepped p input byte after order
  told i is true due = (m, i, holds, is, due, (done m i holds is due).1)
  told i is false due = not_due_is_not_ok (sym (not_due m i holds is due) ∙ ok)

  go : (read : Option Input) → input_of input byte ≡ read → HasStepped p input byte after order
  go None is = bad_is_not_ok (sym (bad is) ∙ ok)
  go (Some i) is = told i is (accepts (due_after m.last) i) refl

pub calls_keep_to_scripts : (p : PlainMachine) (k : Kept) (calls : List Call) → Holds p (at_first 0 k) → AreCalls p calls
    → (steps : MachineSteps) × AreSpelled calls steps × AreOwn (own_of (at_first 0 k)) (acts_of None steps)
calls_keep_to_scripts p k calls holds are =
    calls_own calls p (at_first 0 k) (own_of (at_first 0 k)) holds (stands_first (at_first 0 k) refl refl) are
