use Rattle.std.specs.Prelude.{◌≡◌, ◌⊎◌, ℕ, true, [], ◌∷◌, Some}
use Rattle.dali_frame.specs.declared.frames.Answer.{Answer}
use Rattle.dali_frame.specs.declared.numbers.SearchAddress.{SearchAddress}
use Rattle.dali_script.specs.declared.orders.End.TheVariants.{GaveUp}
use Rattle.dali_script.specs.declared.orders.Input.{Input}
use Rattle.dali_script.specs.declared.orders.Order.{Order}
use Rattle.dali_script.specs.declared.stage.Stage.TheVariants.{Hunted}
use Rattle.dali_script.specs.Stages.{stage_of}
use Rattle.dali_controller.specs.declared.purpose.Purpose.TheVariants.{Calling, Closing}
use Rattle.dali_controller.specs.declared.way.Way.TheVariants.{Surveying}
use Rattle.dali_controller.specs.Course.{is_yes}
use Rattle.dali_controller.specs.Machine.{Machine, machine_told}
use Rattle.dali_controller.specs.Orders.{IsAnswered, machine_after}
use Rattle.dali_controller.specs.Acts.{Steps}

-- WHAT COMES BEFORE A SURVEY GIVES UP.

-- Gear answered COMPARE of a roll call, as a machine was told last.
pub record IsAnsweredCall (t : Machine) : Type 0 where
  pub number : SearchAddress
  pub heard : Answer
  pub left : ℕ
  pub stage : stage_of t.trace ≡ Hunted number (Some heard) left
  pub calling : t.course.purpose ≡ Calling
  pub yes : is_yes heard ≡ true

-- the machine that is there after its steps
abbrev pub machine_by : Machine → Steps → Machine
machine_by m [] = m
machine_by m (s ∷ steps) = machine_by (machine_after m s.0 s.1) steps

-- The order of each step leaves the count of draws: no gear were to draw.
abbrev pub NoneDraw : Machine → Steps → Type 0
NoneDraw m [] = Unit {0}
NoneDraw m (s ∷ steps) =
    ((machine_after m s.0 s.1).course.tally.draws ≡ (machine_told m s.0).course.tally.draws)
    × NoneDraw (machine_after m s.0 s.1) steps

-- GEAR ANSWERED A ROLL CALL in one of the steps, and from there on no gear were to draw.
abbrev pub HasCalled : Machine → Steps → Type 0
HasCalled m [] = ⊥
HasCalled m (s ∷ steps) =
    (IsAnsweredCall (machine_told m s.0) × NoneDraw m (s ∷ steps))
    ⊎ HasCalled (machine_after m s.0 s.1) steps

-- A survey begins its close with gave-up, in the step with this input and this order.
pub record GivesUp (m : Machine) (i : Input) (o : Order) : Type 0 where
  pub answered : IsAnswered m i o
  pub survey : (machine_told m i).course.way ≡ Surveying
  pub before : m.course.purpose ≡ Closing GaveUp → ⊥
  pub closes : (machine_after m i o).course.purpose ≡ Closing GaveUp
