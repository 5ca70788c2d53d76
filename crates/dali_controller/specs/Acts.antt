use Rattle.std.specs.Prelude.{◌≡◌, ◌==◌, true, List, [], ◌∷◌, ◌++◌, Option, Some}
use Rattle.std.specs.Prelude.{if◌then◌else◌}
use Rattle.dali_frame.specs.Priority.{LATER}
use Rattle.dali_script.specs.declared.orders.Input.{Input}
use Rattle.dali_script.specs.declared.orders.Input.TheVariants as input
use Rattle.dali_script.specs.declared.orders.Order.{Order}
use Rattle.dali_script.specs.declared.orders.Order.TheVariants.{Put, Commit, Done, Halt}
use Rattle.dali_script.specs.Due.{due_after, accepts}
use Rattle.dali_statement.specs.Own.{Own, Act, Puts, Loses, Begins, Keeps}
use Rattle.dali_controller.specs.Machine.{Machine}
use Rattle.dali_controller.specs.Orders.{IsAnswered, machine_after}

-- A MACHINE AS A PROGRAM of the page of `dali_statement`: its acts, by what it is told and what it
-- orders then.

-- what it is told after its last order
abbrev pub acts_told : Option Order → Input → List Act
acts_told (Some (Put p f)) (input.Heard h) = Puts f h ∷ []
acts_told (Some (Put p f)) input.Destroyed = Loses f ∷ []
acts_told (Some (Put p f)) input.Lapsed = Begins ∷ []
acts_told (Some (Commit x)) input.Committed = Keeps x ∷ []
acts_told _ _ = []

-- only a later frame goes on with a transaction
abbrev pub acts_ordered : Order → List Act
acts_ordered (Put p f) = if p == LATER then [] else Begins ∷ []
acts_ordered (Commit x) = Begins ∷ []
acts_ordered (Done e) = Begins ∷ []
acts_ordered (Halt w) = Begins ∷ []

-- its steps, the first one first: what it was told, and what it ordered
abbrev pub Steps : Type 0
Steps = List (Input × Order)

abbrev pub Takes : Machine → Steps → Type 0
Takes m [] = Unit {0}
Takes m (s ∷ steps) =
    (accepts (due_after m.last) s.0 ≡ true) × IsAnswered m s.0 s.1
    × Takes (machine_after m s.0 s.1) steps

abbrev pub acts_of : Option Order → Steps → List Act
acts_of last [] = []
acts_of last (s ∷ steps) = acts_told last s.0 ++ (acts_ordered s.1 ++ acts_of (Some s.1) steps)

-- what it knows before its first step
abbrev pub own_of : Machine → Own
own_of m = record { kept = m.kept; trace = []; told = [] }
