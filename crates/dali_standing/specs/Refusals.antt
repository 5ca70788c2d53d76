use Rattle.std.specs.Prelude.{ℕ, List, codes}
use Rattle.dali_standing.specs.declared.refusal.Refusal.{Refusal}
use Rattle.dali_standing.specs.declared.refusal.Refusal.TheVariants.{UnknownController, UnknownGear}
use Rattle.dali_standing.specs.declared.refusal.Refusal.TheVariants.{ControllerDown, ControllerUp}
use Rattle.dali_standing.specs.declared.refusal.Refusal.TheVariants.{NotDue, NotArc, StoreDisagrees}
use Rattle.dali_standing.specs.declared.refusal.Refusal.TheVariants.{DrawsSpent, QueueFull, LogFull}
use Rattle.dali_standing.specs.declared.refusal.Refusal.TheVariants.{NoMemory, AddressInUse}
use Rattle.dali_standing.specs.declared.refusal.Refusal.TheVariants.{NotForeign}

-- the refusals' numbers
abbrev pub refusal_number : Refusal → ℕ
refusal_number UnknownController = 1
refusal_number UnknownGear = 1
refusal_number ControllerDown = 2
refusal_number ControllerUp = 2
refusal_number NotDue = 3
refusal_number NotArc = 4
refusal_number StoreDisagrees = 5
refusal_number DrawsSpent = 6
refusal_number QueueFull = 7
refusal_number LogFull = 8
refusal_number NoMemory = 9
refusal_number AddressInUse = 10
refusal_number NotForeign = 11

-- and their names
abbrev pub name_of : Refusal → List ℕ
name_of UnknownController = codes "UnknownController"
name_of UnknownGear = codes "UnknownGear"
name_of ControllerDown = codes "ControllerDown"
name_of ControllerUp = codes "ControllerUp"
name_of NotDue = codes "NotDue"
name_of NotArc = codes "NotArc"
name_of StoreDisagrees = codes "StoreDisagrees"
name_of DrawsSpent = codes "DrawsSpent"
name_of QueueFull = codes "QueueFull"
name_of LogFull = codes "LogFull"
name_of NoMemory = codes "NoMemory"
name_of AddressInUse = codes "AddressInUse"
name_of NotForeign = codes "NotForeign"
