use Rattle.std.specs.Prelude.{◌≡◌, ◌⊎◌, ℕ, List, [], ◌∷◌, Option}
use Rattle.dali_special.specs.declared.command.Command.TheVariants.{Program}
use Rattle.dali_special.specs.Command.{command_of}
use Rattle.dali_script.specs.declared.records.Record.{Record}
use Rattle.dali_script.specs.declared.records.Record.TheVariants.{Reserve, Enrol, Release}
use Rattle.dali_script.specs.declared.orders.Order.{Order}
use Rattle.dali_script.specs.declared.orders.Order.TheVariants.{Put, Commit, Done, Halt}
use Rattle.dali_commissioning.specs.Steps.{Step}

-- WHO GIVES AN ADDRESS: an order puts PROGRAM SHORT ADDRESS (IEC 62386-102:2014).
abbrev pub IsGiving : Order → Type 0
IsGiving (Put p f) = (o : Option ℕ) × (command_of f ≡ Program o)
IsGiving (Commit x) = ⊥
IsGiving (Done e) = ⊥
IsGiving (Halt w) = ⊥

-- one of these steps does
abbrev pub Gives : List Step → Type 0
Gives [] = ⊥
Gives (s ∷ before) = IsGiving s.order ⊎ Gives before

-- none of these records is a reservation
abbrev pub IsNoReservation : Record → Type 0
IsNoReservation (Reserve a r) = ⊥
IsNoReservation (Enrol a r) = Unit {0}
IsNoReservation (Release a r) = Unit {0}

abbrev pub ReserveNothing : List Record → Type 0
ReserveNothing [] = Unit {0}
ReserveNothing (x ∷ xs) = IsNoReservation x × ReserveNothing xs
