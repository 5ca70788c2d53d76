use Rattle.std.specs.Prelude.{List, ◌++◌}
use Rattle.dali_script.specs.declared.records.Record.{Record}
use Rattle.dali_script.specs.declared.records.Record.TheVariants.{Reserve, Enrol, Release}
use Rattle.dali_script.specs.Records.{Assignment, Has}
use Rattle.dali_commissioning.specs.Conducted.{Stays}

-- A RECORD THAT FILLS others enrols a gear of a table, or reserves for one what a list has for it
abbrev pub Fills : List Assignment → List Assignment → Record → Type 0
Fills gear reserved (Enrol a r) = Has gear (a, r)
Fills gear reserved (Reserve a r) = Has reserved (a, r) × Has gear (a, r)
Fills gear reserved (Release a r) = ⊥

-- NOTHING ELSE IS PUT in a store: it has what it had, and behind that such records alone.
pub record PutsOnly {S : Type 0} (is_up is_sound : S → Type 0) (holds : S → List Record → Type 0)
    (may : Record → Type 0) (was keep : S) : Type 0 where
  pub only : is_sound was → is_up keep → (xs : List Record) → holds was xs
      → (more : List Record) × ((x : Record) → Has more x → may x) × holds keep (xs ++ more)
  pub stays : Stays is_up is_sound was keep
