use Rattle.std.specs.Prelude.{◌≡◌, ◌⊎◌, ℕ, List, ◌++◌, IsSomeAnd}
use Rattle.dali_script.specs.declared.block.Block.{Block}
use Rattle.dali_script.specs.declared.records.Record.{Record}
use Rattle.dali_script.specs.declared.records.Record.TheVariants.{Enrol}
use Rattle.dali_script.specs.Records.{Kept, Has, Shows, TakesAway}
use Rattle.dali_reserve.specs.Store.{IsReplay}
use Rattle.dali_enrol.specs.Directory.{Pass, known_at}

-- HOW A STORE IS LEFT, by what every store promises: while what lies under it is open, it holds the
-- list that it held, and then maybe more.
pub record Leaves {S : Type 0} (is_up is_sound : S → Type 0)
    (holds : S → List Record → Type 0) (old new : S) : Type 0 where
  pub up : is_up new → is_up old
  pub sound : is_sound old → is_up new → is_sound new
  pub list : is_sound old → is_up new → (xs : List Record) → holds old xs
      → (more : List Record) × holds new (xs ++ more)

-- a list of records that has this one; of one that takes a pair away it is enough that the records
-- which the list leaves show it
abbrev pub IsStored : Block → List Record → Record → Type 0
IsStored b xs x = Has xs x ⊎ (TakesAway x × ((k : Kept) → IsReplay b xs k → Shows k x))

-- A STORE HAS A RECORD: it holds the list that it held, and then maybe more, and the record is
-- stored there.
abbrev pub Stores : {S : Type 0} (is_up is_sound : S → Type 0) (holds : S → List Record → Type 0)
    (block : S → Block) → S → S → Record → Type 0
Stores is_up is_sound holds block old new x =
    is_sound old → is_up new → (xs : List Record) → holds old xs
    → (more : List Record) × holds new (xs ++ more) × IsStored (block new) (xs ++ more) x

-- what a pass learned are enrolments of these records
abbrev pub Learns : Pass → Pass → List Record → Type 0
Learns old new records = (a : ℕ) → (known_at new a ≡ known_at old a)
    ⊎ IsSomeAnd (known_at new a) (λ e. Has records (Enrol e.short e.random))

-- HOW A WORKER'S PASS IS LEFT, beside its store: what it learned are enrolments that the store then
-- holds.
pub record Posts {S : Type 0} (is_up is_sound : S → Type 0)
    (holds : S → List Record → Type 0) (old new : S) (was is : Pass) : Type 0 where
  pub list : is_sound old → is_up new → (xs : List Record) → holds old xs
      → (more : List Record) × holds new (xs ++ more) × Learns was is (xs ++ more)
