use Rattle.std.specs.Prelude.{◌≡◌, ◌⊎◌, ℕ, Bool, false, List, length, map}
use Rattle.std.specs.Prelude.{IsPermutation, IsTrue}
use Rattle.sqlite.specs.Tree.{Trees}
use Rattle.sqlite.specs.Effect.{IsDatabase}
use Rattle.sqlite.specs.State.{State, HasCleanDisk}
use Rattle.dali_script.specs.declared.records.Record.{Record}
use Rattle.dali_script.specs.Records.{Kept}
use Rattle.dali_reserve.specs.Store.{IsReplay}
use Rattle.dali_sqlite.specs.Table.{record_schema, no_schema}
use Rattle.dali_sqlite.specs.Rows.{rows_after, shown_of}

-- the rows of the table are those of the list, in any order
abbrev pub Lists : Trees → List Record → Type 0
Lists trees xs = IsPermutation (map shown_of (trees 0)) (rows_after 0 xs)

-- A DATABASE OF THE TABLE ALONE, by its trees, which say what tables they are of. Its rows are
-- those of the list.
pub record IsTableOf (trees : Trees) (xs : List Record) : Type 0 where
  pub table : IsDatabase (record { schema = record_schema; trees = trees })
  pub rows : Lists trees xs

-- A database with the table alone, outside a transaction: what it shows is what it committed last.
pub record HasTable (s : State) : Type 0 where
  pub table : s.now.schema ≡ record_schema
  pub autocommit : s.in_transaction ≡ false
  pub committed : s.now ≡ s.committed

-- THE RECORDS THAT A DATABASE HOLDS, oldest first: one row of the table for each, and no other.
pub record Holds (s : State) (xs : List Record) : Type 0 where
  pub has : HasTable s
  pub rows : Lists s.now.trees xs

-- the connection is open, and so far the disk has returned what was written
abbrev pub IsUp : State → Type 0
IsUp s = HasCleanDisk s × IsTrue s.is_open

-- what may be handed in: a database of nothing, or of the table alone
abbrev pub IsOurs : State → Type 0
IsOurs s = (s.now.schema ≡ no_schema) ⊎ (s.now.schema ≡ record_schema)

-- what is known of a list: how many records it has, and their replay
abbrev pub IsKnown : Kept → ℕ → List Record → Type 0
IsKnown k count xs = IsReplay k.block xs k × (count ≡ length xs)

-- A database holds a list, and unless a read is due, what is known is true of what it holds.
pub record IsStored (s : State) (k : Kept) (count : ℕ) (must_read : Bool) : Type 0 where
  pub records : List Record
  pub held : Holds s records
  pub known : must_read ≡ false → (xs : List Record) → Holds s xs → IsKnown k count xs
