use Rattle.std.specs.Prelude.{Bool}
use Rattle.sqlite_trees.specs.declared.store.Store.{Ghosts}
use Rattle.sqlite.specs.State.{State}
use Rattle.sqlite.specs.Held.{Held, state}
use Rattle.dali_script.specs.declared.block.Block.{Block}
use Rattle.dali_script.specs.Records.{Kept}
use Rattle.dali_sqlite.specs.declared.keep.SqliteKeep.{SqliteKeep}
use Rattle.dali_sqlite.specs.Stored.{IsStored}

-- the connection of a store, and what it shows
abbrev pub connection_of : {S : Type 0} → SqliteKeep S → Held S
connection_of k = k.conn

abbrev pub shown_by : {S : Type 0} → Ghosts S → SqliteKeep S → State
shown_by g k = state g k.conn

-- what a store knows of its records, and whether a read is due
abbrev pub kept_by : {S : Type 0} → SqliteKeep S → Kept
kept_by k = k.kept

abbrev pub block_of : {S : Type 0} → SqliteKeep S → Block
block_of k = k.kept.block

abbrev pub must_read : {S : Type 0} → SqliteKeep S → Bool
must_read k = k.must_read

-- a list is held, and what is known of it is true
abbrev pub IsSound : {S : Type 0} → Ghosts S → SqliteKeep S → Type 0
IsSound g k = IsStored (state g k.conn) k.kept k.count k.must_read
