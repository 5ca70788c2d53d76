-- The two files of a database, and what a stop leaves of them.
use Rattle.std.specs.Prelude.{List, []}
use Rattle.sqlite.specs.Recovery.{Image}
use Rattle.sqlite.specs.Tree.{Trees}
use Rattle.sqlite.specs.Files.{HoldsDatabase}
use Rattle.dali_script.specs.declared.records.Record.{Record}
use Rattle.dali_sqlite.specs.Stored.{IsTableOf}

-- THE RECORDS THAT TWO FILES HOLD: who opens them finds a database of the table alone, with these.
pub record HoldRecords (image : Image) (xs : List Record) : Type 0 where
  pub trees : Trees
  pub found : ∥ HoldsDatabase image trees ∥₁
  pub table : IsTableOf trees xs

-- so do they if the log is empty, as when the database's file is taken alone
pub record HoldRecordsAlone (image : Image) (xs : List Record) : Type 0 where
  pub both : HoldRecords image xs
  pub alone : HoldRecords (record image { log = [] }) xs
