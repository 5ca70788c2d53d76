use Rattle.std.specs.Prelude.{◌≡◌, ◌⊎◌, ℕ, List, map}
use denote.Ref.{Bor}
use Rattle.sqlite.specs.Files.{over_files}
use Rattle.sqlite.specs.Held.{Held, state}
use Rattle.sqlite.specs.Recovery.{Image}
use Rattle.sqlite_disk.specs.declared.Disk.{Ghosts}
use Rattle.sqlite_store.specs.declared.store.FileStore.{FileStore}
use Rattle.dali_script.specs.declared.block.Block.{Block}
use Rattle.dali_script.specs.declared.records.Record.{Record}
use Rattle.dali_script.specs.Records.{Kept}
use Rattle.dali_reserve.specs.Store.{IsReplay}
use Rattle.dali_sqlite.specs.Files.{HoldRecords}
use Rattle.dali_sqlite.specs.Keep.{shown_by, IsSound}
use Rattle.dali_sqlite.specs.declared.keep.SqliteKeep.{SqliteKeep}
use Rattle.dali_sqlite.specs.Stored.{Holds, IsUp}
use Rattle.dali_commission_files.specs.declared.keeps.CopyKeep.{CopyKeep}
use Rattle.dali_commission_files.specs.declared.keeps.FileKeep.{FileKeep}

-- THE NAMES of files that are held open, in their order
abbrev pub names_of : {C : Type 0} → List (Bor (List ℕ) × C) → List (List ℕ)
names_of held = map (λ it. it.0.now) held

-- A CONNECTION SHOWS two files, a database's and its log, if their disk has returned what was
-- written: the records that they hold
abbrev pub Shows : {D : Type 0} {g : Ghosts D} → Image → Held (FileStore D g) → Type 0
Shows image conn =
    IsUp (state over_files conn) → (xs : List Record) → HoldRecords image xs
    → Holds (state over_files conn) xs

-- and so does a store
abbrev pub IsStoreOf : {D : Type 0} {g : Ghosts D} → Image → SqliteKeep (FileStore D g) → Type 0
IsStoreOf image store =
    IsUp (shown_by over_files store) → (xs : List Record) → HoldRecords image xs
    → IsSound over_files store × Holds (shown_by over_files store) xs

-- RECORDS WERE READ of two files, as of a controller with all short addresses: by a copy of them in
-- memory, or by a store over the files themselves
abbrev pub AreReadBy : {D : Type 0} {g : Ghosts D} → SqliteKeep (FileStore D g) → Image → Kept
    → Type 0
AreReadBy store image kept =
    (block : Block)
    × (block.first ≡ 0)
    × (block.last ≡ 63)
    × (IsUp (shown_by over_files store) → (xs : List Record) → HoldRecords image xs
    → IsReplay block xs kept)

abbrev pub AreReadOf : Image → Kept → Type 0
AreReadOf image kept =
    ((copy : CopyKeep) × AreReadBy copy.keep image kept)
    ⊎ ((file : FileKeep) × AreReadBy file.keep image kept)
