use Rattle.std.proofs.Common.{◌≡◌, List, ℕ, true, inr, subst}
use Rattle.sqlite.specs.Files.{Finds, IsOpened, file_state, over_files, image_of}
use Rattle.sqlite.specs.Held.{Held, state}
use Rattle.sqlite.specs.Recovery.{Image}
use Rattle.sqlite.specs.State.{HasCleanDisk}
use Rattle.sqlite_disk.specs.declared.Disk.{Ghosts}
use Rattle.sqlite_disk.specs.declared.Files.{Files}
use Rattle.sqlite_store.specs.declared.store.FileStore.{FileStore}
use Rattle.dali_script.specs.declared.records.Record.{Record}
use Rattle.dali_script.specs.Records.{Kept}
use Rattle.dali_reserve.specs.Store.{IsReplay}
use Rattle.dali_sqlite.specs.Header.{may_be_records}
use Rattle.dali_sqlite.specs.Keep.{shown_by, IsSound}
use Rattle.dali_sqlite.specs.Stored.{Holds, IsUp, IsOurs}
use Rattle.dali_sqlite.specs.declared.keep.SqliteKeep.{SqliteKeep}
use Rattle.dali_sqlite.proofs.Left.{finds_records}
use Rattle.dali_sqlite.proofs.Schemas.{opened_holds}
use Rattle.dali_commission_files.specs.Opened.{Shows, IsStoreOf, AreReadBy}

module _ {D : Type 0} {g : Ghosts D} where
  pub shows : (files : Files D) (conn : Held (FileStore D g)) → (HasCleanDisk (file_state conn) → Finds files conn)
      → (HasCleanDisk (file_state conn) → IsOpened conn) → (image : Image) × Shows image conn
  shows files conn found opened = (
    image_of g files,
    λ up xs held.
        opened_holds (file_state conn) held.trees xs (opened up.0).0 (opened up.0).1 (finds_records files conn xs (found up.0) held) held.table,
  )

  -- a store over a connection that shows the files of a name
  pub lends : {F : Type 0} (lies : F → List ℕ → Image → Type 0) (x : F) (name own : List ℕ) (conn : Held (FileStore D g))
      (keep : SqliteKeep (FileStore D g)) → name ≡ own → (image : Image) × lies x name image × Shows image conn
      → (IsUp (shown_by over_files keep) → IsOurs (state over_files conn) → IsSound over_files keep)
      → (IsUp (shown_by over_files keep) → (xs : List Record) → Holds (state over_files conn) xs → Holds (shown_by over_files keep) xs)
      → (IsUp (shown_by over_files keep) → IsUp (state over_files conn)) → (image : Image) × lies x own image × IsStoreOf image keep
  lends lies x name own conn keep is (image, there, shown) sound same up = (
    image,
    subst (λ (n : List ℕ). lies x n image) is there,
    λ is_up xs held. let here = shown (up is_up) xs held in (sound is_up (inr here.has.table), same is_up xs here),
  )

  -- records that were read of a store over such a connection
  pub read_by : (image : Image) (conn : Held (FileStore D g)) (store : SqliteKeep (FileStore D g)) (kept : Kept) → Shows image conn
      → kept.block.first ≡ 0 → kept.block.last ≡ 63 → (IsUp (shown_by over_files store) → IsUp (state over_files conn))
      → (IsUp (shown_by over_files store) → (xs : List Record) → Holds (state over_files conn) xs → IsReplay kept.block xs kept)
      → AreReadBy store image kept
  read_by image conn store kept shown first last up read = (kept.block, first, last, λ is_up xs held. read is_up xs (shown (up is_up) xs held))

  -- a store over copies of the bytes that lie in two files
  pub stored : (image : Image) (db log : List ℕ) (store : SqliteKeep (FileStore D g)) → db ≡ image.db → log ≡ image.log
      → may_be_records db log ≡ true → IsStoreOf (record { log = log; db = db }) store
      → (may_be_records image.db image.log ≡ true) × IsStoreOf image store
  stored image db log store same so ours found = (
    subst (λ (d : List ℕ). may_be_records d image.log ≡ true) same (subst (λ (l : List ℕ). may_be_records db l ≡ true) so ours),
    subst (λ (d : List ℕ). IsStoreOf (record { log = image.log; db = d }) store) same
        (subst (λ (l : List ℕ). IsStoreOf (record { log = l; db = db }) store) so found),
  )
