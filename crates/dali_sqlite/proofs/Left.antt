-- What two files hold, and what a stop leaves of them.
use Rattle.std.proofs.Common.{◌≡◌, ◌⊎◌, inl, inr, ⊎_elim, ℕ, zero, suc, ◌+◌, ◌<◌, ◌≤◌, IsTrue, List, [], length, slice_index, ap, ◌∙◌, subst, arith}
use Rattle.std.proofs.{Math.Logic.∥∥₁_elim, Math.Logic.∥∥₁_map, lemmas.List.ext_get_or}
use Rattle.sqlite.{proofs.Theorems.opens_again, specs.Closing.HoldsAlone}
use Rattle.sqlite.specs.Files.{HoldsDatabase, Finds, file_state, image_of}
use Rattle.sqlite.specs.{Held.Held, Held.AreDatabases, Recovery.Image, Tree.Trees, View.IsClean, View.IsQuiet, WalFiles.outcomes, WalReads.AreClean}
use Rattle.sqlite_disk.specs.{Disk.Holds, Disk.Torn, declared.Disk.Ghosts, declared.Files.Files}
use Rattle.sqlite_pool.specs.{Pool.state, Pool.files, declared.pool.Pool.Pool}
use Rattle.sqlite_store.specs.{FileStore.view, FileStore.faults, FileStore.recovers, FileStore.is_shielded, declared.store.FileStore.FileStore}
use Rattle.sqlite_store.specs.FileStore as store
use Rattle.sqlite_trees.{proofs.Doubt.no_doubt, specs.Props.Trees-set}
use Rattle.dali_script.specs.declared.records.Record.{Record}
use Rattle.dali_sqlite.specs.{Files.HoldRecords, Files.HoldRecordsAlone, Stored.IsTableOf}

at_least : (n m : ℕ) → (0 < n → n ≤ m) → n ≤ m
at_least zero m more = omega arith
at_least (suc n) m more = more (omega arith)

-- a file that held nothing, and into which these bytes were written
pub written_whole : (file bytes : List ℕ) → Torn 0 (length bytes) [] file → (0 < length bytes → Holds file 0 bytes) → file ≡ bytes
written_whole file bytes torn written =
    let most : length bytes ≤ length file = at_least (length bytes) (length file) (λ some. omega (arith, (written some).within)) in
    let long : length file ≡ length bytes = omega (arith, torn.no_longer, most) in
    ext_get_or 0 file bytes long (λ i low.
    let here : i ≡ 0 + i = omega arith in
    ap (slice_index file) here ∙ (written (omega arith)).each i (omega arith))

pub alone_of : (image : Image) (trees : Trees) (xs : List Record) → HoldsAlone image trees → IsTableOf trees xs → HoldRecordsAlone image xs
alone_of image trees xs holds table = record {
  both = record { trees = trees; found = holds.both; table = table };
  alone = record { trees = trees; found = holds.alone; table = table };
}

pub left_records : (left : Image) (one : Trees) (xs : List Record) (May : Trees → Type 0) → ((trees : Trees) → May trees → trees ≡ one) → IsTableOf one xs
    → ∥ ((trees : Trees) × May trees × HoldsDatabase left trees) ∥₁ → HoldRecords left xs
left_records left one xs May only table all = record {
  trees = one;
  found = ∥∥₁_map all (λ it. subst (HoldsDatabase left) (only it.0 it.1) it.2);
  table = table;
}

pub either_records : (left : Image) (xs ys : List Record) (May : Trees → Type 0) → ((trees : Trees) → May trees → IsTableOf trees xs ⊎ IsTableOf trees ys)
    → ∥ ((trees : Trees) × May trees × HoldsDatabase left trees) ∥₁ → ∥ (HoldRecords left xs ⊎ HoldRecords left ys) ∥₁
either_records left xs ys May tables all = ∥∥₁_map all (λ it. ⊎_elim
    (λ one. let r : HoldRecords left xs ⊎ HoldRecords left ys = inl (record { trees = it.0; found = ∣ it.2 ∣₁; table = one }) in r)
    (λ other. let r : HoldRecords left xs ⊎ HoldRecords left ys = inr (record { trees = it.0; found = ∣ it.2 ∣₁; table = other }) in r)
    (tables it.0 it.1))

module _ {D : Type 0} {g : Ghosts D} where
  pub finds_records : (files : Files D) (c : Held (FileStore D g)) (xs : List Record) → Finds files c → (held : HoldRecords (image_of g files) xs)
      → (file_state c).committed.trees ≡ held.trees
  finds_records files c xs found held = ∥∥₁_elim held.found (Trees-set _ _) (found.holds _)

  pool_leaves : (it : Pool D g) → AreClean g (files it).0 (files it).1 → (left : Image) → outcomes g (files it).0 (files it).1 left
      → IsTrue (state it).is_clean × (state it).may_leave left
  unfolding state files
  pool_leaves it clean left may = (clean, (clean, may))

  -- the files of a store hold a database that a stop of an earlier one might have left
  pub stopped : (first last : FileStore D g) → IsQuiet view faults recovers is_shielded first last → (IsClean (view last) → IsTrue (view last).is_numbered)
      → (IsClean (view last) → AreDatabases (recovers last)) → AreClean g (store.files last).0 (store.files last).1
      → (left : Image) → outcomes g (store.files last).0 (store.files last).1 left → ∥ ((trees : Trees) × recovers first trees × HoldsDatabase left trees) ∥₁
  stopped first last quiet numbered sound clean left may =
      let leaves = pool_leaves last.pool clean left may in
      let sure = no_doubt (view last).is_clean leaves.0 in
      ∥∥₁_map (opens_again last (numbered sure) (sound sure) left leaves.1)
      (λ all. let r : (trees : Trees) × recovers first trees × HoldsDatabase left trees = (all.0, quiet.outcomes all.0 all.1, all.2) in r)
