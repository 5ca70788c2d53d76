use Rattle.std.proofs.Common.{◌≡◌, ◌≢◌, inl, inr, refl, ℕ, List, [], ◌∷◌, Bool, true, false, Option, Some, None, ap, sym, ◌∙◌}
use Rattle.std.specs.Prelude.{codes}
use Rattle.dali_folder.specs.Events.{Event, Renames, Removes}
use Rattle.dali_folder.specs.Folder.{Names, Folders, IsSettled, Happen, held_after, synced_after, settled_after, restarted, put, moved}
use Rattle.dali_folder.proofs.Names.{put_here, put_other}
use Rattle.dali_folder.proofs.Settled.{anew}

-- A WORKED EXAMPLE: why a program first syncs what an earlier one has left. One is killed before it
-- syncs the folder of a file that it has renamed; the next one removes the journal; then a crash
-- leaves the file under its old name, without the journal.
abbrev pub after : Event → Folders → Folders
after event f = record {
  holds = held_after event f;
  is_synced = synced_after event f;
  is_settled = settled_after event f;
  disk = f.disk;
}

abbrev pub removed : List ℕ → Folders → Folders
removed name f = record {
  holds = held_after (Removes name) f;
  is_synced = synced_after (Removes name) f;
  is_settled = settled_after (Removes name) f;
  disk = put name None f.disk;
}

module _ (from to journal file : List ℕ) (names : Names) (there : names from ≡ Some file) (apart : from ≢ journal) where
  abbrev pub killed : Folders
  killed = after (Renames from to) (restarted names)

  pub lost : IsSettled (λ _. false) (restarted names)
      × Happen (Renames from to ∷ []) (restarted names) killed
      × Happen (Removes journal ∷ []) killed (removed journal killed)
      × ((removed journal killed).disk from ≡ Some file)
      × ((removed journal killed).disk journal ≡ None)
  lost = (
    anew (λ _. false) names,
    (killed, record { holds = refl; bytes = refl; names = refl; disk = inl (λ at. refl) }, refl),
    (removed journal killed, record { holds = refl; bytes = refl; names = refl; disk = inr (λ at. refl) }, refl),
    put_other journal None names from apart ∙ there,
    put_here journal None names,
  )
