use Rattle.std.proofs.Common.{◌≡◌, ◌≢◌, ◌⊎◌, inl, inr, refl, sym, ◌∙◌, ap, subst, ℕ, List, [], ◌∷◌, Bool, true, false, Option, Some, None}
use Rattle.std.specs.Prelude.{is_some, if◌then◌else◌}
use Rattle.dali_folder.specs.Events.{Event, Renames, Removes, SyncsFolder, AreBegun, removing, renaming}
use Rattle.dali_folder.specs.Folder.{Names, Folders, IsSettled, IsLeft, AreSame, Happens, Happen, put, moved, moving, folder_of}
use Rattle.dali_folder.proofs.Names.{put_other, put_is, put_both, moving_both}
use Rattle.dali_folder.proofs.Begun.{begun_one}
use Rattle.dali_folder.proofs.Settled.{at, waits, left_before, left_after, settles}
use Rattle.dali_folder.proofs.Writing.{gone}

module _ (passing : List ℕ → Bool) where
  -- WHAT IS DONE IN ONE FOLDER, and then that folder is synced
  module _ (place : List ℕ) (before after : Names) (now : Folders) where
    abbrev pub IsLeftSo : Folders → Type 0
    IsLeftSo f = IsLeft passing place before after f

    pub stop_end : (begun : List Event) → AreBegun begun [] → (s : Folders) → IsLeftSo s → Happen begun s now → IsLeftSo now
    stop_end [] b s left e = subst IsLeftSo e left
    stop_end (d ∷ more) b s left h = absurd b

    pub at_last : (s t : Folders) → IsLeftSo s → AreSame passing s.holds after → Happens (SyncsFolder place) s t
        → IsSettled passing t × AreSame passing t.holds after
    at_last s t left holds happens =
        let all = settles passing place s t happens place refl left.pending in (all.0, (λ other out. all.1 other out ∙ holds other out))

    pub stop_settling : (begun : List Event) → AreBegun begun (SyncsFolder place ∷ []) → (s : Folders) → IsLeftSo s → AreSame passing s.holds after
        → Happen begun s now → IsLeftSo now
    stop_settling [] b s left holds e = subst IsLeftSo e left
    stop_settling (d ∷ more) b s left holds (t, happens, rest) =
        let both = begun_one (SyncsFolder place) d [] more tt b in
        let all = at_last s t left holds (subst (λ (e : Event). Happens e s t) both.0 happens) in
        stop_end more both.1 t (left_after passing place before after t all.0 all.1) rest

  -- a file is removed
  module _ (name : List ℕ) (was s : Folders) (calm : IsSettled passing was) (happens : Happens (Removes name) was s) where
    pub away : AreSame passing s.holds (put name None was.holds)
    away other out = at s.holds _ other happens.holds

    away_disk : AreSame passing s.disk was.holds ⊎ AreSame passing s.disk (put name None was.holds)
    away_disk = elim (happens.disk) [
      | inl is ↦ inl (λ other out. is other ∙ calm.disk other out)
      | inr is ↦ inr (λ other out. is other ∙ put_both name None was.disk was.holds other (λ _. calm.disk other out))
    ]

    pub away_left : IsLeft passing name was.holds (put name None was.holds) s
    away_left = record {
      pending = record {
        bytes = λ other out. at s.is_synced _ other happens.bytes ∙ put_is name true was.is_synced other true (λ _. refl) (λ _. calm.bytes other out);
        names = λ other out far. at s.is_settled _ other happens.names ∙ put_other name false was.is_settled other (λ e. far (ap folder_of e))
            ∙ calm.names other out;
        disk = λ other out far.
            let is : put name None was.holds other ≡ was.holds other = put_other name None was.holds other (λ e. far (ap folder_of e)) in
            elim (away_disk) [ inl same ↦ same other out | inr after ↦ after other out ∙ is ] ∙ sym (away other out ∙ is);
      };
      holds = inr away;
      disk = away_disk;
    }

  module _ (name : List ℕ) (was now : Folders) (calm : IsSettled passing was) where
    pub stop : (begun : List Event) → AreBegun begun (removing name) → Happen begun was now
        → IsLeft passing name was.holds (put name None was.holds) now
    stop [] b e = subst (IsLeftSo name was.holds (put name None was.holds) now) e (left_before passing name was.holds _ was calm (λ other out. refl))
    stop (d ∷ more) b (t, happens, rest) =
        let both = begun_one (Removes name) d (SyncsFolder name ∷ []) more tt b in
        let removes : Happens (Removes name) was t = subst (λ (e : Event). Happens e was t) both.0 happens in
        stop_settling name was.holds (put name None was.holds) now more both.1 t (away_left name was t calm removes) (away name was t calm removes) rest

    pub ended : Happen (removing name) was now → IsSettled passing now × AreSame passing now.holds (put name None was.holds)
    ended (s, removes, (t, syncs, done)) =
        subst (λ (f : Folders). IsSettled passing f × AreSame passing f.holds (put name None was.holds)) done
        (at_last name was.holds (put name None was.holds) now s t (away_left name was s calm removes) (away name was s calm removes) syncs)

  -- a file is renamed
  module _ (from to : List ℕ) (was u s : Folders) (near : folder_of from ≡ folder_of to) (out_ : passing from ≡ false)
      (calm : IsSettled passing u) (same : AreSame passing u.holds was.holds) (happens : Happens (Renames from to) u s) where
    pub moved_holds : AreSame passing s.holds (moved from to was.holds)
    moved_holds other out = at s.holds _ other happens.holds ∙ ap (λ o. moving o from to u.holds other) (same from out_)
        ∙ moving_both (was.holds from) from to u.holds was.holds other (same other out)

    moved_disk : AreSame passing s.disk was.holds ⊎ AreSame passing s.disk (moved from to was.holds)
    moved_disk = elim (happens.disk) [
      | inl is ↦ inl (λ other out. is other ∙ calm.disk other out ∙ same other out)
      | inr (file, may, is) ↦ inr (λ other out. is other ∙ ap (λ o. moving o from to u.disk other) (may.1 (calm.bytes from out_) ∙ same from out_)
          ∙ moving_both (was.holds from) from to u.disk was.holds other (calm.disk other out ∙ same other out))
    ]

    unmoved : (o : Option (List ℕ)) (other : List ℕ) → folder_of other ≢ folder_of to → moving o from to was.holds other ≡ was.holds other
    unmoved None other far = refl
    unmoved (Some file) other far =
        put_other to (Some file) (put from None was.holds) other (λ e. far (ap folder_of e))
        ∙ put_other from None was.holds other (λ e. far (ap folder_of e ∙ near))

    moved_bytes : (other : List ℕ) → passing other ≡ false → (b : Bool)
        → (if b then put to (u.is_synced from) (put from true u.is_synced) else u.is_synced) other ≡ true
    moved_bytes other out true = put_is to (u.is_synced from) (put from true u.is_synced) other true (λ _. calm.bytes from out_)
        (λ _. put_is from true u.is_synced other true (λ _. refl) (λ _. calm.bytes other out))
    moved_bytes other out false = calm.bytes other out

    pub moved_left : IsLeft passing to was.holds (moved from to was.holds) s
    moved_left = record {
      pending = record {
        bytes = λ other out. at s.is_synced _ other happens.bytes ∙ moved_bytes other out (is_some (u.holds from));
        names = λ other out far. at s.is_settled _ other happens.names
            ∙ put_other to false (put from false u.is_settled) other (λ e. far (ap folder_of e))
            ∙ put_other from false u.is_settled other (λ e. far (ap folder_of e ∙ near)) ∙ calm.names other out;
        disk = λ other out far.
            elim (moved_disk) [ inl is ↦ is other out | inr is ↦ is other out ∙ unmoved (was.holds from) other far ]
            ∙ sym (moved_holds other out ∙ unmoved (was.holds from) other far);
      };
      holds = inr moved_holds;
      disk = moved_disk;
    }

  -- a file is renamed, once a log that was left there is removed
  module _ (log from to : List ℕ) (was now : Folders) (hides : passing log ≡ true) (out_ : passing from ≡ false)
      (near : folder_of from ≡ folder_of to) (calm : IsSettled passing was) where
    abbrev pub IsLeftHere : Folders → Type 0
    IsLeftHere f = IsLeft passing to was.holds (moved from to was.holds) f

    as_before : (s : Folders) → IsSettled passing s → AreSame passing s.holds was.holds → IsLeftHere s
    as_before s calm_ same = left_before passing to was.holds (moved from to was.holds) s calm_ same

    cleared : (s t : Folders) → IsSettled passing s → AreSame passing s.holds was.holds → Happens (SyncsFolder log) s t
        → IsSettled passing t × AreSame passing t.holds was.holds
    cleared s t calm_ same syncs =
        let all = settles passing log s t syncs log refl (waits passing log s calm_) in (all.0, (λ other out. all.1 other out ∙ same other out))

    stop_away : (u : Folders) → IsSettled passing u → AreSame passing u.holds was.holds → (begun : List Event)
        → AreBegun begun (Renames from to ∷ SyncsFolder to ∷ []) → Happen begun u now → IsLeftHere now
    stop_away u calm_ same [] b e = subst IsLeftHere e (as_before u calm_ same)
    stop_away u calm_ same (d ∷ more) b (v, happens, rest) =
        let both = begun_one (Renames from to) d (SyncsFolder to ∷ []) more tt b in
        let renames : Happens (Renames from to) u v = subst (λ (e : Event). Happens e u v) both.0 happens in
        stop_settling to was.holds (moved from to was.holds) now more both.1 v (moved_left from to was u v near out_ calm_ same renames)
        (moved_holds from to was u v near out_ calm_ same renames) rest

    stop_cleared : (begun : List Event) → AreBegun begun (SyncsFolder log ∷ Renames from to ∷ SyncsFolder to ∷ []) → (s : Folders)
        → IsSettled passing s → AreSame passing s.holds was.holds → Happen begun s now → IsLeftHere now
    stop_cleared [] b s calm_ same e = subst IsLeftHere e (as_before s calm_ same)
    stop_cleared (d ∷ more) b s calm_ same (u, happens, rest) =
        let both = begun_one (SyncsFolder log) d (Renames from to ∷ SyncsFolder to ∷ []) more tt b in
        let all = cleared s u calm_ same (subst (λ (e : Event). Happens e s u) both.0 happens) in
        stop_away u all.0 all.1 more both.1 rest

    pub stop_renaming : (begun : List Event) → AreBegun begun (renaming log from to) → Happen begun was now → IsLeftHere now
    stop_renaming [] b e = subst IsLeftHere e (as_before was calm (λ other out. refl))
    stop_renaming (d ∷ more) b (s, happens, rest) =
        let both = begun_one (Removes log) d (SyncsFolder log ∷ Renames from to ∷ SyncsFolder to ∷ []) more tt b in
        let known = gone passing log hides was was s calm (λ other out. refl) (subst (λ (e : Event). Happens e was s) both.0 happens) in
        stop_cleared more both.1 s known.0 known.1 rest

    pub ended_renaming : Happen (renaming log from to) was now → IsSettled passing now × AreSame passing now.holds (moved from to was.holds)
    ended_renaming (s, removes, (u, syncs, (v, renames, (w, syncs_folder, done)))) =
        let known = gone passing log hides was was s calm (λ other out. refl) removes in
        let all = cleared s u known.0 known.1 syncs in
        subst (λ (f : Folders). IsSettled passing f × AreSame passing f.holds (moved from to was.holds)) done
        (at_last to was.holds (moved from to was.holds) now v w (moved_left from to was u v near out_ all.0 all.1 renames)
        (moved_holds from to was u v near out_ all.0 all.1 renames) syncs_folder)
