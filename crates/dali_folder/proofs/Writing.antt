use Rattle.std.proofs.Common.{◌≡◌, ◌≢◌, ◌⊎◌, inl, inr, refl, sym, ◌∙◌, ap, subst, ℕ, List, [], ◌∷◌, ◌++◌, Bool, true, false, Option, Some, None}
use Rattle.std.specs.Prelude.{option_map, is_some, if◌then◌else◌}
use Rattle.dali_folder.specs.Events.{Event, Creates, Writes, Syncs, Renames, Removes, SyncsFolder, AreBegun, writing}
use Rattle.dali_folder.specs.Folder.{Names, Folders, IsSettled, IsLeft, AreSame, Happens, Happen, put, moving, folder_of}
use Rattle.dali_folder.proofs.Names.{put_here, put_other, put_is, put_both}
use Rattle.dali_folder.proofs.Begun.{begun_one, begun_writing}
use Rattle.dali_folder.proofs.Settled.{at, apart, left_before, left_after, settles}

-- WHAT IS DONE TO A FILE THAT PASSES leaves all others as they were, and on the disk
module _ (passing : List ℕ → Bool) (part : List ℕ) (hides : passing part ≡ true) (was s t : Folders) (calm : IsSettled passing s)
    (same : AreSame passing s.holds was.holds) where
  abbrev pub IsQuiet : Type 0
  IsQuiet = IsSettled passing t × AreSame passing t.holds was.holds

  quiet : (held : Option (List ℕ)) (synced settled : Bool) → t.holds ≡ put part held s.holds → t.is_synced ≡ put part synced s.is_synced
      → ((other : List ℕ) → other ≢ part → t.is_settled other ≡ s.is_settled other)
      → ((other : List ℕ) → other ≢ part → s.is_settled other ≡ true → t.disk other ≡ s.disk other) → IsQuiet
  quiet held synced settled holds bytes names disk = (
    record {
      bytes = λ other out. at t.is_synced _ other bytes ∙ put_other part synced s.is_synced other (apart passing other part out hides)
          ∙ calm.bytes other out;
      names = λ other out. names other (apart passing other part out hides) ∙ calm.names other out;
      disk = λ other out. disk other (apart passing other part out hides) (calm.names other out) ∙ calm.disk other out ∙ sym (kept other out);
    },
    λ other out. kept other out ∙ same other out,
  )
    where
      kept : (other : List ℕ) → passing other ≡ false → t.holds other ≡ s.holds other
      kept other out = at t.holds _ other holds ∙ put_other part held s.holds other (apart passing other part out hides)

  pub created : Happens (Creates part) s t → IsQuiet × (t.holds part ≡ Some [])
  created h = (
    quiet (Some []) false false h.holds h.bytes (λ other differs. at t.is_settled _ other h.names ∙ put_other part false s.is_settled other differs)
        h.disk,
    at t.holds _ part h.holds ∙ put_here part (Some []) s.holds,
  )

  pub written : (bytes : List ℕ) → Happens (Writes part bytes) s t → IsQuiet × (s.holds part ≡ Some [] → t.holds part ≡ Some bytes)
  written bytes h = (
    quiet (option_map (λ file. file ++ bytes) (s.holds part)) false false h.holds h.bytes (λ other differs. at t.is_settled _ other h.names) h.disk,
    λ e. at t.holds _ part h.holds ∙ put_here part (option_map (λ file. file ++ bytes) (s.holds part)) s.holds
        ∙ ap (λ o. option_map (λ file. file ++ bytes) o) e,
  )

  pub synced : Happens (Syncs part) s t → IsQuiet × (t.is_synced part ≡ true) × (t.holds part ≡ s.holds part)
  synced h = (
    (
      record {
        bytes = λ other out. at t.is_synced _ other h.bytes ∙ put_other part true s.is_synced other (apart passing other part out hides)
            ∙ calm.bytes other out;
        names = λ other out. at t.is_settled _ other h.names ∙ calm.names other out;
        disk = λ other out. h.disk other ∙ calm.disk other out ∙ sym (at t.holds _ other h.holds);
      },
      λ other out. at t.holds _ other h.holds ∙ same other out,
    ),
    at t.is_synced _ part h.bytes ∙ put_here part true s.is_synced,
    at t.holds _ part h.holds,
  )

  pub gone : Happens (Removes part) s t → IsQuiet
  gone h = (
    record {
      bytes = λ other out. at t.is_synced _ other h.bytes ∙ put_other part true s.is_synced other (apart passing other part out hides)
          ∙ calm.bytes other out;
      names = λ other out. at t.is_settled _ other h.names ∙ put_other part false s.is_settled other (apart passing other part out hides)
          ∙ calm.names other out;
      disk = λ other out. elim (h.disk) [
        | inl is ↦ is other
        | inr is ↦ is other ∙ put_other part None s.disk other (apart passing other part out hides)
      ] ∙ calm.disk other out ∙ sym (kept other out);
    },
    λ other out. kept other out ∙ same other out,
  )
    where
      kept : (other : List ℕ) → passing other ≡ false → t.holds other ≡ s.holds other
      kept other out = at t.holds _ other h.holds ∙ put_other part None s.holds other (apart passing other part out hides)

-- a text that was written, and is given its name
module _ (passing : List ℕ → Bool) (part name text : List ℕ) (hides : passing part ≡ true) (was s t : Folders) (calm : IsSettled passing s)
    (same : AreSame passing s.holds was.holds) (bytes : s.is_synced part ≡ true) (has : s.holds part ≡ Some text)
    (happens : Happens (Renames part name) s t) where
  placed : (f g : Names) → ((other : List ℕ) → passing other ≡ false → f other ≡ g other) → (other : List ℕ) → passing other ≡ false
      → put name (Some text) (put part None f) other ≡ put name (Some text) g other
  placed f g is other out = put_both name (Some text) (put part None f) g other
      (λ _. put_other part None f other (apart passing other part out hides) ∙ is other out)

  pub placed_holds : AreSame passing t.holds (put name (Some text) was.holds)
  placed_holds other out = at t.holds _ other happens.holds ∙ ap (λ o. moving o part name s.holds other) has
      ∙ placed s.holds was.holds same other out

  before : (other : List ℕ) → passing other ≡ false → s.disk other ≡ was.holds other
  before other out = calm.disk other out ∙ same other out

  placed_disk : AreSame passing t.disk was.holds ⊎ AreSame passing t.disk (put name (Some text) was.holds)
  placed_disk = elim (happens.disk) [
    | inl is ↦ inl (λ other out. is other ∙ before other out)
    | inr (file, may, is) ↦ inr (λ other out. is other ∙ ap (λ o. moving o part name s.disk other) (may.1 bytes ∙ has)
        ∙ placed s.disk was.holds before other out)
  ]

  pub placed_left : IsLeft passing name was.holds (put name (Some text) was.holds) t
  placed_left = record {
    pending = record {
      bytes = λ other out. at t.is_synced _ other happens.bytes
          ∙ ap (λ o. (if is_some o then put name (s.is_synced part) (put part true s.is_synced) else s.is_synced) other) has
          ∙ put_is name (s.is_synced part) (put part true s.is_synced) other true (λ _. bytes)
          (λ _. put_is part true s.is_synced other true (λ _. refl) (λ _. calm.bytes other out));
      names = λ other out far. at t.is_settled _ other happens.names
          ∙ put_other name false (put part false s.is_settled) other (λ e. far (ap folder_of e))
          ∙ put_other part false s.is_settled other (apart passing other part out hides) ∙ calm.names other out;
      disk = λ other out far.
          let is : put name (Some text) was.holds other ≡ was.holds other = put_other name (Some text) was.holds other (λ e. far (ap folder_of e)) in
          elim (placed_disk) [ inl same_ ↦ same_ other out | inr after ↦ after other out ∙ is ] ∙ sym (placed_holds other out ∙ is);
    };
    holds = inr placed_holds;
    disk = placed_disk;
  }

-- WHAT A STOP LEAVES of it, from each event on
module _ (passing : List ℕ → Bool) (part name text : List ℕ) (hides : passing part ≡ true) (was now : Folders) where
  abbrev pub IsLeftSo : Folders → Type 0
  IsLeftSo f = IsLeft passing name was.holds (put name (Some text) was.holds) f

  stop_end : (begun : List Event) → AreBegun begun [] → (s : Folders) → IsLeftSo s → Happen begun s now → IsLeftSo now
  stop_end [] b s left e = subst IsLeftSo e left
  stop_end (d ∷ more) b s left h = absurd b

  stop_settling : (begun : List Event) → AreBegun begun (SyncsFolder name ∷ []) → (s : Folders) → IsLeftSo s
      → AreSame passing s.holds (put name (Some text) was.holds) → Happen begun s now → IsLeftSo now
  stop_settling [] b s left holds e = subst IsLeftSo e left
  stop_settling (d ∷ more) b s left holds (t, happens, rest) =
      let both = begun_one (SyncsFolder name) d [] more tt b in
      let all = settles passing name s t (subst (λ (e : Event). Happens e s t) both.0 happens) name refl left.pending in
      stop_end more both.1 t (left_after passing name was.holds _ t all.0 (λ other out. all.1 other out ∙ holds other out)) rest

  stop_renaming : (begun : List Event) → AreBegun begun (Renames part name ∷ SyncsFolder name ∷ []) → (s : Folders) → IsSettled passing s
      → AreSame passing s.holds was.holds → s.is_synced part ≡ true → s.holds part ≡ Some text → Happen begun s now → IsLeftSo now
  stop_renaming [] b s calm same bytes has e = subst IsLeftSo e (left_before passing name was.holds _ s calm same)
  stop_renaming (d ∷ more) b s calm same bytes has (t, happens, rest) =
      let both = begun_one (Renames part name) d (SyncsFolder name ∷ []) more tt b in
      let renames : Happens (Renames part name) s t = subst (λ (e : Event). Happens e s t) both.0 happens in
      stop_settling more both.1 t (placed_left passing part name text hides was s t calm same bytes has renames)
      (placed_holds passing part name text hides was s t calm same bytes has renames) rest

  stop_syncing : (begun : List Event) → AreBegun begun (Syncs part ∷ Renames part name ∷ SyncsFolder name ∷ []) → (s : Folders)
      → IsSettled passing s → AreSame passing s.holds was.holds → s.holds part ≡ Some text → Happen begun s now → IsLeftSo now
  stop_syncing [] b s calm same has e = subst IsLeftSo e (left_before passing name was.holds _ s calm same)
  stop_syncing (d ∷ more) b s calm same has (t, happens, rest) =
      let both = begun_one (Syncs part) d (Renames part name ∷ SyncsFolder name ∷ []) more tt b in
      let known = synced passing part hides was s t calm same (subst (λ (e : Event). Happens e s t) both.0 happens) in
      stop_renaming more both.1 t known.0.0 known.0.1 known.1 (known.2 ∙ has) rest

  stop_writing : (begun : List Event) → AreBegun begun (Writes part text ∷ Syncs part ∷ Renames part name ∷ SyncsFolder name ∷ []) → (s : Folders)
      → IsSettled passing s → AreSame passing s.holds was.holds → s.holds part ≡ Some [] → Happen begun s now → IsLeftSo now
  stop_writing [] b s calm same has e = subst IsLeftSo e (left_before passing name was.holds _ s calm same)
  stop_writing (d ∷ more) b s calm same has (t, happens, rest) =
      elim (begun_writing part text d (Syncs part ∷ Renames part name ∷ SyncsFolder name ∷ []) more b) [
        | inl both ↦
            let known = written passing part hides was s t calm same text (subst (λ (e : Event). Happens e s t) both.0 happens) in
            stop_syncing more both.1 t known.0.0 known.0.1 (known.1 has) rest
        | inr (end, (some, is)) ↦
            let known = written passing part hides was s t calm same some (subst (λ (e : Event). Happens e s t) is happens) in
            let done : t ≡ now = subst (λ (b : List Event). Happen b t now) end rest in
            subst IsLeftSo done (left_before passing name was.holds _ t known.0.0 known.0.1)
      ]

  pub stop : (begun : List Event) → AreBegun begun (writing part name text) → IsSettled passing was → Happen begun was now → IsLeftSo now
  stop [] b calm e = subst IsLeftSo e (left_before passing name was.holds _ was calm (λ other out. refl))
  stop (d ∷ more) b calm (t, happens, rest) =
      let both = begun_one (Creates part) d (Writes part text ∷ Syncs part ∷ Renames part name ∷ SyncsFolder name ∷ []) more tt b in
      let known = created passing part hides was was t calm (λ other out. refl) (subst (λ (e : Event). Happens e was t) both.0 happens) in
      stop_writing more both.1 t known.0.0 known.0.1 known.1 rest

  -- the folders once it is written
  pub ended : IsSettled passing was → Happen (writing part name text) was now
      → IsSettled passing now × AreSame passing now.holds (put name (Some text) was.holds)
  ended calm (s1, creates, (s2, writes, (s3, syncs, (s4, renames, (s5, syncs_folder, done))))) =
      let k1 = created passing part hides was was s1 calm (λ other out. refl) creates in
      let k2 = written passing part hides was s1 s2 k1.0.0 k1.0.1 text writes in
      let k3 = synced passing part hides was s2 s3 k2.0.0 k2.0.1 syncs in
      let has : s3.holds part ≡ Some text = k3.2 ∙ k2.1 k1.1 in
      let left = placed_left passing part name text hides was s3 s4 k3.0.0 k3.0.1 k3.1 has renames in
      let all = settles passing name s4 s5 syncs_folder name refl left.pending in
      let held = placed_holds passing part name text hides was s3 s4 k3.0.0 k3.0.1 k3.1 has renames in
      subst (λ (f : Folders). IsSettled passing f × AreSame passing f.holds (put name (Some text) was.holds)) done
      (all.0, (λ other out. all.1 other out ∙ held other out))
