use Rattle.std.proofs.Common.{◌≡◌, ◌≢◌, inl, inr, refl, sym, ◌∙◌, ap, ℕ, List, Bool, true, false}
use Rattle.std.specs.Prelude.{bytes_eq}
use Rattle.std.proofs.lemmas.Bool.{cond-true, cond-false}
use Rattle.std.proofs.lemmas.Slice.Eq.{bytes_eq-Decides}
use Rattle.dali_folder.specs.Events.{SyncsFolder}
use Rattle.dali_folder.specs.Folder.{Names, Folders, IsSettled, IsPending, IsLeft, AreSame, Happens, restarted, folder_of}
use Rattle.dali_folder.proofs.Names.{decided, not_same}

pub at : {X : Type 0} (f g : List ℕ → X) (name : List ℕ) → f ≡ g → f name ≡ g name
at f g name e = ap (λ h. h name) e

module _ (passing : List ℕ → Bool) where
  -- a name that passes is none of the others
  pub apart : (other name : List ℕ) → passing other ≡ false → passing name ≡ true → other ≢ name
  apart other name out hides same = let is = ap passing same in cc

  pub anew : (names : Names) → IsSettled passing (restarted names)
  anew names = record { bytes = λ at out. refl; names = λ at out. refl; disk = λ at out. refl }

  pub waits : (place : List ℕ) (f : Folders) → IsSettled passing f → IsPending passing place f
  waits place f calm = record {
    bytes = calm.bytes;
    names = λ other out far. calm.names other out;
    disk = λ other out far. calm.disk other out;
  }

  -- what is settled, and as before or as after
  pub left_before : (place : List ℕ) (before after : Names) (f : Folders) → IsSettled passing f → AreSame passing f.holds before
      → IsLeft passing place before after f
  left_before place before after f calm same = record {
    pending = waits place f calm;
    holds = inl same;
    disk = inl (λ other out. calm.disk other out ∙ same other out);
  }

  pub left_after : (place : List ℕ) (before after : Names) (f : Folders) → IsSettled passing f → AreSame passing f.holds after
      → IsLeft passing place before after f
  left_after place before after f calm same = record {
    pending = waits place f calm;
    holds = inr same;
    disk = inr (λ other out. calm.disk other out ∙ same other out);
  }

  -- ONCE A FOLDER IS ON THE DISK, which is that in which something was done, or another one
  module _ (name : List ℕ) (s t : Folders) (happens : Happens (SyncsFolder name) s t) where
    held : (other : List ℕ) → t.holds other ≡ s.holds other
    held other = at t.holds _ other happens.holds

    far_settled : (other : List ℕ) → folder_of other ≢ folder_of name → t.is_settled other ≡ s.is_settled other
    far_settled other differs = at t.is_settled _ other happens.names
        ∙ cond-false (bytes_eq (folder_of other) (folder_of name)) true (s.is_settled other) (not_same (folder_of other) (folder_of name) differs)

    near_settled : (other : List ℕ) → folder_of other ≡ folder_of name → t.is_settled other ≡ true
    near_settled other same = at t.is_settled _ other happens.names
        ∙ cond-true (bytes_eq (folder_of other) (folder_of name)) true (s.is_settled other)
        ((bytes_eq-Decides (folder_of other) (folder_of name)).1 same)

    pub settles : (place : List ℕ) → folder_of place ≡ folder_of name → IsPending passing place s
        → IsSettled passing t × AreSame passing t.holds s.holds
    settles place near was = (
      record {
        bytes = λ other out. at t.is_synced _ other happens.bytes ∙ was.bytes other out;
        names = λ other out. elim (decided (folder_of other) (folder_of name)) [
          | inl same ↦ near_settled other same
          | inr differs ↦ far_settled other differs ∙ was.names other out (λ e. differs (e ∙ near))
        ];
        disk = λ other out. elim (decided (folder_of other) (folder_of name)) [
          | inl same ↦ ((happens.disk other).0 same).1 (was.bytes other out) ∙ sym (held other)
          | inr differs ↦ (happens.disk other).1 differs ∙ was.disk other out (λ e. differs (e ∙ near)) ∙ sym (held other)
        ];
      },
      λ other out. held other,
    )

    pub stays : (place : List ℕ) → folder_of place ≢ folder_of name → IsPending passing place s
        → IsPending passing place t × AreSame passing t.holds s.holds × AreSame passing t.disk s.disk
    stays place far was = (
      record {
        bytes = λ other out. at t.is_synced _ other happens.bytes ∙ was.bytes other out;
        names = λ other out away. elim (decided (folder_of other) (folder_of name)) [
          | inl same ↦ near_settled other same
          | inr differs ↦ far_settled other differs ∙ was.names other out away
        ];
        disk = λ other out away. as_was other out ∙ was.disk other out away ∙ sym (held other);
      },
      (λ other out. held other),
      as_was,
    )
      where
        as_was : AreSame passing t.disk s.disk
        as_was other out = elim (decided (folder_of other) (folder_of name)) [
          | inl same ↦ ((happens.disk other).0 same).1 (was.bytes other out) ∙ sym (was.disk other out (λ e. far (sym e ∙ same)))
          | inr differs ↦ (happens.disk other).1 differs
        ]
