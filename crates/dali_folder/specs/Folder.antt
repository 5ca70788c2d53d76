use Rattle.std.specs.Prelude.{◌≡◌, ◌≢◌, ◌⊎◌, ◌↔◌, ◌==◌, ℕ, Bool, true, false, List, [], ◌∷◌}
use Rattle.std.specs.Prelude.{◌++◌, ◌||◌, Option, Some, None, IsSome, is_some, option_map, bytes_eq}
use Rattle.std.specs.Prelude.{if◌then◌else◌}
use Rattle.dali_folder.specs.Events.{Event, Creates, Writes, Syncs, Renames, Removes, SyncsFolder}

-- WHAT NAMES HAVE: each a file with these bytes, or nothing
abbrev pub Names : Type 0
Names = List ℕ → Option (List ℕ)

-- one name has this, the others what they had
abbrev pub put : {X : Type 0} → List ℕ → X → (List ℕ → X) → List ℕ → X
put name it names other = if bytes_eq other name then it else names other

-- a file has another name; if there is none, nothing changes
abbrev pub moving : Option (List ℕ) → List ℕ → List ℕ → Names → Names
moving None from to names = names
moving (Some file) from to names = put to (Some file) (put from None names)

abbrev pub moved : List ℕ → List ℕ → Names → Names
moved from to names = moving (names from) from to names

abbrev pub IsSame : Names → Names → Type 0
IsSame now was = (name : List ℕ) → now name ≡ was name

-- the same, but for names that pass: what has them has no meaning to a later call
abbrev pub AreSame : (List ℕ → Bool) → Names → Names → Type 0
AreSame passing now was = (name : List ℕ) → passing name ≡ false → now name ≡ was name

abbrev pub IsEither : (List ℕ → Bool) → Names → Names → Names → Type 0
IsEither passing now before after = AreSame passing now before ⊎ AreSame passing now after

-- the folder of a name: all up to the last `/`
abbrev pub has_slash : List ℕ → Bool
has_slash [] = false
has_slash (c ∷ more) = (c == 47) || has_slash more

abbrev pub folder_of : List ℕ → List ℕ
folder_of [] = []
folder_of (c ∷ more) = if has_slash (c ∷ more) then c ∷ folder_of more else []

-- FOLDERS: what each name has, as programs see it; whether the bytes of its file are on the disk,
-- and that the file has the name; and what a crash at this moment leaves. The last is not known
-- from what was done: it is any of what may be.
pub record Folders : Type 0 where
  pub holds : Names
  pub is_synced : List ℕ → Bool
  pub is_settled : List ℕ → Bool
  pub disk : Names

-- all is on the disk, but for names that pass
pub record IsSettled (passing : List ℕ → Bool) (folders : Folders) : Type 0 where
  pub bytes : (name : List ℕ) → passing name ≡ false → folders.is_synced name ≡ true
  pub names : (name : List ℕ) → passing name ≡ false → folders.is_settled name ≡ true
  pub disk : AreSame passing folders.disk folders.holds

-- all but what was done in the folder of a name
pub record IsPending (passing : List ℕ → Bool) (place : List ℕ) (folders : Folders) : Type 0 where
  pub bytes : (name : List ℕ) → passing name ≡ false → folders.is_synced name ≡ true
  pub names : (name : List ℕ) → passing name ≡ false → folder_of name ≢ folder_of place
      → folders.is_settled name ≡ true
  pub disk : (name : List ℕ) → passing name ≡ false → folder_of name ≢ folder_of place
      → folders.disk name ≡ folders.holds name

-- A STOP leaves names as before or as after: of programs (a kill), and of the disk (a crash)
pub record IsLeft (passing : List ℕ → Bool) (place : List ℕ) (before after : Names)
    (folders : Folders) : Type 0 where
  pub pending : IsPending passing place folders
  pub holds : IsEither passing folders.holds before after
  pub disk : IsEither passing folders.disk before after

-- as it is after a crash that left this
abbrev pub restarted : Names → Folders
restarted names =
    record { holds = names; is_synced = λ _. true; is_settled = λ _. true; disk = names }

-- WHAT PROGRAMS SEE after an event
abbrev pub held_after : Event → Folders → Names
held_after (Creates name) was = put name (Some []) was.holds
held_after (Writes name bytes) was =
    put name (option_map (λ file. file ++ bytes) (was.holds name)) was.holds
held_after (Renames from to) was = moved from to was.holds
held_after (Removes name) was = put name None was.holds
held_after _ was = was.holds

-- whose bytes are on the disk then
abbrev pub synced_after : Event → Folders → List ℕ → Bool
synced_after (Creates name) was = put name false was.is_synced
synced_after (Writes name bytes) was = put name false was.is_synced
synced_after (Syncs name) was = put name true was.is_synced
synced_after (Renames from to) was =
    if is_some (was.holds from)
    then put to (was.is_synced from) (put from true was.is_synced)
    else was.is_synced
synced_after (Removes name) was = put name true was.is_synced
synced_after _ was = was.is_synced

-- which names are on the disk then
abbrev pub settled_beside : List ℕ → (List ℕ → Bool) → List ℕ → Bool
settled_beside name settled other =
    if bytes_eq (folder_of other) (folder_of name) then true else settled other

abbrev pub settled_after : Event → Folders → List ℕ → Bool
settled_after (Creates name) was = put name false was.is_settled
settled_after (Renames from to) was = put to false (put from false was.is_settled)
settled_after (Removes name) was = put name false was.is_settled
settled_after (SyncsFolder name) was = settled_beside name was.is_settled
settled_after _ was = was.is_settled

-- the file of a name as the disk may have it: what was not synced has any bytes
abbrev pub MayBe : Folders → List ℕ → Option (List ℕ) → Type 0
MayBe was name file =
    (IsSome file ↔ IsSome (was.holds name))
    × (was.is_synced name ≡ true → file ≡ was.holds name)

-- what a crash leaves while a file is written: under its name, and under those that it may still
-- have on the disk, anything
abbrev pub MayBeWritten : List ℕ → Folders → Names → Type 0
MayBeWritten name was disk =
    (other : List ℕ) → other ≢ name → was.is_settled other ≡ true → disk other ≡ was.disk other

-- WHAT A CRASH LEAVES after an event, by what one had left before it
abbrev pub MayLeave : Event → Folders → Names → Type 0
MayLeave (Creates name) was disk = MayBeWritten name was disk
MayLeave (Writes name bytes) was disk = MayBeWritten name was disk
MayLeave (Renames from to) was disk =
    IsSame disk was.disk
    ⊎ ((file : Option (List ℕ))
    × MayBe was from file
    × IsSame disk (moving file from to was.disk))
MayLeave (Removes name) was disk = IsSame disk was.disk ⊎ IsSame disk (put name None was.disk)
MayLeave (SyncsFolder name) was disk =
    (other : List ℕ)
    → (folder_of other ≡ folder_of name → MayBe was other (disk other))
    × (folder_of other ≢ folder_of name → disk other ≡ was.disk other)
MayLeave _ was disk = IsSame disk was.disk

-- AN EVENT HAPPENS, from folders before it to those after it
pub record Happens (event : Event) (was now : Folders) : Type 0 where
  pub holds : now.holds ≡ held_after event was
  pub bytes : now.is_synced ≡ synced_after event was
  pub names : now.is_settled ≡ settled_after event was
  pub disk : MayLeave event was now.disk

-- these events happen, in this order and no other
abbrev pub Happen : List Event → Folders → Folders → Type 0
Happen [] was now = was ≡ now
Happen (event ∷ more) was now = (at : Folders) × Happens event was at × Happen more at now
