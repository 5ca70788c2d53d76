use Rattle.std.specs.Prelude.{◌≡◌, ◌⊎◌, ℕ, Bool, List, [], ◌∷◌, ◌++◌, Option, Result, Ok, Err}

-- A CALL OF THE SYSTEM that changes something in folders, with the names of files there. By POSIX:
-- `open` with O_CREAT and O_TRUNC; `write` behind what the file has; `fsync` of it; `rename` from
-- one name to another; `unlink`; `fsync` of the folder in which a name lies; `chmod` of one name,
-- as another has it.
pub data Event : Type 0 where
  Creates : List ℕ → Event
  Writes : List ℕ → List ℕ → Event
  Syncs : List ℕ → Event
  Renames : List ℕ → List ℕ → Event
  Removes : List ℕ → Event
  SyncsFolder : List ℕ → Event
  Likens : List ℕ → List ℕ → Event

-- A LOOK at folders, with its answer: whether something has a name; what a file has, if it is there
pub data Sight : Type 0 where
  Has : List ℕ → Bool → Sight
  Reads : List ℕ → Option (List ℕ) → Sight

-- these were done, in this order and no other, by what tells that one was
abbrev pub AreDone : {F : Type 0} → (F → F → Event → Type 0) → List Event → F → F → Type 0
AreDone did [] x y = x ≡ y
AreDone did (event ∷ more) x y = (z : _) × did x z event × AreDone did more z y

-- AN EVENT IN PART: the event itself, or a beginning of what it writes
abbrev pub IsPart : Event → Event → Type 0
IsPart part event =
    (part ≡ event)
    ⊎ ((name : List ℕ)
    × (written : List ℕ)
    × (more : List ℕ)
    × (part ≡ Writes name written)
    × (event ≡ Writes name (written ++ more)))

-- A BEGINNING OF SOME EVENTS, the last of them in part
abbrev pub AreBegun : List Event → List Event → Type 0
AreBegun [] events = Unit {0}
AreBegun (part ∷ begun) [] = ⊥
AreBegun (part ∷ begun) (event ∷ events) =
    ((part ≡ event) × AreBegun begun events) ⊎ ((begun ≡ []) × IsPart part event)

abbrev pub HaveBegun : {F : Type 0} → (F → F → Event → Type 0) → List Event → F → F → Type 0
HaveBegun did events x y = (begun : List Event) × AreBegun begun events × AreDone did begun x y

-- ALL IS DONE; or what the result refuses has only begun
abbrev pub AreTried : {F T E : Type 0} → (F → F → Event → Type 0) → List Event → F → F → Result T E
    → Type 0
AreTried did events x y (Ok _) = AreDone did events x y
AreTried did events x y (Err _) = HaveBegun did events x y

-- A TEXT IS WRITTEN to a file of another name, which is then given the name
abbrev pub writing : List ℕ → List ℕ → List ℕ → List Event
writing part name text =
    Creates part
    ∷ Writes part text
    ∷ Syncs part
    ∷ Renames part name
    ∷ SyncsFolder name
    ∷ []

-- a file is removed
abbrev pub removing : List ℕ → List Event
removing name = Removes name ∷ SyncsFolder name ∷ []

-- a file gets another name, once a log that was left there is removed
abbrev pub renaming : List ℕ → List ℕ → List ℕ → List Event
renaming log from to = removing log ++ Renames from to ∷ SyncsFolder to ∷ []
