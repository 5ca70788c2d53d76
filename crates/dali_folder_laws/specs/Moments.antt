use Rattle.std.specs.Prelude.{◌≡◌, ◌≢◌, ◌≤◌, ◌<◌, ℕ, ◌*◌, Bool, if◌then◌else◌, List}
use Rattle.std.specs.Prelude.{length, Option, Some, None}
use Rattle.dali_replacement.specs.declared.swap.Lies.{Lies}
use Rattle.dali_replacement.specs.declared.swapping.Swap.{Swap}
use Rattle.dali_replacement.specs.Swap.{lies_at}
use Rattle.dali_replacement.specs.Swapping.{names_of, number_of, swap_text}
use Rattle.dali_commission_stores.specs.Settling.{new_at, journal_at, kept_at, IsNamed, count_of}
use Rattle.dali_folder_laws.specs.Folder.{Folder}

-- WHAT BELONGS TO A FILE of a swap, each under its own name: the file itself, the new one, the
-- journal, and the old one when it is kept
pub data Part : Type 0 where
  Itself : Part
  New : Part
  Journal : Part
  Old : Part

abbrev pub name_with : Part → List ℕ → ℕ → List ℕ
name_with Itself name number = name
name_with New name number = new_at name
name_with Journal name number = journal_at name
name_with Old name number = kept_at name number

-- a part of the file with number i has this name
abbrev pub IsPart : Swap → ℕ → Part → List ℕ → Type 0
IsPart swap i part at =
    (name : List ℕ) × IsNamed swap i name × (at ≡ name_with part name (number_of swap))

-- ALL NAMES ARE APART: what has the same name is the same part of the same file
abbrev pub AreApart : Swap → Type 0
AreApart swap =
    (i j : ℕ) (p q : Part) (at : List ℕ) → IsPart swap i p at → IsPart swap j q at
    → (i ≡ j) × (p ≡ q)

-- NO TWO FILES have one name, and none has that of another one's new file
abbrev pub Differ : Swap → Type 0
Differ swap =
    (i j : ℕ) (name other : List ℕ) → IsNamed swap i name → IsNamed swap j other
    → (name ≡ other → i ≡ j) × (name ≢ new_at other)

-- A SWAP THAT MAY BEGIN has 64 files at most, whose names are apart
pub record MayBegin (swap : Swap) : Type 0 where
  pub most : length (names_of swap) ≤ 64
  pub apart : AreApart swap

-- what the files of a swap are: old file i, new file i, and the folder in which they lie
pub record Files : Type 0 where
  pub old : ℕ → List ℕ
  pub new : ℕ → List ℕ
  pub beside : Folder

-- A FOLDER IN WHICH THE FILES OF A SWAP ARE SO: the parts of each are these, and each other name
-- has what it had
pub record AreSo (swap : Swap) (files : Files) (has : ℕ → Part → Option (List ℕ)) (x : Folder)
    : Type 0 where
  pub parts : (i : ℕ) (p : Part) (at : List ℕ) → i < count_of swap → IsPart swap i p at
      → x at ≡ has i p
  pub others : (at : List ℕ)
      → ((i : ℕ) (p : Part) → i < count_of swap → IsPart swap i p at → ⊥)
      → x at ≡ files.beside at

-- BEFORE AN EXCHANGE each old file is in its place, and the new one lies beside it; after it the
-- new one is there, and the old one is kept; no journal lies there
abbrev pub before : Files → ℕ → Part → Option (List ℕ)
before files i Itself = Some (files.old i)
before files i New = Some (files.new i)
before files i Journal = None
before files i Old = None

abbrev pub after : Files → ℕ → Part → Option (List ℕ)
after files i Itself = Some (files.new i)
after files i New = None
after files i Journal = None
after files i Old = Some (files.old i)

abbrev pub IsBefore : Swap → Files → Folder → Type 0
IsBefore swap files x = AreSo swap files (before files) x

abbrev pub IsBehind : Swap → Files → Folder → Type 0
IsBehind swap files x = AreSo swap files (after files) x

-- THE FOLDER AT A MOMENT of a swap, by what lies there then: at the place of a file is the old one
-- as long as the new one lies beside it, and then the new one
abbrev pub if_there : Bool → List ℕ → Option (List ℕ)
if_there lies it = if lies then Some it else None

abbrev pub part_of : Lies → (text old new : List ℕ) → Part → Option (List ℕ)
part_of lies text old new Itself = if_there lies.at (if lies.new then old else new)
part_of lies text old new New = if_there lies.new new
part_of lies text old new Journal = if_there lies.journal text
part_of lies text old new Old = if_there lies.kept old

abbrev pub at_moment : Swap → Files → ℕ → ℕ → Part → Option (List ℕ)
at_moment swap files m i p =
    part_of (lies_at (count_of swap) m i) (swap_text swap) (files.old i) (files.new i) p

abbrev pub IsAt : Swap → Files → ℕ → Folder → Type 0
IsAt swap files m x = AreSo swap files (at_moment swap files m) x

-- at one of the moments from the first to the last one
abbrev pub IsAtSome : Swap → Files → Folder → Type 0
IsAtSome swap files x = (m : ℕ) × (m ≤ 4 * count_of swap) × IsAt swap files m x

-- each file has its old bytes, or each its new ones; and beside each lies a journal with the text
-- of the swap
abbrev pub HaveAll : Swap → Part → (ℕ → List ℕ) → Folder → Type 0
HaveAll swap p has x =
    (i : ℕ) (at : List ℕ) → i < count_of swap → IsPart swap i p at → x at ≡ Some (has i)

abbrev pub AllOld : Swap → Files → Folder → Type 0
AllOld swap files x = HaveAll swap Itself files.old x

abbrev pub AllNew : Swap → Files → Folder → Type 0
AllNew swap files x = HaveAll swap Itself files.new x

abbrev pub AllAnnounced : Swap → Folder → Type 0
AllAnnounced swap x = HaveAll swap Journal (λ i. swap_text swap) x
