use Rattle.std.specs.Prelude.{◌≡◌, ◌≢◌, ◌⊎◌, ◌++◌, ℕ, true, List, Option, Some, None, is_some}
use Rattle.std.specs.Prelude.{[], codes}
use Rattle.dali_commission_stores.specs.Calls.{Call, Wrote, Renamed, Likened, Removed, Synced}
use Rattle.dali_commission_stores.specs.Calls.{Opened, Closed, Alone}
use Rattle.dali_commission_stores.specs.Calls.{Look, Has, Text, Lies, Read}

-- A FOLDER: what a name has, if something has it
abbrev pub Folder : Type 0
Folder = List ℕ → Option (List ℕ)

-- each name has what it had
abbrev pub IsSame : Folder → Folder → Type 0
IsSame x y = (at : List ℕ) → y at ≡ x at

-- RECORDS ARE USED: the file, and its log, may have anything then
abbrev pub IsUsed : List ℕ → Folder → Folder → Type 0
IsUsed name x y = (at : List ℕ) → at ≢ name → at ≢ name ++ codes "-wal" → y at ≡ x at

-- WHAT A CALL THAT ENDS WELL DOES to a folder: each name that it does not name has what it had
abbrev pub IsAfter : Call → Folder → Folder → Type 0
IsAfter (Wrote name text) x y =
    (y name ≡ Some text) × ((at : List ℕ) → at ≢ name → y at ≡ x at)
IsAfter (Renamed from to) x y =
    (is_some (x from) ≡ true)
    × (y from ≡ None)
    × (y to ≡ x from)
    × ((at : List ℕ) → at ≢ from → at ≢ to → y at ≡ x at)
IsAfter (Likened name to) x y = IsSame x y
IsAfter (Removed name) x y = (y name ≡ None) × ((at : List ℕ) → at ≢ name → y at ≡ x at)
IsAfter (Synced name) x y = IsSame x y
IsAfter (Opened name) x y = IsUsed name x y
IsAfter (Closed name) x y = IsUsed name x y

-- A LOOK IS TRUE of a folder: what has no file has no records. What links lead where, and what
-- records a file has, is no part of it.
abbrev pub IsTrueOf : Look → Folder → Type 0
IsTrueOf (Has name answer) x = answer ≡ is_some (x name)
IsTrueOf (Text name text) x = text ≡ x name
IsTrueOf (Lies name at) x = Unit {0}
IsTrueOf (Read name kept) x = x name ≡ None → (kept.reserved ≡ []) × (kept.enrolled ≡ [])
IsTrueOf (Alone name) x = Unit {0}

-- WHAT A STOP WITHIN A CALL LEAVES: the folder as it was before the call, or as after it
abbrev pub Leaves : Call → Folder → Folder → Type 0
Leaves call x y = IsSame x y ⊎ IsAfter call x y
