use Rattle.std.specs.Prelude.{◌≡◌, ◌⊎◌, ℕ, zero, suc, List, [], ◌∷◌, ◌++◌, Some, None}
use Rattle.std.specs.Prelude.{string_bytes}
use Rattle.std.specs.declared.alloc.Global.{Global}
use Rattle.std.specs.declared.string.String.{String}
use Rattle.dali_commission_stores.specs.Calls.{Renamed}
use Rattle.dali_commission_stores.specs.Keeping.{aside_at}
use Rattle.dali_commission_stores.specs.Settling.{new_at, kept_at}
use Rattle.dali_commission_cleared.specs.Clearing.{AreFilled, AreRenamed}
use Rattle.dali_folder_laws.specs.Folder.{Folder, IsSame, IsUsed, IsAfter}
use Rattle.dali_folder_laws.specs.Stops.{Program, starting, Makes, Sees}

-- A PROGRAM PUTS FILES ASIDE, those that are there and not empty, and may be stopped
abbrev pub PutsAside : List (String Global) → List (String Global) → ℕ → Folder → Program → Type 0
PutsAside records names number x y =
    AreFilled Sees (starting x) [] records names
    × AreRenamed Makes Sees records names number (starting x) y

-- none of these names has anything
abbrev pub AreAway : List (String Global) → Folder → Type 0
AreAway [] x = Unit {0}
AreAway (name ∷ more) x = (x (string_bytes name) ≡ None) × AreAway more x

-- WHAT A NAME HAD it has still; or it has nothing, and the name under which it is kept, which had
-- nothing, has it
abbrev pub HasStill : ℕ → Folder → Folder → List ℕ → List ℕ → Type 0
HasStill number x y at had =
    (y at ≡ Some had)
    ⊎ ((y at ≡ None) × (x (kept_at at number) ≡ None) × (y (kept_at at number) ≡ Some had))

-- A NEW FILE, once its records were used, lies there still; or it has a name that had nothing
abbrev pub LiesOrAside : List ℕ → Folder → Folder → Type 0
LiesOrAside name x y =
    (z : Folder)
    × IsUsed (new_at name) x z
    × (IsSame z y
    ⊎ ((number : ℕ)
    × (x (aside_at name number) ≡ None)
    × IsAfter (Renamed (new_at name) (aside_at name number)) z y))

-- SO MANY PROGRAMS put files aside, one after the other
abbrev pub PutAsideOften : List (String Global) → ℕ → Folder → Folder → Type 0
PutAsideOften records zero x y = IsSame x y
PutAsideOften records (suc more) x y =
    (names : List (String Global))
    × (number : ℕ)
    × (z : Program)
    × PutsAside records names number x z
    × PutAsideOften records more z.folder y

-- what a name had stands under a name that begins with it
abbrev pub HasBehind : Folder → List ℕ → List ℕ → Type 0
HasBehind y at had = (end : List ℕ) × (y (at ++ end) ≡ Some had)
