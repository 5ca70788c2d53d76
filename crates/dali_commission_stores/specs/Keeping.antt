use Rattle.std.specs.Prelude.{◌≡◌, ◌≢◌, ◌⊎◌, ℕ, false, List, [], ◌∷◌, ◌++◌}
use Rattle.std.specs.Prelude.{codes, decimal, string_bytes}
use Rattle.std.specs.declared.alloc.Global.{Global}
use Rattle.std.specs.declared.string.String.{String}
use Rattle.dali_commission_stores.specs.Calls.{Look, Call, Renamed, AreMade}
use Rattle.dali_commission_stores.specs.Calls as look
use Rattle.dali_commission_stores.specs.Lent.{lent_calls}
use Rattle.dali_commission_stores.specs.Settling.{new_at, kept_at}
use Rattle.std.specs.Borrow.{Bor}
use Rattle.dali_commission_said.specs.declared.said.Said.{Said}
use Rattle.dali_commission_said.specs.declared.said.Said.TheVariants as said

abbrev pub aside_at : List ℕ → ℕ → List ℕ
aside_at name number = name ++ (codes ".aside-" ++ decimal number)

-- a name does not lie at a place; and none of some names does
abbrev pub LiesElsewhere : {F : Type 0} → (F → Look → Type 0) → F → List ℕ → List ℕ → Type 0
LiesElsewhere saw x place name = (at : List ℕ) × saw x (look.Lies name at) × (at ≢ place)

abbrev pub LieElsewhere : {F : Type 0} → (F → Look → Type 0) → F → List ℕ → List (String Global)
    → Type 0
LieElsewhere saw x place [] = Unit {0}
LieElsewhere saw x place (name ∷ more) =
    LiesElsewhere saw x place (string_bytes name) × LieElsewhere saw x place more

-- a number under which no old file of some names is kept, and none of some others lies
abbrev pub AreFree : {F : Type 0} → (F → Look → Type 0) → F → List (String Global) → ℕ
    → List (String Global) → Type 0
AreFree saw x others number [] = Unit {0}
AreFree saw x others number (name ∷ more) =
    saw x (look.Has (kept_at (string_bytes name) number) false)
    × LieElsewhere saw x (kept_at (string_bytes name) number) others
    × AreFree saw x others number more

-- WHERE OLD FILES ARE KEPT is said of each; what is said is borrowed from what has these bytes
abbrev pub KeptTold : (Said → Type 0) → List ℕ → List ℕ → Type 0
KeptTold told name kept =
    (at : Bor (List ℕ))
    × (aside : Bor (List ℕ))
    × (at.now ≡ name)
    × (aside.now ≡ kept)
    × told (said.KeptAs at aside)

abbrev pub AreKeptTold : (Said → Type 0) → ℕ → List (String Global) → Type 0
AreKeptTold told number [] = Unit {0}
AreKeptTold told number (name ∷ more) =
    KeptTold told (string_bytes name) (kept_at (string_bytes name) number)
    × AreKeptTold told number more

-- A NEW FILE IS PUT ASIDE under a name that nothing has, once its records were opened and closed:
-- then nothing of them lies in a log. That is said, by these bytes. Or there is none.
abbrev pub aside_calls : List ℕ → List ℕ → List Call
aside_calls new aside = lent_calls new ++ Renamed new aside ∷ []

abbrev pub AsideTold : (Said → Type 0) → List ℕ → List ℕ → Type 0
AsideTold told new aside =
    (from : Bor (List ℕ))
    × (to : Bor (List ℕ))
    × (from.now ≡ new)
    × (to.now ≡ aside)
    × told (said.Aside from to)

abbrev pub IsAside : {F : Type 0} → (F → F → Call → Type 0) → (F → Look → Type 0)
    → (Said → Type 0) → List ℕ → F → F → Type 0
IsAside made saw told name x y =
    (saw x (look.Has (new_at name) false) × (x ≡ y))
    ⊎ ((number : ℕ)
    × saw x (look.Has (aside_at name number) false)
    × AreMade made (aside_calls (new_at name) (aside_at name number)) x y
    × AsideTold told (new_at name) (aside_at name number))
