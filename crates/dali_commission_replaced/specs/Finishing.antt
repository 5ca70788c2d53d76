use Rattle.std.specs.Prelude.{◌≡◌, ◌⊎◌, ℕ, ◌==◌, ◌&&◌, Bool, if◌then◌else◌, List, [], ◌∷◌}
use Rattle.std.specs.Prelude.{Option, Some, None, string_bytes}
use Rattle.std.specs.declared.alloc.Global.{Global}
use Rattle.std.specs.declared.string.String.{String}
use Rattle.dali_replacement.specs.declared.swapping.Swap.{Swap}
use Rattle.dali_replacement.specs.Swapping.{address_of}
use Rattle.dali_commission_said.specs.declared.said.Said.{Said}
use Rattle.dali_commission_stores.specs.Calls.{Call, Look}
use Rattle.dali_commission_stores.specs.Seen.{IsFound}
use Rattle.dali_commission_stores.specs.Settled.{IsSettled, IsSettledInPart, IsAlone}
use Rattle.dali_commission_replaced.specs.Tellings.{FinishTold}

-- A SWAP OF AN EARLIER CALL IS BROUGHT TO ITS END, or taken back, and which is said. It is answered
-- if it is of a short address and its files are exchanged now.
abbrev pub finished_as : ℕ → Swap → Bool → Option Swap
finished_as a swap is_done = if is_done && (address_of swap == a) then Some swap else None

abbrev pub IsFinished : {F : Type 0} → (F → F → Call → Type 0) → (F → Look → Type 0)
    → (Said → Type 0) → ℕ → Swap → F → F → Option Swap → Type 0
IsFinished made saw told a swap x y answer =
    (is_done : Bool)
    × IsAlone saw swap x
    × IsSettled made saw swap x y is_done
    × FinishTold told (address_of swap) is_done
    × (answer ≡ finished_as a swap is_done)

-- so it is with the swap of which a journal was found beside a file; or there is none
abbrev pub IsFoundSo : {F : Type 0} → (F → F → Call → Type 0) → (F → Look → Type 0)
    → (Said → Type 0) → ℕ → List ℕ → F → F → Option Swap → Type 0
IsFoundSo made saw told a name x y answer =
    (IsFound saw x name None × (x ≡ y) × (answer ≡ None))
    ⊎ ((swap : Swap)
    × IsFound saw x name (Some swap)
    × IsFinished made saw told a swap x y answer)

-- and so beside each of some files, one after the other: the last swap that is answered is answered
abbrev pub last_of : Option Swap → Option Swap → Option Swap
last_of first None = first
last_of first (Some later) = Some later

abbrev pub AreFinished : {F : Type 0} → (F → F → Call → Type 0) → (F → Look → Type 0)
    → (Said → Type 0) → ℕ → List (String Global) → F → F → Option Swap → Type 0
AreFinished made saw told a [] x y answer = (x ≡ y) × (answer ≡ None)
AreFinished made saw told a (name ∷ more) x y answer =
    (z : _)
    × (first : Option Swap)
    × (later : Option Swap)
    × IsFoundSo made saw told a (string_bytes name) x z first
    × AreFinished made saw told a more z y later
    × (answer ≡ last_of first later)

-- AN EXCHANGE THAT FAILS is done in part, and none of those behind it is looked for
abbrev pub IsFoundInPart : {F : Type 0} (made began : F → F → Call → Type 0) → (F → Look → Type 0)
    → List ℕ → F → F → Type 0
IsFoundInPart made began saw name x y =
    (x ≡ y)
    ⊎ ((swap : Swap)
    × IsFound saw x name (Some swap)
    × IsSettledInPart made began saw swap x y)

abbrev pub AreFinishedInPart : {F : Type 0} (made began : F → F → Call → Type 0)
    → (F → Look → Type 0) → (Said → Type 0) → ℕ → List (String Global) → F → F → Type 0
AreFinishedInPart made began saw told a [] x y = ⊥
AreFinishedInPart made began saw told a (name ∷ more) x y =
    IsFoundInPart made began saw (string_bytes name) x y
    ⊎ ((z : _)
    × (first : Option Swap)
    × IsFoundSo made saw told a (string_bytes name) x z first
    × AreFinishedInPart made began saw told a more z y)
