use Rattle.std.specs.Prelude.{◌≡◌, ◌≢◌, ◌⊎◌, ℕ, zero, suc, Bool, true, false, if◌then◌else◌, List}
use Rattle.std.specs.Prelude.{[], ◌∷◌, None, IsSome}
use Rattle.std.specs.declared.alloc.Global.{Global}
use Rattle.std.specs.declared.string.String.{String}
use Rattle.dali_folder.specs.Events.{Event, Likens, SyncsFolder, AreBegun, writing, removing}
use Rattle.dali_folder.specs.Events.{renaming}
use Rattle.dali_folder.specs.Folder.{Names, Folders, Happen, restarted, folder_of}
use Rattle.dali_replacement.specs.declared.swapping.Swap.{Swap}
use Rattle.dali_replacement.specs.Swapping.{number_of}
use Rattle.dali_commission_stores.specs.Calls.{Call, Wrote, Renamed, Likened, Removed, Synced}
use Rattle.dali_commission_stores.specs.Calls.{Opened, Closed, Look}
use Rattle.dali_commission_stores.specs.Settled.{IsSettled, IsExchanged}
use Rattle.dali_commission_stores.specs.Settling.{new_at, journal_at, kept_at, IsNamed}
use Rattle.dali_commission_cleared.specs.Clearing.{AreFilled, AreRenamed}
use Rattle.dali_folder_laws.specs.Folder.{Folder, IsTrueOf}

-- A FOLDER OF THE SYSTEM, but for names that have something only while a call is made: a part of a
-- text that is written, or a log
abbrev pub but_for : (List ℕ → Bool) → Names → Folder
but_for passing names at = if passing at then None else names at

-- WHAT A CALL ASKS of the system, in this order
abbrev pub asked_by : (part log : List ℕ → List ℕ) → Call → List Event
asked_by part log (Wrote name text) = writing (part name) name text
asked_by part log (Renamed from to) = renaming (log to) from to
asked_by part log (Likened name to) = Likens name to ∷ []
asked_by part log (Removed name) = removing name
asked_by part log (Synced name) = SyncsFolder name ∷ []
asked_by part log (Opened name) = []
asked_by part log (Closed name) = []

-- such names belong to these; a file is renamed within its folder, and no records are opened
abbrev pub AreFit : (List ℕ → Bool) → (part log : List ℕ → List ℕ) → Call → Type 0
AreFit passing part log (Wrote name text) = (passing name ≡ false) × (passing (part name) ≡ true)
AreFit passing part log (Renamed from to) =
    (passing from ≡ false)
    × (passing to ≡ false)
    × (passing (log to) ≡ true)
    × (from ≢ to)
    × (folder_of from ≡ folder_of to)
AreFit passing part log (Likened name to) = Unit {0}
AreFit passing part log (Removed name) = passing name ≡ false
AreFit passing part log (Synced name) = Unit {0}
AreFit passing part log (Opened name) = ⊥
AreFit passing part log (Closed name) = ⊥

-- what is renamed is there
abbrev pub IsThere : Call → Names → Type 0
IsThere (Renamed from to) names = IsSome (names from)
IsThere _ names = Unit {0}

-- A MACHINE that runs a program: whether it runs still, and its folders. It may stop within what a
-- call asks of it: the program is killed, and the next one goes on from what programs see then; or
-- the system stops, and starts anew from what its disk has.
pub record Machine : Type 0 where
  pub runs : Bool
  pub folders : Folders

abbrev pub booted : Folders → Machine
booted x = record { runs = true; folders = x }

abbrev pub HasAsked : (part log : List ℕ → List ℕ) → Bool → Bool → Folders → Folders → Call → Type 0
HasAsked part log true true x y call =
    IsThere call x.holds × Happen (asked_by part log call) x y
HasAsked part log true false x y call =
    (begun : List Event)
    × (at : Folders)
    × AreBegun begun (asked_by part log call)
    × Happen begun x at
    × ((y ≡ at) ⊎ (y ≡ restarted at.disk))
HasAsked part log false true x y call = ⊥
HasAsked part log false false x y call = x ≡ y

abbrev pub Asks : (part log : List ℕ → List ℕ) → Machine → Machine → Call → Type 0
Asks part log x y call = HasAsked part log x.runs y.runs x.folders y.folders call

abbrev pub Looks : Machine → Look → Type 0
Looks x look = x.runs ≡ true → IsTrueOf look x.folders.holds

-- WHAT IS BESIDE THE FILES of a swap fits: only a part of a journal passes, and a log; and a file
-- is kept in its folder
abbrev pub IsFit : (List ℕ → Bool) → (part log : List ℕ → List ℕ) → ℕ → List ℕ → Type 0
IsFit passing part log number name =
    AreFit passing part log (Wrote (journal_at name) [])
    × AreFit passing part log (Renamed name (kept_at name number))
    × AreFit passing part log (Renamed (new_at name) name)

abbrev pub Fits : (List ℕ → Bool) → (part log : List ℕ → List ℕ) → Swap → Type 0
Fits passing part log swap =
    (i : ℕ) (name : List ℕ) → IsNamed swap i name → IsFit passing part log (number_of swap) name

-- a machine settles an exchange; and so many do, one after the other
abbrev pub MachineSettles : (part log : List ℕ → List ℕ) → Swap → Folders → Machine → Bool → Type 0
MachineSettles part log swap x y done = IsSettled (Asks part log) Looks swap (booted x) y done

abbrev pub MachinesSettle : (part log : List ℕ → List ℕ) → Swap → ℕ → Folders → Folders → Type 0
MachinesSettle part log swap zero x y = x ≡ y
MachinesSettle part log swap (suc more) x y =
    (z : Machine)
    × (done : Bool)
    × MachineSettles part log swap x z done
    × MachinesSettle part log swap more z.folders y

abbrev pub MachineExchanges : (part log : List ℕ → List ℕ) → Swap → Folders → Machine → Type 0
MachineExchanges part log swap x y = IsExchanged (Asks part log) Looks swap (booted x) y

-- a machine puts files aside, each of which is kept in its folder
abbrev pub MachinePutsAside : (part log : List ℕ → List ℕ) → List (String Global)
    → List (String Global) → ℕ → Folders → Machine → Type 0
MachinePutsAside part log records names number x y =
    AreFilled Looks (booted x) [] records names
    × AreRenamed (Asks part log) Looks records names number (booted x) y

abbrev pub AllFit : (List ℕ → Bool) → (part log : List ℕ → List ℕ) → List Call → Type 0
AllFit passing part log [] = Unit {0}
AllFit passing part log (call ∷ more) = AreFit passing part log call × AllFit passing part log more
