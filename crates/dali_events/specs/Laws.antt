use Rattle.std.specs.Prelude.{◌≡◌, ◌⊎◌, ℕ, ◌<◌, List, length, Some}
use Rattle.dali_script.specs.declared.finding.Finding.{Finding}
use Rattle.dali_script.specs.Findings.{assigned}
use Rattle.dali_script.specs.declared.records.Record.{Record}
use Rattle.dali_script.specs.Records.{Assignment, Has, IsKept, MayAdd, Fits}
use Rattle.dali_events.specs.declared.used.Used.{Used}
use Rattle.dali_events.specs.Plan.{Plan, block_at}
use Rattle.dali_events.specs.World.{World, gear_at, controller_at}
use Rattle.dali_events.specs.Promise.{IsEnrolled, NamesGear, Names}

-- WHAT ELSE THE LAWS SAY OF ONE WORLD.

-- ---------------------------------------------------------------- reservations

-- some controller keeps a reservation of the address for the number
abbrev pub IsReservedFor : World → ℕ → ℕ → Type 0
IsReservedFor w a r =
    (c : ℕ) × (c < length w.controllers) × Has (controller_at w c).records.reserved (a, r)

-- each address that was given is reserved for the random address of its gear
abbrev pub GiftsAreReserved : World → Type 0
GiftsAreReserved w = (g a : ℕ) → Has w.gifts (g, a) → IsReservedFor w a (gear_at w g).random

-- a used gear came with the address and the number
abbrev pub IsOfUsed : List Used → Assignment → Type 0
IsOfUsed us x = (u : Used) × Has us u × ((u.short, u.random) ≡ x)

-- each address that was given is reserved so, or a used gear came with it
abbrev pub GiftsAreOwned : List Used → World → Type 0
GiftsAreOwned us w =
    (g a : ℕ) → Has w.gifts (g, a)
    → IsReservedFor w a (gear_at w g).random ⊎ IsOfUsed us (a, (gear_at w g).random)

-- from a moment on: what a controller has reserved for a gear that was given the address it has
-- reserved later
abbrev pub KeepsReserved : World → World → Type 0
KeepsReserved earlier now =
    (c g a : ℕ) → c < length earlier.controllers → Has earlier.gifts (g, a)
    → Has (controller_at earlier c).records.reserved (a, (gear_at earlier g).random)
    → Has (controller_at now c).records.reserved (a, (gear_at earlier g).random)

-- ---------------------------------------------------------------- tables of enrolled gear

-- two kept enrolments, of one controller or of two, are the same entry if they have one address,
-- one number or one gear
pub record TablesAgree (w : World) : Type 0 where
  pub address : (c d : ℕ) (x y : Assignment) → IsEnrolled w c x → IsEnrolled w d y → x.0 ≡ y.0
      → x ≡ y
  pub number : (c d : ℕ) (x y : Assignment) → IsEnrolled w c x → IsEnrolled w d y → x.1 ≡ y.1
      → x ≡ y
  pub gear : (c d g : ℕ) (x y : Assignment) → IsEnrolled w c x → IsEnrolled w d y → NamesGear w x g
      → NamesGear w y g → x ≡ y

-- ---------------------------------------------------------------- findings

-- the pair of controller c's last finding since it came up
abbrev pub HasFound : World → ℕ → Assignment → Type 0
HasFound w c found =
    (c < length w.controllers)
    × ((x : Finding) × ((controller_at w c).finding ≡ Some x) × (assigned x ≡ found))

-- each finding names a gear, and no kept enrolment, of whichever controller, has its address with
-- another number or its number with another address
pub record FindingsAgree (w : World) : Type 0 where
  pub named : (c : ℕ) (found : Assignment) → HasFound w c found → Names w found
  pub address : (c d : ℕ) (found entry : Assignment) → HasFound w c found → IsEnrolled w d entry
      → found.0 ≡ entry.0 → found ≡ entry
  pub number : (c d : ℕ) (found entry : Assignment) → HasFound w c found → IsEnrolled w d entry
      → found.1 ≡ entry.1 → found ≡ entry

-- ---------------------------------------------------------------- records

-- each controller keeps records of its block, each address and each number once of each kind; and
-- an outstanding record fits them, and may be added to them
pub record KeepsRecords (p : Plan) (w : World) : Type 0 where
  pub block : (c : ℕ) → c < length w.controllers → (controller_at w c).records.block ≡ block_at p c
  pub kept : (c : ℕ) → c < length w.controllers → IsKept (controller_at w c).records
  pub may_add : (c : ℕ) (x : Record) → c < length w.controllers
      → (controller_at w c).outstanding ≡ Some x → MayAdd (controller_at w c).records x
  pub fits : (c : ℕ) (x : Record) → c < length w.controllers
      → (controller_at w c).outstanding ≡ Some x → Fits (controller_at w c).records.block x
