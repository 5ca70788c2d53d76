use Rattle.std.specs.Prelude.{◌≡◌, ◌⊎◌, ℕ, ◌<◌, Bool, true, false, List, length, Some}
use Rattle.std.specs.List.{count_by}
use Rattle.dali_frame.specs.Random.{MASK24}
use Rattle.dali_gear.specs.Gear.{Gear}
use Rattle.dali_script.specs.Records.{Assignment, Kept, Has, HasAddress, InBlock, IsFull}
use Rattle.dali_script.specs.declared.orders.Input.{Input}
use Rattle.dali_script.specs.declared.records.Record.{Record}
use Rattle.dali_script.specs.declared.orders.Order.TheVariants.{Commit}
use Rattle.dali_script.specs.declared.orders.End.{End}
use Rattle.dali_script.specs.declared.orders.End.TheVariants.{AllFound, BlockFull, GaveUp}
use Rattle.dali_controller.specs.Shorts.{has_short}
use Rattle.dali_controller.specs.Machine.{Machine}
use Rattle.dali_events.specs.declared.event.Event.{Event}
use Rattle.dali_events.specs.declared.event.Event.TheVariants as event
use Rattle.dali_events.specs.World.{controller_at}
use Rattle.dali_events.specs.Searching.{HasShort}
use Rattle.dali_events.specs.Wanted.{gear_of, is_bare, OfPowered}
use Rattle.dali_world.specs.Site.{SiteState, world, machine_at}
use Rattle.dali_progress.specs.Rounds.{Beginning, ByStart, BySurvey, IsSettledAt}

-- WHAT AN END SAYS, of a controller that is alone on a bus that nothing disturbs.

-- OF A START: that each gear with power has a short address, or that each address of the block is
-- reserved; it never gives up.
abbrev pub EndsWell : End → Kept → List Gear → Type 0
EndsWell AllFound k gs = OfPowered gs HasShort
EndsWell BlockFull k gs = IsFull k.block k.reserved
EndsWell GaveUp k gs = ⊥

-- of a survey: an address is taken, if it is reserved, or in the table, or gear was heard
-- under it who told no number that gear draw
abbrev pub IsTaken : Machine → ℕ → Type 0
IsTaken m a =
    HasAddress m.kept.reserved a
    ⊎ (HasAddress m.kept.enrolled a ⊎ (has_short m.heard a ≡ true))

abbrev pub IsBlockTaken : Machine → Type 0
IsBlockTaken m = (a : ℕ) → InBlock m.kept.block a → IsTaken m a

-- OF A SURVEY. With all-found, each gear with power has a short address. With block-full, some gear
-- with power has none, and each address of the block is taken. It never gives up.
abbrev pub SurveyEndsWell : End → Machine → List Gear → Type 0
SurveyEndsWell AllFound m gs = OfPowered gs HasShort
SurveyEndsWell BlockFull m gs = (0 < count_by is_bare gs) × IsBlockTaken m
SurveyEndsWell GaveUp m gs = ⊥

abbrev pub IsSurveyDone : SiteState → ℕ → End → Type 0
IsSurveyDone s c e =
    (m : Machine) → machine_at s c ≡ Some m → SurveyEndsWell e m (world s).gear

-- AN END IS TRUE, by how the controller began, if the site was once as `before`. After a survey
-- that began with settled records they are settled.
abbrev pub IsTrueEnd : Beginning → SiteState → SiteState → ℕ → End → Type 0
IsTrueEnd ByStart before s c e = EndsWell e (controller_at (world s) c).records (world s).gear
IsTrueEnd BySurvey before s c e =
    IsSurveyDone s c e × (IsSettledAt before c → IsSettledAt s c)

-- ---------------------------------------------------------------- the table

-- THE TABLE of a controller: entries of short and random address
abbrev pub table_at : SiteState → ℕ → List Assignment
table_at s c = (controller_at (world s) c).records.enrolled

-- after a start it names each gear that has a short address, but one that had it before
abbrev pub AreTabled : List Gear → List Assignment → List Gear → Type 0
AreTabled before entries gs =
    (g a : ℕ) → g < length gs → (gear_of gs g).short ≡ Some a
    → ((gear_of before g).short ≡ Some a) ⊎ Has entries (a, (gear_of gs g).random)

-- after a survey it names each gear that has a short address, by any controller; but one that had
-- it at the start and was not to be seen then: it had no power, or no number that gear draw
abbrev pub IsUnseen : Gear → Type 0
IsUnseen g = (g.powered ≡ false) ⊎ (g.random ≡ MASK24)

abbrev pub AreSurveyed : List Gear → List Assignment → List Gear → Type 0
AreSurveyed before entries gs =
    (g a : ℕ) → g < length gs → a < 64 → (gear_of gs g).short ≡ Some a
    → Has entries (a, (gear_of gs g).random)
    ⊎ (((gear_of before g).short ≡ Some a) × IsUnseen (gear_of before g))

-- such a table does so, if the site was once as `before`
abbrev pub NamesAll : Bool → SiteState → List Assignment → SiteState → Type 0
NamesAll false before entries s = AreTabled (world before).gear entries (world s).gear
NamesAll true before entries s = AreSurveyed (world before).gear entries (world s).gear

-- A QUIET SURVEY commits nothing.
abbrev pub CommitsNothing : Event → Type 0
CommitsNothing e = (c : ℕ) (i : Input) (x : Record) → e ≡ event.Acted c i (Commit x) → ⊥
