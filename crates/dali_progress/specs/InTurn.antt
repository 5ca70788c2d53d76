use Rattle.std.specs.Prelude.{◌≡◌, ◌⊎◌, ℕ, ◌+◌, ◌≤◌, Bool, true, List, [], ◌∷◌, length, Some}
use Rattle.dali_arbiter.specs.Arbiter.{idle}
use Rattle.dali_frame.specs.Random.{MASK24}
use Rattle.dali_gear.specs.Gear.{Gear}
use Rattle.dali_script.specs.Records.{Assignment, Has, IsOnce, InBlock}
use Rattle.dali_script.specs.declared.orders.End.{End}
use Rattle.dali_script.specs.declared.orders.End.TheVariants.{AllFound}
use Rattle.dali_events.specs.declared.event.Event.{Event}
use Rattle.dali_events.specs.declared.event.Event.TheVariants as event
use Rattle.dali_events.specs.Allowed.{Allowed}
use Rattle.dali_events.specs.Plan.{Plan, block_at}
use Rattle.dali_events.specs.Runs.{IsRun}
use Rattle.dali_events.specs.Wanted.{OfPowered}
use Rattle.dali_world.specs.Site.{SiteState, world, site_logged}
use Rattle.dali_progress.specs.Replaced.{IsVacant}
use Rattle.dali_progress.specs.Rounds.{Rounds, site_after, frames, bare, HasEnded, IsSettledOn}

-- ONE CONTROLLER AFTER THE OTHER.

-- NOTHING WAITS: no request, of any controller, and the bus has no owner.
pub record IsStill (s : SiteState) : Type 0 where
  pub run : IsRun s.plan s.queue s.log
  pub bus : (world s).bus ≡ idle s.queue
  pub trace : (world s).trace ≡ []

-- A TURN: the controller comes up, with the outstanding record or without it, surveys in these
-- rounds, ends so, and goes down.
pub record Turn : Type 0 where
  pub controller : ℕ
  pub kept : Bool
  pub rounds : List Event
  pub end : End

-- the site once the controller is up, once it has ended, and once it is down
abbrev pub brought : SiteState → Turn → SiteState
brought s t = site_logged s (event.Up t.controller t.kept)

abbrev pub surveyed : SiteState → Turn → SiteState
surveyed s t = site_after (brought s t) t.rounds

abbrev pub left_by : SiteState → Turn → SiteState
left_by s t = site_logged (surveyed s t) (event.Down t.controller)

pub record TakesTurn (s : SiteState) (t : Turn) : Type 0 where
  pub up : Allowed (world s) (event.Up t.controller t.kept)
  pub rounds : Rounds true (brought s t) t.controller t.rounds
  pub ended : HasEnded (surveyed s t) t.controller t.end

-- turns, one after the other
abbrev pub TakeTurns : SiteState → List Turn → Type 0
TakeTurns s [] = Unit {0}
TakeTurns s (t ∷ ts) = TakesTurn s t × TakeTurns (left_by s t) ts

abbrev pub after_turns : SiteState → List Turn → SiteState
after_turns s [] = s
after_turns s (t ∷ ts) = after_turns (left_by s t) ts

abbrev pub turn_frames : List Turn → ℕ
turn_frames [] = 0
turn_frames (t ∷ ts) = frames t.rounds + turn_frames ts

-- one of them ended with all-found
abbrev pub HasFoundAll : List Turn → Type 0
HasFoundAll [] = ⊥
HasFoundAll (t ∷ ts) = (t.end ≡ AllFound) ⊎ HasFoundAll ts

-- what each controller has reserved of a short address is enrolled, once it comes up
abbrev pub AreSettledOn : SiteState → List Turn → ℕ → Type 0
AreSettledOn s [] a = Unit {0}
AreSettledOn s (t ∷ ts) a =
    IsSettledOn (brought s t) t.controller a × AreSettledOn (left_by s t) ts a

-- ADDRESSES ENOUGH: so many of their blocks are vacant, and not reserved for a gear that is gone,
-- as gear have power and no short address.
abbrev pub IsOfTurns : Plan → List Turn → ℕ → Type 0
IsOfTurns p [] a = ⊥
IsOfTurns p (t ∷ ts) a = InBlock (block_at p t.controller) a ⊎ IsOfTurns p ts a

pub record HaveVacant (s : SiteState) (ts : List Turn) : Type 0 where
  pub addresses : List ℕ
  pub once : IsOnce addresses
  pub within : (a : ℕ) → Has addresses a → IsOfTurns s.plan ts a
  pub vacant : (a : ℕ) → Has addresses a → IsVacant s a
  pub settled : (a : ℕ) → Has addresses a → AreSettledOn s ts a
  pub enough : bare s ≤ length addresses

-- A TABLE NAMES each gear with power that has a short address and a number that gear draw.
abbrev pub AllAreNamed : List Assignment → List Gear → Type 0
AllAreNamed entries gs =
    OfPowered gs (λ g. (a : ℕ) → g.short ≡ Some a → (g.random ≡ MASK24 → ⊥)
    → Has entries (a, g.random))
