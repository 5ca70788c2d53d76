use Rattle.std.specs.Prelude.{◌≡◌, ◌⊎◌, ℕ, ◌+◌, ◌*◌, Bool, true, false, List, [], ◌∷◌, Some, None}
use Rattle.std.specs.Prelude.{is_some, if◌then◌else◌}
use Rattle.std.specs.List.{count_by}
use Rattle.dali_special.specs.Command.{command_of}
use Rattle.dali_gear.specs.declared.row.Reach.TheVariants.{Everyone}
use Rattle.dali_gear.specs.Row.{answers_of, heard_of}
use Rattle.dali_arbiter.specs.declared.request.Request.{Request}
use Rattle.dali_arbiter.specs.Arbiter.{idle, total}
use Rattle.dali_script.specs.Records.{Assignment, Kept, Has, without_records}
use Rattle.dali_script.specs.declared.orders.Input.{Input}
use Rattle.dali_script.specs.declared.orders.Input.TheVariants as input
use Rattle.dali_script.specs.declared.orders.Order.TheVariants.{Done}
use Rattle.dali_script.specs.declared.orders.End.{End}
use Rattle.dali_controller.specs.Machine.{at_first}
use Rattle.dali_events.specs.declared.event.Event.{Event}
use Rattle.dali_events.specs.declared.event.Event.TheVariants as event
use Rattle.dali_events.specs.Events.{sending}
use Rattle.dali_events.specs.World.{controller_at}
use Rattle.dali_events.specs.Allowed.{Allowed, IsUp, IsDue}
use Rattle.dali_events.specs.Runs.{IsRun, LeavesUsed}
use Rattle.dali_events.specs.Wanted.{is_bare}
use Rattle.dali_standing.specs.Seats.{MayAnswer, LeavesWhole}
use Rattle.dali_world.specs.Site.{SiteState, world, machine_at, next_request, site_logged}

-- HOW A CONTROLLER BEGINS: by Start, with nothing kept; or by a survey, with any records.
pub data Beginning : Type 0 where
  ByStart : Beginning
  BySurvey : Beginning

-- whether it surveys: what depends on no more than this takes it as `surveys`
abbrev pub by_survey : Beginning → Bool
by_survey ByStart = false
by_survey BySurvey = true

-- ONE CONTROLLER ALONE: it is up, and has just begun, with the records that it keeps; no request
-- waits, of any controller, and the bus has no owner.
pub record IsAlone (s : SiteState) (c : ℕ) : Type 0 where
  pub run : IsRun s.plan s.queue s.log
  pub up : IsUp (world s) c
  pub told : (controller_at (world s) c).told ≡ Some input.Start
  pub last : (controller_at (world s) c).last ≡ None
  pub machine : machine_at s c ≡ Some (at_first c (controller_at (world s) c).records)
  pub bus : (world s).bus ≡ idle s.queue
  pub trace : (world s).trace ≡ []

-- NOTHING KEPT
abbrev pub KeepsNothing : Kept → Type 0
KeepsNothing k = k ≡ without_records k.block

-- SETTLED RECORDS: nothing, or what a survey that ended has left. Each address that is reserved is
-- enrolled so.
abbrev pub IsSettled : Kept → Type 0
IsSettled k = (x : Assignment) → Has k.reserved x → Has k.enrolled x

abbrev pub IsSettledAt : SiteState → ℕ → Type 0
IsSettledAt s c = IsSettled (controller_at (world s) c).records

-- or those of one short address
abbrev pub IsSettledOn : SiteState → ℕ → ℕ → Type 0
IsSettledOn s c a =
    (n : ℕ) → Has (controller_at (world s) c).records.reserved (a, n)
    → Has (controller_at (world s) c).records.enrolled (a, n)

-- IT BEGINS ALONE, in one of the two ways
abbrev pub BeginsAlone : Beginning → SiteState → ℕ → Type 0
BeginsAlone ByStart s c = IsAlone s c × KeepsNothing (controller_at (world s) c).records
BeginsAlone BySurvey s c = IsAlone s c

-- the site once the controller went down and came up again, with the records that it kept
abbrev pub restarted : SiteState → ℕ → SiteState
restarted s c = site_logged (site_logged s (event.Down c)) (event.Up c false)

-- ---------------------------------------------------------------- rounds

-- WHAT A ROUND DOES, if nothing is disturbed and no other controller acts: the controller acts
-- on what is due for it, but reserves no address that used gear have; if Start is due it starts,
-- or surveys; a commit that is due succeeds; and in a survey its machine is whole afterwards. Or
-- the request that is next is sent, every gear with power takes it, and what they answer is heard.
abbrev pub Succeeds : Bool → Input → Type 0
Succeeds surveys input.CommitFailed = ⊥
Succeeds false input.Start = Unit {0}
Succeeds true input.Start = ⊥
Succeeds false input.Survey = ⊥
Succeeds true input.Survey = Unit {0}
Succeeds surveys (input.Heard h) = Unit {0}
Succeeds surveys input.Destroyed = Unit {0}
Succeeds surveys input.Lapsed = Unit {0}
Succeeds surveys input.Committed = Unit {0}

abbrev pub IsOfRound : Bool → SiteState → ℕ → Event → Type 0
IsOfRound surveys s c (event.Acted d i o) =
    (d ≡ c) × Succeeds surveys i × MayAnswer (machine_at s c) i o
    × (surveys ≡ true → LeavesWhole (machine_at s c) i o)
    × LeavesUsed s.plan.used (event.Acted d i o)
IsOfRound surveys s c (event.Sent d f h) =
    (r : Request) × (next_request s ≡ Some r) × (d ≡ r.sender) × (f ≡ r.frame)
    × (h ≡ heard_of (answers_of Everyone (command_of f) 0 (world s).gear))
IsOfRound surveys s c _ = ⊥

-- events, each of which is one that a call of the site adds to its log in a round
abbrev pub Rounds : Bool → SiteState → ℕ → List Event → Type 0
Rounds surveys s c [] = Unit {0}
Rounds surveys s c (e ∷ es) =
    Allowed (world s) e × IsOfRound surveys s c e × Rounds surveys (site_logged s e) c es

-- the site after them
abbrev pub site_after : SiteState → List Event → SiteState
site_after s [] = s
site_after s (e ∷ es) = site_after (site_logged s e) es

-- how many of them are frames on the bus
abbrev pub is_frame : Event → Bool
is_frame e = is_some (sending e)

abbrev pub frames : List Event → ℕ
frames [] = 0
frames (e ∷ es) = (if is_frame e then 1 else 0) + frames es

-- ---------------------------------------------------------------- how many

-- how many gear have power and no short address
abbrev pub bare : SiteState → ℕ
bare s = count_by is_bare (world s).gear

-- HOW MANY FRAMES a controller sends, and how many events come, if n gear are so; at the most
abbrev pub most_frames : Beginning → ℕ → ℕ
most_frames ByStart n = 111 * n + 10
most_frames BySurvey n = 106 * n + 258

abbrev pub most_events : Beginning → ℕ → ℕ
most_events ByStart n = 333 * n + 31
most_events BySurvey n = 318 * n + 775

-- ---------------------------------------------------------------- it goes on

-- the last order of the controller says that it has ended so
abbrev pub HasEnded : SiteState → ℕ → End → Type 0
HasEnded s c e = (controller_at (world s) c).last ≡ Some (Done e)

-- something is due for the controller that may be done, and no request waits; or a request is next
pub record HasDue (surveys : Bool) (s : SiteState) (c : ℕ) : Type 0 where
  pub input : Input
  pub succeeds : Succeeds surveys input
  pub due : IsDue (controller_at (world s) c) input
  pub free : total (world s).bus ≡ 0

abbrev pub HasNext : SiteState → Type 0
HasNext s = (r : Request) × (next_request s ≡ Some r)

-- IT HAS ENDED, OR GOES ON
abbrev pub GoesOn : Bool → SiteState → ℕ → Type 0
GoesOn surveys s c = ((e : End) × HasEnded s c e) ⊎ (HasDue surveys s c ⊎ HasNext s)
