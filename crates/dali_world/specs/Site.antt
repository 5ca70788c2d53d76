use Rattle.std.specs.Prelude.{◌≡◌, ℕ, ◌+◌, ◌<◌, ◌≤◌, ◌⊎◌, Bool, true, false, List, [], ◌∷◌, ◌++◌}
use Rattle.std.specs.Prelude.{length, slice_index_or, Option, Some, None, if◌then◌else◌, IfOk}
use Rattle.std.specs.Prelude.{IfErr, OnOk, OnErr}
use Rattle.std.proofs.Common.{Result}
use Rattle.std.specs.List.{AllByRecursion}
use Rattle.dali_frame.specs.declared.frames.Forward.{Forward}
use Rattle.dali_frame.specs.declared.frames.Answer.{Answer}
use Rattle.dali_frame.specs.declared.numbers.SearchAddress.{SearchAddress}
use Rattle.dali_frame.specs.Random.{value_of, MASK24}
use Rattle.dali_special.specs.Command.{command_of}
use Rattle.dali_gear.specs.declared.gear_set.GearSet.{GearSet}
use Rattle.dali_gear.specs.declared.row.Reach.TheVariants.{Everyone}
use Rattle.dali_gear.specs.Row.{draws_needed, answers_of, heard_of}
use Rattle.dali_arbiter.specs.declared.request.Request.{Request}
use Rattle.dali_arbiter.specs.Arbiter.{total, next, collision}
use Rattle.dali_script.specs.declared.trace.Entry.{Entry}
use Rattle.dali_script.specs.Records.{Kept}
use Rattle.dali_script.specs.Scripts.{IsFront}
use Rattle.dali_script.specs.declared.orders.Input.{Input}
use Rattle.dali_script.specs.declared.orders.Input.TheVariants as input
use Rattle.dali_script.specs.declared.orders.Order.{Order}
use Rattle.dali_script.specs.declared.orders.Order.TheVariants.{Put, Commit, Done, Halt}
use Rattle.dali_script.specs.declared.orders.End.TheVariants.{AllFound}
use Rattle.dali_script.specs.Due.{frame_put}
use Rattle.dali_controller.specs.declared.purpose.Purpose.TheVariants.{Opening, Calling, Closing}
use Rattle.dali_controller.specs.declared.way.Way.TheVariants.{Surveying}
use Rattle.dali_controller.specs.Machine.{Machine}
use Rattle.dali_events.specs.declared.event.Event.{Event}
use Rattle.dali_events.specs.declared.event.Event.TheVariants as event
use Rattle.dali_events.specs.declared.event.Outside.{Outside}
use Rattle.dali_events.specs.declared.event.Outside.TheVariants as outside
use Rattle.dali_events.specs.Events.{event_of, is_step_of}
use Rattle.dali_events.specs.Foreign.{is_foreign}
use Rattle.dali_events.specs.Plan.{Plan}
use Rattle.dali_events.specs.World.{World, Controller, controller_at, start}
use Rattle.dali_events.specs.Happens.{happens, trace_running}
use Rattle.dali_events.specs.Allowed.{Allowed, IsUp, IsDue, IsDown, IsArc}
use Rattle.dali_events.specs.Runs.{after, IsRun, LeavesUsed}
use Rattle.dali_events.specs.Promise.{IsSafeHistory}
use Rattle.dali_events.specs.Calling.{IsClosing, Orders, HasCalled, HasCalledTwice}
use Rattle.dali_events.specs.Calling.{roll_call}
use Rattle.dali_standing.specs.declared.refusal.Refusal.{Refusal}
use Rattle.dali_standing.specs.declared.refusal.Refusal.TheVariants as refusal
use Rattle.dali_events.specs.declared.trouble.Trouble.{Trouble}
use Rattle.dali_events.specs.declared.trouble.Trouble.TheVariants as trouble
use Rattle.dali_standing.specs.declared.report.Report.{Report}
use Rattle.dali_standing.specs.declared.report.Report.TheVariants as report
use Rattle.dali_events.specs.Troubles.{heard_under, reach_under, nobody_at_all}
use Rattle.dali_standing.specs.Seats.{MayAnswer, LeavesWhole, MayReserveUsed, Agrees}
use Rattle.dali_standing.specs.Standing.{Standing, stand_of, machine_in, machines_at}
use Rattle.dali_standing.specs.Standing.{machines_after}

-- A SITE, as contracts see it: its plan, how many requests may wait, how many events its log has
-- room for, and the log. Everything else follows from these.
pub record SiteState : Type 0 where
  pub plan : Plan
  pub queue : ℕ
  pub room : ℕ
  pub log : List Event

-- the world after its log
abbrev pub world : SiteState → World
world s = after s.plan s.queue s.log

-- a site at its start, and with one event more
abbrev pub opened_site : Plan → ℕ → ℕ → SiteState
opened_site p queue room = record { plan = p; queue = queue; room = room; log = [] }

abbrev pub site_logged : SiteState → Event → SiteState
site_logged s e = record { plan = s.plan; queue = s.queue; room = s.room; log = s.log ++ e ∷ [] }

-- ---------------------------------------------------------------- machines, and shares of the log

-- the machines after a list of events
abbrev pub machines_all : World → List (Option Machine) → List Event → List (Option Machine)
machines_all w ms [] = ms
machines_all w ms (e ∷ es) = machines_all (happens w e) (machines_after w ms e) es

abbrev pub machines : SiteState → List (Option Machine)
machines s = machines_all (start s.plan s.queue) (machines_at 0 s.plan.blocks) s.log

-- the machine of controller c: none while it is down
abbrev pub machine_at : SiteState → ℕ → Option Machine
machine_at s c = machine_in (machines s) c

-- THE SHARE of controller c in a log: how many of its events are steps of c
abbrev pub share_of : ℕ → List Event → ℕ
share_of c [] = 0
share_of c (e ∷ es) = (if is_step_of c e then 1 else 0) + share_of c es

-- ---------------------------------------------------------------- what is true of every site

-- OF A SITE IN HAND: its log is a run of the definitions, and its history is safe.
pub record IsSound (s : SiteState) : Type 0 where
  pub run : IsRun s.plan s.queue s.log
  pub safe : IsSafeHistory s.plan s.queue s.log

-- ---------------------------------------------------------------- a survey that has found all

-- controller c has called the roll twice, and no gear was heard; since then it only closes
abbrev pub RollWasCalled : SiteState → ℕ → Type 0
RollWasCalled s c = HasCalledTwice s.plan s.queue IsClosing s.log c

-- its machine's last order, if a roll call runs: the next of its frames, if a frame
abbrev pub IsCalling : SearchAddress → List Entry → Option Order → Type 0
IsCalling n t None = ⊥
IsCalling n t (Some (Put p f)) = IsFront t f (roll_call n) × (value_of n ≡ MASK24)
IsCalling n t (Some (Commit x)) = t ≡ []
IsCalling n t (Some (Done e)) = t ≡ []
IsCalling n t (Some (Halt why)) = t ≡ []

-- this frame was sent after those of its machine, and then c took no step
pub record WasSent (s : SiteState) (c : ℕ) (m : Machine) (f : Forward) (h : Answer) : Type 0 where
  pub front : List Event
  pub rest : List Event
  pub log : s.log ≡ front ++ event.Sent c f h ∷ rest
  pub running : trace_running (after s.plan s.queue front) c ≡ m.trace
  pub since : AllByRecursion (Orders (λ o. ⊥) c) rest

-- the roll was called once; then c took this step, which began a transaction, and stayed up
pub record WasSilent (s : SiteState) (c : ℕ) : Type 0 where
  pub earlier : List Event
  pub input : Input
  pub order : Order
  pub later : List Event
  pub log : s.log ≡ (earlier ++ event.Acted c input order ∷ []) ++ later
  pub idle : trace_running (after s.plan s.queue (earlier ++ event.Acted c input order ∷ [])) c
      ≡ []
  pub up : AllByRecursion (Orders (λ o. Unit {0}) c) later
  pub called : HasCalled s.plan s.queue (λ o. Unit {0}) earlier c

-- WHAT THE LOG REMEMBERS of controller c and its machine: what it is told was heard of its last
-- frame. Once a survey closes with all-found, it remembers that the roll was called.
pub record Remembers (s : SiteState) (k : Controller) (c : ℕ) (m : Machine) : Type 0 where
  pub unstarted : m.last ≡ None → m.course.purpose ≡ Opening
  pub calling : m.course.purpose ≡ Calling → IsCalling m.course.number m.trace m.last
  pub heard : (f : Forward) (h : Answer) → frame_put k.last ≡ Some f
      → k.told ≡ Some (input.Heard h) → WasSent s c m f h
  pub silent : m.course.tally.is_silent ≡ true → WasSilent s c
  pub closing : m.course.purpose ≡ Closing AllFound → m.course.way ≡ Surveying
      → RollWasCalled s c

abbrev pub Remember : SiteState → World → List (Option Machine) → Type 0
Remember s w ms =
    (c : ℕ) (m : Machine) → machine_in ms c ≡ Some m → Remembers s (controller_at w c) c m

-- --------------------------------------------------------------- what holds of the parts of a site

pub record IsSite (s : SiteState) (standing : Standing) (shares : List ℕ)
    (capacity : ℕ) : Type 0 where
  pub run : IsRun s.plan s.queue s.log
  pub safe : IsSafeHistory s.plan s.queue s.log
  pub stands : standing ≡ stand_of (world s) (machines s)
  pub remembers : Remember s (world s) (machines s)
  pub counted : (c : ℕ) → c < 4 → slice_index_or shares c 0 ≡ share_of c s.log
  pub four : length shares ≡ 4
  pub gear_count : length (world s).gear ≡ s.plan.gear
  pub controller_count : length (world s).controllers ≡ length s.plan.blocks
  pub queue : (world s).bus.capacity ≡ s.queue
  pub few_gear : s.plan.gear ≤ 128
  pub few_controllers : length s.plan.blocks ≤ 4
  pub fits : length s.log ≤ s.room
  pub reserved : s.room ≤ capacity
  pub most : s.room ≤ 65536

-- ---------------------------------------------------------------- why a call is refused

-- the log has no room for one more event; and no request more may wait
abbrev pub IsFull : SiteState → Type 0
IsFull s = length s.log ≡ s.room

abbrev pub IsCrowded : SiteState → Type 0
IsCrowded s = total (world s).bus ≡ s.queue

abbrev pub HasRoom : SiteState → Type 0
HasRoom s = length s.log < s.room

-- controller c is not there, or is down
abbrev pub IsBarred : SiteState → ℕ → Refusal → Type 0
IsBarred s c refusal.UnknownController = length s.plan.blocks ≤ c
IsBarred s c refusal.ControllerDown =
    (c < length s.plan.blocks) × ((controller_at (world s) c).up ≡ false)
IsBarred s c _ = ⊥

abbrev pub IsActRefused : SiteState → ℕ → Input → Refusal → Type 0
IsActRefused s c i refusal.NotDue = IsUp (world s) c × (IsDue (controller_at (world s) c) i → ⊥)
IsActRefused s c i refusal.QueueFull =
    IsUp (world s) c × IsDue (controller_at (world s) c) i × IsCrowded s
IsActRefused s c i refusal.LogFull =
    IsUp (world s) c × IsDue (controller_at (world s) c) i × (IsCrowded s → ⊥) × IsFull s
IsActRefused s c i refusal.AddressInUse =
    IsUp (world s) c × IsDue (controller_at (world s) c) i × (IsCrowded s → ⊥) × HasRoom s
    × MayReserveUsed s.plan.used (machine_at s c) i
IsActRefused s c i e = IsBarred s c e

abbrev pub IsArcRefused : SiteState → ℕ → Forward → Refusal → Type 0
IsArcRefused s c f refusal.NotArc = IsUp (world s) c × (IsArc f → ⊥)
IsArcRefused s c f refusal.QueueFull = IsUp (world s) c × IsArc f × IsCrowded s
IsArcRefused s c f refusal.LogFull = IsUp (world s) c × IsArc f × (IsCrowded s → ⊥) × IsFull s
IsArcRefused s c f e = IsBarred s c e

abbrev pub IsDownRefused : SiteState → ℕ → Refusal → Type 0
IsDownRefused s c refusal.LogFull = IsUp (world s) c × IsFull s
IsDownRefused s c e = IsBarred s c e

-- records that are neither those that the controller keeps, nor those with the record that is
-- outstanding
abbrev pub Disagrees : SiteState → ℕ → Kept → Type 0
Disagrees s c copy = (kept : Bool) → Agrees (controller_at (world s) c) copy kept → ⊥

abbrev pub DoesAgree : SiteState → ℕ → Kept → Type 0
DoesAgree s c copy = (kept : Bool) × Agrees (controller_at (world s) c) copy kept

abbrev pub IsUpRefused : SiteState → ℕ → Kept → Refusal → Type 0
IsUpRefused s c copy refusal.UnknownController = length s.plan.blocks ≤ c
IsUpRefused s c copy refusal.ControllerUp = IsUp (world s) c
IsUpRefused s c copy refusal.StoreDisagrees = IsDown (world s) c × Disagrees s c copy
IsUpRefused s c copy refusal.LogFull = IsDown (world s) c × DoesAgree s c copy × IsFull s
IsUpRefused s c copy _ = ⊥

-- the one refusal of calls that ask for nothing else
abbrev pub IsLogFull : SiteState → Refusal → Type 0
IsLogFull s e = (e ≡ refusal.LogFull) × IsFull s

-- no other device may send the frame
abbrev pub IsForeignRefused : SiteState → Forward → Refusal → Type 0
IsForeignRefused s f refusal.LogFull = IsFull s
IsForeignRefused s f refusal.NotForeign = HasRoom s × (is_foreign f ≡ false)
IsForeignRefused s f _ = ⊥

abbrev pub IsGearRefused : SiteState → ℕ → Refusal → Type 0
IsGearRefused s g refusal.UnknownGear = s.plan.gear ≤ g
IsGearRefused s g refusal.LogFull = (g < s.plan.gear) × IsFull s
IsGearRefused s g _ = ⊥

-- what may befall a site from outside, and why it does not
abbrev pub IsOutside : SiteState → Outside → Type 0
IsOutside s (outside.Foreign f) = is_foreign f ≡ true
IsOutside s (outside.Power g on) = g < s.plan.gear
IsOutside s (outside.Expire g) = g < s.plan.gear
IsOutside s (outside.Down c) = IsUp (world s) c
IsOutside s _ = Unit {0}

abbrev pub IsBefallRefused : SiteState → Outside → Refusal → Type 0
IsBefallRefused s (outside.Foreign f) e = IsForeignRefused s f e
IsBefallRefused s (outside.Power g on) e = IsGearRefused s g e
IsBefallRefused s (outside.Expire g) e = IsGearRefused s g e
IsBefallRefused s (outside.Down c) e = IsDownRefused s c e
IsBefallRefused s _ e = IsLogFull s e

-- ---------------------------------------------------------------- one event more

-- A CALL THAT IS ACCEPTED adds one event, which is allowed in the world of the site.
pub record Logs (s : SiteState) (e : Event) (new : SiteState) : Type 0 where
  pub allowed : Allowed (world s) e
  pub room : HasRoom s
  pub logged : new ≡ site_logged s e

-- something befell it from outside
abbrev pub Befalls : SiteState → Outside → SiteState → Type 0
Befalls s x new = IsOutside s x × Logs s (event_of x) new

-- THE ANSWERS of a site that something befalls, in one closed relation, which the layers above
-- pass on
unfoldable pub HasBefallen : SiteState → Outside → Result (Unit {0}) Refusal → SiteState → Type 0
HasBefallen s x result new =
    OnOk result (Befalls s x new) × IfErr result (IsBefallRefused s x) × OnErr result (new ≡ s)

-- a controller came up with a copy that agrees with what the site remembers
abbrev pub IsUpWith : SiteState → ℕ → Kept → SiteState → Type 0
IsUpWith s c copy new =
    (kept : Bool) × Agrees (controller_at (world s) c) copy kept × Logs s (event.Up c kept) new

-- and one that also asks for room among the requests
abbrev pub LogsRequest : SiteState → Event → SiteState → Type 0
LogsRequest s e new = Logs s e new × (IsCrowded s → ⊥)

-- ---------------------------------------------------------------- a controller acts

-- What a controller that acted has: the number of its step, counted from 1.
pub record Receipt : Type 0 where
  pub controller : ℕ
  pub input : Input
  pub order : Order
  pub number : ℕ

-- THE ANSWERS of a controller that acts: an order, and the receipt of its event; or a refusal,
-- which changes nothing.
pub record HasActed (s : SiteState) (c : ℕ) (i : Input) (r : Receipt)
    (new : SiteState) : Type 0 where
  pub logs : LogsRequest s (event.Acted c i r.order) new
  pub ordered : MayAnswer (machine_at s c) i r.order
  pub leaves : LeavesUsed s.plan.used (event.Acted c i r.order)
  pub whole : LeavesWhole (machine_at s c) i r.order
  pub controller : r.controller ≡ c
  pub input : r.input ≡ i
  pub number : r.number ≡ share_of c new.log

-- all that `act` answers, in one closed relation, which the layers above pass on
unfoldable pub Acts : SiteState → ℕ → Input → Result Receipt Refusal → SiteState → Type 0
Acts s c i result new =
    IfOk result (λ r. HasActed s c i r new) × IfErr result (IsActRefused s c i)
    × OnErr result (new ≡ s)

-- ---------------------------------------------------------------- the next frame

-- the numbers that they will draw are there
abbrev pub IsSpent : SiteState → Request → Trouble → Type 0
IsSpent s r t =
    length (world s).left < draws_needed (reach_under t) (command_of r.frame) 0 (world s).gear

-- the request that is next, if one is
abbrev pub next_request : SiteState → Option Request
next_request s = next (world s).bus

-- a frame that its sender ordered last, or direct arc power
abbrev pub WasOrdered : SiteState → ℕ → Forward → Type 0
WasOrdered s c f = IsArc f ⊎ (frame_put (controller_at (world s) c).last ≡ Some f)

-- a frame is sent if nothing is disturbed, or its answers alone are
abbrev pub IsSendable : Trouble → Type 0
IsSendable trouble.None = Unit {0}
IsSendable trouble.AnswerLost = Unit {0}
IsSendable trouble.Noise = Unit {0}
IsSendable (trouble.Destroyed set) = ⊥
IsSendable trouble.Collision = ⊥

-- WHAT CAME of request r, which was next, under a trouble: a report, and an event that is allowed
abbrev pub Becomes : SiteState → Request → Trouble → Report → SiteState → Type 0
Becomes s r t (report.Sent c f h) new = IsSendable t × (c ≡ r.sender) × (f ≡ r.frame)
    × (h ≡ heard_under t (heard_of (answers_of Everyone (command_of r.frame) 0 (world s).gear)))
    × Logs s (event.Sent c f h) new
Becomes s r t (report.Destroyed c f) new = (c ≡ r.sender) × (f ≡ r.frame)
    × ((set : GearSet)
    × ((t ≡ trouble.Destroyed set)
    ⊎ ((t ≡ trouble.Collision) × (set ≡ nobody_at_all)
    × (collision (world s).bus.lists ≡ None)))
    × Logs s (event.Destroyed c f set) new)
Becomes s r t (report.Collided c f d g) new =
    (t ≡ trouble.Collision) × (c ≡ r.sender) × (f ≡ r.frame)
    × ((q : Request) × (collision (world s).bus.lists ≡ Some q) × (d ≡ q.sender) × (g ≡ q.frame))
    × Logs s (event.Collided c f d g) new
Becomes s r t report.Idle new = ⊥

abbrev pub Pumps : SiteState → Trouble → Report → SiteState → Type 0
Pumps s t report.Idle new = (next_request s ≡ None) × (new ≡ s)
Pumps s t x new =
    (r : Request) × (next_request s ≡ Some r) × (IsSpent s r t → ⊥) × Becomes s r t x new

abbrev pub IsPumpRefused : SiteState → Trouble → Refusal → Type 0
IsPumpRefused s t refusal.DrawsSpent = (r : Request) × (next_request s ≡ Some r) × IsSpent s r t
IsPumpRefused s t refusal.LogFull =
    (r : Request) × (next_request s ≡ Some r) × (IsSpent s r t → ⊥) × IsFull s
IsPumpRefused s t _ = ⊥
