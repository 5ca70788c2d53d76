use Rattle.std.specs.Prelude.{◌≡◌, ℕ, Bool, true, List, [], Option, Some, None, is_some}
use Rattle.std.specs.Prelude.{if◌then◌else◌}
use Rattle.std.specs.Option.{option_map}
use Rattle.dali_script.specs.declared.block.Block.{Block}
use Rattle.dali_script.specs.declared.trace.Entry.{Entry}
use Rattle.dali_script.specs.declared.stage.Stage.{Stage}
use Rattle.dali_script.specs.Stages.{IsReached}
use Rattle.dali_script.specs.declared.finding.Finding.{Finding}
use Rattle.dali_script.specs.declared.records.Record.{Record}
use Rattle.dali_script.specs.declared.records.Record.TheVariants.{Reserve, Enrol, Release}
use Rattle.dali_script.specs.Records.{Kept, Fits, MayAdd, Has, without_records}
use Rattle.dali_script.specs.Findings.{later, finding_of, assigned}
use Rattle.dali_script.specs.declared.orders.Input.{Input}
use Rattle.dali_script.specs.declared.orders.Input.TheVariants as input
use Rattle.dali_script.specs.declared.orders.Order.{Order}
use Rattle.dali_script.specs.declared.orders.Order.TheVariants.{Put, Commit, Done, Halt}
use Rattle.dali_script.specs.declared.orders.Due.{Due}
use Rattle.dali_script.specs.declared.orders.Due.TheVariants as due
use Rattle.dali_script.specs.Due.{due_after, accepts}
use Rattle.dali_controller.specs.Machine.{Machine, at_first, machine_told}
use Rattle.dali_controller.specs.Orders.{IsGiven, machine_after}
use Rattle.dali_controller.specs.Whole.{IsWhole}
use Rattle.dali_standing.specs.declared.seat.Place.{Place}
use Rattle.dali_standing.specs.declared.seat.Place.TheVariants.{Up, Down}
use Rattle.dali_events.specs.declared.used.Used.{Used}
use Rattle.dali_events.specs.Used.{used_shorts}
use Rattle.dali_events.specs.World.{Controller, controller_begun}
use Rattle.dali_events.specs.Allowed.{HasOutstanding}
use Rattle.dali_events.specs.Happens.{controller_acted, gone_down, come_up}

-- A CONTROLLER'S PLACE on a site: the controller as the site's world has it; and its machine, while
-- it is up.
pub record Seat : Type 0 where
  pub controller : Controller
  pub machine : Option Machine

-- ---------------------------------------------------------------- how the two go together

-- the machine once it has heard what it was told
abbrev pub informed_by : Machine → Option Input → Machine
informed_by m None = m
informed_by m (Some i) = machine_told m i

-- what is told is what the machine waits for
abbrev pub IsTold : Option Order → Option Input → Type 0
IsTold last None = Unit {0}
IsTold last (Some i) = accepts (due_after last) i ≡ true

-- A record is outstanding from its Commit on, and may be kept then. None is outstanding while the
-- machine waits for something else, but one may have been left over when the machine has ended.
abbrev pub IsOutstanding : Kept → Option Order → Option Record → Type 0
IsOutstanding k (Some (Commit x)) outstanding =
    (outstanding ≡ Some x) × Fits k.block x × MayAdd k x
IsOutstanding k (Some (Done e)) outstanding = Unit {0}
IsOutstanding k (Some (Halt f)) outstanding = Unit {0}
IsOutstanding k (Some (Put p f)) outstanding = outstanding ≡ None
IsOutstanding k None outstanding = outstanding ≡ None

-- The finding of the running transaction, if it has one, is the last finding of the controller. The
-- controller finds when a frame is sent, the machine when it acts on what was heard; if the bus
-- lapses between the two, the machine never does.
abbrev pub IsFound : Controller → Machine → Type 0
IsFound k m = later k.finding (finding_of (informed_by m k.told).trace) ≡ k.finding

-- An enrolment that was ordered is of the last finding of the controller, which finds nothing more
-- until it has acted on the outcome.
abbrev pub IsEnrolling : Option Order → Option Finding → Type 0
IsEnrolling last found =
    (b r : ℕ) → last ≡ Some (Commit (Enrol b r))
    → (x : Finding) × (found ≡ Some x) × (assigned x ≡ (b, r))

pub record IsRunning (k : Controller) (m : Machine) : Type 0 where
  pub kept : m.kept ≡ k.records
  pub last : m.last ≡ k.last
  pub told : IsTold k.last k.told
  pub outstanding : IsOutstanding k.records k.last k.outstanding
  pub found : IsFound k m
  pub enrolling : IsEnrolling k.last k.finding

abbrev pub IsTied : Controller → Option Machine → Type 0
IsTied k None = (k.told ≡ None) × (k.finding ≡ None) × (k.last ≡ None)
IsTied k (Some m) = IsRunning k m

-- ---------------------------------------------------------------- a place by its parts

abbrev pub machine_in : Place → Option Machine
machine_in (Up m) = Some m
machine_in (Down k) = None

-- the records are the machine's while it is there
abbrev pub records_in : Place → Kept
records_in (Up m) = m.kept
records_in (Down k) = k

abbrev pub last_in : Place → Option Order
last_in (Up m) = m.last
last_in (Down k) = None

abbrev pub seat_by : Place → Option Record → Option Finding → Option Input → Seat
seat_by place outstanding finding unread = record {
  controller = record {
    up = is_some (machine_in place);
    records = records_in place;
    outstanding = outstanding;
    finding = finding;
    told = unread;
    last = last_in place;
  };
  machine = machine_in place;
}

-- how far the transaction is with the frame after which this was heard, if the machine is told that
abbrev pub IsReachedIn : Option Input → Option Machine → Stage → Type 0
IsReachedIn None m s = Unit {0}
IsReachedIn (Some (input.Heard h)) None s = Unit {0}
IsReachedIn (Some (input.Heard h)) (Some m) s =
    IsReached s (machine_told m (input.Heard h)).trace
IsReachedIn (Some input.Start) m s = Unit {0}
IsReachedIn (Some input.Survey) m s = Unit {0}
IsReachedIn (Some input.Destroyed) m s = Unit {0}
IsReachedIn (Some input.Lapsed) m s = Unit {0}
IsReachedIn (Some input.Committed) m s = Unit {0}
IsReachedIn (Some input.CommitFailed) m s = Unit {0}

abbrev pub IsSeat :
    Place → Option Record → Option Finding → Option Input → Stage → Type 0
IsSeat place outstanding finding unread reached =
    IsTied (seat_by place outstanding finding unread).controller (machine_in place)
    × IsReachedIn unread (machine_in place) reached

-- the machine that is there has acted on an input, with this order
abbrev pub acted_in : Place → Input → Order → Place
acted_in (Up m) i o = Up (machine_after m i o)
acted_in (Down k) i o = Down k

-- ---------------------------------------------------------------- what happens to a place

abbrev pub begun_at : ℕ → Block → Seat
begun_at id b = record {
  controller = controller_begun b;
  machine = Some (at_first id (without_records b));
}

abbrev pub acted_at : Seat → Input → Order → Seat
acted_at p i o = record {
  controller = controller_acted p.controller i o;
  machine = option_map (λ m. machine_after m i o) p.machine;
}

abbrev pub down_at : Seat → Seat
down_at p = record { controller = gone_down p.controller; machine = None }

-- the records that it comes up with, with the outstanding one or without it
abbrev pub up_at : ℕ → Bool → Seat → Seat
up_at id kept p = record {
  controller = come_up kept p.controller;
  machine = Some (at_first id (come_up kept p.controller).records);
}

abbrev pub told_at : (Controller → Controller) → Seat → Seat
told_at change p = record { controller = change p.controller; machine = p.machine }

-- an order that the machine, if there is one, may give: all that its step tells of it
abbrev pub MayAnswer : Option Machine → Input → Order → Type 0
MayAnswer None i o = ⊥
MayAnswer (Some m) i o = IsGiven m i o

-- an order to reserve a short address that used gear have; and that the machine, if there is one,
-- gives such an order
abbrev pub ReservesUsed : List Used → Order → Type 0
ReservesUsed us (Commit (Reserve a r)) = Has (used_shorts us) a
ReservesUsed us (Commit (Enrol b r)) = ⊥
ReservesUsed us (Commit (Release a r)) = ⊥
ReservesUsed us (Put p f) = ⊥
ReservesUsed us (Done e) = ⊥
ReservesUsed us (Halt f) = ⊥

abbrev pub MayReserveUsed : List Used → Option Machine → Input → Type 0
MayReserveUsed us m i = (o : Order) × MayAnswer m i o × ReservesUsed us o

-- and its machine, if there is one, is whole afterwards
abbrev pub LeavesWhole : Option Machine → Input → Order → Type 0
LeavesWhole None i o = ⊥
LeavesWhole (Some m) i o = IsWhole (machine_after m i o)

-- the frames of the machine's running transaction
abbrev pub trace_of : Option Machine → List Entry
trace_of None = []
trace_of (Some m) = m.trace

-- those that it goes on with, if it owns the bus
abbrev pub running_if : Bool → Option Machine → List Entry
running_if owned m = if owned then trace_of m else []

-- told that its frame was destroyed
abbrev pub told_lost : Controller → Controller
told_lost k = record k { told = Some input.Destroyed }

-- STORES THAT AGREE with what a site remembers: the kept records, or these with the outstanding
-- one.
abbrev pub Agrees : Controller → Kept → Bool → Type 0
Agrees k copy kept = HasOutstanding k kept × (copy ≡ (come_up kept k).records)

-- the machine is there, and waits for this input
abbrev pub Waits : Option Machine → Input → Type 0
Waits None i = ⊥
Waits (Some m) i = accepts (due_after m.last) i ≡ true

-- what is due for a controller: nothing while it is down
abbrev pub due_of : Controller → Due
due_of k = if k.up then due_after k.last else due.Nothing
