use Rattle.std.specs.Prelude.{ℕ, Bool, true, false, not, List, [], ◌∷◌, ◌++◌, map, Option, Some}
use Rattle.std.specs.Prelude.{None, ◌==◌, ◌&&◌, if◌then◌else◌}
use Rattle.dali_frame.specs.declared.frames.Forward.{Forward}
use Rattle.dali_frame.specs.declared.frames.Answer.{Answer}
use Rattle.dali_frame.specs.Priority.{LATER, ARC}
use Rattle.dali_special.specs.declared.command.Command.{Command}
use Rattle.dali_special.specs.declared.command.Command.TheVariants.{Arc}
use Rattle.dali_special.specs.Command.{command_of}
use Rattle.dali_gear.specs.declared.gear_set.GearSet.{GearSet}
use Rattle.dali_gear.specs.declared.row.Reach.{Reach}
use Rattle.dali_gear.specs.declared.row.Reach.TheVariants.{Everyone, Only}
use Rattle.dali_gear.specs.Gear.{Gear, with_power, without_power, gear_expired, gear_quieted}
use Rattle.dali_gear.specs.Row.{row_after, row_left, drawn_of, stored_of}
use Rattle.dali_arbiter.specs.Arbiter.{Arbiter, owns, request_of, bus_offered, bus_sent}
use Rattle.dali_arbiter.specs.Arbiter.{bus_destroyed, bus_collided, bus_lapsed, bus_silenced}
use Rattle.dali_script.specs.declared.trace.Entry.{Entry}
use Rattle.dali_script.specs.declared.records.Record.{Record}
use Rattle.dali_script.specs.Records.{Kept, with_record}
use Rattle.dali_script.specs.Findings.{search_of, asked_of, found_by, later}
use Rattle.dali_script.specs.Stages.{stage_of, may_follow}
use Rattle.dali_script.specs.declared.orders.Input.{Input}
use Rattle.dali_script.specs.declared.orders.Input.TheVariants as input
use Rattle.dali_script.specs.declared.orders.Order.{Order}
use Rattle.dali_script.specs.declared.orders.Order.TheVariants.{Put, Commit, Done, Halt}
use Rattle.dali_events.specs.declared.event.Event.{Event}
use Rattle.dali_events.specs.declared.event.Event.TheVariants as event
use Rattle.dali_events.specs.World.{Controller, World, controller_at, gear_changed}
use Rattle.dali_events.specs.World.{controllers_changed}

-- WHAT EACH EVENT DOES TO A WORLD. One section for each event, and at the end the table of them.

-- ---------------------------------------------------------------- a controller acts

-- records with the outstanding one, if there is one
abbrev pub with_outstanding : Kept → Option Record → Kept
with_outstanding kept None = kept
with_outstanding kept (Some x) = with_record kept x

-- Committed: the outstanding record is kept, and none is outstanding
abbrev pub kept_after : Controller → Input → Kept
kept_after k input.Committed = with_outstanding k.records k.outstanding
kept_after k input.Start = k.records
kept_after k input.Survey = k.records
kept_after k (input.Heard h) = k.records
kept_after k input.Destroyed = k.records
kept_after k input.Lapsed = k.records
kept_after k input.CommitFailed = k.records

abbrev pub outstanding_told : Option Record → Input → Option Record
outstanding_told was input.Committed = None
outstanding_told was input.Start = was
outstanding_told was input.Survey = was
outstanding_told was (input.Heard h) = was
outstanding_told was input.Destroyed = was
outstanding_told was input.Lapsed = was
outstanding_told was input.CommitFailed = was

-- a Commit order makes its record the outstanding one
abbrev pub outstanding_after : Option Record → Order → Option Record
outstanding_after was (Commit x) = Some x
outstanding_after was (Put p f) = was
outstanding_after was (Done e) = was
outstanding_after was (Halt w) = was

-- the controller after the input, before its order
abbrev pub controller_informed : Controller → Input → Controller
controller_informed k i = record {
  up = k.up;
  records = kept_after k i;
  outstanding = outstanding_told k.outstanding i;
  finding = k.finding;
  told = None;
  last = k.last;
}

abbrev pub controller_acted : Controller → Input → Order → Controller
controller_acted k i o = record {
  up = k.up;
  records = kept_after k i;
  outstanding = outstanding_after (outstanding_told k.outstanding i) o;
  finding = k.finding;
  told = None;
  last = Some o;
}

-- an order other than a Put at 1 ends the ownership of its controller
abbrev pub keeps_bus : Order → Bool
keeps_bus (Put p f) = p == LATER
keeps_bus (Commit x) = false
keeps_bus (Done e) = false
keeps_bus (Halt w) = false

abbrev pub gives_up : Arbiter → ℕ → Order → Bool
gives_up b c o = owns b.owner c && not (keeps_bus o)

-- a Put goes last in its list
abbrev pub put_after : Arbiter → ℕ → Order → Arbiter
put_after b c (Put p f) = bus_offered b (request_of c p f)
put_after b c (Commit x) = b
put_after b c (Done e) = b
put_after b c (Halt w) = b

abbrev pub bus_acted : Arbiter → ℕ → Order → Arbiter
bus_acted b c o = put_after (if gives_up b c o then bus_lapsed b else b) c o

abbrev pub after_acted : World → ℕ → Input → Order → World
after_acted w c i o = record {
  gear = w.gear;
  bus = bus_acted w.bus c o;
  trace = (if gives_up w.bus c o then [] else w.trace);
  controllers = controllers_changed w.controllers c (λ k. controller_acted k i o);
  left = w.left;
  drawn = w.drawn;
  gifts = w.gifts;
}

-- ---------------------------------------------------------------- an arc power frame is offered

-- it goes last in list 2
abbrev pub after_offered : World → ℕ → Forward → World
after_offered w c f = record w { bus = bus_offered w.bus (request_of c ARC f) }

-- ---------------------------------------------------------------- a frame is sent

-- the trace that a frame of controller c goes on with: its own if it owns the bus, else a new
-- one
abbrev pub trace_running : World → ℕ → List Entry
trace_running w c = if owns w.bus.owner c then w.trace else []

abbrev pub entry : Forward → Answer → Entry
entry f h = record { frame = f; heard = h }

-- the bus is c's while a frame may follow
abbrev pub goes_on : World → ℕ → List Entry → Bool
goes_on w c t =
    may_follow (controller_at w c).records.block (controller_at w c).records.reserved (stage_of t)

abbrev pub sent_by : Arbiter → ℕ → Bool → Arbiter
sent_by b c more = record {
  lists = (bus_sent b more).lists;
  owner = (if more then Some c else None);
  capacity = b.capacity;
}

-- the sender is told what was heard, but not of an arc power frame
abbrev pub is_arc : Command → Bool
is_arc (Arc f) = true
is_arc _ = false

abbrev pub told_of : Command → Input → Option Input → Option Input
told_of c i was = if is_arc c then was else Some i

abbrev pub told_sent : List Entry → Forward → Answer → Controller → Controller
told_sent t f h k = record k {
  finding = later k.finding (found_by (search_of t) (asked_of t) (command_of f) h);
  told = told_of (command_of f) (input.Heard h) k.told;
}

-- every powered gear that the frame reaches takes it: gear, numbers left, draws and gifts
abbrev pub taken_by : World → Reach → Command → World
taken_by w reach x = record w {
  gear = row_after reach x 0 w.gear w.left;
  left = row_left reach x 0 w.gear w.left;
  drawn = w.drawn ++ drawn_of reach x 0 w.gear w.left;
  gifts = w.gifts ++ stored_of reach x 0 w.gear;
}

abbrev pub trace_sent : World → ℕ → List Entry → List Entry
trace_sent w c t = if goes_on w c t then t else []

abbrev pub after_sent : World → ℕ → Forward → Answer → World
after_sent w c f h = record (taken_by w Everyone (command_of f)) {
  bus = sent_by w.bus c (goes_on w c (trace_running w c ++ entry f h ∷ []));
  trace = trace_sent w c (trace_running w c ++ entry f h ∷ []);
  controllers = controllers_changed w.controllers c (told_sent (trace_running w c) f h);
}

-- ------------------------------------------------------------ a frame is destroyed, or two collide

abbrev pub told_destroyed : Forward → Controller → Controller
told_destroyed f k = record k { told = told_of (command_of f) input.Destroyed k.told }

-- the gear of the set take it, and no controller owns the bus
abbrev pub after_destroyed : World → ℕ → Forward → GearSet → World
after_destroyed w c f set = record (taken_by w (Only set) (command_of f)) {
  bus = bus_destroyed w.bus;
  trace = [];
  controllers = controllers_changed w.controllers c (told_destroyed f);
}

-- no gear takes either, and no controller owns the bus
abbrev pub after_collided : World → ℕ → Forward → ℕ → Forward → World
after_collided w c f d g = record w {
  bus = bus_collided w.bus;
  trace = [];
  controllers =
      controllers_changed (controllers_changed w.controllers c (told_destroyed f)) d
      (told_destroyed g);
}

-- ---------------------------------------------------------------- the owner loses the bus

abbrev pub told_lapsed : Controller → Controller
told_lapsed k = record k { told = Some input.Lapsed }

abbrev pub owner_told : List Controller → Option ℕ → List Controller
owner_told cs None = cs
owner_told cs (Some c) = controllers_changed cs c told_lapsed

abbrev pub after_lapsed : World → World
after_lapsed w = record w {
  bus = bus_lapsed w.bus;
  trace = [];
  controllers = owner_told w.controllers w.bus.owner;
}

-- ---------------------------------------------------------------- power, timers, quiet

abbrev pub gear_powered : Bool → Gear → Gear
gear_powered true g = with_power g
gear_powered false g = without_power g

abbrev pub after_power : World → ℕ → Bool → World
after_power w g on = record w { gear = gear_changed w.gear g (gear_powered on) }

abbrev pub after_expired : World → ℕ → World
after_expired w g = record w { gear = gear_changed w.gear g gear_expired }

abbrev pub after_quiet : World → World
after_quiet w = record w { gear = map gear_quieted w.gear }

-- ---------------------------------------------------------------- a frame of another device

-- Gear that have power take it: half a pair is over, and nothing else changes. It is told to
-- no controller, and the owner keeps the bus.
abbrev pub gear_interrupted : Gear → Gear
gear_interrupted g = record g { half = if g.powered then None else g.half }

abbrev pub after_foreign : World → World
after_foreign w = record w { gear = map gear_interrupted w.gear }

-- ------------------------------------------------------------ a controller goes down, and comes up

-- what it does not keep is gone; kept and outstanding records stay remembered
abbrev pub gone_down : Controller → Controller
gone_down k = record {
  up = false;
  records = k.records;
  outstanding = k.outstanding;
  finding = None;
  told = None;
  last = None;
}

abbrev pub after_down : World → ℕ → World
after_down w c = record w {
  bus = bus_silenced w.bus c;
  trace = (if owns w.bus.owner c then [] else w.trace);
  controllers = controllers_changed w.controllers c gone_down;
}

-- it starts anew from what is kept: with the outstanding record or without it, and none is
-- outstanding afterwards
abbrev pub come_up : Bool → Controller → Controller
come_up kept k = record {
  up = true;
  records = (if kept then with_outstanding k.records k.outstanding else k.records);
  outstanding = None;
  finding = None;
  told = Some input.Start;
  last = None;
}

abbrev pub after_up : World → ℕ → Bool → World
after_up w c kept = record w { controllers = controllers_changed w.controllers c (come_up kept) }

-- ---------------------------------------------------------------- the table

abbrev pub happens : World → Event → World
happens w (event.Acted c i o) = after_acted w c i o
happens w (event.Offered c f) = after_offered w c f
happens w (event.Sent c f h) = after_sent w c f h
happens w (event.Destroyed c f set) = after_destroyed w c f set
happens w (event.Collided c f d g) = after_collided w c f d g
happens w event.Lapsed = after_lapsed w
happens w event.Quiet = after_quiet w
happens w (event.Foreign f) = after_foreign w
happens w (event.Power g on) = after_power w g on
happens w (event.Expired g) = after_expired w g
happens w (event.Down c) = after_down w c
happens w (event.Up c kept) = after_up w c kept
