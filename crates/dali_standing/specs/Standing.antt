use Rattle.std.specs.Prelude.{◌≡◌, ◌⊎◌, ℕ, ◌+◌, ◌<◌, true, List, [], ◌∷◌, ◌++◌, length, map}
use Rattle.std.specs.Prelude.{slice_set, slice_index_or, Option, Some, None}
use Rattle.std.specs.Option.{option_map}
use Rattle.dali_gear.specs.Gear.{Gear}
use Rattle.dali_arbiter.specs.declared.request.Request.{Request}
use Rattle.dali_arbiter.specs.Arbiter.{Arbiter}
use Rattle.dali_script.specs.declared.block.Block.{Block}
use Rattle.dali_script.specs.declared.trace.Entry.{Entry}
use Rattle.dali_script.specs.Records.{without_records}
use Rattle.dali_script.specs.declared.orders.Input.{Input}
use Rattle.dali_script.specs.declared.orders.Input.TheVariants as input
use Rattle.dali_script.specs.declared.orders.Order.{Order}
use Rattle.dali_script.specs.declared.orders.Order.TheVariants.{Put, Commit, Done, Halt}
use Rattle.dali_script.specs.Due.{frame_put}
use Rattle.dali_controller.specs.Machine.{Machine, at_first}
use Rattle.dali_controller.specs.Orders.{machine_after}
use Rattle.dali_events.specs.declared.event.Event.{Event}
use Rattle.dali_events.specs.declared.event.Event.TheVariants as event
use Rattle.dali_events.specs.declared.event.Outside.{Outside}
use Rattle.dali_events.specs.declared.event.Outside.TheVariants as outside
use Rattle.dali_events.specs.Foreign.{is_foreign}
use Rattle.dali_events.specs.World.{World, Controller, controller_at, nobody}
use Rattle.dali_events.specs.Happens.{happens, come_up, entry}
use Rattle.dali_events.specs.Allowed.{Allowed, IsUp, IsArc, MaySend}
use Rattle.dali_standing.specs.FittedGear.{FittedGear}
use Rattle.dali_standing.specs.Seats.{Seat, begun_at, trace_of}

-- WHAT STANDS on a site at one moment: a world without the history of draws, and with the machines
-- of the controllers.
pub record Standing : Type 0 where
  pub gear : List Gear
  pub bus : Arbiter
  pub trace : List Entry
  pub controllers : List Controller
  pub machines : List (Option Machine)
  pub left : List ℕ
  pub gifts : List (ℕ × ℕ)

-- what stands in a world, with these machines
abbrev pub stand_of : World → List (Option Machine) → Standing
stand_of w ms = record {
  gear = w.gear;
  bus = w.bus;
  trace = w.trace;
  controllers = w.controllers;
  machines = ms;
  left = w.left;
  gifts = w.gifts;
}

-- a controller
abbrev pub controller_on : Standing → ℕ → Controller
controller_on s c = slice_index_or s.controllers c nobody

-- ------------------------------------------------------ the same, with a place for each controller

pub record Seated : Type 0 where
  pub fitted : FittedGear
  pub bus : Arbiter
  pub trace : List Entry
  pub seats : List Seat

abbrev pub empty_seat : Seat
empty_seat = record { controller = nobody; machine = None }

abbrev pub seat_in : List Seat → ℕ → Seat
seat_in seats c = slice_index_or seats c empty_seat

abbrev pub controllers_of : List Seat → List Controller
controllers_of seats = map (λ p. p.controller) seats

abbrev pub machines_of : List Seat → List (Option Machine)
machines_of seats = map (λ p. p.machine) seats

-- the frames of the transaction that runs: those of the owner's machine, and behind them the last
-- one, if the owner was told what was heard after it, and has not acted on that
abbrev pub running_told : List Entry → Option Order → Option Input → List Entry
running_told t (Some (Put p f)) (Some (input.Heard h)) = t ++ entry f h ∷ []
running_told t (Some (Put p f)) (Some input.Start) = t
running_told t (Some (Put p f)) (Some input.Survey) = t
running_told t (Some (Put p f)) (Some input.Destroyed) = t
running_told t (Some (Put p f)) (Some input.Lapsed) = t
running_told t (Some (Put p f)) (Some input.Committed) = t
running_told t (Some (Put p f)) (Some input.CommitFailed) = t
running_told t (Some (Put p f)) None = t
running_told t (Some (Commit x)) told = t
running_told t (Some (Done e)) told = t
running_told t (Some (Halt why)) told = t
running_told t None told = t

abbrev pub running_at : Seat → List Entry
running_at p = running_told (trace_of p.machine) p.controller.last p.controller.told

abbrev pub running_by : Option ℕ → List Seat → List Entry
running_by None seats = []
running_by (Some c) seats = running_at (seat_in seats c)

-- gear, bus and places: the running transaction is the owner's
abbrev pub seated : FittedGear → Arbiter → List Seat → Seated
seated fitted bus seats = record {
  fitted = fitted;
  bus = bus;
  trace = running_by bus.owner seats;
  seats = seats;
}

-- what stands then
abbrev pub flat : Seated → Standing
flat s = record {
  gear = s.fitted.gear;
  bus = s.bus;
  trace = s.trace;
  controllers = controllers_of s.seats;
  machines = machines_of s.seats;
  left = s.fitted.left;
  gifts = s.fitted.gifts;
}

-- ---------------------------------------------------------------- the machines

-- the machine of controller c
abbrev pub machine_in : List (Option Machine) → ℕ → Option Machine
machine_in ms c = slice_index_or ms c None

-- what an event does to the machines, in the world before it
abbrev pub machines_after : World → List (Option Machine) → Event → List (Option Machine)
machines_after w ms (event.Acted c i o) =
    slice_set ms c (option_map (λ m. machine_after m i o) (machine_in ms c))
machines_after w ms (event.Down c) = slice_set ms c None
machines_after w ms (event.Up c kept) =
    slice_set ms c (Some (at_first c (come_up kept (controller_at w c)).records))
machines_after w ms _ = ms

-- the machines of controllers that have these blocks, from controller c on, before their start
abbrev pub machines_at : ℕ → List Block → List (Option Machine)
machines_at c [] = []
machines_at c (b ∷ bs) = Some (at_first c (without_records b)) ∷ machines_at (c + 1) bs

-- and their places
abbrev pub seats_from : ℕ → List Block → List Seat
seats_from c [] = []
seats_from c (b ∷ bs) = begun_at c b ∷ seats_from (c + 1) bs

-- ---------------------------------------------------------------- one event more

-- WHAT AN EVENT MOVES: in each world that stands so it is allowed, and it leads to what the
-- definitions say of the world and of the machines.
abbrev pub Moves : Standing → Event → Standing → Type 0
Moves s e new =
    (w : World) (ms : List (Option Machine)) → s ≡ stand_of w ms
    → Allowed w e × (new ≡ stand_of (happens w e) (machines_after w ms e))

-- what may befall what stands: gear and controllers that are there, and no addressing command
abbrev pub MayBefall : Standing → Outside → Type 0
MayBefall s (outside.Foreign f) = is_foreign f ≡ true
MayBefall s (outside.Power g on) = g < length s.gear
MayBefall s (outside.Expire g) = g < length s.gear
MayBefall s (outside.Down c) = (controller_on s c).up ≡ true
MayBefall s _ = Unit {0}

-- a request that may be sent, in each world that stands so
abbrev pub MayBeSent : Standing → Request → Type 0
MayBeSent s r =
    (w : World) (ms : List (Option Machine)) → s ≡ stand_of w ms
    → IsUp w r.sender × MaySend w r.sender r.frame

-- a request that is what its sender ordered last, or direct arc power
abbrev pub WasOrdered : Standing → Request → Type 0
WasOrdered s r = IsArc r.frame ⊎ (frame_put (controller_on s r.sender).last ≡ Some r.frame)
