use Rattle.std.specs.Prelude.{◌≡◌, ℕ, Bool, List, [], ◌∷◌, ◌++◌, slice_set, Option, Some, None, if◌then◌else◌}
use Rattle.dali_frame.specs.declared.frames.{Answer.Answer, Forward.Forward}
use Rattle.dali_special.specs.Command.{command_of}
use Rattle.dali_gear.specs.declared.{gear_set.GearSet.GearSet, row.Reach.TheVariants.Everyone, row.Reach.TheVariants.Only}
use Rattle.dali_arbiter.specs.Arbiter.{owns, idle, request_of, bus_offered, bus_destroyed, bus_collided, bus_lapsed, bus_silenced}
use Rattle.dali_script.specs.{Stages.stage_of, Stages.may_follow, declared.orders.Input.Input, declared.orders.Order.Order, declared.trace.Entry.Entry}
use Rattle.dali_events.specs.{Allowed.Allowed, Happens.happens, Happens.entry, Happens.gives_up, Happens.bus_acted, Happens.sent_by, Happens.told_sent}
use Rattle.dali_events.specs.{Happens.told_destroyed, Happens.told_lapsed, Plan.Plan, World.World, declared.event.Event.Event}
use Rattle.dali_standing.specs.{FittedGear.fitted_at, FittedGear.taken_at, Seats.Seat, Seats.acted_at, Seats.down_at, Seats.up_at, Seats.told_at}
use Rattle.dali_standing.specs.Standing.{Seated, seat_in, controllers_of, machines_of, machines_after, seats_from}

-- WHAT HAPPENS TO PLACES: each call, on what stands with a place for each controller.

abbrev pub seat_at : Seated → ℕ → Seat
seat_at s c = seat_in s.seats c

-- the world in which these numbers were drawn
abbrev pub world_of : Seated → List (ℕ × ℕ) → World
world_of s drawn = record {
  gear = s.fitted.gear;
  bus = s.bus;
  trace = s.trace;
  controllers = controllers_of s.seats;
  left = s.fitted.left;
  drawn = drawn;
  gifts = s.fitted.gifts;
}

-- ---------------------------------------------------------------- what happens to it

abbrev pub seated_at : Plan → ℕ → Seated
seated_at p capacity = record { fitted = fitted_at p; bus = idle capacity; trace = []; seats = seats_from 0 p.blocks }

abbrev pub with_seat : List Seat → ℕ → Seat → List Seat
with_seat seats c p = slice_set seats c p

-- the frames of the transaction that a frame of controller c goes on with
abbrev pub running_in : Seated → ℕ → List Entry
running_in s c = if owns s.bus.owner c then s.trace else []

abbrev pub goes_on_in : Seated → ℕ → List Entry → Bool
goes_on_in s c t = may_follow (seat_at s c).controller.records.block (seat_at s c).controller.records.reserved (stage_of t)

abbrev pub has_acted : Seated → ℕ → Input → Order → Seated
has_acted s c i o = record {
  fitted = s.fitted;
  bus = bus_acted s.bus c o;
  trace = (if gives_up s.bus c o then [] else s.trace);
  seats = with_seat s.seats c (acted_at (seat_at s c) i o);
}

abbrev pub has_offered : Seated → ℕ → Forward → Seated
has_offered s c f = record { fitted = s.fitted; bus = bus_offered s.bus (request_of c 2 f); trace = s.trace; seats = s.seats }

abbrev pub has_sent : Seated → ℕ → Forward → Answer → Seated
has_sent s c f h = record {
  fitted = taken_at Everyone (command_of f) s.fitted;
  bus = sent_by s.bus c (goes_on_in s c (running_in s c ++ entry f h ∷ []));
  trace = (if goes_on_in s c (running_in s c ++ entry f h ∷ []) then running_in s c ++ entry f h ∷ [] else []);
  seats = with_seat s.seats c (told_at (told_sent (running_in s c) f h) (seat_at s c));
}

abbrev pub has_lost : Seated → ℕ → Forward → GearSet → Seated
has_lost s c f set = record {
  fitted = taken_at (Only set) (command_of f) s.fitted;
  bus = bus_destroyed s.bus;
  trace = [];
  seats = with_seat s.seats c (told_at (told_destroyed f) (seat_at s c));
}

abbrev pub has_collided : Seated → ℕ → Forward → ℕ → Forward → Seated
has_collided s c f d g = record {
  fitted = s.fitted;
  bus = bus_collided s.bus;
  trace = [];
  seats = with_seat (with_seat s.seats c (told_at (told_destroyed f) (seat_at s c))) d
      (told_at (told_destroyed g) (seat_in (with_seat s.seats c (told_at (told_destroyed f) (seat_at s c))) d));
}

abbrev pub owner_lapsed : List Seat → Option ℕ → List Seat
owner_lapsed seats None = seats
owner_lapsed seats (Some c) = with_seat seats c (told_at told_lapsed (seat_in seats c))

abbrev pub has_lapsed : Seated → Seated
has_lapsed s = record { fitted = s.fitted; bus = bus_lapsed s.bus; trace = []; seats = owner_lapsed s.seats s.bus.owner }

abbrev pub has_gone_down : Seated → ℕ → Seated
has_gone_down s c = record {
  fitted = s.fitted;
  bus = bus_silenced s.bus c;
  trace = (if owns s.bus.owner c then [] else s.trace);
  seats = with_seat s.seats c (down_at (seat_at s c));
}

abbrev pub has_come_up : Seated → ℕ → Bool → Seated
has_come_up s c kept = record { fitted = s.fitted; bus = s.bus; trace = s.trace; seats = with_seat s.seats c (up_at c kept (seat_at s c)) }

-- ---------------------------------------------------------------- one event more

-- what an event moves, of places: whatever numbers were drawn
pub record IsMove (s : Seated) (e : Event) (new : Seated) : Type 0 where
  pub allowed : (drawn : List (ℕ × ℕ)) → Allowed (world_of s drawn) e
  pub world : (drawn : List (ℕ × ℕ)) → world_of new (happens (world_of s drawn) e).drawn ≡ happens (world_of s drawn) e
  pub machines : (drawn : List (ℕ × ℕ)) → machines_of new.seats ≡ machines_after (world_of s drawn) (machines_of s.seats) e
