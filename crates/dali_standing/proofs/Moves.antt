use Rattle.std.proofs.Common.{◌≡◌, ℕ, ◌+◌, ◌<◌, ◌≤◌, Bool, true, false, List, [], ◌∷◌, refl, sym, ap, subst, ◌∙◌, arith, length, map, get_or, set}
use Rattle.std.proofs.Common.{get_or-set_same, get_or-set_other, Option, Some, None, zero, suc}
use Rattle.std.{proofs.lemmas.List.length-map, specs.Option.option_map}
use Rattle.dali_frame.specs.declared.frames.{Answer.Answer, Forward.Forward}
use Rattle.dali_special.specs.Command.{command_of}
use Rattle.dali_gear.specs.{Row.answers_of, Row.draws_needed, declared.gear_set.GearSet.GearSet}
use Rattle.dali_gear.specs.declared.row.Reach.TheVariants.{Everyone, Only}
use Rattle.dali_arbiter.specs.Arbiter.{owns}
use Rattle.dali_script.specs.{Records.without_records, Scripts.IsFirst, declared.block.Block.Block, declared.orders.Input.Input, declared.orders.Order.Order}
use Rattle.dali_controller.specs.{Machine.Machine, Machine.at_first, Orders.machine_after}
use Rattle.dali_events.specs.Allowed.{Hears, IsUp, IsDue, IsArc, MaySend, MayOrder, HasOutstanding}
use Rattle.dali_events.specs.Happens.{happens, controller_informed, controller_acted, told_sent, told_destroyed, told_lapsed, owner_told, gone_down, come_up}
use Rattle.dali_events.specs.{Plan.Plan, World.World, World.Controller, World.nobody, World.controllers_changed, World.controller_begun, World.start}
use Rattle.dali_events.specs.declared.event.Event.TheVariants as event
use Rattle.dali_standing.specs.{Seats.Seat, Seats.IsTied, Seats.MayAnswer, Seats.acted_at, Seats.down_at, Seats.up_at, Seats.told_at, Settled.IsPlaced}
use Rattle.dali_standing.specs.Standing.{Seated, empty_seat, seat_in, controllers_of, machines_of, machine_in, flat, stand_of, seats_from, machines_at}
use Rattle.dali_standing.proofs.{Acts.may_order, Seats.seat_at, Seats.world_of, Seats.with_seat, Seats.running_in, Seats.has_acted}
use Rattle.dali_standing.proofs.Seats.{has_offered, has_sent, has_lost, has_collided, owner_lapsed, has_lapsed, has_gone_down, has_come_up, IsMove, seated_at}

-- WHAT HAPPENS TO WHAT STANDS IS WHAT THE DEFINITIONS SAY OF ITS WORLD.

-- ---------------------------------------------------------------- places, controllers and machines

pub controller_in : (seats : List Seat) (c : ℕ) → get_or (controllers_of seats) c nobody ≡ (seat_in seats c).controller
controller_in [] c = refl
controller_in (p ∷ seats) zero = refl
controller_in (p ∷ seats) (suc c) = controller_in seats c

pub machine_of : (seats : List Seat) (c : ℕ) → get_or (machines_of seats) c None ≡ (seat_in seats c).machine
machine_of [] c = refl
machine_of (p ∷ seats) zero = refl
machine_of (p ∷ seats) (suc c) = machine_of seats c

controllers_set : (seats : List Seat) (c : ℕ) (p : Seat) → controllers_of (with_seat seats c p) ≡ set (controllers_of seats) c p.controller
controllers_set [] c p = refl
controllers_set (q ∷ seats) zero p = refl
controllers_set (q ∷ seats) (suc c) p = ap (λ cs. q.controller ∷ cs) (controllers_set seats c p)

machines_set : (seats : List Seat) (c : ℕ) (p : Seat) → machines_of (with_seat seats c p) ≡ set (machines_of seats) c p.machine
machines_set [] c p = refl
machines_set (q ∷ seats) zero p = refl
machines_set (q ∷ seats) (suc c) p = ap (λ cs. q.machine ∷ cs) (machines_set seats c p)

-- a change of one controller at its place
pub changed_is : (seats : List Seat) (c : ℕ) (change : Controller → Controller) (p : Seat) → p.controller ≡ change (seat_in seats c).controller
    → controllers_of (with_seat seats c p) ≡ controllers_changed (controllers_of seats) c change
changed_is seats c change p e = controllers_set seats c p ∙ ap (λ k. set (controllers_of seats) c k) (e ∙ ap change (sym (controller_in seats c)))

-- the machines, where only a controller was told something
pub machines_same : (seats : List Seat) (c : ℕ) (p : Seat) → p.machine ≡ (seat_in seats c).machine → machines_of (with_seat seats c p) ≡ machines_of seats
machines_same [] c p e = refl
machines_same (q ∷ seats) zero p e = ap (λ m. m ∷ machines_of seats) e
machines_same (q ∷ seats) (suc c) p e = ap (λ ms. q.machine ∷ ms) (machines_same seats c p e)

pub place_here : (seats : List Seat) (c : ℕ) (p : Seat) → c < length seats → seat_in (with_seat seats c p) c ≡ p
place_here seats c p there = get_or-set_same seats c p empty_seat there

pub place_elsewhere : (seats : List Seat) (c d : ℕ) (p : Seat) → (d ≡ c → ⊥) → seat_in (with_seat seats c p) d ≡ seat_in seats d
place_elsewhere seats c d p other = get_or-set_other seats c d p empty_seat other

-- a controller that is up is there
pub up_there : (seats : List Seat) (c : ℕ) → (seat_in seats c).controller.up ≡ true → c < length seats
up_there [] c up = cc
up_there (p ∷ seats) zero up = omega arith
up_there (p ∷ seats) (suc c) up = let there = up_there seats c up in omega arith

pub is_up : (s : Seated) (c : ℕ) (drawn : List (ℕ × ℕ)) → (seat_at s c).controller.up ≡ true → IsUp (world_of s drawn) c
is_up s c drawn up = record {
  known = subst (λ n. c < n) (sym (length-map s.seats (λ p. p.controller))) (up_there s.seats c up);
  up = subst (λ (k : Controller). k.up ≡ true) (sym (controller_in s.seats c)) up;
}

-- ---------------------------------------------------------------- a controller acts

acted_world : (s : Seated) (c : ℕ) (i : Input) (o : Order) (drawn : List (ℕ × ℕ))
    → world_of (has_acted s c i o) drawn ≡ happens (world_of s drawn) (event.Acted c i o)
acted_world s c i o drawn = rw (changed_is s.seats c (λ k. controller_acted k i o) (acted_at (seat_at s c) i o) refl) refl

acted_machines : (seats : List Seat) (c : ℕ) (i : Input) (o : Order)
    → machines_of (with_seat seats c (acted_at (seat_in seats c) i o)) ≡ set (machines_of seats) c
    (option_map (λ m. machine_after m i o) (machine_in (machines_of seats) c))
acted_machines seats c i o =
    machines_set seats c (acted_at (seat_in seats c) i o) ∙ ap (λ m. set (machines_of seats) c (option_map (λ n. machine_after n i o) m))
    (sym (machine_of seats c))

may_order_at : (w : World) (c : ℕ) (p : Seat) (i : Input) (o : Order) → IsDue p.controller i → IsTied p.controller p.machine → MayAnswer p.machine i o
    → IsPlaced (owns w.bus.owner c) w.trace p → MayOrder w c (controller_informed p.controller i) o
may_order_at w c p i o due tied answer placed = go p.machine tied answer placed where
  go : (m : Option Machine) → IsTied p.controller m → MayAnswer m i o
      → IsPlaced (owns w.bus.owner c) w.trace (record { controller = p.controller; machine = m })
      → MayOrder w c (controller_informed p.controller i) o
  go None tied answer placed = elim answer [ ]
  go (Some m) tied answer placed = (may_order w c p.controller m i o due tied answer.answered placed).may

pub moves_acted : (s : Seated) (c : ℕ) (i : Input) (o : Order) → (seat_at s c).controller.up ≡ true → IsDue (seat_at s c).controller i
    → IsTied (seat_at s c).controller (seat_at s c).machine → MayAnswer (seat_at s c).machine i o → IsPlaced (owns s.bus.owner c) s.trace (seat_at s c)
    → IsMove s (event.Acted c i o) (has_acted s c i o)
moves_acted s c i o up due tied answer placed = record {
  allowed = λ drawn. record {
    up = is_up s c drawn up;
    due = subst (λ (k : Controller). IsDue k i) (sym (controller_in s.seats c)) due;
    order = subst (λ (k : Controller). MayOrder (world_of s drawn) c (controller_informed k i) o) (sym (controller_in s.seats c))
        (may_order_at (world_of s drawn) c (seat_at s c) i o due tied answer placed);
  };
  world = λ drawn. acted_world s c i o drawn;
  machines = λ drawn. acted_machines s.seats c i o;
}

-- ---------------------------------------------------------------- frames

pub moves_offered : (s : Seated) (c : ℕ) (f : Forward) → (seat_at s c).controller.up ≡ true → IsArc f → IsMove s (event.Offered c f) (has_offered s c f)
moves_offered s c f up arc = record { allowed = λ drawn. (is_up s c drawn up, arc); world = λ drawn. refl; machines = λ drawn. refl }

-- who may send, by the place of the sender
abbrev pub MaySendAt : Seated → ℕ → Forward → Type 0
MaySendAt s c f = (drawn : List (ℕ × ℕ)) → MaySend (world_of s drawn) c f

sent_world : (s : Seated) (c : ℕ) (f : Forward) (h : Answer) (drawn : List (ℕ × ℕ))
    → world_of (has_sent s c f h) (happens (world_of s drawn) (event.Sent c f h)).drawn ≡ happens (world_of s drawn) (event.Sent c f h)
sent_world s c f h drawn =
    rw (changed_is s.seats c (told_sent (running_in s c) f h) (told_at (told_sent (running_in s c) f h) (seat_at s c)) refl, controller_in s.seats c) refl

pub moves_sent : (s : Seated) (c : ℕ) (f : Forward) (h : Answer) → (seat_at s c).controller.up ≡ true → MaySendAt s c f
    → draws_needed Everyone (command_of f) 0 s.fitted.gear ≤ length s.fitted.left → Hears (answers_of Everyone (command_of f) 0 s.fitted.gear) h
    → IsMove s (event.Sent c f h) (has_sent s c f h)
moves_sent s c f h up may draws heard = record {
  allowed = λ drawn. record { up = is_up s c drawn up; may = may drawn; draws = draws; heard = heard };
  world = λ drawn. sent_world s c f h drawn;
  machines = λ drawn. machines_same s.seats c _ refl;
}

lost_world : (s : Seated) (c : ℕ) (f : Forward) (set : GearSet) (drawn : List (ℕ × ℕ))
    → world_of (has_lost s c f set) (happens (world_of s drawn) (event.Destroyed c f set)).drawn ≡ happens (world_of s drawn) (event.Destroyed c f set)
lost_world s c f set drawn = rw (changed_is s.seats c (told_destroyed f) (told_at (told_destroyed f) (seat_at s c)) refl) refl

pub moves_lost : (s : Seated) (c : ℕ) (f : Forward) (set : GearSet) → (seat_at s c).controller.up ≡ true → MaySendAt s c f
    → draws_needed (Only set) (command_of f) 0 s.fitted.gear ≤ length s.fitted.left → IsMove s (event.Destroyed c f set) (has_lost s c f set)
moves_lost s c f set up may draws = record {
  allowed = λ drawn. record { up = is_up s c drawn up; may = may drawn; draws = draws };
  world = λ drawn. lost_world s c f set drawn;
  machines = λ drawn. machines_same s.seats c _ refl;
}

collided_places : (seats : List Seat) (c d : ℕ) (f g : Forward)
    → controllers_of (with_seat (with_seat seats c (told_at (told_destroyed f) (seat_in seats c))) d
    (told_at (told_destroyed g) (seat_in (with_seat seats c (told_at (told_destroyed f) (seat_in seats c))) d)))
    ≡ controllers_changed (controllers_changed (controllers_of seats) c (told_destroyed f)) d (told_destroyed g)
collided_places seats c d f g =
    changed_is (with_seat seats c (told_at (told_destroyed f) (seat_in seats c))) d (told_destroyed g)
    (told_at (told_destroyed g) (seat_in (with_seat seats c (told_at (told_destroyed f) (seat_in seats c))) d)) refl
    ∙ ap (λ cs. controllers_changed cs d (told_destroyed g)) (changed_is seats c (told_destroyed f) (told_at (told_destroyed f) (seat_in seats c)) refl)

pub moves_collided : (s : Seated) (c : ℕ) (f : Forward) (d : ℕ) (g : Forward) → s.bus.owner ≡ None → (c ≡ d → ⊥)
    → (seat_at s c).controller.up ≡ true → (seat_at s d).controller.up ≡ true → IsFirst f → IsFirst g
    → IsMove s (event.Collided c f d g) (has_collided s c f d g)
moves_collided s c f d g free apart up_c up_d first second = record {
  allowed = λ drawn. record { free = free; apart = apart; first_up = is_up s c drawn up_c; second_up = is_up s d drawn up_d; first = first; second = second };
  world = λ drawn. rw (collided_places s.seats c d f g) refl;
  machines = λ drawn. machines_same (with_seat s.seats c (told_at (told_destroyed f) (seat_at s c))) d _ refl
      ∙ machines_same s.seats c (told_at (told_destroyed f) (seat_at s c)) refl;
}

lapsed_places : (seats : List Seat) (o : Option ℕ) → controllers_of (owner_lapsed seats o) ≡ owner_told (controllers_of seats) o
lapsed_places seats None = refl
lapsed_places seats (Some c) = changed_is seats c told_lapsed (told_at told_lapsed (seat_in seats c)) refl

lapsed_machines : (seats : List Seat) (o : Option ℕ) → machines_of (owner_lapsed seats o) ≡ machines_of seats
lapsed_machines seats None = refl
lapsed_machines seats (Some c) = machines_same seats c (told_at told_lapsed (seat_in seats c)) refl

pub moves_lapsed : (s : Seated) → IsMove s event.Lapsed (has_lapsed s)
moves_lapsed s = record {
  allowed = λ drawn. tt;
  world = λ drawn. rw (lapsed_places s.seats s.bus.owner) refl;
  machines = λ drawn. lapsed_machines s.seats s.bus.owner;
}

-- ---------------------------------------------------------------- gear

-- ---------------------------------------------------------------- controllers go down and come up

pub moves_down : (s : Seated) (c : ℕ) → (seat_at s c).controller.up ≡ true → IsMove s (event.Down c) (has_gone_down s c)
moves_down s c up = record {
  allowed = λ drawn. is_up s c drawn up;
  world = λ drawn. rw (changed_is s.seats c gone_down (down_at (seat_at s c)) refl) refl;
  machines = λ drawn. machines_set s.seats c (down_at (seat_at s c));
}

pub moves_up : (s : Seated) (c : ℕ) (kept : Bool) → c < length s.seats → (seat_at s c).controller.up ≡ false → HasOutstanding (seat_at s c).controller kept
    → IsMove s (event.Up c kept) (has_come_up s c kept)
moves_up s c kept there down has = record {
  allowed = λ drawn. (
    record {
      known = subst (λ n. c < n) (sym (length-map s.seats (λ p. p.controller))) there;
      down = subst (λ (k : Controller). k.up ≡ false) (sym (controller_in s.seats c)) down;
    },
    subst (λ (k : Controller). HasOutstanding k kept) (sym (controller_in s.seats c)) has,
  );
  world = λ drawn. rw (changed_is s.seats c (come_up kept) (up_at c kept (seat_at s c)) refl) refl;
  machines = λ drawn. machines_set s.seats c (up_at c kept (seat_at s c))
      ∙ ap (λ (k : Controller). set (machines_of s.seats) c (Some (at_first c (come_up kept k).records))) (sym (controller_in s.seats c));
}

-- ---------------------------------------------------------------- the start

controllers_from : (d : ℕ) (bs : List Block) → controllers_of (seats_from d bs) ≡ map controller_begun bs
controllers_from d [] = refl
controllers_from d (b ∷ bs) = ap (λ cs. controller_begun b ∷ cs) (controllers_from (d + 1) bs)

machines_from : (d : ℕ) (bs : List Block) → machines_of (seats_from d bs) ≡ machines_at d bs
machines_from d [] = refl
machines_from d (b ∷ bs) = ap (λ ms. Some (at_first d (without_records b)) ∷ ms) (machines_from (d + 1) bs)

pub start_stands : (p : Plan) (capacity : ℕ) → flat (seated_at p capacity) ≡ stand_of (start p capacity) (machines_at 0 p.blocks)
start_stands p capacity = rw (controllers_from 0 p.blocks, machines_from 0 p.blocks) refl
