use Rattle.std.proofs.Common.{◌≡◌, ℕ, ◌<◌, ◌≤◌, ◌⊎◌, inl, inr, Bool, true, false, List, [], ◌∷◌, ◌++◌, refl, sym, ap, subst, ◌∙◌, length, length-set, get_or}
use Rattle.std.proofs.Common.{Option, Some, None, IfSome, ◌↔◌, if◌then◌else◌}
use Rattle.std.proofs.lemmas.List.{get_or_read_under, length-map}
use Rattle.dali_frame.specs.declared.frames.{Answer.Answer, Forward.Forward}
use Rattle.dali_special.{specs.Command.command_of, specs.declared.command.Command.TheVariants.Arc, proofs.Table.arc_of}
use Rattle.dali_gear.specs.{Row.answers_of, Row.draws_needed, Row.heard_of, declared.gear_set.GearSet.GearSet}
use Rattle.dali_gear.specs.declared.row.Reach.TheVariants.{Everyone, Only}
use Rattle.dali_arbiter.specs.Arbiter.{Arbiter, owns, total, next, request_of, bus_lapsed, bus_offered, bus_sent, bus_destroyed, bus_collided, collision}
use Rattle.dali_arbiter.specs.{Arbiter.bus_silenced, Arbiter.bus_freed, Arbiter.bus_muted, declared.request.Request.Request}
use Rattle.dali_script.specs.{Due.frame_put, Records.Kept, Scripts.IsLawful, Scripts.IsFirst, Stages.stage_of, Stages.may_follow, Stages.IsReached}
use Rattle.dali_script.specs.declared.orders.{Input.Input, Order.Order, Order.TheVariants.Put, Order.TheVariants.Commit, Order.TheVariants.Done}
use Rattle.dali_script.specs.declared.{orders.Order.TheVariants.Halt, stage.Stage.Stage, trace.Entry.Entry}
use Rattle.dali_script.specs.declared.orders.Input.TheVariants as input
use Rattle.dali_controller.specs.Machine.{Machine}
use Rattle.dali_events.specs.Allowed.{Allowed, IsUp, Hears, MaySend, IsDue, IsArc, HasOutstanding}
use Rattle.dali_events.specs.Happens.{happens, entry, gives_up, put_after, is_arc, told_sent, told_destroyed, told_lapsed, sent_by}
use Rattle.dali_events.specs.{Troubles.heard_under, Troubles.nobody_at_all, World.World, World.Controller, declared.event.Event.Event}
use Rattle.dali_events.{specs.declared.trouble.Trouble.Trouble, proofs.Invariant.Growing.plain_hearing, proofs.Invariant.Sending.lawful_of}
use Rattle.dali_events.specs.declared.event.Event.TheVariants as event
use Rattle.dali_events.specs.declared.trouble.Trouble.TheVariants as trouble
use Rattle.dali_standing.specs.FittedGear.{FittedGear, taken_at}
use Rattle.dali_standing.specs.Seats.{Seat, Agrees, IsRunning, IsTied, MayAnswer, LeavesWhole, acted_at, told_at, down_at, up_at, trace_of}
use Rattle.dali_standing.specs.Settled.{IsAccepted, IsHearing, IsOwning, IsPlacedBy, IsPlaced, IsPlacedOn, Settled, FollowsItsMachine}
use Rattle.dali_standing.specs.Standing.{Seated, seat_in, empty_seat, seated, running_told, running_at, running_by, Standing, flat, stand_of, controller_on}
use Rattle.dali_standing.specs.Standing.{machine_in, machines_after, Moves, MayBeSent, WasOrdered}
use Rattle.dali_standing.proofs.{Acts.owner_owns, Moves.MaySendAt, Moves.is_up, Moves.controller_in, Moves.machine_of, Moves.up_there}
use Rattle.dali_standing.proofs.Moves.{place_elsewhere, moves_acted, moves_offered, moves_sent, moves_lost, moves_collided, moves_lapsed, moves_down, moves_up}
use Rattle.dali_standing.proofs.{Placing.running_is, Placing.owner_acted, Seats.seat_at, Seats.world_of, Seats.with_seat, Seats.running_in}
use Rattle.dali_standing.proofs.Seats.{goes_on_in, has_acted, has_offered, has_sent, has_lost, has_collided, has_lapsed, has_gone_down, has_come_up, IsMove}
use Rattle.dali_standing.proofs.Settling.{next_at, owner_put, is_collision, is_arc_of, arc_tells, may_ask, accepted, settled_acted, settled_offered}
use Rattle.dali_standing.proofs.Settling.{settled_sent, settled_lost, settled_collided, settled_lapsed, settled_down, settled_up}

-- WHAT A CALL DID, from what its parts did: the event moves what stood, and what stands is settled.
pub record IsDone (was : Standing) (e : Event) (new : Seated) : Type 0 where
  pub moves : Moves was e (flat new)
  pub settled : Settled new

done_as : (was : Standing) (e : Event) (new as_found : Seated) → as_found ≡ new → IsDone was e new → IsDone was e as_found
done_as was e new as_found same done = subst (λ (s : Seated). IsDone was e s) (sym same) done

-- ---------------------------------------------------------------- the running transaction is the owner's

-- the frames that run are those of the machine that owns the bus
abbrev pub Runs : Seated → Type 0
Runs s = s.trace ≡ running_by s.bus.owner s.seats

owner_runs : (t : List Entry) (p : Seat) → IsPlaced true t p → t ≡ running_at p
owner_runs t p placed = by_machine p.machine placed where
  by_order : (m : Machine) (last : Option Order) (told : Option Input) → IsOwning t p.controller m last told → t ≡ running_told m.trace last told
  by_order m (Some (Put q f)) None is = is.1
  by_order m (Some (Put q f)) (Some (input.Heard h)) is = is
  by_order m (Some (Put q f)) (Some input.Start) is = elim is [ ]
  by_order m (Some (Put q f)) (Some input.Survey) is = elim is [ ]
  by_order m (Some (Put q f)) (Some input.Destroyed) is = elim is [ ]
  by_order m (Some (Put q f)) (Some input.Lapsed) is = elim is [ ]
  by_order m (Some (Put q f)) (Some input.Committed) is = elim is [ ]
  by_order m (Some (Put q f)) (Some input.CommitFailed) is = elim is [ ]
  by_order m (Some (Commit x)) told is = elim is [ ]
  by_order m (Some (Done e)) told is = elim is [ ]
  by_order m (Some (Halt why)) told is = elim is [ ]
  by_order m None told is = elim is [ ]

  by_machine : (m : Option Machine) → IsPlacedBy true t p.controller m → t ≡ running_told (trace_of m) p.controller.last p.controller.told
  by_machine None placed = absurd (let no : true ≡ false = placed.0 in cc)
  by_machine (Some m) placed = by_order m p.controller.last p.controller.told placed

runs_settled : (s : Seated) → Settled s → (s.bus.owner ≡ None → s.trace ≡ []) → Runs s
runs_settled s settled idle = go s.bus.owner refl where
  go : (o : Option ℕ) → s.bus.owner ≡ o → s.trace ≡ running_by o s.seats
  go None e = idle e
  go (Some c) e = owner_runs s.trace (seat_in s.seats c) (subst (λ b. IsPlaced b s.trace (seat_in s.seats c)) (owner_owns s.bus.owner c e) (settled.places c))

-- and so it is once something happened, if nothing runs where nobody owns the bus
done_running : (was : Standing) (e : Event) (fitted : FittedGear) (bus : Arbiter) (t : List Entry) (seats : List Seat) → (bus.owner ≡ None → t ≡ [])
    → IsDone was e (record { fitted = fitted; bus = bus; trace = t; seats = seats }) → IsDone was e (seated fitted bus seats)
done_running was e fitted bus t seats idle done =
    subst (λ u. IsDone was e (record { fitted = fitted; bus = bus; trace = u; seats = seats }))
    (runs_settled (record { fitted = fitted; bus = bus; trace = t; seats = seats }) done.settled idle) done

-- nothing runs where nobody owns the bus
idle_now : (s : Seated) → Runs s → s.bus.owner ≡ None → s.trace ≡ []
idle_now s runs e = runs ∙ ap (λ o. running_by o s.seats) e

idle_if : (x : Bool) (s : Seated) → Runs s → (if x then None else s.bus.owner) ≡ None → (if x then [] else s.trace) ≡ []
idle_if true s runs e = refl
idle_if false s runs e = idle_now s runs e

idle_sent : (more : Bool) (c : ℕ) (u : List Entry) → (if more then Some c else None) ≡ None → (if more then u else []) ≡ []
idle_sent true c u e = absurd (let no : Some c ≡ None = e in cc)
idle_sent false c u e = refl

-- the world in which these numbers were drawn
abbrev with_draws : Standing → List (ℕ × ℕ) → World
with_draws s drawn = record { gear = s.gear; bus = s.bus; trace = s.trace; controllers = s.controllers; left = s.left; drawn = drawn; gifts = s.gifts }

-- a move of places is one of what stands
pub moved : (s : Seated) (e : Event) (new : Seated) → IsMove s e new → Moves (flat s) e (flat new)
moved s e new is w ms same =
    let gone = go (flat s) same is.allowed (λ drawn. is.world drawn) (λ drawn. is.machines drawn) in
    gone where
      go : (f : Standing) → f ≡ stand_of w ms → ((drawn : List (ℕ × ℕ)) → Allowed (with_draws f drawn) e)
          → ((drawn : List (ℕ × ℕ)) → with_draws (flat new) (happens (with_draws f drawn) e).drawn ≡ happens (with_draws f drawn) e)
          → ((drawn : List (ℕ × ℕ)) → (flat new).machines ≡ machines_after (with_draws f drawn) f.machines e)
          → Allowed w e × (flat new ≡ stand_of (happens w e) (machines_after w ms e))
      go f same allowed world machines =
          let allowed_w : Allowed w e = subst (λ (g : Standing). Allowed (with_draws g w.drawn) e) same (allowed w.drawn) in
          let world_w : with_draws (flat new) (happens w e).drawn ≡ happens w e =
          subst (λ (g : Standing). with_draws (flat new) (happens (with_draws g w.drawn) e).drawn ≡ happens (with_draws g w.drawn) e) same (world w.drawn) in
          let machines_w : (flat new).machines ≡ machines_after w ms e =
          subst (λ (g : Standing). (flat new).machines ≡ machines_after (with_draws g w.drawn) g.machines e) same (machines w.drawn) in
          (allowed_w, ap (λ (v : World). stand_of v (flat new).machines) world_w ∙ ap (stand_of (happens w e)) machines_w)

-- the controller of a place, and its machine
pub on_place : (s : Seated) (was : Standing) (c : ℕ) → flat s ≡ was → controller_on was c ≡ (seat_at s c).controller
on_place s was c view = subst (λ (w : Standing). controller_on w c ≡ (seat_at s c).controller) view (controller_in s.seats c)

pub on_machine : (s : Seated) (was : Standing) (c : ℕ) → flat s ≡ was → machine_in was.machines c ≡ (seat_at s c).machine
on_machine s was c view = subst (λ (w : Standing). machine_in w.machines c ≡ (seat_at s c).machine) view (machine_of s.seats c)

-- a place that was read
pub place_read : (seats : List Seat) (c : ℕ) (p : Seat) → p ≡ get_or seats c p → c < length seats → p ≡ seat_in seats c
place_read seats c p read there = get_or_read_under seats c (length seats) p empty_seat read there refl

-- ---------------------------------------------------------------- a controller acts

pub act_accepts : (s : Seated) (was : Standing) (c : ℕ) (i : Input) (o : Order) (at : Seat) (bus : Arbiter) → flat s ≡ was → Settled s
    → (controller_on was c).up ≡ true → IsDue (controller_on was c) i → total was.bus < was.bus.capacity
    → at ≡ get_or s.seats c at → IsTied at.controller at.machine → MayAnswer at.machine i o
    → bus ≡ (if gives_up s.bus c o then bus_lapsed s.bus else s.bus) → IsAccepted bus c o
act_accepts s was c i o at bus view settled up due room read tied answer bus_is =
    let here : (seat_at s c).controller.up ≡ true = subst (λ (k : Controller). k.up ≡ true) (on_place s was c view) up in
    let is : at ≡ seat_at s c = place_read s.seats c at read (up_there s.seats c here) in
    subst (λ (b : Arbiter). IsAccepted b c o) (sym bus_is)
    (accepted s.bus c o (subst (λ (w : Standing). total w.bus < w.bus.capacity) (sym view) room)
    (may_ask (world_of s []) c (seat_at s c) i o (subst (λ (k : Controller). IsDue k i) (on_place s was c view) due)
    (subst (λ (p : Seat). IsTied p.controller p.machine) is tied) (subst (λ (p : Seat). MayAnswer p.machine i o) is answer) (settled.places c)))

acted_done : (s : Seated) (was : Standing) (c : ℕ) (i : Input) (o : Order) (at seat : Seat) (bus bus' : Arbiter) (trace : List Entry) → flat s ≡ was → Settled s
    → (controller_on was c).up ≡ true → IsDue (controller_on was c) i
    → at ≡ get_or s.seats c at → IsTied at.controller at.machine → MayAnswer at.machine i o → seat ≡ acted_at at i o
    → bus ≡ (if gives_up s.bus c o then bus_lapsed s.bus else s.bus) → trace ≡ (if gives_up s.bus c o then [] else s.trace) → bus' ≡ put_after bus c o
    → IsDone was (event.Acted c i o) (record { fitted = s.fitted; bus = bus'; trace = trace; seats = with_seat s.seats c seat })
acted_done s was c i o at seat bus bus' trace view settled up due read tied answer seat_is bus_is trace_is bus'_is =
    let here : (seat_at s c).controller.up ≡ true = subst (λ (k : Controller). k.up ≡ true) (on_place s was c view) up in
    let due_here : IsDue (seat_at s c).controller i = subst (λ (k : Controller). IsDue k i) (on_place s was c view) due in
    let is : at ≡ seat_at s c = place_read s.seats c at read (up_there s.seats c here) in
    let tied_here = subst (λ (p : Seat). IsTied p.controller p.machine) is tied in
    let answer_here = subst (λ (p : Seat). MayAnswer p.machine i o) is answer in
    subst (λ (w : Standing). IsDone w (event.Acted c i o) (record { fitted = s.fitted; bus = bus'; trace = trace; seats = with_seat s.seats c seat })) view
    (done_as (flat s) (event.Acted c i o) (has_acted s c i o) _
    (rw (bus'_is, bus_is, trace_is, seat_is) (ap (λ (p : Seat). record {
      fitted = s.fitted;
      bus = put_after (if gives_up s.bus c o then bus_lapsed s.bus else s.bus) c o;
      trace = (if gives_up s.bus c o then [] else s.trace);
      seats =
          with_seat s.seats c (acted_at p i o);
    }) is))
    (record {
      moves = moved s _ _ (moves_acted s c i o here due_here tied_here answer_here (settled.places c));
      settled = settled_acted s c i o settled here due_here tied_here answer_here;
    }))

pub act_done : (s : Seated) (was : Standing) (c : ℕ) (i : Input) (o : Order) (at seat : Seat) (bus bus' : Arbiter) → flat s ≡ was → Settled s → Runs s
    → (controller_on was c).up ≡ true → IsDue (controller_on was c) i
    → at ≡ get_or s.seats c at → IsTied at.controller at.machine → MayAnswer at.machine i o → seat ≡ acted_at at i o
    → bus ≡ (if gives_up s.bus c o then bus_lapsed s.bus else s.bus) → bus' ≡ put_after bus c o
    → IsDone was (event.Acted c i o) (seated s.fitted bus' (with_seat s.seats c seat))
act_done s was c i o at seat bus bus' view settled runs up due read tied answer seat_is bus_is bus'_is =
    let trace : List Entry = (if gives_up s.bus c o then [] else s.trace) in
    let owner : bus'.owner ≡ (if gives_up s.bus c o then None else s.bus.owner) =
    ap (λ (b : Arbiter). b.owner) (bus'_is ∙ ap (λ (b : Arbiter). put_after b c o) bus_is) ∙ owner_acted s.bus c o in
    done_running was (event.Acted c i o) s.fitted bus' trace (with_seat s.seats c seat) (λ e. idle_if (gives_up s.bus c o) s runs (sym owner ∙ e))
    (acted_done s was c i o at seat bus bus' trace view settled up due read tied answer seat_is bus_is refl bus'_is)

pub act_answers : (s : Seated) (was : Standing) (c : ℕ) (i : Input) (o : Order) (at : Seat) → flat s ≡ was → (controller_on was c).up ≡ true
    → at ≡ get_or s.seats c at → MayAnswer at.machine i o → MayAnswer (machine_in was.machines c) i o
act_answers s was c i o at view up read answer =
    let here : (seat_at s c).controller.up ≡ true = subst (λ (k : Controller). k.up ≡ true) (on_place s was c view) up in
    let is : at ≡ seat_at s c = place_read s.seats c at read (up_there s.seats c here) in
    subst (λ m. MayAnswer m i o) (sym (on_machine s was c view)) (subst (λ (p : Seat). MayAnswer p.machine i o) is answer)

pub act_whole : (s : Seated) (was : Standing) (c : ℕ) (i : Input) (o : Order) (at : Seat) → flat s ≡ was → (controller_on was c).up ≡ true
    → at ≡ get_or s.seats c at → LeavesWhole at.machine i o → LeavesWhole (machine_in was.machines c) i o
act_whole s was c i o at view up read whole =
    let here : (seat_at s c).controller.up ≡ true = subst (λ (k : Controller). k.up ≡ true) (on_place s was c view) up in
    let is : at ≡ seat_at s c = place_read s.seats c at read (up_there s.seats c here) in
    subst (λ m. LeavesWhole m i o) (sym (on_machine s was c view)) (subst (λ (p : Seat). LeavesWhole p.machine i o) is whole)

-- ---------------------------------------------------------------- requests and frames

offered_done : (s : Seated) (was : Standing) (c : ℕ) (f : Forward) (bus : Arbiter) → flat s ≡ was → Settled s → (controller_on was c).up ≡ true → IsArc f
    → bus ≡ bus_offered s.bus (request_of c 2 f) → IsDone was (event.Offered c f) (record { fitted = s.fitted; bus = bus; trace = s.trace; seats = s.seats })
offered_done s was c f bus view settled up arc is =
    let here : (seat_at s c).controller.up ≡ true = subst (λ (k : Controller). k.up ≡ true) (on_place s was c view) up in
    subst (λ (w : Standing). IsDone w (event.Offered c f) (record { fitted = s.fitted; bus = bus; trace = s.trace; seats = s.seats })) view
    (done_as (flat s) (event.Offered c f) (has_offered s c f) _ (rw is refl)
    (record { moves = moved s _ _ (moves_offered s c f here arc); settled = settled_offered s c f settled here arc }))

pub offer_done : (s : Seated) (was : Standing) (c : ℕ) (f : Forward) (bus : Arbiter) → flat s ≡ was → Settled s → Runs s → (controller_on was c).up ≡ true
    → IsArc f
    → bus ≡ bus_offered s.bus (request_of c 2 f) → IsDone was (event.Offered c f) (seated s.fitted bus s.seats)
offer_done s was c f bus view settled runs up arc is =
    let owner : bus.owner ≡ s.bus.owner = ap (λ (b : Arbiter). b.owner) is in
    done_running was (event.Offered c f) s.fitted bus s.trace s.seats (λ e. idle_now s runs (sym owner ∙ e)) (offered_done s was c f bus view settled up arc is)

-- the request that is next, of what stands
next_here : (s : Seated) (was : Standing) (r : Request) → flat s ≡ was → next was.bus ≡ Some r → next s.bus ≡ Some r
next_here s was r view first = subst (λ (w : Standing). next w.bus ≡ Some r) (sym view) first

-- its sender is there
pub sender_there : (s : Seated) (was : Standing) (r : Request) → flat s ≡ was → Settled s → next was.bus ≡ Some r → r.sender < length s.seats
sender_there s was r view settled first = up_there s.seats r.sender (next_at s r settled (next_here s was r view first)).up

-- its frame may be pushed
pub frame_follows : (s : Seated) (was : Standing) (r : Request) (t : List Entry) → flat s ≡ was → Settled s → next was.bus ≡ Some r
    → t ≡ (if owns s.bus.owner r.sender then s.trace else [])
    → IsLawful t r.frame
frame_follows s was r t view settled first is =
    let n = next_at s r settled (next_here s was r view first) in
    let lawful = lawful_of (world_of s []) r.sender r.frame (n.may []) in
    subst (λ u. IsLawful u r.frame) (sym is) (_, _, lawful)

abbrev IsKind : Seated → Request → Type 0
IsKind s r = ((is_arc (command_of r.frame) ≡ false) × ((seat_at s r.sender).controller.told ≡ None)
    × ((seat_at s r.sender).controller.last ≡ Some (Put r.priority r.frame)))
    ⊎ ((is_arc (command_of r.frame) ≡ true) × (s.bus.owner ≡ None))

-- the frames that its transaction has so far are its machine's
same_if : (b : Bool) (t u : List Entry) → (if b then t else []) ≡ u → (if b then u else []) ≡ (if b then t else [])
same_if true t u e = sym e
same_if false t u e = refl

pub sender_runs : (s : Seated) (was : Standing) (r : Request) (at : Seat) (t : List Entry) (owned : Bool) → flat s ≡ was → Settled s → next was.bus ≡ Some r
    → at ≡ get_or s.seats r.sender at
    → owned ≡ owns s.bus.owner r.sender → t ≡ (if owned then trace_of at.machine else []) → t ≡ (if owns s.bus.owner r.sender then s.trace else [])
sender_runs s was r at t owned view settled first read owned_is t_is =
    let n = next_at s r settled (next_here s was r view first) in
    let is : at ≡ seat_at s r.sender = place_read s.seats r.sender at read (up_there s.seats r.sender n.up) in
    t_is ∙ ap (λ b. if b then trace_of at.machine else []) owned_is ∙ ap (λ (p : Seat). if owns s.bus.owner r.sender then trace_of p.machine else []) is
    ∙ go n.kind where
      go : IsKind s r → (if owns s.bus.owner r.sender then trace_of (seat_at s r.sender).machine else []) ≡ (if owns s.bus.owner r.sender then s.trace else [])
      go (inl k) = same_if (owns s.bus.owner r.sender) s.trace (trace_of (seat_at s r.sender).machine)
          (running_is (owns s.bus.owner r.sender) s.trace (seat_at s r.sender) r.priority r.frame k.1 k.2 (settled.places r.sender))
      go (inr k) = rw k.1 refl

-- its sender waits for it
pub sender_hears : (s : Seated) (was : Standing) (r : Request) (at : Seat) (h : Answer) (t : List Entry) (x : Stage)
    → flat s ≡ was → Settled s → next was.bus ≡ Some r
    → at ≡ get_or s.seats r.sender at
    → t ≡ (if owns s.bus.owner r.sender then s.trace else []) → IsReached x (t ++ entry r.frame h ∷ []) → IsHearing at r.frame h x
sender_hears s was r at h t x view settled first read t_is reached scripted =
    let n = next_at s r settled (next_here s was r view first) in
    let is : at ≡ seat_at s r.sender = place_read s.seats r.sender at read (up_there s.seats r.sender n.up) in
    let known : (frame_put (seat_at s r.sender).controller.last ≡ Some r.frame) × ((seat_at s r.sender).controller.told ≡ None)
    × IsReached x (trace_of (seat_at s r.sender).machine ++ entry r.frame h ∷ []) = go n.kind in
    subst (λ (p : Seat). (frame_put p.controller.last ≡ Some r.frame) × (p.controller.told ≡ None)
    × IsReached x (trace_of p.machine ++ entry r.frame h ∷ []))
    (sym is) known where
      go : IsKind s r
          → (frame_put (seat_at s r.sender).controller.last ≡ Some r.frame) × ((seat_at s r.sender).controller.told ≡ None)
          × IsReached x (trace_of (seat_at s r.sender).machine ++ entry r.frame h ∷ [])
      go (inl k) = (
        rw k.2 refl,
        k.1,
        subst (λ v. IsReached x (v ++ entry r.frame h ∷ []))
            (t_is ∙ running_is (owns s.bus.owner r.sender) s.trace (seat_at s r.sender) r.priority r.frame k.1 k.2 (settled.places r.sender)) reached,
      )
      go (inr k) = absurd (let no = k.0 in cc)

-- and its frame goes on with those of its machine
pub sender_goes_on : (s : Seated) (was : Standing) (r : Request) → flat s ≡ was → Settled s → next was.bus ≡ Some r → FollowsItsMachine was r
sender_goes_on s was r view settled first =
    subst (λ (w : Standing). FollowsItsMachine w r) view (go (next_at s r settled (next_here s was r view first)).kind) where
      go : IsKind s r → FollowsItsMachine (flat s) r
      go (inl k) scripted = (
        ap (λ (x : Controller). frame_put x.last) (controller_in s.seats r.sender) ∙ ap frame_put k.2,
        λ m has. running_is (owns s.bus.owner r.sender) s.trace (seat_at s r.sender) r.priority r.frame k.1 k.2 (settled.places r.sender)
            ∙ ap trace_of (sym (machine_of s.seats r.sender) ∙ has),
      )
      go (inr k) scripted = absurd (let no = k.0 in cc)

pub sender_loses : (s : Seated) (was : Standing) (r : Request) (at : Seat) → flat s ≡ was → Settled s → next was.bus ≡ Some r → at ≡ get_or s.seats r.sender at
    → is_arc (command_of r.frame) ≡ false → frame_put at.controller.last ≡ Some r.frame
sender_loses s was r at view settled first read scripted =
    let n = next_at s r settled (next_here s was r view first) in
    let is : at ≡ seat_at s r.sender = place_read s.seats r.sender at read (up_there s.seats r.sender n.up) in
    subst (λ (p : Seat). frame_put p.controller.last ≡ Some r.frame) (sym is) (go n.kind) where
      go : IsKind s r → frame_put (seat_at s r.sender).controller.last ≡ Some r.frame
      go (inl k) = rw k.2 refl
      go (inr k) = absurd (let no = k.0 in cc)

-- what is told does not hang on whose trace it is called
told_running : (s : Seated) (r : Request) (h : Answer) → Settled s → next s.bus ≡ Some r
    → told_at (told_sent (trace_of (seat_at s r.sender).machine) r.frame h) (seat_at s r.sender)
    ≡ told_at (told_sent (running_in s r.sender) r.frame h) (seat_at s r.sender)
told_running s r h settled first = go (next_at s r settled first).kind where
  go : IsKind s r
      → told_at (told_sent (trace_of (seat_at s r.sender).machine) r.frame h) (seat_at s r.sender)
      ≡ told_at (told_sent (running_in s r.sender) r.frame h) (seat_at s r.sender)
  go (inl k) = ap (λ t. told_at (told_sent t r.frame h) (seat_at s r.sender))
      (sym (running_is (owns s.bus.owner r.sender) s.trace (seat_at s r.sender) r.priority r.frame k.1 k.2 (settled.places r.sender)))
  go (inr k) = arc_tells (trace_of (seat_at s r.sender).machine) r.frame h (seat_at s r.sender) k.0
      ∙ sym (arc_tells (running_in s r.sender) r.frame h (seat_at s r.sender) k.0)

sent_is : (b : Arbiter) (r : Request) (more : Bool) → next b ≡ Some r → bus_sent b more ≡ sent_by b r.sender more
sent_is b r true first = rw first refl
sent_is b r false first = refl

sent_done : (s : Seated) (was : Standing) (r : Request) (h : Answer) (at seat : Seat) (fitted : FittedGear) (bus : Arbiter) (t u v : List Entry) (more : Bool)
    → flat s ≡ was → Settled s → next was.bus ≡ Some r
    → draws_needed Everyone (command_of r.frame) 0 was.gear ≤ length was.left → Hears (answers_of Everyone (command_of r.frame) 0 s.fitted.gear) h
    → at ≡ get_or s.seats r.sender at → fitted ≡ taken_at Everyone (command_of r.frame) s.fitted
    → t ≡ (if owns s.bus.owner r.sender then s.trace else []) → u ≡ t ++ entry r.frame h ∷ []
    → seat ≡ told_at (told_sent (trace_of at.machine) r.frame h) at
    → more ≡ may_follow seat.controller.records.block seat.controller.records.reserved (stage_of u) → v ≡ (if more then u else [])
    → bus ≡ bus_sent s.bus more
    → IsDone was (event.Sent r.sender r.frame h) (record { fitted = fitted; bus = bus; trace = v; seats = with_seat s.seats r.sender seat })
sent_done s was r h at seat fitted bus t u v more view settled first draws heard read fitted_is t_is u_is seat_is more_is v_is bus_is =
    let here = next_here s was r view first in
    let n = next_at s r settled here in
    let is : at ≡ seat_at s r.sender = place_read s.seats r.sender at read (up_there s.seats r.sender n.up) in
    let seat_so : seat ≡ told_at (told_sent (running_in s r.sender) r.frame h) (seat_at s r.sender) =
    seat_is ∙ ap (λ (p : Seat). told_at (told_sent (trace_of p.machine) r.frame h) p) is ∙ told_running s r h settled here in
    let u_so : u ≡ running_in s r.sender ++ entry r.frame h ∷ [] = u_is ∙ ap (λ x. x ++ entry r.frame h ∷ []) t_is in
    let more_so : more ≡ goes_on_in s r.sender (running_in s r.sender ++ entry r.frame h ∷ []) =
    more_is ∙ ap (λ (p : Seat). may_follow p.controller.records.block p.controller.records.reserved (stage_of u)) seat_so
    ∙ ap (λ x. goes_on_in s r.sender x) u_so in
    let draws_here = subst (λ (w : Standing). draws_needed Everyone (command_of r.frame) 0 w.gear ≤ length w.left) (sym view) draws in
    subst (λ (w : Standing). IsDone w (event.Sent r.sender r.frame h)
    (record { fitted = fitted; bus = bus; trace = v; seats = with_seat s.seats r.sender seat })) view
    (done_as (flat s) (event.Sent r.sender r.frame h) (has_sent s r.sender r.frame h) _
    (rw (fitted_is, bus_is ∙ sent_is s.bus r more here, v_is, u_so, seat_so, more_so) refl)
    (record { moves = moved s _ _ (moves_sent s r.sender r.frame h n.up n.may draws_here heard); settled = settled_sent s r h settled here }))

pub send_done : (s : Seated) (was : Standing) (r : Request) (h : Answer) (at seat : Seat) (fitted : FittedGear) (bus : Arbiter) (t : List Entry) (x : Stage)
    (more : Bool)
    → flat s ≡ was → Settled s → next was.bus ≡ Some r
    → draws_needed Everyone (command_of r.frame) 0 was.gear ≤ length was.left → Hears (answers_of Everyone (command_of r.frame) 0 s.fitted.gear) h
    → at ≡ get_or s.seats r.sender at → fitted ≡ taken_at Everyone (command_of r.frame) s.fitted
    → t ≡ (if owns s.bus.owner r.sender then s.trace else []) → IsReached x (t ++ entry r.frame h ∷ [])
    → seat ≡ told_at (told_sent (trace_of at.machine) r.frame h) at
    → more ≡ may_follow seat.controller.records.block seat.controller.records.reserved x → bus ≡ bus_sent s.bus more
    → IsDone was (event.Sent r.sender r.frame h) (seated fitted bus (with_seat s.seats r.sender seat))
send_done s was r h at seat fitted bus t x more view settled first draws heard read fitted_is t_is reached seat_is more_is bus_is =
    let u : List Entry = t ++ entry r.frame h ∷ [] in
    let owner : bus.owner ≡ (if more then Some r.sender else None) =
    ap (λ (b : Arbiter). b.owner) (bus_is ∙ sent_is s.bus r more (next_here s was r view first)) in
    let more_so : more ≡ may_follow seat.controller.records.block seat.controller.records.reserved (stage_of u) =
    more_is ∙ ap (λ y. may_follow seat.controller.records.block seat.controller.records.reserved y) reached.stage in
    done_running was (event.Sent r.sender r.frame h) fitted bus (if more then u else []) (with_seat s.seats r.sender seat)
    (λ e. idle_sent more r.sender u (sym owner ∙ e))
    (sent_done s was r h at seat fitted bus t u _ more view settled first draws heard read fitted_is t_is refl seat_is more_so refl bus_is)

lost_done : (s : Seated) (was : Standing) (r : Request) (set : GearSet) (at seat : Seat) (fitted : FittedGear) (bus : Arbiter) (t : List Entry) → flat s ≡ was
    → Settled s → next was.bus ≡ Some r
    → draws_needed (Only set) (command_of r.frame) 0 was.gear ≤ length was.left
    → at ≡ get_or s.seats r.sender at → fitted ≡ taken_at (Only set) (command_of r.frame) s.fitted → seat ≡ told_at (told_destroyed r.frame) at
    → bus ≡ bus_destroyed s.bus → t ≡ []
    → IsDone was (event.Destroyed r.sender r.frame set) (record { fitted = fitted; bus = bus; trace = t; seats = with_seat s.seats r.sender seat })
lost_done s was r set at seat fitted bus t view settled first draws read fitted_is seat_is bus_is t_is =
    let here = next_here s was r view first in
    let n = next_at s r settled here in
    let is : at ≡ seat_at s r.sender = place_read s.seats r.sender at read (up_there s.seats r.sender n.up) in
    let seat_so : seat ≡ told_at (told_destroyed r.frame) (seat_at s r.sender) = seat_is ∙ ap (λ (p : Seat). told_at (told_destroyed r.frame) p) is in
    let draws_here = subst (λ (w : Standing). draws_needed (Only set) (command_of r.frame) 0 w.gear ≤ length w.left) (sym view) draws in
    subst (λ (w : Standing). IsDone w (event.Destroyed r.sender r.frame set)
    (record { fitted = fitted; bus = bus; trace = t; seats = with_seat s.seats r.sender seat })) view
    (done_as (flat s) (event.Destroyed r.sender r.frame set) (has_lost s r.sender r.frame set) _ (rw (fitted_is, bus_is, t_is, seat_so) refl)
    (record { moves = moved s _ _ (moves_lost s r.sender r.frame set n.up n.may draws_here); settled = settled_lost s r set settled here }))

pub destroy_done : (s : Seated) (was : Standing) (r : Request) (set : GearSet) (at seat : Seat) (fitted : FittedGear) (bus : Arbiter) → flat s ≡ was → Settled s
    → next was.bus ≡ Some r
    → draws_needed (Only set) (command_of r.frame) 0 was.gear ≤ length was.left
    → at ≡ get_or s.seats r.sender at → fitted ≡ taken_at (Only set) (command_of r.frame) s.fitted → seat ≡ told_at (told_destroyed r.frame) at
    → bus ≡ bus_destroyed s.bus
    → IsDone was (event.Destroyed r.sender r.frame set) (seated fitted bus (with_seat s.seats r.sender seat))
destroy_done s was r set at seat fitted bus view settled first draws read fitted_is seat_is bus_is =
    done_running was (event.Destroyed r.sender r.frame set) fitted bus [] (with_seat s.seats r.sender seat) (λ e. refl)
    (lost_done s was r set at seat fitted bus [] view settled first draws read fitted_is seat_is bus_is refl)

-- what is heard under a trouble may be heard
pub may_hear : (answers : List ℕ) (what : Trouble) (plain h : Answer) → plain ≡ heard_of answers → h ≡ heard_under what plain → Hears answers h
may_hear answers what plain h plain_is is = subst (λ x. Hears answers x) (sym (is ∙ ap (heard_under what) plain_is)) (go what) where
  go : (t : Trouble) → Hears answers (heard_under t (heard_of answers))
  go trouble.AnswerLost = tt
  go trouble.Noise = tt
  go _ = plain_hearing answers

-- ---------------------------------------------------------------- two frames collide

alone_is : (b : Arbiter) → collision b.lists ≡ None → bus_collided b ≡ bus_destroyed b
alone_is b none = rw none refl

pub alone_done : (s : Seated) (was : Standing) (r : Request) (at seat : Seat) (fitted : FittedGear) (bus : Arbiter) → flat s ≡ was → Settled s
    → next was.bus ≡ Some r
    → draws_needed (Only nobody_at_all) (command_of r.frame) 0 was.gear ≤ length was.left → collision s.bus.lists ≡ None
    → at ≡ get_or s.seats r.sender at → fitted ≡ taken_at (Only nobody_at_all) (command_of r.frame) s.fitted → seat ≡ told_at (told_destroyed r.frame) at
    → bus ≡ bus_collided s.bus
    → IsDone was (event.Destroyed r.sender r.frame nobody_at_all) (seated fitted bus (with_seat s.seats r.sender seat))
alone_done s was r at seat fitted bus view settled first draws none read fitted_is seat_is bus_is =
    destroy_done s was r nobody_at_all at seat fitted bus view settled first draws read fitted_is seat_is (bus_is ∙ alone_is s.bus none)

first_frame : (s : Seated) (r : Request) → s.bus.owner ≡ None → MaySendAt s r.sender r.frame → IsFirst r.frame
first_frame s r free may = go (may []) where
  go : MaySend (world_of s []) r.sender r.frame → IsFirst r.frame
  go (inl m) = absurd (let no : Some r.sender ≡ None = sym m.0 ∙ free in cc)
  go (inr m) = m.1

first_lost : (s : Seated) (was : Standing) (r : Request) (at seat : Seat) → flat s ≡ was → Settled s → next was.bus ≡ Some r → at ≡ get_or s.seats r.sender at
    → seat ≡ told_at (told_destroyed r.frame) at → with_seat s.seats r.sender seat ≡ (has_lost s r.sender r.frame nobody_at_all).seats
first_lost s was r at seat view settled first read seat_is =
    let n = next_at s r settled (next_here s was r view first) in
    let is : at ≡ seat_at s r.sender = place_read s.seats r.sender at read (up_there s.seats r.sender n.up) in
    ap (λ (p : Seat). with_seat s.seats r.sender p) (seat_is ∙ ap (λ (p : Seat). told_at (told_destroyed r.frame) p) is)

pub rival_there : (s : Seated) (was : Standing) (r q : Request) → flat s ≡ was → Settled s → next was.bus ≡ Some r → collision s.bus.lists ≡ Some q
    → q.sender < length s.seats
rival_there s was r q view settled first both =
    let k = is_collision s r q settled (next_here s was r view first) both in
    subst (λ n. q.sender < n) (length-set s.seats r.sender (told_at (told_destroyed r.frame) (seat_at s r.sender)))
    (up_there (has_lost s r.sender r.frame nobody_at_all).seats q.sender k.second.up)

pub rival_loses : (s : Seated) (was : Standing) (r q : Request) (at seat at' : Seat) → flat s ≡ was → Settled s → next was.bus ≡ Some r
    → collision s.bus.lists ≡ Some q
    → at ≡ get_or s.seats r.sender at → seat ≡ told_at (told_destroyed r.frame) at → at' ≡ get_or (with_seat s.seats r.sender seat) q.sender at'
    → is_arc (command_of q.frame) ≡ false → frame_put at'.controller.last ≡ Some q.frame
rival_loses s was r q at seat at' view settled first both read seat_is read' scripted =
    let here = next_here s was r view first in
    let k = is_collision s r q settled here both in
    let lost : Seated = has_lost s r.sender r.frame nobody_at_all in
    sender_loses lost (flat lost) q at' refl (settled_lost s r nobody_at_all settled here) k.then_next
    (subst (λ (ps : List Seat). at' ≡ get_or ps q.sender at') (first_lost s was r at seat view settled first read seat_is) read') scripted

collided_done : (s : Seated) (was : Standing) (r q : Request) (at seat at' seat' : Seat) (bus : Arbiter) (t : List Entry) → flat s ≡ was → Settled s
    → next was.bus ≡ Some r → collision s.bus.lists ≡ Some q
    → at ≡ get_or s.seats r.sender at → seat ≡ told_at (told_destroyed r.frame) at → at' ≡ get_or (with_seat s.seats r.sender seat) q.sender at'
    → seat' ≡ told_at (told_destroyed q.frame) at'
    → bus ≡ bus_collided s.bus → t ≡ []
    → IsDone was (event.Collided r.sender r.frame q.sender q.frame)
    (record { fitted = s.fitted; bus = bus; trace = t; seats = with_seat (with_seat s.seats r.sender seat) q.sender seat' })
collided_done s was r q at seat at' seat' bus t view settled first both read seat_is read' seat'_is bus_is t_is =
    let here = next_here s was r view first in
    let k = is_collision s r q settled here both in
    let lost : Seated = has_lost s r.sender r.frame nobody_at_all in
    let seats_so : with_seat s.seats r.sender seat ≡ lost.seats = first_lost s was r at seat view settled first read seat_is in
    let at'_so : at' ≡ seat_at lost q.sender =
    place_read lost.seats q.sender at' (subst (λ (ps : List Seat). at' ≡ get_or ps q.sender at') seats_so read') (up_there lost.seats q.sender k.second.up) in
    let seat'_so : seat' ≡ told_at (told_destroyed q.frame) (seat_at lost q.sender) = seat'_is ∙ ap (λ (p : Seat). told_at (told_destroyed q.frame) p) at'_so in
    let there : q.sender < length s.seats = rival_there s was r q view settled first both in
    let up_q : (seat_at s q.sender).controller.up ≡ true =
    subst (λ (p : Seat). p.controller.up ≡ true) (place_elsewhere s.seats r.sender q.sender (told_at (told_destroyed r.frame) (seat_at s r.sender))
    (λ e. k.apart (sym e))) k.second.up in
    subst (λ (w : Standing). IsDone w (event.Collided r.sender r.frame q.sender q.frame)
    (record { fitted = s.fitted; bus = bus; trace = t; seats = with_seat (with_seat s.seats r.sender seat) q.sender seat' })) view
    (done_as (flat s) (event.Collided r.sender r.frame q.sender q.frame) (has_collided s r.sender r.frame q.sender q.frame) _
    (rw (bus_is, t_is, seats_so, seat'_so) refl)
    (record {
      moves = moved s _ _ (moves_collided s r.sender r.frame q.sender q.frame k.free k.apart k.first.up up_q (first_frame s r k.free k.first.may)
          (first_frame lost q refl k.second.may));
      settled = settled_collided s r q settled here both;
    }))

pub collide_done : (s : Seated) (was : Standing) (r q : Request) (at seat at' seat' : Seat) (bus : Arbiter) → flat s ≡ was → Settled s → next was.bus ≡ Some r
    → collision s.bus.lists ≡ Some q
    → at ≡ get_or s.seats r.sender at → seat ≡ told_at (told_destroyed r.frame) at → at' ≡ get_or (with_seat s.seats r.sender seat) q.sender at'
    → seat' ≡ told_at (told_destroyed q.frame) at'
    → bus ≡ bus_collided s.bus
    → IsDone was (event.Collided r.sender r.frame q.sender q.frame) (seated s.fitted bus (with_seat (with_seat s.seats r.sender seat) q.sender seat'))
collide_done s was r q at seat at' seat' bus view settled first both read seat_is read' seat'_is bus_is =
    done_running was (event.Collided r.sender r.frame q.sender q.frame) s.fitted bus [] (with_seat (with_seat s.seats r.sender seat) q.sender seat') (λ e. refl)
    (collided_done s was r q at seat at' seat' bus [] view settled first both read seat_is read' seat'_is bus_is refl)

-- ---------------------------------------------------------------- the owner loses the bus, controllers go down and come up

lapsed_done : (s : Seated) (was : Standing) (c : ℕ) (at seat : Seat) (bus : Arbiter) (t : List Entry) → flat s ≡ was → Settled s → s.bus.owner ≡ Some c
    → at ≡ get_or s.seats c at → seat ≡ told_at told_lapsed at
    → bus ≡ bus_lapsed s.bus → t ≡ [] → IsDone was event.Lapsed (record { fitted = s.fitted; bus = bus; trace = t; seats = with_seat s.seats c seat })
lapsed_done s was c at seat bus t view settled own read seat_is bus_is t_is =
    let is : at ≡ seat_at s c = place_read s.seats c at read (up_there s.seats c (owner_put s c settled own).0) in
    subst (λ (w : Standing). IsDone w event.Lapsed (record { fitted = s.fitted; bus = bus; trace = t; seats = with_seat s.seats c seat })) view
    (done_as (flat s) event.Lapsed (has_lapsed s) _ (rw (bus_is, t_is, seat_is, own)
    (ap (λ (p : Seat). record { fitted = s.fitted; bus = bus_lapsed s.bus; trace = []; seats = with_seat s.seats c (told_at told_lapsed p) }) is))
    (record { moves = moved s _ _ (moves_lapsed s); settled = settled_lapsed s settled }))

pub lapse_done : (s : Seated) (was : Standing) (c : ℕ) (at seat : Seat) (bus : Arbiter) → flat s ≡ was → Settled s → s.bus.owner ≡ Some c
    → at ≡ get_or s.seats c at → seat ≡ told_at told_lapsed at
    → bus ≡ bus_lapsed s.bus → IsDone was event.Lapsed (seated s.fitted bus (with_seat s.seats c seat))
lapse_done s was c at seat bus view settled own read seat_is bus_is =
    done_running was event.Lapsed s.fitted bus [] (with_seat s.seats c seat) (λ e. refl)
    (lapsed_done s was c at seat bus [] view settled own read seat_is bus_is refl)

gone_down_done : (s : Seated) (was : Standing) (c : ℕ) (at seat : Seat) (bus : Arbiter) (t : List Entry) → flat s ≡ was → Settled s
    → (controller_on was c).up ≡ true
    → at ≡ get_or s.seats c at → seat ≡ down_at at → bus ≡ bus_silenced s.bus c → t ≡ (if owns s.bus.owner c then [] else s.trace)
    → IsDone was (event.Down c) (record { fitted = s.fitted; bus = bus; trace = t; seats = with_seat s.seats c seat })
gone_down_done s was c at seat bus t view settled up read seat_is bus_is t_is =
    let here : (seat_at s c).controller.up ≡ true = subst (λ (k : Controller). k.up ≡ true) (on_place s was c view) up in
    let is : at ≡ seat_at s c = place_read s.seats c at read (up_there s.seats c here) in
    subst (λ (w : Standing). IsDone w (event.Down c) (record { fitted = s.fitted; bus = bus; trace = t; seats = with_seat s.seats c seat })) view
    (done_as (flat s) (event.Down c) (has_gone_down s c) _
    (rw (bus_is, t_is, seat_is) (ap (λ (p : Seat). record {
      fitted = s.fitted;
      bus = bus_silenced s.bus c;
      trace = (if owns s.bus.owner c then [] else s.trace);
      seats = with_seat s.seats c (down_at p);
    }) is))
    (record { moves = moved s _ _ (moves_down s c here); settled = settled_down s c settled here }))

-- who owns the bus then
owner_silenced : (b : Arbiter) (c : ℕ) → (bus_silenced b c).owner ≡ (if owns b.owner c then None else b.owner)
owner_silenced b c = go (owns b.owner c) where
  go : (x : Bool) → (if x then bus_freed (bus_muted b c) else bus_muted b c).owner ≡ (if x then None else b.owner)
  go true = refl
  go false = refl

pub down_done : (s : Seated) (was : Standing) (c : ℕ) (at seat : Seat) (bus : Arbiter) → flat s ≡ was → Settled s → Runs s → (controller_on was c).up ≡ true
    → at ≡ get_or s.seats c at → seat ≡ down_at at → bus ≡ bus_silenced s.bus c → IsDone was (event.Down c) (seated s.fitted bus (with_seat s.seats c seat))
down_done s was c at seat bus view settled runs up read seat_is bus_is =
    let owner : bus.owner ≡ (if owns s.bus.owner c then None else s.bus.owner) = ap (λ (b : Arbiter). b.owner) bus_is ∙ owner_silenced s.bus c in
    done_running was (event.Down c) s.fitted bus (if owns s.bus.owner c then [] else s.trace) (with_seat s.seats c seat)
    (λ e. idle_if (owns s.bus.owner c) s runs (sym owner ∙ e))
    (gone_down_done s was c at seat bus _ view settled up read seat_is bus_is refl)

came_up_done : (s : Seated) (was : Standing) (c : ℕ) (kept : Bool) (at seat : Seat) → flat s ≡ was → Settled s → c < length was.controllers
    → (controller_on was c).up ≡ false → HasOutstanding (controller_on was c) kept
    → at ≡ get_or s.seats c at → seat ≡ up_at c kept at
    → IsDone was (event.Up c kept) (record { fitted = s.fitted; bus = s.bus; trace = s.trace; seats = with_seat s.seats c seat })
came_up_done s was c kept at seat view settled there down has read seat_is =
    let there_s : c < length s.seats =
    subst (λ n. c < n) (length-map s.seats (λ p. p.controller)) (subst (λ (w : Standing). c < length w.controllers) (sym view) there) in
    let down_s : (seat_at s c).controller.up ≡ false = subst (λ (k : Controller). k.up ≡ false) (on_place s was c view) down in
    let has_s : HasOutstanding (seat_at s c).controller kept = subst (λ (k : Controller). HasOutstanding k kept) (on_place s was c view) has in
    let is : at ≡ seat_at s c = place_read s.seats c at read there_s in
    subst (λ (w : Standing). IsDone w (event.Up c kept) (record { fitted = s.fitted; bus = s.bus; trace = s.trace; seats = with_seat s.seats c seat })) view
    (done_as (flat s) (event.Up c kept) (has_come_up s c kept) _
    (rw seat_is (ap (λ (p : Seat). record { fitted = s.fitted; bus = s.bus; trace = s.trace; seats = with_seat s.seats c (up_at c kept p) }) is))
    (record { moves = moved s _ _ (moves_up s c kept there_s down_s has_s); settled = settled_up s c kept settled there_s down_s }))

-- a seat that came up with what agrees
came_up : (s : Seated) (was : Standing) (c : ℕ) (copy : Kept) (kept : Bool) (at seat : Seat) → flat s ≡ was → c < length was.controllers
    → Agrees (controller_on was c) copy kept
    → at ≡ get_or s.seats c at → ((k : Bool) → Agrees at.controller copy k → seat ≡ up_at c k at) → seat ≡ up_at c kept at
came_up s was c copy kept at seat view there agrees read up =
    let there_s : c < length s.seats =
    subst (λ n. c < n) (length-map s.seats (λ p. p.controller)) (subst (λ (w : Standing). c < length w.controllers) (sym view) there) in
    let is : at ≡ seat_at s c = place_read s.seats c at read there_s in
    up kept (subst (λ (p : Seat). Agrees p.controller copy kept) (sym is) (subst (λ (k : Controller). Agrees k copy kept) (on_place s was c view) agrees))

up_done : (s : Seated) (was : Standing) (c : ℕ) (kept : Bool) (at seat : Seat) → flat s ≡ was → Settled s → Runs s → c < length was.controllers
    → (controller_on was c).up ≡ false
    → HasOutstanding (controller_on was c) kept → at ≡ get_or s.seats c at → seat ≡ up_at c kept at
    → IsDone was (event.Up c kept) (seated s.fitted s.bus (with_seat s.seats c seat))
up_done s was c kept at seat view settled runs there down has read seat_is =
    done_running was (event.Up c kept) s.fitted s.bus s.trace (with_seat s.seats c seat) (idle_now s runs)
    (came_up_done s was c kept at seat view settled there down has read seat_is)

pub up_settles : (s : Seated) (was : Standing) (c : ℕ) (copy : Kept) (kept : Bool) (at seat : Seat) → flat s ≡ was → Settled s → Runs s
    → c < length was.controllers → (controller_on was c).up ≡ false
    → Agrees (controller_on was c) copy kept → at ≡ get_or s.seats c at → ((k : Bool) → Agrees at.controller copy k → seat ≡ up_at c k at)
    → Settled (seated s.fitted s.bus (with_seat s.seats c seat))
up_settles s was c copy kept at seat view settled runs there down agrees read up =
    (up_done s was c kept at seat view settled runs there down agrees.0 read (came_up s was c copy kept at seat view there agrees read up)).settled

pub up_moves : (s : Seated) (was : Standing) (c : ℕ) (copy : Kept) (at seat : Seat) → flat s ≡ was → Settled s → Runs s → c < length was.controllers
    → (controller_on was c).up ≡ false
    → at ≡ get_or s.seats c at → ((k : Bool) → Agrees at.controller copy k → seat ≡ up_at c k at)
    → (k : Bool) → Agrees (controller_on was c) copy k → Moves was (event.Up c k) (flat (seated s.fitted s.bus (with_seat s.seats c seat)))
up_moves s was c copy at seat view settled runs there down read up k agrees =
    (up_done s was c k at seat view settled runs there down agrees.0 read (came_up s was c copy k at seat view there agrees read up)).moves

-- ---------------------------------------------------------------- the request that is next may be sent

pub may_be_sent : (s : Seated) (was : Standing) (r : Request) → flat s ≡ was → Settled s → next was.bus ≡ Some r → MayBeSent was r
may_be_sent s was r view settled first w ms same =
    let n = next_at s r settled (next_here s was r view first) in
    subst (λ (v : World). IsUp v r.sender × MaySend v r.sender r.frame) (drawn_in s was w ms view same) (is_up s r.sender w.drawn n.up, n.may w.drawn) where
      drawn_in : (s : Seated) (was : Standing) (w : World) (ms : List (Option Machine)) → flat s ≡ was → was ≡ stand_of w ms → world_of s w.drawn ≡ w
      drawn_in s was w ms view same = ap (λ (t : Standing). with_draws t w.drawn) (view ∙ same)

pub first_may_be_sent : (s : Seated) (was : Standing) (o : Option Request) → flat s ≡ was → Settled s → o ≡ next was.bus → IfSome o (MayBeSent was)
first_may_be_sent s was None view settled is = tt
first_may_be_sent s was (Some r) view settled is = may_be_sent s was r view settled (sym is)

-- direct arc power by its command
pub arc_power : (f : Forward) → (is_arc (command_of f) ≡ true) ↔ IsArc f
arc_power f = (λ e. let g = is_arc_of (command_of f) e in g.1 ∙ ap Arc (arc_of f g.0 g.1).0, λ arc. rw arc refl)

-- and it is what its sender ordered last, or direct arc power
was_ordered : (s : Seated) (was : Standing) (r : Request) → flat s ≡ was → Settled s → next was.bus ≡ Some r → WasOrdered was r
was_ordered s was r view settled first = go (next_at s r settled (next_here s was r view first)).kind where
  go : IsKind s r → WasOrdered was r
  go (inl k) = inr (ap (λ (x : Controller). frame_put x.last) (on_place s was r.sender view) ∙ ap frame_put k.2)
  go (inr k) = inl ((arc_power r.frame).0 k.0)

pub first_was_ordered : (s : Seated) (was : Standing) (o : Option Request) → flat s ≡ was → Settled s → o ≡ next was.bus → IfSome o (WasOrdered was)
first_was_ordered s was None view settled is = tt
first_was_ordered s was (Some r) view settled is = was_ordered s was r view settled (sym is)

-- ---------------------------------------------------------------- a controller that acted, before it did

pub was_placed : (s : Seated) (was : Standing) (c : ℕ) (at : Seat) → flat s ≡ was → Settled s → (controller_on was c).up ≡ true → at ≡ get_or s.seats c at
    → IsTied at.controller at.machine → IsPlacedOn was c
was_placed s was c at view settled up read tied m machine =
    let here : (seat_at s c).controller.up ≡ true = subst (λ (k : Controller). k.up ≡ true) (on_place s was c view) up in
    let is : at ≡ seat_at s c = place_read s.seats c at read (up_there s.seats c here) in
    let has : (seat_at s c).machine ≡ Some m = sym (on_machine s was c view) ∙ machine in
    let tied_here : IsRunning (seat_at s c).controller m =
    subst (λ o. IsTied (seat_at s c).controller o) has (subst (λ (p : Seat). IsTied p.controller p.machine) is tied) in
    let placed : IsPlacedBy (owns s.bus.owner c) s.trace (seat_at s c).controller (Some m) =
    subst (λ o. IsPlacedBy (owns s.bus.owner c) s.trace (seat_at s c).controller o) has (settled.places c) in
    let both : IsRunning (controller_on was c) m × IsPlacedBy (owns s.bus.owner c) s.trace (controller_on was c) (Some m) =
    subst (λ (k : Controller). IsRunning k m × IsPlacedBy (owns s.bus.owner c) s.trace k (Some m)) (sym (on_place s was c view)) (tied_here, placed) in
    subst (λ (w : Standing). IsRunning (controller_on was c) m × IsPlacedBy (owns w.bus.owner c) w.trace (controller_on was c) (Some m)) view both
