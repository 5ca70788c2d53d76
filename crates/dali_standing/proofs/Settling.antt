use Rattle.std.proofs.Common.{◌≡◌, ℕ, ◌+◌, ◌<◌, ◌≤◌, ◌⊎◌, inl, inr, Bool, true, false, List, [], ◌∷◌, ◌++◌, refl, sym, ap, subst, ◌∙◌, arith, length, nat_eq}
use Rattle.std.proofs.Common.{sum_by, is_some, Option, Some, None, ◌==◌, if◌then◌else◌, zero, suc}
use Rattle.std.{proofs.lemmas.Bool.Decides.nat_tests, proofs.lemmas.List.Sums.sum_by-cons, specs.Option.option_map}
use Rattle.dali_frame.specs.declared.frames.{Answer.Answer, Forward.Forward}
use Rattle.dali_special.specs.{Command.command_of, declared.command.Command.Command, declared.command.Command.TheVariants.Arc}
use Rattle.dali_gear.specs.declared.gear_set.GearSet.{GearSet}
use Rattle.dali_arbiter.specs.Arbiter.{Arbiter, owns, total, next, request_of, offer_refusal, is_barred, bus_lapsed, first_emptied, collision, bus_collided}
use Rattle.dali_arbiter.specs.{Arbiter.bus_destroyed, Arbiter.bus_silenced, Arbiter.bus_freed, Arbiter.bus_muted, declared.request.Request.Request}
use Rattle.dali_arbiter.proofs.Collisions.{collision_differs, rival_next, collided_is}
use Rattle.dali_script.specs.{Records.Kept, Scripts.Lawful, Scripts.IsFirst, Stages.stage_of, Stages.may_follow, declared.block.Block.Block}
use Rattle.dali_script.specs.declared.orders.{Input.Input, Order.Order, Order.TheVariants.Put, Order.TheVariants.Commit, Order.TheVariants.Done}
use Rattle.dali_script.specs.declared.{orders.Order.TheVariants.Halt, records.Record.Record, trace.Entry.Entry}
use Rattle.dali_script.proofs.{Firsts.first_by, Transactions.stage_more, Transactions.stage_none}
use Rattle.dali_script.specs.declared.orders.Input.TheVariants as input
use Rattle.dali_controller.specs.{Machine.Machine, Orders.machine_after}
use Rattle.dali_events.specs.Allowed.{IsDue, IsCommit, IsArc}
use Rattle.dali_events.specs.Happens.{entry, controller_informed, gives_up, bus_acted, is_arc, told_sent, told_destroyed, told_lapsed, sent_by}
use Rattle.dali_events.specs.{Plan.Plan, Troubles.nobody_at_all, World.World, World.Controller}
use Rattle.dali_standing.specs.Seats.{Seat, IsTied, MayAnswer, acted_at, told_at, down_at, up_at, begun_at}
use Rattle.dali_standing.specs.Settled.{IsOwning, IsApart, IsPlacedBy, IsPlaced, awaited_requests, awaited_requests_by, IsServed, IsSettled, IsAccepted}
use Rattle.dali_standing.specs.{Settled.Settled, Standing.Seated, Standing.seat_in, Standing.seats_from, Standing.empty_seat}
use Rattle.dali_standing.proofs.Acts.{IsLeft, may_order, owner_owns, owner_is, other_owns, committed_last}
use Rattle.dali_standing.proofs.Moves.{MaySendAt, controller_in, place_here, place_elsewhere, up_there}
use Rattle.dali_standing.proofs.Placing.{kept_bus, IsOthers, placed_apart, placed_other, placed_acted, acted_other, placed_sent, placed_told}
use Rattle.dali_standing.proofs.Queues.{Elsewhere, MayAsk, Gone, next_is, next_owned, collision_owned, served_same, served_start, served_sent, served_destroyed}
use Rattle.dali_standing.proofs.Queues.{served_lapsed, served_idle, served_silenced, served_offered, served_acted, five_lapsed, five_offered, five_acted}
use Rattle.dali_standing.proofs.Queues.{five_destroyed, five_sent, five_silenced, up_more, up_lapsed, up_offered, up_acted, up_destroyed, up_sent, up_silenced}
use Rattle.dali_standing.proofs.Queues.{up_start, next_up}
use Rattle.dali_standing.proofs.Seats.{seat_at, world_of, with_seat, running_in, goes_on_in, owner_lapsed, has_acted, has_offered, has_sent, has_lost}
use Rattle.dali_standing.proofs.Seats.{has_collided, has_lapsed, has_gone_down, has_come_up, seated_at}

-- BUS AND CONTROLLERS STAY SETTLED, whatever happens on a site.

-- each place, where one place was changed and the others see the bus as before
places_changed : (seats : List Seat) (c : ℕ) (p : Seat) (o o' : Option ℕ) (t t' : List Entry) → c < length seats
    → IsPlaced (owns o' c) t' p → ((d : ℕ) → (d ≡ c → ⊥) → IsOthers o t o' t' d)
    → ((d : ℕ) → IsPlaced (owns o d) t (seat_in seats d)) → (d : ℕ) → IsPlaced (owns o' d) t' (seat_in (with_seat seats c p) d)
places_changed seats c p o o' t t' there here others placed d = go (nat_eq d c) refl where
  go : (b : Bool) → nat_eq d c ≡ b → IsPlaced (owns o' d) t' (seat_in (with_seat seats c p) d)
  go true e =
      let same : c ≡ d = grind (arith, nat_tests) in
      subst (λ n. IsPlaced (owns o' n) t' (seat_in (with_seat seats c p) n)) same
      (subst (λ (q : Seat). IsPlaced (owns o' c) t' q) (sym (place_here seats c p there)) here)
  go false e =
      let other : d ≡ c → ⊥ = grind (arith, nat_tests) in
      placed_other (owns o d) (owns o' d) t t' (seat_in seats d) (seat_in (with_seat seats c p) d) (place_elsewhere seats c d p other) (others d other)
      (placed d)

elsewhere_changed : (seats : List Seat) (c : ℕ) (p : Seat) → Elsewhere (seat_in seats) (seat_in (with_seat seats c p)) c
elsewhere_changed seats c p d other = place_elsewhere seats c d p other

-- the same of whether machines run, and of who is up
running_changed : (seats : List Seat) (c : ℕ) (p : Seat) → c < length seats → p.controller.up ≡ is_some p.machine
    → ((d : ℕ) → (seat_in seats d).controller.up ≡ is_some (seat_in seats d).machine)
    → (d : ℕ) → (seat_in (with_seat seats c p) d).controller.up ≡ is_some (seat_in (with_seat seats c p) d).machine
running_changed seats c p there here others d = go (nat_eq d c) refl where
  go : (b : Bool) → nat_eq d c ≡ b → (seat_in (with_seat seats c p) d).controller.up ≡ is_some (seat_in (with_seat seats c p) d).machine
  go true e =
      let same : c ≡ d = grind (arith, nat_tests) in
      subst (λ n. (seat_in (with_seat seats c p) n).controller.up ≡ is_some (seat_in (with_seat seats c p) n).machine) same
      (subst (λ (q : Seat). q.controller.up ≡ is_some q.machine) (sym (place_here seats c p there)) here)
  go false e =
      let other : d ≡ c → ⊥ = grind (arith, nat_tests) in
      subst (λ (q : Seat). q.controller.up ≡ is_some q.machine) (sym (place_elsewhere seats c d p other)) (others d)

up_changed : (seats : List Seat) (c : ℕ) (p : Seat) → c < length seats → p.controller.up ≡ true
    → (d : ℕ) → (seat_in seats d).controller.up ≡ true → (seat_in (with_seat seats c p) d).controller.up ≡ true
up_changed seats c p there here d up = go (nat_eq d c) refl where
  go : (b : Bool) → nat_eq d c ≡ b → (seat_in (with_seat seats c p) d).controller.up ≡ true
  go true e =
      let same : c ≡ d = grind (arith, nat_tests) in
      subst (λ n. (seat_in (with_seat seats c p) n).controller.up ≡ true) same
      (subst (λ (q : Seat). q.controller.up ≡ true) (sym (place_here seats c p there)) here)
  go false e =
      let other : d ≡ c → ⊥ = grind (arith, nat_tests) in
      subst (λ (q : Seat). q.controller.up ≡ true) (sym (place_elsewhere seats c d p other)) up

mapped_running : (m : Option Machine) (f : Machine → Machine) → is_some (option_map f m) ≡ is_some m
mapped_running None f = refl
mapped_running (Some m) f = refl

-- ---------------------------------------------------------------- the request that is next

awaits_from : (c : ℕ) (told : Option Input) (last : Option Order) (r : Request) → awaited_requests_by c told last ≡ r ∷ []
    → (told ≡ None) × (last ≡ Some (Put r.priority r.frame))
awaits_from c None None r e = absurd (cc)
awaits_from c None (Some (Put p f)) r e = let is : request_of c p f ≡ r = cc in (refl, ap (λ (q : Request). Some (Put q.priority q.frame)) is)
awaits_from c None (Some (Commit x)) r e = absurd (cc)
awaits_from c None (Some (Done x)) r e = absurd (cc)
awaits_from c None (Some (Halt x)) r e = absurd (cc)
awaits_from c (Some i) last r e = absurd (cc)

-- what is known of the request that is next, and of its sender
pub record IsNextAt (s : Seated) (r : Request) : Type 0 where
  pub up : (seat_at s r.sender).controller.up ≡ true
  pub may : MaySendAt s r.sender r.frame
  pub owner : (d : ℕ) → (d ≡ r.sender → ⊥) → owns s.bus.owner d ≡ false
  pub kind : ((is_arc (command_of r.frame) ≡ false) × ((seat_at s r.sender).controller.told ≡ None)
      × ((seat_at s r.sender).controller.last ≡ Some (Put r.priority r.frame)))
      ⊎ ((is_arc (command_of r.frame) ≡ true) × (s.bus.owner ≡ None))

owning_sends : (t : List Entry) (k : Controller) (m : Option Machine) (p : ℕ) (f : Forward) → k.told ≡ None → k.last ≡ Some (Put p f) → IsPlacedBy true t k m
    → Lawful k.records.block k.records.reserved t f × (is_arc (command_of f) ≡ false)
owning_sends t k None p f told last placed = absurd (let no : true ≡ false = placed.0 in cc)
owning_sends t k (Some m) p f told last placed =
    let known = subst (λ o. IsOwning t k m (Some (Put p f)) o) told (subst (λ l. IsOwning t k m l k.told) last placed) in (known.2, known.3)

apart_sends : (t : List Entry) (k : Controller) (m : Option Machine) (p : ℕ) (f : Forward) → k.told ≡ None → k.last ≡ Some (Put p f) → IsPlacedBy false t k m
    → IsFirst f
apart_sends t k None p f told last placed = absurd (let no : k.last ≡ None = placed.1 in cc)
apart_sends t k (Some m) p f told last placed =
    let known = subst (λ o. IsApart k m (Some (Put p f)) o) told (subst (λ l. IsApart k m l k.told) last placed) in known.2

pub is_arc_of : (x : Command) → is_arc x ≡ true → (g : Forward) × (x ≡ Arc g)
is_arc_of (Arc g) e = (g, refl)
is_arc_of _ e = absurd (cc)

owned_next : (s : Seated) (r : Request) (d : ℕ) → Settled s → next s.bus ≡ Some r → s.bus.owner ≡ Some d → IsNextAt s r
owned_next s r d settled first own =
    let owned = next_owned s.bus (seat_in s.seats) r d settled.served first own in
    let is : d ≡ r.sender = sym owned.0 in
    let mine : s.bus.owner ≡ Some r.sender = own ∙ ap Some is in
    let awaits : awaited_requests r.sender (seat_at s r.sender).controller ≡ r ∷ [] =
    subst (λ n. awaited_requests n (seat_at s n).controller ≡ r ∷ []) is owned.1 in
    let put = awaits_from r.sender (seat_at s r.sender).controller.told (seat_at s r.sender).controller.last r awaits in
    let placed : IsPlaced true s.trace (seat_at s r.sender) =
    subst (λ b. IsPlaced b s.trace (seat_at s r.sender)) (owner_owns s.bus.owner r.sender mine) (settled.places r.sender) in
    let sends = owning_sends s.trace (seat_at s r.sender).controller (seat_at s r.sender).machine r.priority r.frame put.0 put.1 placed in
    record {
      up = next_up s.bus (seat_in s.seats) r settled.up first;
      may = λ drawn. inl (
        mine,
        subst (λ (k : Controller). Lawful k.records.block k.records.reserved s.trace r.frame)
            (sym (controller_in s.seats r.sender)) sends.0,
      );
      owner = λ e other. other_owns s.bus.owner r.sender e other mine;
      kind = inl (sends.1, put.0, put.1);
    }

free_next : (s : Seated) (r : Request) → Settled s → next s.bus ≡ Some r → s.bus.owner ≡ None → IsNextAt s r
free_next s r settled first free = go (is_arc (command_of r.frame)) refl where
  none_owns : (d : ℕ) → owns s.bus.owner d ≡ false
  none_owns d = rw free refl

  go : (b : Bool) → is_arc (command_of r.frame) ≡ b → IsNextAt s r
  go true arc = record {
    up = next_up s.bus (seat_in s.seats) r settled.up first;
    may = λ drawn. inr (free, first_by r.frame (inr (inr (inl (is_arc_of (command_of r.frame) arc)))));
    owner = λ d other. none_owns d;
    kind = inr (arc, free);
  }
  go false scripted =
      let awaits = next_is s.bus (seat_in s.seats) r settled.served first scripted in
      let put = awaits_from r.sender (seat_at s r.sender).controller.told (seat_at s r.sender).controller.last r awaits in
      let placed : IsPlaced false s.trace (seat_at s r.sender) =
      subst (λ b. IsPlaced b s.trace (seat_at s r.sender)) (none_owns r.sender) (settled.places r.sender) in
      record {
        up = next_up s.bus (seat_in s.seats) r settled.up first;
        may = λ drawn. inr (free, apart_sends s.trace (seat_at s r.sender).controller (seat_at s r.sender).machine r.priority r.frame put.0 put.1 placed);
        owner = λ d other. none_owns d;
        kind = inl (scripted, put.0, put.1);
      }

pub next_at : (s : Seated) (r : Request) → Settled s → next s.bus ≡ Some r → IsNextAt s r
next_at s r settled first = go s.bus.owner refl where
  go : (o : Option ℕ) → s.bus.owner ≡ o → IsNextAt s r
  go None free = free_next s r settled first free
  go (Some d) own = owned_next s r d settled first own

-- ---------------------------------------------------------------- a frame is sent

-- a controller is told nothing of arc power
pub arc_tells : (t : List Entry) (f : Forward) (h : Answer) (p : Seat) → is_arc (command_of f) ≡ true → told_at (told_sent t f h) p ≡ p
arc_tells t f h p arc = rw (is_arc_of (command_of f) arc).1 refl

pub arc_loses : (f : Forward) (p : Seat) → is_arc (command_of f) ≡ true → told_at (told_destroyed f) p ≡ p
arc_loses f p arc = rw (is_arc_of (command_of f) arc).1 refl

arc_is_over : (k : Kept) (f : Forward) (h : Answer) → is_arc (command_of f) ≡ true → may_follow k.block k.reserved (stage_of ([] ++ entry f h ∷ [])) ≡ false
arc_is_over k f h arc = rw (stage_more [] (entry f h), stage_none, (is_arc_of (command_of f) arc).1) refl

arc_ends : (s : Seated) (r : Request) (h : Answer) → is_arc (command_of r.frame) ≡ true → s.bus.owner ≡ None
    → goes_on_in s r.sender (running_in s r.sender ++ entry r.frame h ∷ []) ≡ false
arc_ends s r h arc free = rw free (arc_is_over (seat_at s r.sender).controller.records r.frame h arc)

arc_more : (s : Seated) (r : Request) (h : Answer) → IsNextAt s r → is_arc (command_of r.frame) ≡ true
    → goes_on_in s r.sender (running_in s r.sender ++ entry r.frame h ∷ []) ≡ false
arc_more s r h n arc = go n.kind where
  go : ((is_arc (command_of r.frame) ≡ false) × ((seat_at s r.sender).controller.told ≡ None)
      × ((seat_at s r.sender).controller.last ≡ Some (Put r.priority r.frame)))
      ⊎ ((is_arc (command_of r.frame) ≡ true) × (s.bus.owner ≡ None)) → goes_on_in s r.sender (running_in s r.sender ++ entry r.frame h ∷ []) ≡ false
  go (inl k) = absurd (let no = k.0 in cc)
  go (inr k) = arc_ends s r h arc k.1

-- ---------------------------------------------------------------- a controller acts

told_awaits : (c : ℕ) (told : Option Input) (last : Option Order) (i : Input) → told ≡ Some i → awaited_requests_by c told last ≡ []
told_awaits c told last i e = rw e refl

commit_awaits : (c : ℕ) (told : Option Input) (last : Option Order) → IsCommit last → awaited_requests_by c told last ≡ []
commit_awaits c told last is = let x = committed_last last is in rw x.1 (go told x.0) where
  go : (o : Option Input) (x : Record) → awaited_requests_by c o (Some (Commit x)) ≡ []
  go None x = refl
  go (Some i) x = refl

due_awaits : (c : ℕ) (k : Controller) (i : Input) → IsDue k i → awaited_requests c k ≡ []
due_awaits c k input.Committed due = commit_awaits c k.told k.last due
due_awaits c k input.CommitFailed due = commit_awaits c k.told k.last due
due_awaits c k input.Start due = told_awaits c k.told k.last input.Start due
due_awaits c k input.Survey due = told_awaits c k.told k.last input.Start due
due_awaits c k (input.Heard h) due = told_awaits c k.told k.last (input.Heard h) due
due_awaits c k input.Destroyed due = told_awaits c k.told k.last input.Destroyed due
due_awaits c k input.Lapsed due = told_awaits c k.told k.last input.Lapsed due

left_asks : (w : World) (c : ℕ) (k : Controller) (m : Machine) (o : Order) → IsLeft w c k m o → MayAsk w.bus.owner c o
left_asks w c k m (Put p f) (scripted, inl is) = (scripted, inl (is.0, owner_owns w.bus.owner c is.1))
left_asks w c k m (Put p f) (scripted, inr is) = (scripted, inr is.0)
left_asks w c k m (Commit x) is = tt
left_asks w c k m (Done e) is = tt
left_asks w c k m (Halt why) is = tt

pub may_ask : (w : World) (c : ℕ) (p : Seat) (i : Input) (o : Order) → IsDue p.controller i → IsTied p.controller p.machine → MayAnswer p.machine i o
    → IsPlaced (owns w.bus.owner c) w.trace p → MayAsk w.bus.owner c o
may_ask w c p i o due tied answer placed = go p.machine tied answer placed where
  go : (m : Option Machine) → IsTied p.controller m → MayAnswer m i o
      → IsPlaced (owns w.bus.owner c) w.trace (record { controller = p.controller; machine = m }) → MayAsk w.bus.owner c o
  go None tied answer placed = elim answer [ ]
  go (Some m) tied answer placed =
      left_asks w c (controller_informed p.controller i) (machine_after m i o) o (may_order w c p.controller m i o due tied answer.answered placed).left

emptied_less : (lists : List (List Request)) → sum_by length (first_emptied lists) ≤ sum_by length lists
emptied_less [] = omega arith
emptied_less (l ∷ lists) =
    let all : sum_by length (l ∷ lists) ≡ length l + sum_by length lists = sum_by-cons length l lists in
    let rest : sum_by length ([] ∷ lists) ≡ 0 + sum_by length lists = sum_by-cons length [] lists in
    rw (all, rest) (omega arith)

lapsed_less : (b : Arbiter) (x : Bool) → total b < b.capacity → total (if x then bus_lapsed b else b) < (if x then bus_lapsed b else b).capacity
lapsed_less b true room = let less = emptied_less b.lists in omega arith
lapsed_less b false room = room

not_full : (n m : ℕ) → n < m → (n == m) ≡ false
not_full n m less = grind (arith, nat_tests)

not_refused : (b : Arbiter) (c p : ℕ) (f : Forward) → is_barred b.owner c p ≡ false → total b < b.capacity → offer_refusal b (request_of c p f) ≡ None
not_refused b c p f may room = rw (may, not_full (total b) b.capacity room) refl

-- what may be asked for is accepted
pub accepted : (b : Arbiter) (c : ℕ) (o : Order) → total b < b.capacity → MayAsk b.owner c o → IsAccepted (if gives_up b c o then bus_lapsed b else b) c o
accepted b c (Put p f) room (scripted, inl is) =
    let keeps : gives_up b c (Put p f) ≡ false = (kept_bus b c p f is.0).1 in
    let mine : is_barred b.owner c p ≡ false = rw (is.0, is.1) refl in
    rw keeps (not_refused b c p f mine room)
accepted b c (Put p f) room (scripted, inr is) =
    not_refused (if gives_up b c (Put p f) then bus_lapsed b else b) c p f (rw is refl) (lapsed_less b (gives_up b c (Put p f)) room)
accepted b c (Commit x) room may = tt
accepted b c (Done e) room may = tt
accepted b c (Halt why) room may = tt

pub settled_acted : (s : Seated) (c : ℕ) (i : Input) (o : Order) → Settled s → (seat_at s c).controller.up ≡ true → IsDue (seat_at s c).controller i
    → IsTied (seat_at s c).controller (seat_at s c).machine → MayAnswer (seat_at s c).machine i o → Settled (has_acted s c i o)
settled_acted s c i o settled up due tied answer =
    let there : c < length s.seats = up_there s.seats c up in
    let p : Seat = acted_at (seat_at s c) i o in
    let asks : MayAsk s.bus.owner c o = may_ask (world_of s []) c (seat_at s c) i o due tied answer (settled.places c) in
    record {
      five = five_acted s.bus c o settled.five;
      running = running_changed s.seats c p there (settled.running c ∙ sym (mapped_running (seat_at s c).machine (λ m. machine_after m i o))) settled.running;
      places = places_changed s.seats c p s.bus.owner (bus_acted s.bus c o).owner s.trace (if gives_up s.bus c o then [] else s.trace) there
          (placed_acted (world_of s []) c (seat_at s c) i o due tied answer (settled.places c))
          (λ d other. acted_other s.bus s.trace c d o other) settled.places;
      served = served_acted s.bus (seat_in s.seats) (seat_in (with_seat s.seats c p)) c o settled.five settled.served (elsewhere_changed s.seats c p)
          (due_awaits c (seat_at s c).controller i due) (ap (λ (q : Seat). awaited_requests c q.controller) (place_here s.seats c p there)) asks;
      up = up_more (bus_acted s.bus c o).lists (seat_in s.seats) (seat_in (with_seat s.seats c p)) (up_changed s.seats c p there up)
          (up_acted s.bus (seat_in s.seats) c o settled.up up);
    }

-- ---------------------------------------------------------------- requests and frames

arc_itself : (f : Forward) → IsArc f → is_arc (command_of f) ≡ true
arc_itself f arc = rw arc refl

pub settled_offered : (s : Seated) (c : ℕ) (f : Forward) → Settled s → (seat_at s c).controller.up ≡ true → IsArc f → Settled (has_offered s c f)
settled_offered s c f settled up arc = record {
  five = five_offered s.bus (request_of c 2 f) settled.five;
  running = settled.running;
  places = settled.places;
  served = served_offered s.bus (seat_in s.seats) c f settled.served (arc_itself f arc);
  up = up_offered s.bus (seat_in s.seats) (request_of c 2 f) settled.up up;
}

-- what becomes of the sender of a frame that left
gone_sender : (s : Seated) (r : Request) (p : Seat) → IsNextAt s r → (is_arc (command_of r.frame) ≡ false → awaited_requests r.sender p.controller ≡ [])
    → (is_arc (command_of r.frame) ≡ true → p ≡ seat_at s r.sender) → Gone s.bus.owner (seat_in s.seats) (seat_in (with_seat s.seats r.sender p)) r
gone_sender s r p n scripted arc = go n.kind where
  there : r.sender < length s.seats
  there = up_there s.seats r.sender n.up

  here : seat_in (with_seat s.seats r.sender p) r.sender ≡ p
  here = place_here s.seats r.sender p there

  go : ((is_arc (command_of r.frame) ≡ false) × ((seat_at s r.sender).controller.told ≡ None)
      × ((seat_at s r.sender).controller.last ≡ Some (Put r.priority r.frame)))
      ⊎ ((is_arc (command_of r.frame) ≡ true) × (s.bus.owner ≡ None)) → Gone s.bus.owner (seat_in s.seats) (seat_in (with_seat s.seats r.sender p)) r
  go (inl k) = inl (k.0, ap (λ (q : Seat). awaited_requests r.sender q.controller) here ∙ scripted k.0)
  go (inr k) = inr (k.0, here ∙ arc k.0, k.1)

others_after : (s : Seated) (r : Request) (n : IsNextAt s r) (more : Bool) (t u : List Entry) (d : ℕ) → (d ≡ r.sender → ⊥)
    → IsOthers s.bus.owner t (if more then Some r.sender else None) u d
others_after s r n true t u d other = inr (n.owner d other, other_owns (Some r.sender) r.sender d other refl)
others_after s r n false t u d other = inr (n.owner d other, refl)

sent_here : (s : Seated) (r : Request) (h : Answer) (n : IsNextAt s r) → IsPlaced (owns s.bus.owner r.sender) s.trace (seat_at s r.sender)
    → IsPlaced (owns (if goes_on_in s r.sender (running_in s r.sender ++ entry r.frame h ∷ []) then Some r.sender else None) r.sender)
    (if goes_on_in s r.sender (running_in s r.sender ++ entry r.frame h ∷ []) then running_in s r.sender ++ entry r.frame h ∷ [] else [])
    (told_at (told_sent (running_in s r.sender) r.frame h) (seat_at s r.sender))
sent_here s r h n placed = go n.kind where
  go : ((is_arc (command_of r.frame) ≡ false) × ((seat_at s r.sender).controller.told ≡ None)
      × ((seat_at s r.sender).controller.last ≡ Some (Put r.priority r.frame)))
      ⊎ ((is_arc (command_of r.frame) ≡ true) × (s.bus.owner ≡ None))
      → IsPlaced (owns (if goes_on_in s r.sender (running_in s r.sender ++ entry r.frame h ∷ []) then Some r.sender else None) r.sender)
      (if goes_on_in s r.sender (running_in s r.sender ++ entry r.frame h ∷ []) then running_in s r.sender ++ entry r.frame h ∷ [] else [])
      (told_at (told_sent (running_in s r.sender) r.frame h) (seat_at s r.sender))
  go (inl k) = placed_sent s.bus.owner r.sender s.trace (seat_at s r.sender) r.priority r.frame h
      (goes_on_in s r.sender (running_in s r.sender ++ entry r.frame h ∷ [])) k.0 k.1 k.2 placed refl
  go (inr k) =
      let over : goes_on_in s r.sender (running_in s r.sender ++ entry r.frame h ∷ []) ≡ false = arc_ends s r h k.0 k.1 in
      rw over (subst (λ (q : Seat). IsPlaced false [] q) (sym (arc_tells (running_in s r.sender) r.frame h (seat_at s r.sender) k.0))
      (placed_apart s.trace [] (seat_at s r.sender) (subst (λ o. IsPlaced (owns o r.sender) s.trace (seat_at s r.sender)) k.1 placed)))

pub settled_sent : (s : Seated) (r : Request) (h : Answer) → Settled s → next s.bus ≡ Some r → Settled (has_sent s r.sender r.frame h)
settled_sent s r h settled first =
    let n : IsNextAt s r = next_at s r settled first in
    let there : r.sender < length s.seats = up_there s.seats r.sender n.up in
    let more : Bool = goes_on_in s r.sender (running_in s r.sender ++ entry r.frame h ∷ []) in
    let p : Seat = told_at (told_sent (running_in s r.sender) r.frame h) (seat_at s r.sender) in
    record {
      five = five_sent s.bus r.sender more settled.five;
      running = running_changed s.seats r.sender p there (settled.running r.sender) settled.running;
      places = places_changed s.seats r.sender p s.bus.owner (if more then Some r.sender else None) s.trace
          (if more then running_in s r.sender ++ entry r.frame h ∷ [] else []) there
          (sent_here s r h n (settled.places r.sender))
          (λ d other. others_after s r n more s.trace (if more then running_in s r.sender ++ entry r.frame h ∷ [] else []) d other) settled.places;
      served = served_sent s.bus (seat_in s.seats) (seat_in (with_seat s.seats r.sender p)) r more settled.served first (elsewhere_changed s.seats r.sender p)
          (gone_sender s r p n (λ scripted. told_awaits r.sender p.controller.told p.controller.last (input.Heard h) (rw scripted refl))
          (λ arc. arc_tells (running_in s r.sender) r.frame h (seat_at s r.sender) arc))
          (arc_more s r h n);
      up = up_more (sent_by s.bus r.sender more).lists (seat_in s.seats) (seat_in (with_seat s.seats r.sender p)) (up_changed s.seats r.sender p there n.up)
          (up_sent s.bus (seat_in s.seats) r.sender more settled.up);
    }

lost_here : (s : Seated) (r : Request) (n : IsNextAt s r) → IsPlaced (owns s.bus.owner r.sender) s.trace (seat_at s r.sender)
    → IsPlaced false [] (told_at (told_destroyed r.frame) (seat_at s r.sender))
lost_here s r n placed = go n.kind where
  go : ((is_arc (command_of r.frame) ≡ false) × ((seat_at s r.sender).controller.told ≡ None)
      × ((seat_at s r.sender).controller.last ≡ Some (Put r.priority r.frame)))
      ⊎ ((is_arc (command_of r.frame) ≡ true) × (s.bus.owner ≡ None)) → IsPlaced false [] (told_at (told_destroyed r.frame) (seat_at s r.sender))
  go (inl k) = placed_told s.trace [] (owns s.bus.owner r.sender) (seat_at s r.sender)
      (told_at (told_destroyed r.frame) (seat_at s r.sender)) r.priority r.frame input.Destroyed placed k.2 refl refl
      (rw k.0 refl) (inl refl)
  go (inr k) = subst (λ (q : Seat). IsPlaced false [] q) (sym (arc_loses r.frame (seat_at s r.sender) k.0))
      (placed_apart s.trace [] (seat_at s r.sender) (subst (λ o. IsPlaced (owns o r.sender) s.trace (seat_at s r.sender)) k.1 placed))

pub settled_lost : (s : Seated) (r : Request) (set : GearSet) → Settled s → next s.bus ≡ Some r → Settled (has_lost s r.sender r.frame set)
settled_lost s r set settled first =
    let n : IsNextAt s r = next_at s r settled first in
    let there : r.sender < length s.seats = up_there s.seats r.sender n.up in
    let p : Seat = told_at (told_destroyed r.frame) (seat_at s r.sender) in
    record {
      five = five_destroyed s.bus settled.five;
      running = running_changed s.seats r.sender p there (settled.running r.sender) settled.running;
      places = places_changed s.seats r.sender p s.bus.owner None s.trace [] there (lost_here s r n (settled.places r.sender))
          (λ d other. others_after s r n false s.trace [] d other) settled.places;
      served = served_destroyed s.bus (seat_in s.seats) (seat_in (with_seat s.seats r.sender p)) r settled.served first (elsewhere_changed s.seats r.sender p)
          (gone_sender s r p n (λ scripted. told_awaits r.sender p.controller.told p.controller.last input.Destroyed (rw scripted refl))
          (λ arc. arc_loses r.frame (seat_at s r.sender) arc));
      up = up_more (bus_destroyed s.bus).lists (seat_in s.seats) (seat_in (with_seat s.seats r.sender p)) (up_changed s.seats r.sender p there n.up)
          (up_destroyed s.bus (seat_in s.seats) settled.up);
    }

-- ---------------------------------------------------------------- two frames collide

-- where nobody owns the bus, list 1 is empty, and a collision is two losses, one after the other
free_first : (lists : List (List Request)) (place : ℕ → Seat) → IsServed lists None place → (rest : List (List Request)) × (lists ≡ [] ∷ rest)
free_first [] place served = elim served [ ]
free_first (l ∷ rest) place served = (rest, ap (λ (x : List Request). x ∷ rest) served.0)

-- what is known of a collision
pub record IsCollision (s : Seated) (r q : Request) : Type 0 where
  pub free : s.bus.owner ≡ None
  pub apart : r.sender ≡ q.sender → ⊥
  pub first : IsNextAt s r
  pub second : IsNextAt (has_lost s r.sender r.frame nobody_at_all) q
  pub bus : bus_collided s.bus ≡ bus_destroyed (bus_destroyed s.bus)
  pub then_next : next (bus_destroyed s.bus) ≡ Some q

pub is_collision : (s : Seated) (r q : Request) → Settled s → next s.bus ≡ Some r → collision s.bus.lists ≡ Some q → IsCollision s r q
is_collision s r q settled first both = go s.bus.owner refl where
  go : (o : Option ℕ) → s.bus.owner ≡ o → IsCollision s r q
  go (Some c) own = absurd (let none : collision s.bus.lists ≡ None = collision_owned s.bus (seat_in s.seats) r c settled.served own first in cc)
  go None free =
      let rest = free_first s.bus.lists (seat_in s.seats) (subst (λ o. IsServed s.bus.lists o (seat_in s.seats)) free settled.served) in
      let second : next (bus_destroyed s.bus) ≡ Some q = rival_next s.bus q rest.0 rest.1 both in
      record {
        free = free;
        apart = collision_differs s.bus r q first both;
        first = next_at s r settled first;
        second = next_at (has_lost s r.sender r.frame nobody_at_all) q (settled_lost s r nobody_at_all settled first) second;
        bus = collided_is s.bus q rest.0 rest.1 both;
        then_next = second;
      }

pub settled_collided : (s : Seated) (r q : Request) → Settled s → next s.bus ≡ Some r → collision s.bus.lists ≡ Some q
    → Settled (has_collided s r.sender r.frame q.sender q.frame)
settled_collided s r q settled first both =
    let k : IsCollision s r q = is_collision s r q settled first both in
    let twice : Settled (has_lost (has_lost s r.sender r.frame nobody_at_all) q.sender q.frame nobody_at_all) =
    settled_lost (has_lost s r.sender r.frame nobody_at_all) q nobody_at_all (settled_lost s r nobody_at_all settled first) k.then_next in
    subst (λ (b : Arbiter). IsSettled b [] (seat_in (has_collided s r.sender r.frame q.sender q.frame).seats)) (sym k.bus) twice

-- ---------------------------------------------------------------- the owner loses the bus

owning_put : (t : List Entry) (p : Seat) → IsPlaced true t p → (q : ℕ) × (f : Forward) × (p.controller.last ≡ Some (Put q f))
owning_put t p placed = go p.machine p.controller.last refl p.controller.told refl placed where
  go : (m : Option Machine) (last : Option Order) → p.controller.last ≡ last → (told : Option Input) → p.controller.told ≡ told
      → IsPlacedBy true t p.controller m
      → (q : ℕ) × (f : Forward) × (p.controller.last ≡ Some (Put q f))
  go None last e told is placed = absurd (let no : true ≡ false = placed.0 in cc)
  go (Some m) (Some (Put q f)) e told is placed = (q, f, e)
  go (Some m) None e told is placed = elim (subst (λ l. IsOwning t p.controller m l p.controller.told) e placed) [ ]
  go (Some m) (Some (Commit x)) e told is placed = elim (subst (λ l. IsOwning t p.controller m l p.controller.told) e placed) [ ]
  go (Some m) (Some (Done x)) e told is placed = elim (subst (λ l. IsOwning t p.controller m l p.controller.told) e placed) [ ]
  go (Some m) (Some (Halt x)) e told is placed = elim (subst (λ l. IsOwning t p.controller m l p.controller.told) e placed) [ ]

-- the owner's last order is a frame, and it is there
pub owner_put : (s : Seated) (c : ℕ) → Settled s → s.bus.owner ≡ Some c
    → ((seat_at s c).controller.up ≡ true) × ((q : ℕ) × (f : Forward) × ((seat_at s c).controller.last ≡ Some (Put q f)))
owner_put s c settled own =
    let placed : IsPlaced true s.trace (seat_at s c) = subst (λ b. IsPlaced b s.trace (seat_at s c)) (owner_owns s.bus.owner c own) (settled.places c) in
    (settled.running c ∙ machine_some s.trace (seat_at s c).controller (seat_at s c).machine placed, owning_put s.trace (seat_at s c) placed) where
      machine_some : (t : List Entry) (k : Controller) (m : Option Machine) → IsPlacedBy true t k m → is_some m ≡ true
      machine_some t k None placed = absurd (let no : true ≡ false = placed.0 in cc)
      machine_some t k (Some m) placed = refl

pub settled_lapsed : (s : Seated) → Settled s → Settled (has_lapsed s)
settled_lapsed s settled = go s.bus.owner refl where
  go : (o : Option ℕ) → s.bus.owner ≡ o → IsSettled (bus_lapsed s.bus) [] (seat_in (owner_lapsed s.seats o))
  go None free = record {
    five = five_lapsed s.bus settled.five;
    running = settled.running;
    places = λ d. placed_apart s.trace [] (seat_at s d) (subst (λ o. IsPlaced (owns o d) s.trace (seat_at s d)) free (settled.places d));
    served = served_idle s.bus (seat_in s.seats) free settled.served;
    up = up_lapsed s.bus (seat_in s.seats) settled.up;
  }
  go (Some c) own =
      let put = owner_put s c settled own in
      let there : c < length s.seats = up_there s.seats c put.0 in
      let p : Seat = told_at told_lapsed (seat_at s c) in
      record {
        five = five_lapsed s.bus settled.five;
        running = running_changed s.seats c p there (settled.running c) settled.running;
        places = places_changed s.seats c p s.bus.owner None s.trace [] there
            (placed_told s.trace [] (owns s.bus.owner c) (seat_at s c) p put.1.0 put.1.1 input.Lapsed (settled.places c) put.1.2 refl refl refl (inr refl))
            (λ d other. inr (other_owns s.bus.owner c d other own, refl)) settled.places;
        served = served_lapsed s.bus (seat_in s.seats) (seat_in (with_seat s.seats c p)) c settled.served own (elsewhere_changed s.seats c p)
            (ap (λ (q : Seat). awaited_requests c q.controller) (place_here s.seats c p there));
        up = up_more (bus_lapsed s.bus).lists (seat_in s.seats) (seat_in (with_seat s.seats c p)) (up_changed s.seats c p there put.0)
            (up_lapsed s.bus (seat_in s.seats) settled.up);
      }

-- ---------------------------------------------------------------- controllers go down and come up

silenced_others : (b : Arbiter) (t : List Entry) (c d : ℕ) → (d ≡ c → ⊥) → IsOthers b.owner t (bus_silenced b c).owner (if owns b.owner c then [] else t) d
silenced_others b t c d other = go (owns b.owner c) (λ e. owner_is b.owner c e) where
  go : (x : Bool) → (x ≡ true → b.owner ≡ Some c) → IsOthers b.owner t (if x then bus_freed (bus_muted b c) else bus_muted b c).owner (if x then [] else t) d
  go true own = inr (other_owns b.owner c d other (own refl), refl)
  go false own = inl (refl, refl)

silenced_here : (b : Arbiter) (c : ℕ) → owns (bus_silenced b c).owner c ≡ false
silenced_here b c = go (owns b.owner c) refl where
  go : (x : Bool) → owns b.owner c ≡ x → owns (if x then bus_freed (bus_muted b c) else bus_muted b c).owner c ≡ false
  go true e = refl
  go false e = e

pub settled_down : (s : Seated) (c : ℕ) → Settled s → (seat_at s c).controller.up ≡ true → Settled (has_gone_down s c)
settled_down s c settled up =
    let there : c < length s.seats = up_there s.seats c up in
    let p : Seat = down_at (seat_at s c) in
    record {
      five = five_silenced s.bus c settled.five;
      running = running_changed s.seats c p there refl settled.running;
      places = places_changed s.seats c p s.bus.owner (bus_silenced s.bus c).owner s.trace (if owns s.bus.owner c then [] else s.trace) there
          (rw (silenced_here s.bus c) (refl, refl)) (λ d other. silenced_others s.bus s.trace c d other) settled.places;
      served = served_silenced s.bus (seat_in s.seats) (seat_in (with_seat s.seats c p)) c settled.served (elsewhere_changed s.seats c p)
          (ap (λ (q : Seat). awaited_requests c q.controller) (place_here s.seats c p there));
      up = up_silenced s.bus (seat_in s.seats) (seat_in (with_seat s.seats c p)) c settled.up (elsewhere_changed s.seats c p);
    }

-- a controller that is down waits for nothing, and does not own the bus
down_rests : (s : Seated) (c : ℕ) → Settled s → (seat_at s c).controller.up ≡ false
    → (owns s.bus.owner c ≡ false) × (awaited_requests c (seat_at s c).controller ≡ [])
down_rests s c settled down = go (seat_at s c).machine refl (settled.places c) where
  none_awaits : (told : Option Input) → awaited_requests_by c told None ≡ []
  none_awaits None = refl
  none_awaits (Some i) = refl

  go : (m : Option Machine) → (seat_at s c).machine ≡ m → IsPlacedBy (owns s.bus.owner c) s.trace (seat_at s c).controller m
      → (owns s.bus.owner c ≡ false) × (awaited_requests c (seat_at s c).controller ≡ [])
  go None is placed = (placed.0, rw placed.1 (none_awaits (seat_at s c).controller.told))
  go (Some m) is placed = absurd (let up : (seat_at s c).controller.up ≡ true = settled.running c ∙ ap is_some is in cc)

pub settled_up : (s : Seated) (c : ℕ) (kept : Bool) → Settled s → c < length s.seats → (seat_at s c).controller.up ≡ false → Settled (has_come_up s c kept)
settled_up s c kept settled there down =
    let p : Seat = up_at c kept (seat_at s c) in
    let rests = down_rests s c settled down in
    record {
      five = settled.five;
      running = running_changed s.seats c p there refl settled.running;
      places = places_changed s.seats c p s.bus.owner s.bus.owner s.trace s.trace there (rw rests.0 refl) (λ d other. inl (refl, refl)) settled.places;
      served = served_same s.bus.lists s.bus.owner (seat_in s.seats) (seat_in (with_seat s.seats c p)) c settled.served (elsewhere_changed s.seats c p)
          (ap (λ (q : Seat). awaited_requests c q.controller) (place_here s.seats c p there) ∙ sym rests.1);
      up = up_more s.bus.lists (seat_in s.seats) (seat_in (with_seat s.seats c p)) (up_changed s.seats c p there refl) settled.up;
    }

-- ---------------------------------------------------------------- the start

-- each place at the start is that of a controller that has not begun, or an empty one
begun_or_empty : (P : Seat → Type 0) → ((c : ℕ) (b : Block) → P (begun_at c b)) → P empty_seat → (d : ℕ) (bs : List Block) (c : ℕ)
    → P (seat_in (seats_from d bs) c)
begun_or_empty P begun empty d [] c = empty
begun_or_empty P begun empty d (b ∷ bs) zero = begun d b
begun_or_empty P begun empty d (b ∷ bs) (suc c) = begun_or_empty P begun empty (d + 1) bs c

pub settled_start : (p : Plan) (capacity : ℕ) → Settled (seated_at p capacity)
settled_start p capacity = record {
  five = refl;
  running = λ c. begun_or_empty (λ q. q.controller.up ≡ is_some q.machine) (λ d b. refl) refl 0 p.blocks c;
  places = λ c. begun_or_empty (λ q. IsPlaced false [] q) (λ d b. refl) (refl, refl) 0 p.blocks c;
  served = served_start capacity (seat_in (seats_from 0 p.blocks))
      (λ c. begun_or_empty (λ q. awaited_requests c q.controller ≡ []) (λ d b. refl) refl 0 p.blocks c);
  up = up_start capacity (seat_in (seats_from 0 p.blocks));
}
