use Rattle.dali_progress.proofs.Below.{◌≡◌, ℕ, ◌<◌, ◌⊎◌, inl, inr, Bool, true, false, List, [], ◌∷◌, ◌++◌, refl, sym, ap, subst, ◌∙◌, arith, length-set}
use Rattle.dali_progress.proofs.Below.{get_or-set_same, Option, Some, None, ◌==◌, if◌then◌else◌, nat_tests, FIRST, LATER, Answer, Forward, command_of, Arbiter}
use Rattle.dali_progress.proofs.Below.{idle, total, next, request_of, Request, frame_put, End, Fault, Input, Order, Put, Commit, Done, Halt, Record, Entry}
use Rattle.dali_progress.proofs.Below.{Machine, machine_heard, machine_told, machine_after, Allowed, IsUp, IsDue, IsCommit, MayOrder, happens, entry}
use Rattle.dali_progress.proofs.Below.{controller_informed, controller_acted, outstanding_told, outstanding_after, kept_after, bus_acted, gives_up, told_sent}
use Rattle.dali_progress.proofs.Below.{trace_running, goes_on, sent_by, is_arc, World, Controller, controller_at, nobody, Succeeds}
use Rattle.dali_script.specs.declared.orders.Input.TheVariants as input
use Rattle.dali_events.specs.declared.event.Event.TheVariants as event

-- ONE CONTROLLER ALONE ON THE BUS. What waits on the bus, what was told and what is to come go together with the
-- last order of its machine.

-- the bus on which nothing waits
abbrev pub still : ℕ → Option ℕ → Arbiter
still capacity owner = record { lists = (idle capacity).lists; owner = owner; capacity = capacity }

-- the bus on which one later frame of c waits, or one first frame
abbrev pub with_later : ℕ → ℕ → Forward → Arbiter
with_later capacity c f = record { lists = (request_of c LATER f ∷ []) ∷ [] ∷ [] ∷ [] ∷ [] ∷ []; owner = Some c; capacity = capacity }

abbrev pub with_first : ℕ → ℕ → Forward → Arbiter
with_first capacity c f = record { lists = [] ∷ [] ∷ (request_of c FIRST f ∷ []) ∷ [] ∷ [] ∷ []; owner = None; capacity = capacity }

-- a frame waits
abbrev pub Waits : World → ℕ → ℕ → Machine → ℕ → Forward → Type 0
Waits w q c m p f =
    ((p ≡ LATER) × (w.bus ≡ with_later q c f) × (w.trace ≡ m.trace)) ⊎ ((p ≡ FIRST) × (w.bus ≡ with_first q c f) × (w.trace ≡ []) × (m.trace ≡ []))

-- a frame was heard, and c owns the bus, or the bus has no owner
abbrev pub Heard : World → ℕ → ℕ → Machine → Forward → Answer → Type 0
Heard w q c m f h = ((w.bus ≡ still q (Some c)) × (w.trace ≡ m.trace ++ entry f h ∷ [])) ⊎ ((w.bus ≡ still q None) × (w.trace ≡ []))

-- nothing runs
abbrev pub Rests : World → ℕ → Type 0
Rests w q = (w.bus ≡ still q None) × (w.trace ≡ [])

abbrev pub Moment : World → ℕ → ℕ → Machine → Option Record → Option Order → Option Input → Type 0
Moment w q c m outstanding None (Some input.Start) = Rests w q × (m.trace ≡ [])
Moment w q c m outstanding (Some (Put p f)) None = Waits w q c m p f
Moment w q c m outstanding (Some (Put p f)) (Some (input.Heard h)) = Heard w q c m f h
Moment w q c m outstanding (Some (Commit x)) None = Rests w q × (m.trace ≡ []) × (outstanding ≡ Some x)
Moment w q c m outstanding (Some (Done e)) None = Rests w q
Moment w q c m outstanding (Some (Halt why)) None = Rests w q
Moment w q c m outstanding _ _ = ⊥

abbrev no_input : Option Input
no_input = None

-- what was put is no direct arc power
abbrev pub Addresses : Option Order → Type 0
Addresses (Some (Put p f)) = is_arc (command_of f) ≡ false
Addresses _ = Unit {0}

pub record IsLone (w : World) (q c : ℕ) (m : Machine) : Type 0 where
  pub up : IsUp w c
  pub kept : m.kept ≡ (controller_at w c).records
  pub last : m.last ≡ (controller_at w c).last
  pub addresses : Addresses (controller_at w c).last
  pub moment : Moment w q c m (controller_at w c).outstanding (controller_at w c).last (controller_at w c).told

-- ---------------------------------------------------------------- what is due

-- if a frame was heard no request waits
pub heard_free : (w : World) (q c : ℕ) (m : Machine) (f : Forward) (h : Answer) → Heard w q c m f h → total w.bus ≡ 0
heard_free w q c m f h (inl own) = ap total own.0
heard_free w q c m f h (inr free) = ap total free.0

-- what is due or next, by the last order and by what was told
abbrev pub IsDueIn : Bool → World → ℕ → Type 0
IsDueIn by w c = (i : Input) × Succeeds by i × IsDue (controller_at w c) i × (total w.bus ≡ 0)

pub due_by : (by : Bool) (w : World) (q c : ℕ) (m : Machine) (last : Option Order) (told : Option Input) → (controller_at w c).last ≡ last
    → (controller_at w c).told ≡ told → Moment w q c m (controller_at w c).outstanding last told → ((why : Fault) → last ≡ Some (Halt why) → told ≡ None → ⊥)
    → ((e : End) × (last ≡ Some (Done e))) ⊎ (IsDueIn by w c ⊎ ((r : Request) × (next w.bus ≡ Some r)))
due_by false w q c m None (Some input.Start) is told at halts = inr (inl (input.Start, tt, told, ap total at.0.0))
due_by true w q c m None (Some input.Start) is told at halts = inr (inl (input.Survey, tt, told, ap total at.0.0))
due_by by w q c m (Some (Put p f)) (Some (input.Heard h)) is told at halts = inr (inl (input.Heard h, tt, told, heard_free w q c m f h at))
due_by by w q c m (Some (Put p f)) None is told (inl later) halts = inr (inr (request_of c LATER f, ap next later.1))
due_by by w q c m (Some (Put p f)) None is told (inr first) halts = inr (inr (request_of c FIRST f, ap next first.1))
due_by by w q c m (Some (Commit x)) None is told at halts = inr (inl (input.Committed, tt, rw is tt, ap total at.0.0))
due_by by w q c m (Some (Done e)) None is told at halts = inl (e, refl)
due_by by w q c m (Some (Halt why)) None is told at halts = absurd (halts why refl refl)
due_by by w q c m _ _ is told at halts = absurd at

-- once it has ended
pub ended_rests : (w : World) (q c : ℕ) (m : Machine) (out : Option Record) (last : Option Order) (told : Option Input) (e : End) → last ≡ Some (Done e)
    → Moment w q c m out last told → Rests w q × (told ≡ None)
ended_rests w q c m out (Some (Done x)) None e is at = (at, refl)
ended_rests w q c m out (Some (Done x)) (Some i) e is at = absurd at
ended_rests w q c m out _ told e is at = absurd (cc)

-- ---------------------------------------------------------------- the controller acts

-- before an order, of a machine that was told its input
abbrev Before : World → ℕ → ℕ → List Entry → Type 0
Before w q c t = ((w.bus ≡ still q (Some c)) × (w.trace ≡ t)) ⊎ ((w.bus ≡ still q None) × (w.trace ≡ []))

-- and what is to come of the order
abbrev Comes : World → ℕ → ℕ → List Entry → Order → Type 0
Comes w q c t (Put p f) =
    ((p ≡ LATER) × (bus_acted w.bus c (Put p f) ≡ with_later q c f) × ((if gives_up w.bus c (Put p f) then [] else w.trace) ≡ t))
    ⊎ ((p ≡ FIRST) × (bus_acted w.bus c (Put p f) ≡ with_first q c f) × ((if gives_up w.bus c (Put p f) then [] else w.trace) ≡ []))
Comes w q c t (Commit x) = (bus_acted w.bus c (Commit x) ≡ still q None) × ((if gives_up w.bus c (Commit x) then [] else w.trace) ≡ [])
Comes w q c t (Done e) = (bus_acted w.bus c (Done e) ≡ still q None) × ((if gives_up w.bus c (Done e) then [] else w.trace) ≡ [])
Comes w q c t (Halt why) = (bus_acted w.bus c (Halt why) ≡ still q None) × ((if gives_up w.bus c (Halt why) then [] else w.trace) ≡ [])

abbrev Puts : World → ℕ → Order → Type 0
Puts w c (Put p f) = (p ≡ FIRST) ⊎ ((p ≡ LATER) × (w.bus.owner ≡ Some c))
Puts w c _ = Unit {0}

same : (c : ℕ) → (c == c) ≡ true
same c = grind (arith, nat_tests)

comes : (w : World) (q c : ℕ) (t : List Entry) (o : Order) → Puts w c o → Before w q c t → Comes w q c t o
comes w q c t (Put p f) (inl first) (inl own) = rw (first, own.0, same c) (inr (refl, refl, refl))
comes w q c t (Put p f) (inl first) (inr free) = rw (first, free.0, free.1) (inr (refl, refl, refl))
comes w q c t (Put p f) (inr later) (inl own) = rw (later.0, own.0, same c) (inl (refl, refl, own.1))
comes w q c t (Put p f) (inr later) (inr free) =
    absurd (let owner : (still q None).owner ≡ Some c = subst (λ (b : Arbiter). b.owner ≡ Some c) free.0 later.1 in cc)
comes w q c t (Commit x) puts (inl own) = rw (own.0, same c) (refl, refl)
comes w q c t (Commit x) puts (inr free) = rw (free.0, free.1) (refl, refl)
comes w q c t (Done e) puts (inl own) = rw (own.0, same c) (refl, refl)
comes w q c t (Done e) puts (inr free) = rw (free.0, free.1) (refl, refl)
comes w q c t (Halt why) puts (inl own) = rw (own.0, same c) (refl, refl)
comes w q c t (Halt why) puts (inr free) = rw (free.0, free.1) (refl, refl)

-- what was told, and what the machine knows then
abbrev pub IsDueOf : Option Order → Option Input → Input → Type 0
IsDueOf last told input.Committed = IsCommit last
IsDueOf last told input.CommitFailed = IsCommit last
IsDueOf last told input.Survey = told ≡ Some input.Start
IsDueOf last told input.Start = told ≡ Some input.Start
IsDueOf last told (input.Heard h) = told ≡ Some (input.Heard h)
IsDueOf last told input.Destroyed = told ≡ Some input.Destroyed
IsDueOf last told input.Lapsed = told ≡ Some input.Lapsed

pub due_of : (k : Controller) (i : Input) → IsDue k i → IsDueOf k.last k.told i
due_of k input.Committed due = due
due_of k _ due = due

-- WHAT A CONTROLLER ACTS ON: its start, what was heard of its frame, or that its commit is kept
abbrev pub first_input : Bool → Input
first_input false = input.Start
first_input true = input.Survey

pub acts_by : (by : Bool) (P : Option Order → Option Input → Input → Type 0) → P None (Some input.Start) (first_input by)
    → ((p : ℕ) (f : Forward) (h : Answer) → P (Some (Put p f)) (Some (input.Heard h)) (input.Heard h))
    → ((x : Record) → P (Some (Commit x)) None input.Committed)
    → (w : World) (q c : ℕ) (m : Machine) (out : Option Record) (last : Option Order) (told : Option Input) (i : Input) → Moment w q c m out last told
    → IsDueOf last told i → Succeeds by i → P last told i
acts_by false P first heard keeps w q c m out None (Some input.Start) input.Start at due good = first
acts_by true P first heard keeps w q c m out None (Some input.Start) input.Survey at due good = first
acts_by by P first heard keeps w q c m out (Some (Put p f)) (Some (input.Heard h)) (input.Heard a) at due good =
    subst (λ b. P (Some (Put p f)) (Some (input.Heard h)) (input.Heard b)) (let same : h ≡ a = cc in same) (heard p f h)
acts_by by P first heard keeps w q c m out (Some (Commit x)) None input.Committed at due good = keeps x
acts_by by P first heard keeps w q c m out last told input.CommitFailed at due good = absurd good
acts_by false P first heard keeps w q c m out last told input.Survey at due good = absurd good
acts_by true P first heard keeps w q c m out last told input.Start at due good = absurd good
acts_by by P first heard keeps w q c m out None told input.Committed at due good = absurd due
acts_by by P first heard keeps w q c m out (Some (Put p f)) told input.Committed at due good = absurd due
acts_by by P first heard keeps w q c m out (Some (Done e)) told input.Committed at due good = absurd due
acts_by by P first heard keeps w q c m out (Some (Halt why)) told input.Committed at due good = absurd due
acts_by by P first heard keeps w q c m out None None i at due good = absurd at
acts_by by P first heard keeps w q c m out None (Some input.Start) i at due good = absurd (cc)
acts_by by P first heard keeps w q c m out None (Some j) i at due good = absurd at
acts_by by P first heard keeps w q c m out (Some (Put p f)) (Some (input.Heard h)) i at due good = absurd (cc)
acts_by by P first heard keeps w q c m out (Some (Put p f)) (Some j) i at due good = absurd at
acts_by by P first heard keeps w q c m out (Some o) (Some j) i at due good = absurd at
acts_by by P first heard keeps w q c m out (Some o) None i at due good = absurd (cc)

before : (by : Bool) (w : World) (q c : ℕ) (m : Machine) (out : Option Record) (last : Option Order) (told : Option Input) (i : Input) → m.last ≡ last
    → Succeeds by i → IsDueOf last told i → Moment w q c m out last told → Before w q c (machine_told m i).trace
before by w q c m out last told i is good due at =
    acts_by by (λ l t j. m.last ≡ l → Moment w q c m out l t → Before w q c (machine_told m j).trace) (λ is at. inr at.0)
    (λ p f h is at. rw is (heard p f h at)) (λ x is at. inr at.0) w q c m out last told i at due good is at
  where
    heard : (p : ℕ) (f : Forward) (h : Answer) → Heard w q c m f h → Before w q c (m.trace ++ entry f h ∷ [])
    heard p f h (inl own) = inl own
    heard p f h (inr free) = inr free

pub heard_kept : (m : Machine) (o : Option Forward) (h : Answer) → (machine_heard m o h).kept ≡ m.kept
heard_kept m (Some f) h = refl
heard_kept m None h = refl

told_kept : (by : Bool) (w : World) (q c : ℕ) (m : Machine) (k : Controller) (i : Input) → IsDue k i → Succeeds by i → m.last ≡ k.last → m.kept ≡ k.records
    → Moment w q c m k.outstanding k.last k.told → (machine_told m i).kept ≡ kept_after k i
told_kept by w q c m k i due good last kept at =
    acts_by by (λ l t j. m.last ≡ l → Moment w q c m k.outstanding l t → (machine_told m j).kept ≡ kept_after k j) (first by)
    (λ p f h is at. heard_kept m (frame_put m.last) h ∙ kept) (λ x is at. rw (is, at.2, kept) refl) w q c m k.outstanding k.last k.told i at
    (due_of k i due) good last at
  where
    first : (b : Bool) → m.last ≡ None → Moment w q c m k.outstanding None (Some input.Start)
        → (machine_told m (first_input b)).kept ≡ kept_after k (first_input b)
    first false is at = kept
    first true is at = kept

-- what an order that is allowed asks of the bus
puts : (w : World) (c : ℕ) (k : Controller) (o : Order) → MayOrder w c k o → Puts w c o
puts w c k (Put p f) (inl first) = inl first.0
puts w c k (Put p f) (inr later) = inr (later.0, later.1)
puts w c k (Commit x) may = tt
puts w c k (Done e) may = tt
puts w c k (Halt why) may = tt

came : (w : World) (q c : ℕ) (m : Machine) (i : Input) (o : Order) (out : Option Record) → Comes w q c (machine_told m i).trace o
    → Moment (happens w (event.Acted c i o)) q c (machine_after m i o) (outstanding_after out o) (Some o) None
came w q c m i (Put p f) out (inl later) = inl (later.0, later.1, later.2 ∙ sym (rw later.0 refl))
came w q c m i (Put p f) out (inr first) = inr (first.0, first.1, first.2, rw first.0 refl)
came w q c m i (Commit x) out at = (at, refl, refl)
came w q c m i (Done e) out at = at
came w q c m i (Halt why) out at = at

pub acted_there : (w : World) (c : ℕ) (i : Input) (o : Order) → IsUp w c
    → controller_at (happens w (event.Acted c i o)) c ≡ controller_acted (controller_at w c) i o
acted_there w c i o up = get_or-set_same w.controllers c (controller_acted (controller_at w c) i o) nobody up.known

pub acted_last : (w : World) (c : ℕ) (i : Input) (o : Order) → IsUp w c → (controller_at (happens w (event.Acted c i o)) c).last ≡ Some o
acted_last w c i o up = ap (λ (k : Controller). k.last) (acted_there w c i o up)

pub acted_told : (w : World) (c : ℕ) (i : Input) (o : Order) → IsUp w c → (controller_at (happens w (event.Acted c i o)) c).told ≡ None
acted_told w c i o up = ap (λ (k : Controller). k.told) (acted_there w c i o up)

pub lone_acted : (by : Bool) (w : World) (q c : ℕ) (m : Machine) (i : Input) (o : Order) → IsLone w q c m → Succeeds by i → Addresses (Some o)
    → Allowed w (event.Acted c i o) → IsLone (happens w (event.Acted c i o)) q c (machine_after m i o)
lone_acted by w q c m i o l good addresses here =
    let there : controller_at (happens w (event.Acted c i o)) c ≡ controller_acted (controller_at w c) i o = acted_there w c i o l.up in
    record {
      up = record {
        known = subst (λ n. c < n) (sym (length-set w.controllers c (controller_acted (controller_at w c) i o))) l.up.known;
        up = ap (λ (k : Controller). k.up) there ∙ l.up.up;
      };
      kept = told_kept by w q c m (controller_at w c) i here.due good l.last l.kept l.moment ∙ sym (ap (λ (k : Controller). k.records) there);
      last = sym (ap (λ (k : Controller). k.last) there);
      addresses = subst Addresses (sym (ap (λ (k : Controller). k.last) there)) addresses;
      moment = subst (λ (k : Controller). Moment (happens w (event.Acted c i o)) q c (machine_after m i o) k.outstanding k.last k.told) (sym there)
          (came w q c m i o (outstanding_told (controller_at w c).outstanding i)
          (comes w q c (machine_told m i).trace o (puts w c (controller_informed (controller_at w c) i) o here.order)
          (before by w q c m (controller_at w c).outstanding (controller_at w c).last (controller_at w c).told i l.last good
          (due_of (controller_at w c) i here.due) l.moment)));
    }

-- ---------------------------------------------------------------- its frame is sent

-- the frame that is next is that of its last order
request_is : (c n p : ℕ) (f : Forward) (r : Request) → Some (request_of c n f) ≡ Some r
    → (k : ℕ) × (Some (Put p f) ≡ Some (Put k r.frame)) × (no_input ≡ None) × (r.sender ≡ c)
request_is c n p f r e =
    let here : request_of c n f ≡ r = cc in
    (p, ap (λ (x : Request). Some (Put p x.frame)) here, refl, sym (ap (λ (x : Request). x.sender) here))

next_at : (w : World) (q c : ℕ) (m : Machine) (out : Option Record) (last : Option Order) (told : Option Input) (r : Request) → Moment w q c m out last told
    → next w.bus ≡ Some r → (p : ℕ) × (last ≡ Some (Put p r.frame)) × (told ≡ None) × (r.sender ≡ c)
next_at w q c m out (Some (Put p f)) None r (inl later) is = request_is c LATER p f r (sym (ap next later.1) ∙ is)
next_at w q c m out (Some (Put p f)) None r (inr first) is = request_is c FIRST p f r (sym (ap next first.1) ∙ is)
next_at w q c m out None (Some input.Start) r at is = absurd (let none : None ≡ Some r = sym (ap next at.0.0) ∙ is in cc)
next_at w q c m out (Some (Put p f)) (Some (input.Heard h)) r (inl own) is = absurd (let none : None ≡ Some r = sym (ap next own.0) ∙ is in cc)
next_at w q c m out (Some (Put p f)) (Some (input.Heard h)) r (inr free) is = absurd (let none : None ≡ Some r = sym (ap next free.0) ∙ is in cc)
next_at w q c m out (Some (Commit x)) None r at is = absurd (let none : None ≡ Some r = sym (ap next at.0.0) ∙ is in cc)
next_at w q c m out (Some (Done e)) None r at is = absurd (let none : None ≡ Some r = sym (ap next at.0) ∙ is in cc)
next_at w q c m out (Some (Halt why)) None r at is = absurd (let none : None ≡ Some r = sym (ap next at.0) ∙ is in cc)
next_at w q c m out _ _ r at is = absurd at

pub lone_next : (w : World) (q c : ℕ) (m : Machine) (r : Request) → IsLone w q c m → next w.bus ≡ Some r
    → (p : ℕ) × (m.last ≡ Some (Put p r.frame)) × ((controller_at w c).told ≡ None) × (r.sender ≡ c)
lone_next w q c m r l is =
    let at = next_at w q c m (controller_at w c).outstanding (controller_at w c).last (controller_at w c).told r l.moment is in
    (at.0, l.last ∙ at.1, at.2, at.3)

-- what was sent of the transaction
running_of : (w : World) (q c : ℕ) (m : Machine) (p : ℕ) (f : Forward) → Waits w q c m p f → trace_running w c ≡ m.trace
running_of w q c m p f (inl later) = rw (later.1, same c) later.2
running_of w q c m p f (inr first) = rw (first.1) (sym first.3)

bus_after : (q c p : ℕ) (f : Forward) (b : Arbiter) (more : Bool) → ((b ≡ with_later q c f) ⊎ (b ≡ with_first q c f))
    → sent_by b c more ≡ still q (if more then Some c else None)
bus_after q c p f b true (inl later) = rw later refl
bus_after q c p f b false (inl later) = rw later refl
bus_after q c p f b true (inr first) = rw first refl
bus_after q c p f b false (inr first) = rw first refl

bus_waits : (w : World) (q c : ℕ) (m : Machine) (p : ℕ) (f : Forward) → Waits w q c m p f → ((w.bus ≡ with_later q c f) ⊎ (w.bus ≡ with_first q c f))
bus_waits w q c m p f (inl later) = inl later.1
bus_waits w q c m p f (inr first) = inr first.1

heard_at : (w : World) (q c : ℕ) (m : Machine) (p : ℕ) (f : Forward) (h : Answer) → Waits w q c m p f → Heard (happens w (event.Sent c f h)) q c m f h
heard_at w q c m p f h at = go (goes_on w c (trace_running w c ++ entry f h ∷ [])) refl where
  go : (more : Bool) → goes_on w c (trace_running w c ++ entry f h ∷ []) ≡ more → Heard (happens w (event.Sent c f h)) q c m f h
  go true is = inl (rw is (bus_after q c p f w.bus true (bus_waits w q c m p f at)), rw is (ap (λ t. t ++ entry f h ∷ []) (running_of w q c m p f at)))
  go false is = inr (rw is (bus_after q c p f w.bus false (bus_waits w q c m p f at)), rw is refl)

waits_at : (w : World) (q c : ℕ) (m : Machine) (out : Option Record) (last : Option Order) (told : Option Input) (p : ℕ) (f : Forward) → last ≡ Some (Put p f)
    → told ≡ None → Moment w q c m out last told → Waits w q c m p f
waits_at w q c m out last told p f is none at = rw (is, none) at at

pub sent_there : (w : World) (c : ℕ) (f : Forward) (h : Answer) → IsUp w c
    → controller_at (happens w (event.Sent c f h)) c ≡ told_sent (trace_running w c) f h (controller_at w c)
sent_there w c f h up = get_or-set_same w.controllers c (told_sent (trace_running w c) f h (controller_at w c)) nobody up.known

trace_is : (w : World) (q c : ℕ) (m : Machine) (p : ℕ) (f : Forward) → Waits w q c m p f → w.trace ≡ m.trace
trace_is w q c m p f (inl later) = later.2
trace_is w q c m p f (inr first) = first.2 ∙ sym first.3

pub sent_last : (w : World) (c : ℕ) (f : Forward) (h : Answer) → IsUp w c → (controller_at (happens w (event.Sent c f h)) c).last ≡ (controller_at w c).last
sent_last w c f h up = ap (λ (k : Controller). k.last) (sent_there w c f h up)

pub lone_sent : (w : World) (q c : ℕ) (m : Machine) (p : ℕ) (f : Forward) (h : Answer) → IsLone w q c m → m.last ≡ Some (Put p f)
    → (controller_at w c).told ≡ None
    → IsLone (happens w (event.Sent c f h)) q c m × ((controller_at (happens w (event.Sent c f h)) c).told ≡ Some (input.Heard h))
    × (trace_running w c ≡ m.trace) × (w.trace ≡ m.trace)
lone_sent w q c m p f h l is none =
    let there : controller_at (happens w (event.Sent c f h)) c ≡ told_sent (trace_running w c) f h (controller_at w c) = sent_there w c f h l.up in
    let last : (controller_at w c).last ≡ Some (Put p f) = sym l.last ∙ is in
    let waits : Waits w q c m p f = waits_at w q c m (controller_at w c).outstanding (controller_at w c).last (controller_at w c).told p f last none l.moment in
    let addresses : is_arc (command_of f) ≡ false = subst Addresses last l.addresses in
    let last_there : (controller_at (happens w (event.Sent c f h)) c).last ≡ Some (Put p f) = ap (λ (k : Controller). k.last) there ∙ last in
    let told_there : (controller_at (happens w (event.Sent c f h)) c).told ≡ Some (input.Heard h) =
    ap (λ (k : Controller). k.told) there ∙ rw addresses refl in (
      record {
        up = record {
          known = subst (λ n. c < n) (sym (length-set w.controllers c (told_sent (trace_running w c) f h (controller_at w c)))) l.up.known;
          up = ap (λ (k : Controller). k.up) there ∙ l.up.up;
        };
        kept = l.kept ∙ sym (ap (λ (k : Controller). k.records) there);
        last = is ∙ sym last_there;
        addresses = subst Addresses (sym last_there) addresses;
        moment = rw (last_there, told_there) (heard_at w q c m p f h waits);
      },
      told_there,
      running_of w q c m p f waits,
      trace_is w q c m p f waits,
    )
