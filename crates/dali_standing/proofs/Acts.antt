use Rattle.std.proofs.Common.{◌≡◌, ℕ, ◌<◌, ◌⊎◌, inl, inr, Bool, true, false, List, [], ◌∷◌, ◌++◌, refl, sym, ap, subst, ◌∙◌, arith, Option, Some, None, ◌==◌}
use Rattle.std.proofs.Common.{if◌then◌else◌}
use Rattle.std.proofs.lemmas.Bool.Decides.{nat_tests}
use Rattle.dali_frame.specs.{Priority.LATER, Random.MASK24, declared.frames.Answer.Answer, declared.frames.Forward.Forward}
use Rattle.dali_special.specs.{Command.command_of, declared.command.Command.Command, declared.command.Command.TheVariants.Arc}
use Rattle.dali_arbiter.specs.Arbiter.{owns}
use Rattle.dali_script.specs.{Due.due_after, Due.accepts, Due.frame_put, Due.record_ordered, Findings.finding_of, Findings.later, Records.Kept, Records.InBlock}
use Rattle.dali_script.specs.{Records.MayAdd, Scripts.Lawful, Scripts.IsFirst, Stages.stage_of, Stages.may_follow}
use Rattle.dali_script.specs.declared.{finding.Finding.Finding, orders.Input.Input, orders.Order.Order, stage.Stage.Stage}
use Rattle.dali_script.specs.declared.orders.Order.TheVariants.{Put, Commit, Done, Halt}
use Rattle.dali_script.specs.declared.records.Record.{Record, TheVariants.Reserve, TheVariants.Enrol, TheVariants.Release}
use Rattle.dali_script.{specs.declared.trace.Entry.Entry, proofs.Transactions.over, proofs.Transactions.follows_lawful}
use Rattle.dali_script.specs.declared.orders.Input.TheVariants as input
use Rattle.dali_controller.specs.Machine.{Machine, machine_told, machine_heard, machine_committed}
use Rattle.dali_controller.specs.Orders.{IsOrdered, IsAnswered, IsAllowed, IsAddressing, trace_by, machine_ordered, machine_after}
use Rattle.dali_controller.proofs.Given.{enrols_assigned}
use Rattle.dali_events.specs.{Allowed.IsDue, Allowed.IsCommit, Allowed.MayOrder, Happens.entry, Happens.controller_informed, Happens.outstanding_told}
use Rattle.dali_events.specs.{Happens.outstanding_after, Happens.is_arc, World.World, World.Controller}
use Rattle.dali_standing.specs.Seats.{IsRunning, IsSeat, IsTold, IsOutstanding, IsFound, IsEnrolling, MayAnswer, seat_by, machine_in, acted_in, informed_by}
use Rattle.dali_standing.specs.Settled.{IsOwning, IsApart, IsPlacedBy}
use Rattle.dali_standing.specs.declared.seat.Place.{Place, TheVariants.Up, TheVariants.Down}

-- WHAT A CONTROLLER ORDERS, the table of events allows.

-- ---------------------------------------------------------------- what was ordered last

pub start_first : (last : Option Order) → accepts (due_after last) input.Start ≡ true → last ≡ None
start_first None a = refl
start_first (Some (Put p f)) a = cc
start_first (Some (Commit x)) a = cc
start_first (Some (Done e)) a = cc
start_first (Some (Halt w)) a = cc

-- a frame is outstanding where the bus may tell of it
abbrev pub IsPut : Option Order → Type 0
IsPut last = (p : ℕ) × (f : Forward) × (last ≡ Some (Put p f))

abbrev pub IsOfBus : Input → Type 0
IsOfBus (input.Heard h) = Unit {0}
IsOfBus input.Destroyed = Unit {0}
IsOfBus input.Lapsed = Unit {0}
IsOfBus _ = ⊥

pub bus_put : (i : Input) (last : Option Order) → IsOfBus i → accepts (due_after last) i ≡ true → IsPut last
bus_put (input.Heard h) None bus a = cc
bus_put (input.Heard h) (Some (Put p f)) bus a = (p, f, refl)
bus_put (input.Heard h) (Some (Commit x)) bus a = cc
bus_put (input.Heard h) (Some (Done e)) bus a = cc
bus_put (input.Heard h) (Some (Halt w)) bus a = cc
bus_put input.Destroyed None bus a = cc
bus_put input.Destroyed (Some (Put p f)) bus a = (p, f, refl)
bus_put input.Destroyed (Some (Commit x)) bus a = cc
bus_put input.Destroyed (Some (Done e)) bus a = cc
bus_put input.Destroyed (Some (Halt w)) bus a = cc
bus_put input.Lapsed None bus a = cc
bus_put input.Lapsed (Some (Put p f)) bus a = (p, f, refl)
bus_put input.Lapsed (Some (Commit x)) bus a = cc
bus_put input.Lapsed (Some (Done e)) bus a = cc
bus_put input.Lapsed (Some (Halt w)) bus a = cc
bus_put input.Start last bus a = elim bus [ ]
bus_put input.Survey last bus a = elim bus [ ]
bus_put input.Committed last bus a = elim bus [ ]
bus_put input.CommitFailed last bus a = elim bus [ ]

pub committed_last : (last : Option Order) → IsCommit last → (x : Record) × (last ≡ Some (Commit x))
committed_last None c = elim c [ ]
committed_last (Some (Put p f)) c = elim c [ ]
committed_last (Some (Commit x)) c = (x, refl)
committed_last (Some (Done e)) c = elim c [ ]
committed_last (Some (Halt w)) c = elim c [ ]

pub told_accepted : (last : Option Order) (told : Option Input) (i : Input) → told ≡ Some i → IsTold last told → accepts (due_after last) i ≡ true
told_accepted last told i e is = subst (λ t. IsTold last t) e is

-- ---------------------------------------------------------------- who owns the bus

pub owner_is : (o : Option ℕ) (c : ℕ) → owns o c ≡ true → o ≡ Some c
owner_is None c e = cc
owner_is (Some d) c e = let same : d ≡ c = grind (arith, nat_tests) in ap Some same

pub owner_owns : (o : Option ℕ) (c : ℕ) → o ≡ Some c → owns o c ≡ true
owner_owns o c e = rw e (grind (arith, nat_tests))

pub other_owns : (o : Option ℕ) (c d : ℕ) → (d ≡ c → ⊥) → o ≡ Some c → owns o d ≡ false
other_owns o c d other e = rw e (grind (arith, nat_tests))

-- ---------------------------------------------------------------- the transaction of a machine that was told

-- A machine whose transaction may go on owns the bus, and the frames are those of the site.
abbrev OwnsWith : World → ℕ → Controller → Machine → Type 0
OwnsWith w c k t = (f : Forward) → (t.trace ≡ [] → ⊥) → Lawful k.records.block k.records.reserved t.trace f → (w.bus.owner ≡ Some c) × (t.trace ≡ w.trace)

owns_none : (w : World) (c : ℕ) (k : Controller) (t : Machine) → t.trace ≡ [] → OwnsWith w c k t
owns_none w c k t none f some may = absurd (some none)

pub placed_start : (b : Bool) (t : List Entry) (k : Controller) (m : Machine) → k.last ≡ None → IsPlacedBy b t k (Some m) → m.trace ≡ []
placed_start true t k m e placed = elim (subst (λ l. IsOwning t k m l k.told) e placed) [ ]
placed_start false t k m e placed = subst (λ l. IsApart k m l k.told) e placed

pub placed_commit : (b : Bool) (t : List Entry) (k : Controller) (m : Machine) (x : Record) → k.last ≡ Some (Commit x) → IsPlacedBy b t k (Some m)
    → m.trace ≡ []
placed_commit true t k m x e placed = elim (subst (λ l. IsOwning t k m l k.told) e placed) [ ]
placed_commit false t k m x e placed = subst (λ l. IsApart k m l k.told) e placed

heard_trace : (m : Machine) (p : ℕ) (f : Forward) (h : Answer) → m.last ≡ Some (Put p f) → (machine_told m (input.Heard h)).trace ≡ m.trace ++ entry f h ∷ []
heard_trace m p f h e = rw e refl

placed_heard : (b : Bool) (t : List Entry) (k : Controller) (m : Machine) (p : ℕ) (f : Forward) (h : Answer) → k.told ≡ Some (input.Heard h)
    → k.last ≡ Some (Put p f)
    → IsPlacedBy b t k (Some m)
    → (b ≡ true → t ≡ m.trace ++ entry f h ∷ []) × (b ≡ false → may_follow k.records.block k.records.reserved (stage_of (m.trace ++ entry f h ∷ [])) ≡ false)
placed_heard true t k m p f h is e placed =
    (λ _. subst (λ o. IsOwning t k m (Some (Put p f)) o) is (subst (λ l. IsOwning t k m l k.told) e placed), λ x. absurd (cc))
placed_heard false t k m p f h is e placed =
    (λ x. absurd (cc), λ _. subst (λ o. IsApart k m (Some (Put p f)) o) is (subst (λ l. IsApart k m l k.told) e placed))

owns_heard : (w : World) (c : ℕ) (k : Controller) (m t : Machine) (p : ℕ) (f : Forward) (h : Answer) → k.told ≡ Some (input.Heard h) → k.last ≡ Some (Put p f)
    → IsPlacedBy (owns w.bus.owner c) w.trace k (Some m) → t.trace ≡ m.trace ++ entry f h ∷ [] → OwnsWith w c k t
owns_heard w c k m t p f h told_h last placed is g some may = go (owns w.bus.owner c) refl where
  go : (b : Bool) → owns w.bus.owner c ≡ b → (w.bus.owner ≡ Some c) × (t.trace ≡ w.trace)
  go true e = (owner_is w.bus.owner c e, is ∙ sym ((placed_heard (owns w.bus.owner c) w.trace k m p f h told_h last placed).0 e))
  go false e = absurd (over k.records.block k.records.reserved (stage_of t.trace) _
      (subst (λ u. may_follow k.records.block k.records.reserved (stage_of u) ≡ false) (sym is)
      ((placed_heard (owns w.bus.owner c) w.trace k m p f h told_h last placed).1 e))
      (follows_lawful k.records.block k.records.reserved t.trace g may))

-- ---------------------------------------------------------------- what may be ordered

-- what a controller and its machine have in common, once both were told
record AreInformed (w : World) (c : ℕ) (k : Controller) (t : Machine) : Type 0 where
  pub kept : t.kept ≡ k.records
  pub outstanding : k.outstanding ≡ None
  pub found : later k.finding (finding_of t.trace) ≡ k.finding
  pub enrolling : IsEnrolling t.last k.finding
  pub owns_with : OwnsWith w c k t

pub later_some : (k o : Option Finding) (x : Finding) → o ≡ Some x → later k o ≡ k → k ≡ Some x
later_some k o x e is = sym (subst (λ p. later k p ≡ k) e is)

may_order_by : (w : World) (c : ℕ) (k : Controller) (t : Machine) (o : Order) → AreInformed w c k t → IsAllowed t o → MayOrder w c k o
may_order_by w c k t (Put p f) both (inl may) = inl (may.0, (t.kept.block, t.kept.reserved, may.1))
may_order_by w c k t (Put p f) both (inr may) =
    let lawful : Lawful k.records.block k.records.reserved t.trace f = subst (λ r. Lawful r.block r.reserved t.trace f) both.kept may.2 in
    let own = both.owns_with f may.1 lawful in
    inr (may.0, own.0, subst (λ u. Lawful k.records.block k.records.reserved u f) own.1 lawful)
may_order_by w c k t (Commit (Reserve a r)) both may =
    (both.outstanding, subst (λ x. InBlock x.block a × (r < MASK24) × MayAdd x (Reserve a r)) both.kept (may.fits.0, may.fits.1, may.may))
may_order_by w c k t (Commit (Enrol b r)) both may =
    let x : Finding = may.warranted.0 in
    let found : k.finding ≡ Some x = later_some k.finding (finding_of t.trace) x may.warranted.2 both.found in (
      both.outstanding,
      (
        (x, found, sym (enrols_assigned t.course.way t.kept.reserved x (b, r) may.warranted.3)),
        may.fits,
        subst (λ q. MayAdd q (Enrol b r)) both.kept may.may,
      ),
    )
may_order_by w c k t (Commit (Release a r)) both may =
    let enrolled = both.enrolling may.warranted.0 r may.warranted.1 in
    (both.outstanding, (subst (λ q. MayAdd q (Release a r)) both.kept may.may, (enrolled.0, enrolled.1, may.warranted.0, enrolled.2, may.warranted.2)))
may_order_by w c k t (Done e) both may = tt
may_order_by w c k t (Halt why) both may = tt

put_outstanding : (k : Kept) (last : Option Order) (o : Option Record) → IsPut last → IsOutstanding k last o → o ≡ None
put_outstanding k last o put is = subst (λ l. IsOutstanding k l o) put.2 is

pub bus_kept : (m : Machine) (i : Input) (p : ℕ) (f : Forward) → IsOfBus i → m.last ≡ Some (Put p f) → (machine_told m i).kept ≡ m.kept
bus_kept m (input.Heard h) p f bus e = rw e refl
bus_kept m input.Destroyed p f bus e = refl
bus_kept m input.Lapsed p f bus e = refl
bus_kept m _ p f bus e = elim bus [ ]

bus_records : (k : Controller) (i : Input) → IsOfBus i
    → ((controller_informed k i).records ≡ k.records) × ((controller_informed k i).outstanding ≡ k.outstanding)
bus_records k (input.Heard h) bus = (refl, refl)
bus_records k input.Destroyed bus = (refl, refl)
bus_records k input.Lapsed bus = (refl, refl)
bus_records k _ bus = elim bus [ ]

owns_told : (w : World) (c : ℕ) (k : Controller) (m : Machine) (i : Input) (p : ℕ) (f : Forward) → IsOfBus i → k.told ≡ Some i → m.last ≡ k.last
    → k.last ≡ Some (Put p f)
    → IsPlacedBy (owns w.bus.owner c) w.trace k (Some m) → OwnsWith w c (controller_informed k i) (machine_told m i)
owns_told w c k m (input.Heard h) p f bus is same e placed =
    owns_heard w c k m (machine_told m (input.Heard h)) p f h is e placed (heard_trace m p f h (same ∙ e))
owns_told w c k m input.Destroyed p f bus is same e placed = owns_none w c (controller_informed k input.Destroyed) (machine_told m input.Destroyed) refl
owns_told w c k m input.Lapsed p f bus is same e placed = owns_none w c (controller_informed k input.Lapsed) (machine_told m input.Lapsed) refl
owns_told w c k m _ p f bus is same e placed = elim bus [ ]

pub found_told : (k : Controller) (m : Machine) (i : Input) → k.told ≡ Some i → IsFound k m → later k.finding (finding_of (machine_told m i).trace) ≡ k.finding
found_told k m i e is = subst (λ t. later k.finding (finding_of (informed_by m t).trace) ≡ k.finding) e is

-- what is told leaves the last order
heard_last : (m : Machine) (f : Option Forward) (h : Answer) → (machine_heard m f h).last ≡ m.last
heard_last m None h = refl
heard_last m (Some f) h = refl

committed_last_stays : (m : Machine) (x : Option Record) → (machine_committed m x).last ≡ m.last
committed_last_stays m None = refl
committed_last_stays m (Some x) = refl

committed_trace : (m : Machine) (x : Option Record) → (machine_committed m x).trace ≡ m.trace
committed_trace m None = refl
committed_trace m (Some x) = refl

last_told : (m : Machine) (i : Input) → (machine_told m i).last ≡ m.last
last_told m (input.Heard h) = heard_last m (frame_put m.last) h
last_told m input.Committed = committed_last_stays m (record_ordered m.last)
last_told m _ = refl

enrolling_told : (k : Controller) (m : Machine) (i : Input) → IsRunning k m → IsEnrolling (machine_told m i).last k.finding
enrolling_told k m i tied = subst (λ l. IsEnrolling l k.finding) (sym (last_told m i ∙ tied.last)) tied.enrolling

-- an enrolment that is ordered is of the controller's last finding
enrolling_by : (found : Option Finding) (t : Machine) (o : Order) → later found (finding_of t.trace) ≡ found → IsAllowed t o → IsEnrolling (Some o) found
enrolling_by found t o is may b r e =
    let enrols : IsAllowed t (Commit (Enrol b r)) = subst (λ y. IsAllowed t y) (let same : o ≡ Commit (Enrol b r) = cc in same) may in
    let x : Finding = enrols.warranted.0 in
    (x, later_some found (finding_of t.trace) x enrols.warranted.2 is, sym (enrols_assigned t.course.way t.kept.reserved x (b, r) enrols.warranted.3))

-- where the store is waited for, nothing that is told changes the trace
stored_trace : (m : Machine) (last : Option Order) (told : Option Input) → IsCommit last → IsTold last told → (informed_by m told).trace ≡ m.trace
stored_trace m last None commit told = refl
stored_trace m last (Some input.Committed) commit told = committed_trace m (record_ordered m.last)
stored_trace m last (Some input.CommitFailed) commit told = refl
stored_trace m last (Some i) commit told =
    let x = committed_last last commit in absurd (let none = subst (λ l. accepts (due_after l) i ≡ true) x.1 told in cc)

-- what a machine orders leaves its place as it must be
still_found : (t : Machine) (found : Option Finding) (here : Bool) → later found (finding_of t.trace) ≡ found
    → later found (finding_of (if here then t.trace else [])) ≡ found
still_found t found true is = is
still_found t found false is = refl

found_ordered : (t : Machine) (o : Order) (found : Option Finding) → later found (finding_of t.trace) ≡ found → later found (finding_of (trace_by t o)) ≡ found
found_ordered t (Put p f) found is = still_found t found (p == LATER) is
found_ordered t _ found is = refl

outstanding_ordered : (t : Machine) (o : Order) (outstanding : Option Record) → IsAllowed t o → outstanding ≡ None
    → IsOutstanding t.kept (Some o) (outstanding_after outstanding o)
outstanding_ordered t (Put p f) outstanding may none = none
outstanding_ordered t (Commit x) outstanding may none = (refl, may.fits, may.may)
outstanding_ordered t (Done e) outstanding may none = tt
outstanding_ordered t (Halt why) outstanding may none = tt

ordered_running : (t : Machine) (o : Order) (outstanding : Option Record) (found : Option Finding) → IsAllowed t o → later found (finding_of t.trace) ≡ found
    → outstanding ≡ None
    → IsRunning (seat_by (Up (machine_ordered t o)) (outstanding_after outstanding o) found None).controller (machine_ordered t o)
ordered_running t o outstanding found may is none = record {
  kept = refl;
  last = refl;
  told = tt;
  outstanding = outstanding_ordered t o outstanding may none;
  found = found_ordered t o found is;
  enrolling = enrolling_by found t o is may;
}

running_acted : (m : Machine) (outstanding : Option Record) (found : Option Finding) (told : Option Input) (i : Input) (o : Order)
    → IsRunning (seat_by (Up m) outstanding found told).controller m → IsDue (seat_by (Up m) outstanding found told).controller i → IsAnswered m i o
    → IsRunning (seat_by (Up (machine_after m i o)) (outstanding_after (outstanding_told outstanding i) o) found None).controller (machine_after m i o)
running_acted m outstanding found told i o tied due answer = go i due answer where
  k : Controller
  k = (seat_by (Up m) outstanding found told).controller

  bus_none : (i : Input) → IsOfBus i → k.told ≡ Some i → outstanding ≡ None
  bus_none i bus is = put_outstanding k.records k.last outstanding (bus_put i k.last bus (told_accepted k.last k.told i is tied.told)) tied.outstanding

  go : (i : Input) → IsDue k i → IsAnswered m i o
      → IsRunning (seat_by (Up (machine_after m i o)) (outstanding_after (outstanding_told outstanding i) o) found None).controller (machine_after m i o)
  go input.Committed commit order =
      let same : (informed_by m told).trace ≡ m.trace = stored_trace m k.last told commit tied.told in
      ordered_running (machine_told m input.Committed) o None found order.allowed
      (subst (λ t. later found (finding_of t) ≡ found) (same ∙ sym (committed_trace m (record_ordered m.last))) tied.found) refl
  go input.CommitFailed commit halts =
      subst (λ p. IsRunning (seat_by (Up (machine_after m input.CommitFailed p)) (outstanding_after outstanding p) found None).controller
      (machine_after m input.CommitFailed p)) (sym halts)
      (record { kept = refl; last = refl; told = tt; outstanding = tt; found = refl; enrolling = λ b r e. absurd (cc) })
  go input.Start is order =
      ordered_running (machine_told m input.Start) o outstanding found order.allowed (found_told k m input.Start is tied.found)
      (subst (λ l. IsOutstanding k.records l outstanding) (start_first k.last (told_accepted k.last k.told input.Start is tied.told)) tied.outstanding)
  go input.Survey is order =
      ordered_running (machine_told m input.Survey) o outstanding found order.allowed (found_told k m input.Start is tied.found)
      (subst (λ l. IsOutstanding k.records l outstanding) (start_first k.last (told_accepted k.last k.told input.Start is tied.told)) tied.outstanding)
  go (input.Heard h) is order =
      ordered_running (machine_told m (input.Heard h)) o outstanding found order.allowed (found_told k m (input.Heard h) is tied.found)
      (bus_none (input.Heard h) tt is)
  go input.Destroyed is order =
      ordered_running (machine_told m input.Destroyed) o outstanding found order.allowed (found_told k m input.Destroyed is tied.found)
      (bus_none input.Destroyed tt is)
  go input.Lapsed is order =
      ordered_running (machine_told m input.Lapsed) o outstanding found order.allowed (found_told k m input.Lapsed is tied.found) (bus_none input.Lapsed tt is)

pub seat_acted : (place : Place) (outstanding : Option Record) (found : Option Finding) (told : Option Input) (s : Stage) (i : Input) (o : Order)
    → IsSeat place outstanding found told s → IsDue (seat_by place outstanding found told).controller i → MayAnswer (machine_in place) i o
    → IsSeat (acted_in place i o) (outstanding_after (outstanding_told outstanding i) o) found None s
seat_acted (Down k) outstanding found told s i o seat due answer = elim answer [ ]
seat_acted (Up m) outstanding found told s i o seat due answer = (running_acted m outstanding found told i o seat.0 due answer.answered, tt)

informed_bus : (w : World) (c : ℕ) (k : Controller) (m : Machine) (i : Input) → IsOfBus i → k.told ≡ Some i → IsRunning k m
    → IsPlacedBy (owns w.bus.owner c) w.trace k (Some m)
    → AreInformed w c (controller_informed k i) (machine_told m i)
informed_bus w c k m i bus is tied placed =
    let put : IsPut k.last = bus_put i k.last bus (told_accepted k.last k.told i is tied.told) in
    record {
      kept = bus_kept m i put.0 put.1 bus (tied.last ∙ put.2) ∙ tied.kept ∙ sym (bus_records k i bus).0;
      outstanding = (bus_records k i bus).1 ∙ put_outstanding k.records k.last k.outstanding put tied.outstanding;
      found = found_told k m i is tied.found;
      enrolling = enrolling_told k m i tied;
      owns_with = owns_told w c k m i put.0 put.1 bus is tied.last put.2 placed;
    }

informed_start : (w : World) (c : ℕ) (k : Controller) (m : Machine) → k.told ≡ Some input.Start → IsRunning k m
    → IsPlacedBy (owns w.bus.owner c) w.trace k (Some m)
    → AreInformed w c (controller_informed k input.Start) (machine_told m input.Start)
informed_start w c k m is tied placed =
    let none : k.last ≡ None = start_first k.last (told_accepted k.last k.told input.Start is tied.told) in
    record {
      kept = tied.kept;
      outstanding = subst (λ l. IsOutstanding k.records l k.outstanding) none tied.outstanding;
      found = found_told k m input.Start is tied.found;
      enrolling = enrolling_told k m input.Start tied;
      owns_with = owns_none w c (controller_informed k input.Start) m (placed_start (owns w.bus.owner c) w.trace k m none placed);
    }

informed_survey : (w : World) (c : ℕ) (k : Controller) (m : Machine) → k.told ≡ Some input.Start → IsRunning k m
    → IsPlacedBy (owns w.bus.owner c) w.trace k (Some m)
    → AreInformed w c (controller_informed k input.Survey) (machine_told m input.Survey)
informed_survey w c k m is tied placed =
    let none : k.last ≡ None = start_first k.last (told_accepted k.last k.told input.Start is tied.told) in
    record {
      kept = tied.kept;
      outstanding = subst (λ l. IsOutstanding k.records l k.outstanding) none tied.outstanding;
      found = found_told k m input.Start is tied.found;
      enrolling = enrolling_told k m input.Survey tied;
      owns_with = owns_none w c (controller_informed k input.Survey) (machine_told m input.Survey)
          (placed_start (owns w.bus.owner c) w.trace k m none placed);
    }

informed_committed : (w : World) (c : ℕ) (k : Controller) (m : Machine) → IsCommit k.last → IsRunning k m → IsPlacedBy (owns w.bus.owner c) w.trace k (Some m)
    → AreInformed w c (controller_informed k input.Committed) (machine_told m input.Committed)
informed_committed w c k m commit tied placed =
    let x = committed_last k.last commit in
    let none : m.trace ≡ [] = placed_commit (owns w.bus.owner c) w.trace k m x.0 x.1 placed in
    let ordered_x : m.last ≡ Some (Commit x.0) = tied.last ∙ x.1 in
    let out : k.outstanding ≡ Some x.0 = (subst (λ l. IsOutstanding k.records l k.outstanding) x.1 tied.outstanding).0 in
    record {
      kept = rw (ordered_x, out, tied.kept) refl;
      outstanding = refl;
      found = rw (ordered_x, none) refl;
      enrolling = enrolling_told k m input.Committed tied;
      owns_with = owns_none w c (controller_informed k input.Committed) (machine_told m input.Committed) (rw ordered_x none);
    }

-- ---------------------------------------------------------------- where an order leaves its controller

-- its frame waits as a later one of the transaction that the bus runs, or as a first one; or nothing runs
abbrev pub IsLeft : World → ℕ → Controller → Machine → Order → Type 0
IsLeft w c k m (Put p f) =
    (is_arc (command_of f) ≡ false)
    × (((p ≡ 1) × (w.bus.owner ≡ Some c) × (w.trace ≡ m.trace) × Lawful k.records.block k.records.reserved w.trace f)
    ⊎ ((p ≡ 3) × (m.trace ≡ []) × IsFirst f))
IsLeft w c k m (Commit x) = m.trace ≡ []
IsLeft w c k m (Done e) = Unit {0}
IsLeft w c k m (Halt why) = Unit {0}

no_arc : (x : Command) → ((g : Forward) → x ≡ Arc g → ⊥) → is_arc x ≡ false
no_arc (Arc g) none = absurd (none g refl)
no_arc _ none = refl

left_by : (w : World) (c : ℕ) (k : Controller) (t : Machine) (o : Order) → AreInformed w c k t → IsAllowed t o → IsAddressing o
    → IsLeft w c k (machine_ordered t o) o
left_by w c k t (Put p f) both (inl may) scripted = (no_arc (command_of f) scripted, inr (may.0, rw may.0 refl, (t.kept.block, t.kept.reserved, may.1)))
left_by w c k t (Put p f) both (inr may) scripted =
    let lawful : Lawful k.records.block k.records.reserved t.trace f = subst (λ r. Lawful r.block r.reserved t.trace f) both.kept may.2 in
    let own = both.owns_with f may.1 lawful in
    (no_arc (command_of f) scripted, inl (may.0, own.0, rw may.0 (sym own.1), subst (λ u. Lawful k.records.block k.records.reserved u f) own.1 lawful))
left_by w c k t (Commit x) both may scripted = refl
left_by w c k t (Done e) both may scripted = tt
left_by w c k t (Halt why) both may scripted = tt

-- WHAT A CONTROLLER THAT ACTS may order, and where the order leaves it
pub record IsOrderedAt (w : World) (c : ℕ) (k : Controller) (m : Machine) (i : Input) (o : Order) : Type 0 where
  pub may : MayOrder w c (controller_informed k i) o
  pub left : IsLeft w c (controller_informed k i) (machine_after m i o) o

ordered_at : (w : World) (c : ℕ) (k : Controller) (m : Machine) (i : Input) (o : Order) → AreInformed w c (controller_informed k i) (machine_told m i)
    → IsOrdered (machine_told m i) o → IsOrderedAt w c k m i o
ordered_at w c k m i o both order = record {
  may = may_order_by w c (controller_informed k i) (machine_told m i) o both order.allowed;
  left = left_by w c (controller_informed k i) (machine_told m i) o both order.allowed order.addressing;
}

pub may_order : (w : World) (c : ℕ) (k : Controller) (m : Machine) (i : Input) (o : Order) → IsDue k i → IsRunning k m → IsAnswered m i o
    → IsPlacedBy (owns w.bus.owner c) w.trace k (Some m) → IsOrderedAt w c k m i o
may_order w c k m (input.Heard h) o due tied answer placed =
    ordered_at w c k m (input.Heard h) o (informed_bus w c k m (input.Heard h) tt due tied placed) answer
may_order w c k m input.Destroyed o due tied answer placed =
    ordered_at w c k m input.Destroyed o (informed_bus w c k m input.Destroyed tt due tied placed) answer
may_order w c k m input.Lapsed o due tied answer placed = ordered_at w c k m input.Lapsed o (informed_bus w c k m input.Lapsed tt due tied placed) answer
may_order w c k m input.Start o due tied answer placed = ordered_at w c k m input.Start o (informed_start w c k m due tied placed) answer
may_order w c k m input.Survey o due tied answer placed = ordered_at w c k m input.Survey o (informed_survey w c k m due tied placed) answer
may_order w c k m input.Committed o due tied answer placed = ordered_at w c k m input.Committed o (informed_committed w c k m due tied placed) answer
may_order w c k m input.CommitFailed o due tied answer placed =
    subst (λ p. IsOrderedAt w c k m input.CommitFailed p) (sym answer) (record { may = tt; left = tt })
