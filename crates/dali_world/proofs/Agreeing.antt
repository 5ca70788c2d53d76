use Rattle.std.proofs.Common.{◌≡◌, ℕ, ◌<◌, inl, inr, Bool, List, [], append-nil, refl, sym, ap, subst, ◌∙◌, length, Some}
use Rattle.dali_script.specs.{Findings.assigned, Findings.finding_of, Records.Assignment, declared.finding.Finding.Finding, declared.orders.Input.Input}
use Rattle.dali_script.specs.declared.{orders.Order.TheVariants.Commit, orders.Order.TheVariants.Halt, records.Record.Record, trace.Entry.Entry}
use Rattle.dali_script.specs.declared.orders.Fault.TheVariants as fault
use Rattle.dali_script.specs.declared.orders.Input.TheVariants as input
use Rattle.dali_controller.specs.{Machine.Machine, Machine.machine_told, Orders.IsOrdered, Orders.IsAnswered, Orders.Contradicts}
use Rattle.dali_events.specs.{Allowed.IsDue, Laws.HasFound, Laws.FindingsAgree, Plan.Plan, Runs.after, Runs.IsRun, World.World, World.Controller}
use Rattle.dali_events.{specs.World.controller_at, specs.declared.event.Event.Event, proofs.Invariant.Agreeing.findings_agree_in}
use Rattle.dali_standing.{specs.Seats.IsRunning, specs.Settled.IsPlacedBy, proofs.Acts.start_first}
use Rattle.dali_standing.proofs.Acts.{IsOfBus, IsPut, bus_put, committed_last, told_accepted, placed_start, placed_commit, later_some, bus_kept, found_told}

-- NO MACHINE OF A SITE HALTS WITH A CONFLICT.

-- a finding of the running transaction, once the machine was told, is the last one of its controller, whose records it keeps
abbrev IsItsFinding : Controller → Machine → Finding → Type 0
IsItsFinding k t x = (k.finding ≡ Some x) × (t.kept ≡ k.records)

-- nothing runs, so nothing was found
none_found : (k : Controller) (t : Machine) (x : Finding) → t.trace ≡ [] → finding_of t.trace ≡ Some x → IsItsFinding k t x
none_found k t x none found = absurd (let no : finding_of [] ≡ Some x = subst (λ u. finding_of u ≡ Some x) none found in cc)

found_bus : (k : Controller) (m : Machine) (i : Input) (x : Finding) → IsOfBus i → k.told ≡ Some i → IsRunning k m
    → finding_of (machine_told m i).trace ≡ Some x
    → IsItsFinding k (machine_told m i) x
found_bus k m i x bus is tied found =
    let put : IsPut k.last = bus_put i k.last bus (told_accepted k.last k.told i is tied.told) in (
      later_some k.finding (finding_of (machine_told m i).trace) x found (found_told k m i is tied.found),
      bus_kept m i put.0 put.1 bus (tied.last ∙ put.2)
          ∙ tied.kept,
    )

committed_trace : (m : Machine) (x : Record) → m.last ≡ Some (Commit x) → (machine_told m input.Committed).trace ≡ m.trace
committed_trace m x e = rw e refl

its_finding : (owning : Bool) (t : List Entry) (k : Controller) (m : Machine) (i : Input) (x : Finding) → IsDue k i → IsRunning k m
    → IsPlacedBy owning t k (Some m)
    → finding_of (machine_told m i).trace ≡ Some x → IsItsFinding k (machine_told m i) x
its_finding owning t k m (input.Heard h) x due tied placed found = found_bus k m (input.Heard h) x tt due tied found
its_finding owning t k m input.Destroyed x due tied placed found = found_bus k m input.Destroyed x tt due tied found
its_finding owning t k m input.Lapsed x due tied placed found = found_bus k m input.Lapsed x tt due tied found
its_finding owning t k m input.Start x due tied placed found =
    none_found k m x (placed_start owning t k m (start_first k.last (told_accepted k.last k.told input.Start due tied.told)) placed) found
its_finding owning t k m input.Survey x due tied placed found =
    none_found k (machine_told m input.Survey) x
    (placed_start owning t k m (start_first k.last (told_accepted k.last k.told input.Start due tied.told)) placed) found
its_finding owning t k m input.Committed x due tied placed found =
    let r = committed_last k.last due in
    none_found k (machine_told m input.Committed) x (committed_trace m r.0 (tied.last ∙ r.1) ∙ placed_commit owning t k m r.0 r.1 placed) found
its_finding owning t k m input.CommitFailed x due tied placed found =
    let r = committed_last k.last due in none_found k m x (placed_commit owning t k m r.0 r.1 placed) found

-- where findings and tables agree, its own table does not contradict a controller's finding
not_contradicted : (w : World) (c b r : ℕ) → FindingsAgree w → HasFound w c (b, r) → Contradicts (controller_at w c).records.enrolled b r → ⊥
not_contradicted w c b r agree found (inl other) =
    let same : (b, r) ≡ (b, other.0) = agree.address c c (b, r) (b, other.0) found (found.0, other.1) refl in other.2 (sym (ap (λ x. x.1) same))
not_contradicted w c b r agree found (inr other) =
    let same : (b, r) ≡ (other.0, r) = agree.number c c (b, r) (other.0, r) found (found.0, other.1) refl in other.2 (sym (ap (λ x. x.0) same))

pair_is : (p : Assignment) → p ≡ (p.0, p.1)
pair_is p = refl

no_conflict_at : (w : World) (c : ℕ) (m : Machine) (i : Input) (owning : Bool) (t : List Entry) → FindingsAgree w → c < length w.controllers
    → IsDue (controller_at w c) i
    → IsRunning (controller_at w c) m → IsPlacedBy owning t (controller_at w c) (Some m) → IsOrdered (machine_told m i) (Halt fault.Conflict) → ⊥
no_conflict_at w c m i owning t agree there due tied placed order =
    let cause = order.caused in
    let x : Finding = cause.0 in
    let own = its_finding owning t (controller_at w c) m i x due tied placed cause.2 in
    not_contradicted w c (assigned x).0 (assigned x).1 agree (there, (x, own.0, pair_is (assigned x)))
    (subst (λ k. Contradicts k.enrolled (assigned x).0 (assigned x).1) own.1 cause.3)

-- IN EVERY RUN
pub no_conflict : (p : Plan) (capacity : ℕ) (log : List Event) (c : ℕ) (m : Machine) (i : Input) (owning : Bool) (t : List Entry) → IsRun p capacity log
    → c < length (after p capacity log).controllers → IsDue (controller_at (after p capacity log) c) i → IsRunning (controller_at (after p capacity log) c) m
    → IsPlacedBy owning t (controller_at (after p capacity log) c) (Some m) → IsAnswered m i (Halt fault.Conflict) → ⊥
no_conflict p capacity log c m i owning t run there due tied placed answer = go i due answer where
  agree : FindingsAgree (after p capacity log)
  agree = findings_agree_in p capacity log [] (subst (λ es. IsRun p capacity es) (sym (append-nil log)) run)

  ordered_so : (j : Input) → IsDue (controller_at (after p capacity log) c) j → IsOrdered (machine_told m j) (Halt fault.Conflict) → ⊥
  ordered_so j is order = no_conflict_at (after p capacity log) c m j owning t agree there is tied placed order

  go : (j : Input) → IsDue (controller_at (after p capacity log) c) j → IsAnswered m j (Halt fault.Conflict) → ⊥
  go input.Start is order = ordered_so input.Start is order
  go input.Survey is order = ordered_so input.Survey is order
  go (input.Heard h) is order = ordered_so (input.Heard h) is order
  go input.Destroyed is order = ordered_so input.Destroyed is order
  go input.Lapsed is order = ordered_so input.Lapsed is order
  go input.Committed is order = ordered_so input.Committed is order
  go input.CommitFailed is order = cc
