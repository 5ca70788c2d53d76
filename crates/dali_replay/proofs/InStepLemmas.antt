use Rattle.std.proofs.Common.{◌≡◌, ℕ, ◌<◌, ◌⊎◌, inl, inr, Bool, true, false, List, length, map, set, get_or, Option, Some, None, Result, Ok, Err, refl, sym, ap}
use Rattle.std.proofs.Common.{subst, ◌∙◌, length-set, get_or-set_same, get_or-set_other, nat_eq, arith, IfOk, OnOk, OnErr, slice_index_or}
use Rattle.std.proofs.lemmas.{Bool.Decides.nat_tests, List.get_or-map, List.length-map, List.get_or_read_under, List.set-set}
use Rattle.dali_script.specs.{Due.record_ordered, Due.due_after, Records.Kept, declared.block.Block.Block, declared.orders.Input.Input}
use Rattle.dali_script.specs.declared.orders.Order.{Order, TheVariants.Put, TheVariants.Commit, TheVariants.Done, TheVariants.Halt}
use Rattle.dali_script.{specs.declared.records.Record.Record, proofs.Members.each_changed, proofs.Members.each_set}
use Rattle.dali_script.specs.declared.orders.Due.TheVariants as due
use Rattle.dali_script.specs.declared.orders.Input.TheVariants as input
use Rattle.dali_events.specs.{Allowed.IsActed, Allowed.IsCommit, Allowed.IsDue, Allowed.MayOrder, Events.event_of, Happens.happens, Happens.controller_informed}
use Rattle.dali_events.specs.Happens.{controller_acted, with_outstanding, trace_running, told_sent, told_destroyed, told_lapsed, owner_told, gone_down, come_up}
use Rattle.dali_events.specs.{Plan.Plan, Plan.no_block, Plan.block_at, World.World, World.Controller, World.controller_at, World.nobody, World.controller_begun}
use Rattle.dali_events.specs.{World.start, declared.event.Event.Event, declared.event.Outside.Outside, declared.trouble.Trouble.Trouble}
use Rattle.dali_events.proofs.Invariant.Growing.{after_more}
use Rattle.dali_events.specs.declared.event.Event.TheVariants as event
use Rattle.dali_events.specs.declared.event.Outside.TheVariants as outside
use Rattle.dali_standing.specs.{Seats.due_of, declared.refusal.Refusal.Refusal, declared.report.Report.Report}
use Rattle.dali_standing.specs.declared.report.Report.TheVariants as report
use Rattle.dali_world.specs.Site.{SiteState, Receipt, world, opened_site, Logs, Befalls, HasActed, IsUpWith, Pumps}
use Rattle.dali_replay.specs.Installation.{Store, IsInstalled, no_store, empty_store, store_settled, IsInStepBy, IsInStep, IsMade}

-- ---------------------------------------------------------------- a controller acts

waits : (k : Controller) → k.up ≡ true → IsCommit k.last → due_of k ≡ due.Store
waits k up commit = rw up (waits_after k.last commit) where
  waits_after : (last : Option Order) → IsCommit last → due_after last ≡ due.Store
  waits_after (Some (Commit x)) commit = refl
  waits_after _ commit = absurd commit

-- what the store holds, once its controller has heard the input: what was kept with the outstanding record or without it
abbrev Remembers : Kept → Controller → Type 0
Remembers held j = (held ≡ with_outstanding j.records j.outstanding) ⊎ (held ≡ j.records)

remembers : (k : Controller) (held : Kept) (pending : Option Record) → IsInStepBy pending held k → Remembers held k
remembers k held (Some x) step = inr step.1
remembers k held None (inl with_it) = inl with_it
remembers k held None (inr without_it) = inr without_it.1

after_commit : (k : Controller) (held : Kept) (pending : Option Record) → IsCommit k.last → pending ≡ None → IsInStepBy pending held k
    → held ≡ with_outstanding k.records k.outstanding
after_commit k held (Some x) commit none step = absurd (cc)
after_commit k held None commit none (inl with_it) = with_it
after_commit k held None commit none (inr without_it) = absurd (without_it.0 commit)

after_input : (k : Controller) (held : Kept) (pending : Option Record) (i : Input) → IsDue k i → (i ≡ input.Committed → IsCommit k.last → pending ≡ None)
    → IsInStepBy pending held k
    → Remembers held (controller_informed k i)
after_input k held pending input.Committed is made step = inr (after_commit k held pending is (made refl is) step)
after_input k held pending _ is made step = remembers k held pending step

without_outstanding : (j : Controller) (held : Kept) → j.outstanding ≡ None → Remembers held j → held ≡ j.records
without_outstanding j held none (inl with_it) = with_it ∙ ap (λ (x : Option Record). with_outstanding j.records x) none
without_outstanding j held none (inr without_it) = without_it

no_commit : (j : Controller) (held : Kept) (last : Option Order) → (IsCommit last → ⊥) → Remembers held j
    → (held ≡ with_outstanding j.records j.outstanding) ⊎ ((IsCommit last → ⊥) × (held ≡ j.records))
no_commit j held last not (inl with_it) = inl with_it
no_commit j held last not (inr without_it) = inr (not, without_it)

after_order : (w : World) (c : ℕ) (k : Controller) (held : Kept) (i : Input) (o : Order) → MayOrder w c (controller_informed k i) o
    → Remembers held (controller_informed k i)
    → IsInStepBy (record_ordered (Some o)) held (controller_acted k i o)
after_order w c k held i (Commit x) may is = (refl, without_outstanding (controller_informed k i) held may.0 is)
after_order w c k held i (Put p f) may is = no_commit (controller_informed k i) held (Some (Put p f)) (λ x. x) is
after_order w c k held i (Done e) may is = no_commit (controller_informed k i) held (Some (Done e)) (λ x. x) is
after_order w c k held i (Halt e) may is = no_commit (controller_informed k i) held (Some (Halt e)) (λ x. x) is

acted_in_step : (w : World) (c : ℕ) (held : Kept) (pending : Option Record) (i : Input) (o : Order) → IsActed w c i o
    → IsMade i (due_of (controller_at w c)) pending
    → IsInStepBy pending held (controller_at w c) → IsInStepBy (record_ordered (Some o)) held (controller_acted (controller_at w c) i o)
acted_in_step w c held pending i o is made step =
    after_order w c (controller_at w c) held i o is.order
    (after_input (controller_at w c) held pending i is.due (λ told commit. made told (waits (controller_at w c) is.up.up commit)) step)

-- ---------------------------------------------------------------- all stores of an installation

abbrev AllInStep : List Controller → List Store → Type 0
AllInStep cs ss = (c : ℕ) → c < length cs → IsInStep (slice_index_or cs c nobody) (slice_index_or ss c no_store)

-- another controller at c, with another store
both_set : (cs : List Controller) (ss : List Store) (c : ℕ) (k : Controller) (s : Store) → c < length cs → c < length ss → IsInStep k s → AllInStep cs ss
    → AllInStep (set cs c k) (set ss c s)
both_set cs ss c k s known there step all d is = go (nat_eq d c) refl (subst (λ (m : ℕ). d < m) (length-set cs c k) is) where
  go : (b : Bool) → nat_eq d c ≡ b → d < length cs → IsInStep (get_or (set cs c k) d nobody) (get_or (set ss c s) d no_store)
  go true e here =
      let same : c ≡ d = grind (arith, nat_tests) in
      subst (λ (m : ℕ). IsInStep (get_or (set cs c k) m nobody) (get_or (set ss c s) m no_store)) same
      (subst (λ (j : Controller). IsInStep j (get_or (set ss c s) c no_store)) (sym (get_or-set_same cs c k nobody known))
      (subst (λ (x : Store). IsInStep k x) (sym (get_or-set_same ss c s no_store there)) step))
  go false e here =
      let other : d ≡ c → ⊥ = grind (arith, nat_tests) in
      subst (λ (j : Controller). IsInStep j (get_or (set ss c s) d no_store)) (sym (get_or-set_other cs c d k nobody other))
      (subst (λ (x : Store). IsInStep (get_or cs d nobody) x) (sym (get_or-set_other ss c d s no_store other)) (all d here))

-- ---------------------------------------------------------------- what each event does to them

acts_in_step : (w : World) (ss : List Store) (c : ℕ) (i : Input) (o : Order) (was : Store) → IsActed w c i o → c < length ss
    → was ≡ slice_index_or ss c no_store
    → IsMade i (due_of (controller_at w c)) was.pending → AllInStep w.controllers ss
    → AllInStep (happens w (event.Acted c i o)).controllers (set ss c (record { keep = was.keep; pending = record_ordered (Some o) }))
acts_in_step w ss c i o was is there read made all =
    both_set w.controllers ss c (controller_acted (controller_at w c) i o) (record { keep = was.keep; pending = record_ordered (Some o) }) is.up.known there
    (acted_in_step w c was.keep was.pending i o is made (subst (λ (x : Store). IsInStep (controller_at w c) x) (sym read) (all c is.up.known))) all

ups_in_step : (w : World) (ss : List Store) (c : ℕ) (kept : Bool) (held : Kept) → c < length w.controllers → c < length ss
    → held ≡ (come_up kept (controller_at w c)).records
    → AllInStep w.controllers ss → AllInStep (happens w (event.Up c kept)).controllers (set ss c (store_settled held))
ups_in_step w ss c kept held known there agrees all =
    both_set w.controllers ss c (come_up kept (controller_at w c)) (store_settled held) known there (inl agrees) all

-- an event that is neither a step nor a coming up
abbrev pub IsOther : Event → Type 0
IsOther (event.Acted c i o) = ⊥
IsOther (event.Up c kept) = ⊥
IsOther _ = Unit {0}

like : (p : Option Record) (held : Kept) (k j : Controller) → j.records ≡ k.records → j.outstanding ≡ k.outstanding → (IsCommit j.last → IsCommit k.last)
    → IsInStepBy p held k → IsInStepBy p held j
like (Some x) held k j records outstanding last step = (outstanding ∙ step.0, step.1 ∙ sym records)
like None held k j records outstanding last (inl with_it) = inl (rw (records, outstanding) with_it)
like None held k j records outstanding last (inr without_it) = inr (λ commit. without_it.0 (last commit), without_it.1 ∙ sym records)

alike : (ss : List Store) (f : Controller → Controller) → ((k : Controller) → (f k).records ≡ k.records)
    → ((k : Controller) → (f k).outstanding ≡ k.outstanding)
    → ((k : Controller) → IsCommit (f k).last → IsCommit k.last) → (cs : List Controller) (c : ℕ) → AllInStep cs ss
    → AllInStep (set cs c (f (get_or cs c nobody))) ss
alike ss f records outstanding last cs c all =
    each_changed nobody (λ d k. IsInStep k (slice_index_or ss d no_store)) f cs c
    (λ there h. like (slice_index_or ss c no_store).pending (slice_index_or ss c no_store).keep (get_or cs c nobody) (f (get_or cs c nobody))
    (records (get_or cs c nobody)) (outstanding (get_or cs c nobody)) (last (get_or cs c nobody)) h) all

owner_alike : (ss : List Store) (cs : List Controller) (o : Option ℕ) → AllInStep cs ss → AllInStep (owner_told cs o) ss
owner_alike ss cs None all = all
owner_alike ss cs (Some c) all = alike ss told_lapsed (λ k. refl) (λ k. refl) (λ k h. h) cs c all

others_in_step : (w : World) (ss : List Store) (e : Event) → IsOther e → AllInStep w.controllers ss → AllInStep (happens w e).controllers ss
others_in_step w ss (event.Acted c i o) other all = absurd other
others_in_step w ss (event.Up c kept) other all = absurd other
others_in_step w ss (event.Sent c f h) other all = alike ss (told_sent (trace_running w c) f h) (λ k. refl) (λ k. refl) (λ k h. h) w.controllers c all
others_in_step w ss (event.Destroyed c f set) other all = alike ss (told_destroyed f) (λ k. refl) (λ k. refl) (λ k h. h) w.controllers c all
others_in_step w ss (event.Collided c f d g) other all =
    alike ss (told_destroyed g) (λ k. refl) (λ k. refl) (λ k h. h) _ d (alike ss (told_destroyed f) (λ k. refl) (λ k. refl) (λ k h. h) w.controllers c all)
others_in_step w ss event.Lapsed other all = owner_alike ss w.controllers w.bus.owner all
others_in_step w ss (event.Down c) other all = alike ss gone_down (λ k. refl) (λ k. refl) (λ k h. absurd h) w.controllers c all
others_in_step w ss _ other all = all

-- ---------------------------------------------------------------- the same of installations

-- the controllers of a site whose log has one event more
logged_in_step : (s t : SiteState) (e : Event) (ss : List Store) → Logs s e t → AllInStep (happens (world s) e).controllers ss
    → AllInStep (world t).controllers ss
logged_in_step s t e ss logs all = rw (logs.logged, after_more (start s.plan s.queue) s.log e) all

logged_plan : (s t : SiteState) (e : Event) → Logs s e t → t.plan ≡ s.plan
logged_plan s t e logs = ap (λ (x : SiteState). x.plan) logs.logged

others_installed : (s t : SiteState) (ss : List Store) (e : Event) → IsOther e → Logs s e t → IsInstalled (record { site = s; stores = ss })
    → IsInstalled (record { site = t; stores = ss })
others_installed s t ss e other logs inst = record {
  count = rw (logged_plan s t e logs) inst.count;
  block = rw (logged_plan s t e logs) inst.block;
  in_step = logged_in_step s t e ss logs (others_in_step (world s) ss e other inst.in_step);
}

-- an event, with another store of the same block
set_installed : (s t : SiteState) (e : Event) (ss : List Store) (c : ℕ) (was x : Store) → Logs s e t → c < length ss → was ≡ slice_index_or ss c no_store
    → x.keep.block ≡ was.keep.block
    → IsInstalled (record { site = s; stores = ss }) → AllInStep (happens (world s) e).controllers (set ss c x)
    → IsInstalled (record { site = t; stores = set ss c x })
set_installed s t e ss c was x logs there read same inst all = record {
  count = rw (logged_plan s t e logs) (length-set ss c x ∙ inst.count);
  block = rw (logged_plan s t e logs) (each_set no_store (λ d y. y.keep.block ≡ block_at s.plan d) ss c x inst.block
      (λ h. same ∙ ap (λ (y : Store). y.keep.block) read ∙ inst.block c there));
  in_step = logged_in_step s t e (set ss c x) logs all;
}

-- a call that is refused changes nothing, and one that is accepted adds such an event
pub asked_installed : {A : Type 0} (s t : SiteState) (ss : List Store) (e : Event) (P : Type 0) (result : Result A Refusal) → IsOther e
    → OnOk result (Logs s e t × P) → OnErr result (t ≡ s)
    → IsInstalled (record { site = s; stores = ss }) → IsInstalled (record { site = t; stores = ss })
asked_installed s t ss e P (Ok a) other logs same inst = others_installed s t ss e other logs.0 inst
asked_installed s t ss e P (Err f) other logs same inst = rw same inst

pub outside_installed : (s t : SiteState) (ss : List Store) (x : Outside) (result : Result (Unit {0}) Refusal) → OnOk result (Befalls s x t)
    → OnErr result (t ≡ s)
    → IsInstalled (record { site = s; stores = ss }) → IsInstalled (record { site = t; stores = ss })
outside_installed s t ss x (Ok a) logs same inst = others_installed s t ss (event_of x) (is_other x) logs.1 inst where
  is_other : (x : Outside) → IsOther (event_of x)
  is_other outside.Lapse = tt
  is_other _ = tt
outside_installed s t ss x (Err f) logs same inst = rw same inst

pumped_installed : (s t : SiteState) (ss : List Store) (x : Trouble) (r : Report) → Pumps s x r t → IsInstalled (record { site = s; stores = ss })
    → IsInstalled (record { site = t; stores = ss })
pumped_installed s t ss x report.Idle is inst = rw (is.1) inst
pumped_installed s t ss x (report.Sent c f h) is inst = others_installed s t ss (event.Sent c f h) tt is.3.4 inst
pumped_installed s t ss x (report.Destroyed c f) is inst = others_installed s t ss (event.Destroyed c f is.3.2.0) tt is.3.2.2 inst
pumped_installed s t ss x (report.Collided c f d g) is inst = others_installed s t ss (event.Collided c f d g) tt is.3.4 inst

pub pump_installed : (s t : SiteState) (ss : List Store) (x : Trouble) (result : Result Report Refusal) → IfOk result (λ r. Pumps s x r t)
    → OnErr result (t ≡ s)
    → IsInstalled (record { site = s; stores = ss }) → IsInstalled (record { site = t; stores = ss })
pump_installed s t ss x (Ok r) pumps same inst = pumped_installed s t ss x r pumps inst
pump_installed s t ss x (Err f) pumps same inst = rw same inst

-- before anything happens
pub new_installed : (p : Plan) (queue room : ℕ) (s : SiteState) (ss : List Store) → s ≡ opened_site p queue room → ss ≡ map empty_store p.blocks
    → IsInstalled (record { site = s; stores = ss })
new_installed p queue room s ss site stores = rw (site, stores) (record {
  count = length-map p.blocks empty_store;
  block = λ c there. ap (λ (x : Store). x.keep.block) (get_or-map empty_store p.blocks c no_block no_store
      (subst (λ (n : ℕ). c < n) (length-map p.blocks empty_store) there));
  in_step = λ c there. first_step p.blocks c (subst (λ (n : ℕ). c < n) (length-map p.blocks controller_begun) there);
}) where
  first_step : (bs : List Block) (c : ℕ) → c < length bs → IsInStep (get_or (map controller_begun bs) c nobody) (get_or (map empty_store bs) c no_store)
  first_step bs c there = rw (get_or-map controller_begun bs c no_block nobody there, get_or-map empty_store bs c no_block no_store there) (inl refl)

-- a controller acts
pub act_installed : (s t : SiteState) (ss : List Store) (c : ℕ) (i : Input) (r : Receipt) (o : Order) (was x : Store) → HasActed s c i r t → o ≡ r.order
    → c < length ss
    → was ≡ slice_index_or ss c no_store → IsMade i (due_of (controller_at (world s) c)) (slice_index_or ss c no_store).pending
    → x ≡ (record { keep = was.keep; pending = record_ordered (Some o) }) → IsInstalled (record { site = s; stores = ss })
    → IsInstalled (record { site = t; stores = set ss c x })
act_installed s t ss c i r o was x controller_acted same there read made next inst =
    let logs : Logs s (event.Acted c i r.order) t = controller_acted.logs.0 in
    let is : IsActed (world s) c i r.order = logs.allowed in
    let given : IsMade i (due_of (controller_at (world s) c)) was.pending =
    subst (λ (y : Store). IsMade i (due_of (controller_at (world s) c)) y.pending) (sym read) made in
    let after : AllInStep (happens (world s) (event.Acted c i r.order)).controllers (set ss c (record {
      keep = was.keep;
      pending = record_ordered (Some r.order);
    })) =
    acts_in_step (world s) ss c i r.order was is there read given inst.in_step in
    set_installed s t (event.Acted c i r.order) ss c was x logs there read (ap (λ (y : Store). y.keep.block) next) inst
    (rw (next, same) after)

-- a controller comes up
pub up_installed : (s t : SiteState) (ss : List Store) (c : ℕ) (copy : Kept) (was mid now x : Store) → IsUpWith s c copy t → c < length ss
    → was ≡ slice_index_or ss c no_store
    → copy ≡ was.keep → mid ≡ was → now ≡ slice_index_or (set ss c mid) c now → x ≡ store_settled now.keep → IsInstalled (record { site = s; stores = ss })
    → IsInstalled (record { site = t; stores = set (set ss c mid) c x })
up_installed s t ss c copy was mid now x is there read same kept again next inst =
    let here : c < length (set ss c mid) = rw length-set there in
    let current : now ≡ mid =
    get_or_read_under (set ss c mid) c (length (set ss c mid)) now no_store again here refl ∙ get_or-set_same ss c mid no_store there in
    let settles : x ≡ store_settled was.keep = next ∙ ap (λ (y : Store). store_settled y.keep) (current ∙ kept) in
    let agrees : was.keep ≡ (come_up is.0 (controller_at (world s) c)).records = sym same ∙ is.1.1 in
    let after : AllInStep (happens (world s) (event.Up c is.0)).controllers (set ss c (store_settled was.keep)) =
    ups_in_step (world s) ss c is.0 was.keep is.2.allowed.0.known there agrees inst.in_step in
    rw (set-set ss c mid x) (set_installed s t (event.Up c is.0) ss c was x is.2 there read (ap (λ (y : Store). y.keep.block) settles) inst (rw settles after))
