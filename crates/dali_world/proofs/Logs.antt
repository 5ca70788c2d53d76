use Rattle.std.proofs.Common.{◌≡◌, ℕ, ◌+◌, ◌<◌, ◌≤◌, ◌⊎◌, inl, inr, Bool, true, false, List, [], ◌∷◌, ◌++◌, refl, sym, ap, subst, ◌∙◌, arith, length}
use Rattle.std.proofs.Common.{length-append, length-set, set, get_or, get_or-set_same, get_or-set_other, nat_eq, Option, Some, None, ◌==◌, if◌then◌else◌, zero}
use Rattle.std.proofs.{Common.suc, lemmas.Bool.Decides.nat_tests, lemmas.List.length-map, lemmas.List.append-nil}
use Rattle.dali_frame.specs.declared.frames.Answer.{Answer, TheVariants.Silence}
use Rattle.dali_special.specs.Command.{command_of}
use Rattle.dali_gear.specs.{Row.draws_needed, Row.stored_of, declared.gear_set.GearSet.GearSet}
use Rattle.dali_gear.specs.declared.row.Reach.{Reach, TheVariants.Everyone, TheVariants.Only}
use Rattle.dali_arbiter.specs.{Arbiter.owns, Arbiter.total, Arbiter.collision, declared.request.Request.Request}
use Rattle.dali_script.specs.Due.{due_after, accepts}
use Rattle.dali_script.specs.declared.orders.{End.TheVariants.AllFound, Input.Input, Order.Order, Order.TheVariants.Halt, Order.TheVariants.Done}
use Rattle.dali_script.specs.declared.orders.Fault.TheVariants as fault
use Rattle.dali_script.specs.declared.orders.Input.TheVariants as input
use Rattle.dali_controller.specs.{Machine.Machine, declared.way.Way.TheVariants.Surveying}
use Rattle.dali_statement.{specs.Page.Moment, specs.Page.KeepsPromise as KeepsPagePromise, proofs.Whole.every_history_keeps_the_promise}
use Rattle.dali_events.specs.Allowed.{Allowed, IsUp, IsDue, MaySend}
use Rattle.dali_events.specs.{Events.whose_step, Events.is_step_of, Events.event_of, Happens.happens, Laws.TablesAgree, Laws.KeepsRecords, Page.plan_seen}
use Rattle.dali_events.specs.{Page.IsReadAs, Plan.Plan, Plan.IsPlan, Promise.IsSafe, Runs.after, Runs.after_all, Runs.IsRun, Runs.LeavesUsed}
use Rattle.dali_events.specs.{Troubles.reach_under, World.World, World.Controller, World.controller_at, World.start}
use Rattle.dali_events.specs.declared.{event.Event.Event, event.Outside.Outside, trouble.Trouble.Trouble, used.Used.Used}
use Rattle.dali_events.proofs.Invariant.{Agreeing.tables_agree_in, Agreeing.records_kept, Controllers.controllers_count, Growing.after_more, Growing.run_more}
use Rattle.dali_events.proofs.Invariant.{Safe.safe_history, Safe.safe, Safe.holds_after, Safe.every_run_is_a_history, Starting.start_count}
use Rattle.dali_events.specs.declared.event.Event.TheVariants as event
use Rattle.dali_events.specs.declared.event.Outside.TheVariants as outside
use Rattle.dali_events.specs.declared.trouble.Trouble.TheVariants as trouble
use Rattle.dali_standing.specs.Seats.{MayAnswer, LeavesWhole, MayReserveUsed, IsRunning, IsTold, Waits}
use Rattle.dali_standing.specs.Settled.{IsPlacedBy, IsPlacedOn, FollowsItsMachine}
use Rattle.dali_standing.specs.Standing.{Standing, stand_of, machines_at, machines_after, machine_in, controller_on, Moves, MayBeSent, MayBefall}
use Rattle.dali_standing.proofs.{Acts.told_accepted, Acts.start_first, Acts.committed_last, InUse.leaves_acted}
use Rattle.dali_world.specs.Site.{SiteState, world, site_logged, machines_all, machines, machine_at, share_of, IsSite, opened_site, HasRoom, Remember}
use Rattle.dali_world.specs.Site.{IsCrowded, IsOutside, Logs, Receipt, HasActed, IsSpent, IsSendable, RollWasCalled}
use Rattle.dali_world.proofs.{Agreeing.no_conflict, Capacity.capacity_kept, Rolls.IsKnownOf, Rolls.remembers_more, Rolls.remembers_start, Rolls.found_called}
use Rattle.dali_world.proofs.Room.{gear_count, gifts_fit_after}

-- A LOG GROWS BY ONE EVENT, and all that is read from it follows.

pub machines_more : (w : World) (ms : List (Option Machine)) (es : List Event) (e : Event)
    → machines_all w ms (es ++ e ∷ []) ≡ machines_after (after_all w es) (machines_all w ms es) e
machines_more w ms [] e = refl
machines_more w ms (f ∷ es) e = machines_more (happens w f) (machines_after w ms f) es e

share_more : (c : ℕ) (es : List Event) (e : Event) → share_of c (es ++ e ∷ []) ≡ share_of c es + (if is_step_of c e then 1 else 0)
share_more c [] e = omega arith
share_more c (f ∷ es) e = let more = share_more c es e in rw more (omega arith)

pub share_fits : (c : ℕ) (es : List Event) → share_of c es ≤ length es
share_fits c [] = omega arith
share_fits c (e ∷ es) = let rest = share_fits c es in go (is_step_of c e) rest where
  go : (b : Bool) → share_of c es ≤ length es → (if b then 1 else 0) + share_of c es ≤ length (e ∷ es)
  go true rest = omega arith
  go false rest = omega arith

-- ---------------------------------------------------------------- the shares

-- the shares count one event more
abbrev pub IsCounted : List ℕ → Event → List ℕ → Type 0
IsCounted old e new = (length new ≡ 4) × ((c : ℕ) → c < 4 → get_or new c 0 ≡ get_or old c 0 + (if is_step_of c e then 1 else 0))

-- an event that is nobody's step
pub uncounted : (shares : List ℕ) (e : Event) → length shares ≡ 4 → whose_step e ≡ None → IsCounted shares e shares
uncounted shares e four none = (four, λ c there. rw none (omega arith))

pub counted_step : (shares new : List ℕ) (e : Event) (d : ℕ) → length shares ≡ 4 → d < 4 → new ≡ set shares d (get_or shares d 0 + 1)
    → whose_step e ≡ Some d → IsCounted shares e new
counted_step shares new e d four there is step = (
  ap length is ∙ length-set shares d _ ∙ four,
  λ c in_four. subst (λ (xs : List ℕ). get_or xs c 0 ≡ get_or shares c 0 + (if is_step_of c e then 1 else 0))
      (sym is) (rw step (go c (nat_eq c d) refl)),
) where
  here : d < length shares
  here = subst (λ n. d < n) (sym four) there

  go : (c : ℕ) (b : Bool) → nat_eq c d ≡ b → get_or (set shares d (get_or shares d 0 + 1)) c 0 ≡ get_or shares c 0 + (if d == c then 1 else 0)
  go c true e =
      let same : d ≡ c = grind (arith, nat_tests) in
      subst (λ n. get_or (set shares d (get_or shares d 0 + 1)) n 0 ≡ get_or shares n 0 + (if d == n then 1 else 0)) same
      (get_or-set_same shares d _ 0 here ∙ let yes : (d == d) ≡ true = grind (arith, nat_tests) in rw yes refl)
  go c false e =
      let other : c ≡ d → ⊥ = grind (arith, nat_tests) in
      let no : (d == c) ≡ false = grind (arith, nat_tests) in
      get_or-set_other shares d c _ 0 other ∙ rw no (omega arith)

-- ---------------------------------------------------------------- one event more

-- an event that moves what stands is allowed in the world of the site
pub allowed_in : (s : SiteState) (old new : Standing) (shares : List ℕ) (room : ℕ) (e : Event) → IsSite s old shares room → Moves old e new
    → Allowed (world s) e
allowed_in s old new shares room e site moves = (moves (world s) (machines s) site.stands).0

pub goes_on : (s : SiteState) (old new : Standing) (shares shares' : List ℕ) (room room' : ℕ) (log' : List Event) (e : Event) → IsSite s old shares room
    → Moves old e new → LeavesUsed s.plan.used e → IsKnownOf s e → length s.log < s.room
    → log' ≡ s.log ++ e ∷ [] → room' ≡ room → IsCounted shares e shares'
    → IsSite (record { plan = s.plan; queue = s.queue; room = s.room; log = log' }) new shares' room'
goes_on s old new shares shares' room room' log' e site moves leaves known free log_is room_is counted =
    subst (λ (l : List Event). IsSite (record { plan = s.plan; queue = s.queue; room = s.room; log = l }) new shares' room') (sym log_is)
    (subst (λ n. IsSite (site_logged s e) new shares' n) (sym room_is) (record {
      run = grown_run;
      safe = safe_history s.plan s.queue (s.log ++ e ∷ []) grown_run;
      stands = (moves (world s) (machines s) site.stands).1 ∙ ap (λ (w : World). stand_of w (machines_after (world s) (machines s) e)) (sym grown)
          ∙ ap (stand_of (world (site_logged s e))) (sym machines_grown);
      remembers = subst (λ ms. Remember (site_logged s e) (world (site_logged s e)) ms) (sym machines_grown)
          (subst (λ w. Remember (site_logged s e) w (machines_after (world s) (machines s) e)) (sym grown)
          (remembers_more s site.run site.remembers e (allowed_in s old new shares room e site moves) known));
      counted = λ c there. counted.1 c there ∙ ap (λ n. n + (if is_step_of c e then 1 else 0)) (site.counted c there) ∙ sym (share_more c s.log e);
      four = counted.0;
      gear_count = ap (λ (w : World). length w.gear) grown ∙ gear_count (world s) e ∙ site.gear_count;
      controller_count = ap (λ (w : World). length w.controllers) grown ∙ controllers_count (world s) e ∙ site.controller_count;
      queue = ap (λ (w : World). w.bus.capacity) grown ∙ capacity_kept (world s) e ∙ site.queue;
      few_gear = site.few_gear;
      few_controllers = site.few_controllers;
      fits = let count = length-append s.log (e ∷ []) in omega arith;
      reserved = site.reserved;
      most = site.most;
    })) where
      grown_run : IsRun s.plan s.queue (s.log ++ e ∷ [])
      grown_run = run_more s.plan s.queue s.log e site.run (allowed_in s old new shares room e site moves) leaves

      grown : world (site_logged s e) ≡ happens (world s) e
      grown = after_more (start s.plan s.queue) s.log e

      machines_grown : machines (site_logged s e) ≡ machines_after (world s) (machines s) e
      machines_grown = machines_more (start s.plan s.queue) (machines_at 0 s.plan.blocks) s.log e

-- ---------------------------------------------------------------- the start

pub opens : (p : Plan) (queue room capacity : ℕ) (standing : Standing) (shares : List ℕ) → IsPlan p → p.gear ≤ 128 → length p.blocks ≤ 4 → room ≤ capacity
    → room ≤ 65536
    → standing ≡ stand_of (start p queue) (machines_at 0 p.blocks) → shares ≡ 0 ∷ 0 ∷ 0 ∷ 0 ∷ [] → IsSite (opened_site p queue room) standing shares capacity
opens p queue room capacity standing shares plan few_gear few_controllers reserved most is none = record {
  run = record { plan = plan; allowed = tt; leaves = tt };
  safe = safe_history p queue [] (record { plan = plan; allowed = tt; leaves = tt });
  stands = is;
  remembers = remembers_start (opened_site p queue room);
  counted = λ c there. rw none (zeroes c);
  four = rw none refl;
  gear_count = start_count p;
  controller_count = length-map p.blocks _;
  queue = refl;
  few_gear = few_gear;
  few_controllers = few_controllers;
  fits = omega arith;
  reserved = reserved;
  most = most;
} where
  zeroes : (c : ℕ) → ◌≡◌ {A = ℕ} (get_or (0 ∷ 0 ∷ 0 ∷ 0 ∷ []) c 0) 0
  zeroes zero = refl
  zeroes (suc zero) = refl
  zeroes (suc (suc zero)) = refl
  zeroes (suc (suc (suc zero))) = refl
  zeroes (suc (suc (suc (suc c)))) = refl

-- ---------------------------------------------------------------- what a call did to a site

self_same : (c : ℕ) → (c == c) ≡ true
self_same c = grind (arith, nat_tests)

-- an event that is nobody's step reserves nothing
nobodys_leaves : (us : List Used) (e : Event) → whose_step e ≡ None → LeavesUsed us e
nobodys_leaves us e nobodys c i a r is has =
    let own : Some c ≡ None = subst (λ (x : Event). whose_step x ≡ None) is nobodys in
    cc

-- `was` is the site as its caller sees it, and s the same by its parts
pub site_logs : (s was : SiteState) (old new : Standing) (shares : List ℕ) (room : ℕ) (log' : List Event) (e : Event) → s ≡ was → IsSite s old shares room
    → HasRoom was → Moves old e new
    → log' ≡ s.log ++ e ∷ [] → Logs was e (record { plan = s.plan; queue = s.queue; room = s.room; log = log' })
site_logs s was old new shares room log' e view site free moves log_is =
    subst (λ (w : SiteState). Logs w e (record { plan = s.plan; queue = s.queue; room = s.room; log = log' })) view (record {
      allowed = allowed_in s old new shares room e site moves;
      room = subst (λ (w : SiteState). HasRoom w) (sym view) free;
      logged = ap (λ (l : List Event). record { plan = s.plan; queue = s.queue; room = s.room; log = l }) log_is;
    })

pub site_goes_on : (s was : SiteState) (old new : Standing) (shares : List ℕ) (room room' : ℕ) (log' : List Event) (e : Event) → s ≡ was
    → IsSite s old shares room → HasRoom was → Moves old e new
    → IsKnownOf s e → log' ≡ s.log ++ e ∷ [] → room' ≡ room → whose_step e ≡ None
    → IsSite (record { plan = s.plan; queue = s.queue; room = s.room; log = log' }) new shares room'
site_goes_on s was old new shares room room' log' e view site free moves known log_is room_is nobodys =
    goes_on s old new shares shares room room' log' e site moves (nobodys_leaves s.plan.used e nobodys) known
    (subst (λ (w : SiteState). HasRoom w) (sym view) free) log_is room_is (uncounted shares e site.four nobodys)

-- what befalls a site from outside may befall what stands there; nothing is to be known of it
pub may_befall : (s was : SiteState) (old : Standing) (shares : List ℕ) (room : ℕ) (x : Outside) → s ≡ was → IsSite s old shares room → IsOutside was x
    → MayBefall old x
may_befall s was old shares room x view site is =
    subst (λ (t : Standing). MayBefall t x) (sym site.stands) (go x (subst (λ (w : SiteState). IsOutside w x) (sym view) is)) where
      go : (x : Outside) → IsOutside s x → MayBefall (stand_of (world s) (machines s)) x
      go (outside.Foreign f) is = is
      go (outside.Power g on) is = subst (λ n. g < n) (sym site.gear_count) is
      go (outside.Expire g) is = subst (λ n. g < n) (sym site.gear_count) is
      go (outside.Down c) is = is.up
      go _ is = tt

pub nothing_known : (s : SiteState) (x : Outside) → IsKnownOf s (event_of x)
nothing_known s outside.Lapse = tt
nothing_known s _ = tt

-- a step of controller d
pub step_goes_on : (s was : SiteState) (old new : Standing) (shares shares' : List ℕ) (room room' : ℕ) (log' : List Event) (e : Event) (d : ℕ) → s ≡ was
    → IsSite s old shares room → HasRoom was → Moves old e new → LeavesUsed was.plan.used e → IsKnownOf s e
    → log' ≡ s.log ++ e ∷ [] → room' ≡ room → d < 4 → shares' ≡ set shares d (get_or shares d 0 + 1) → whose_step e ≡ Some d
    → IsSite (record { plan = s.plan; queue = s.queue; room = s.room; log = log' }) new shares' room'
step_goes_on s was old new shares shares' room room' log' e d view site free moves leaves known log_is room_is there shares_is step =
    goes_on s old new shares shares' room room' log' e site moves (subst (λ (w : SiteState). LeavesUsed w.plan.used e) (sym view) leaves) known
    (subst (λ (w : SiteState). HasRoom w) (sym view) free) log_is room_is
    (counted_step shares shares' e d site.four there shares_is step)

pub step_few : (s was : SiteState) (old : Standing) (shares : List ℕ) (room d : ℕ) → s ≡ was → IsSite s old shares room → HasRoom was → d < 4
    → get_or shares d 0 < 65536
step_few s was old shares room d view site free there =
    let fits = share_fits d s.log in
    let here : HasRoom s = subst (λ (w : SiteState). HasRoom w) (sym view) free in
    let most = site.most in
    rw (site.counted d there) (omega arith)

pub step_number : (s : SiteState) (old : Standing) (shares : List ℕ) (room d number : ℕ) (log' : List Event) (e : Event) → IsSite s old shares room → d < 4
    → number ≡ get_or shares d 0 + 1
    → log' ≡ s.log ++ e ∷ [] → is_step_of d e ≡ true → number ≡ share_of d log'
step_number s old shares room d number log' e site there is log_is step =
    is ∙ ap (λ n. n + 1) (site.counted d there) ∙ sym (ap (share_of d) log_is ∙ share_more d s.log e
    ∙ ap (λ (b : Bool). share_of d s.log + (if b then 1 else 0)) step)

pub not_crowded : (s was : SiteState) (old : Standing) (shares : List ℕ) (room : ℕ) → s ≡ was → IsSite s old shares room → total old.bus < old.bus.capacity
    → IsCrowded was → ⊥
not_crowded s was old shares room view site free crowded =
    let here : IsCrowded s = subst (λ (w : SiteState). IsCrowded w) (sym view) crowded in
    let less : total (world s).bus < (world s).bus.capacity = subst (λ (t : Standing). total t.bus < t.bus.capacity) site.stands free in
    let same = site.queue in
    omega arith

-- an order that the machine gives reserves no address of used gear, where it may give none that does
pub act_leaves : (s was : SiteState) (m : Option Machine) (us : List Used) (c : ℕ) (i : Input) (o : Order) → s ≡ was → us ≡ s.plan.used → MayAnswer m i o
    → (MayReserveUsed us m i → ⊥) → LeavesUsed was.plan.used (event.Acted c i o)
act_leaves s was m us c i o view is answer none =
    subst (λ (xs : List Used). LeavesUsed xs (event.Acted c i o)) (is ∙ ap (λ (w : SiteState). w.plan.used) view)
    (leaves_acted us c i o (λ reserves. none (o, answer, reserves)))

pub act_site : (s was : SiteState) (old new : Standing) (shares shares' : List ℕ) (room number c : ℕ) (i : Input) (o : Order) (r : Receipt) (log' : List Event)
    → s ≡ was → IsSite s old shares room
    → total old.bus < old.bus.capacity → HasRoom was → Moves old (event.Acted c i o) new → MayAnswer (machine_in old.machines c) i o
    → LeavesUsed was.plan.used (event.Acted c i o) → LeavesWhole (machine_in old.machines c) i o
    → log' ≡ s.log ++ event.Acted c i o ∷ [] → c < 4
    → number ≡ get_or shares c 0 + 1 → r ≡ record { controller = c; input = i; order = o; number = number }
    → HasActed was c i r (record { plan = s.plan; queue = s.queue; room = s.room; log = log' })
act_site s was old new shares shares' room number c i o r log' view site quiet free moves answer leaves whole log_is there number_is r_is =
    rw r_is (record {
      logs = (site_logs s was old new shares room log' (event.Acted c i o) view site free moves log_is, not_crowded s was old shares room view site quiet);
      ordered = subst (λ (w : SiteState). MayAnswer (machine_at w c) i o) view
          (subst (λ (t : Standing). MayAnswer (machine_in t.machines c) i o) site.stands answer);
      leaves = leaves;
      whole = subst (λ (w : SiteState). LeavesWhole (machine_at w c) i o) view
          (subst (λ (t : Standing). LeavesWhole (machine_in t.machines c) i o) site.stands whole);
      controller = refl;
      input = refl;
      number = step_number s old shares room c number log' (event.Acted c i o) site there number_is log_is (self_same c);
    })

-- what its machine waits for
waits_by : (k : Controller) (i : Input) → IsDue k i → IsTold k.last k.told → accepts (due_after k.last) i ≡ true
waits_by k (input.Heard h) due told = told_accepted k.last k.told (input.Heard h) due told
waits_by k input.Destroyed due told = told_accepted k.last k.told input.Destroyed due told
waits_by k input.Lapsed due told = told_accepted k.last k.told input.Lapsed due told
waits_by k input.Start due told = told_accepted k.last k.told input.Start due told
waits_by k input.Survey due told = rw (start_first k.last (told_accepted k.last k.told input.Start due told)) refl
waits_by k input.Committed due told = rw (committed_last k.last due).1 refl
waits_by k input.CommitFailed due told = rw (committed_last k.last due).1 refl

pub act_waits : (s was : SiteState) (old : Standing) (shares : List ℕ) (room c : ℕ) (i : Input) (o : Order) → s ≡ was → IsSite s old shares room
    → IsDue (controller_on old c) i → IsPlacedOn old c → MayAnswer (machine_in old.machines c) i o → Waits (machine_at was c) i
act_waits s was old shares room c i o view site due placed answer =
    subst (λ (w : SiteState). Waits (machine_at w c) i) view
    (subst (λ (t : Standing). Waits (machine_in t.machines c) i) site.stands (go (machine_in old.machines c) refl answer)) where
      go : (m : Option Machine) → machine_in old.machines c ≡ m → MayAnswer m i o → Waits (machine_in old.machines c) i
      go None has answer = elim answer [ ]
      go (Some m) has answer =
          let known = (placed m has).0 in
          subst (λ x. Waits x i) (sym has)
          (subst (λ l. accepts (due_after l) i ≡ true) (sym known.last) (waits_by (controller_on old c) i due known.told))

-- ---------------------------------------------------------------- gifts have room

draws_there : (s : SiteState) (r : Request) (t : Trouble) → (IsSpent s r t → ⊥)
    → draws_needed (reach_under t) (command_of r.frame) 0 (world s).gear ≤ length (world s).left
draws_there s r t enough = grind (arith, enough)

everyone : (t : Trouble) → IsSendable t → reach_under t ≡ Everyone
everyone (trouble.Destroyed set) is = elim is [ ]
everyone trouble.Collision is = elim is [ ]
everyone _ is = refl

abbrev HasGiftRoom : Standing → Reach → Request → Type 0
HasGiftRoom old reach r = length (old.gifts ++ stored_of reach (command_of r.frame) 0 old.gear) ≤ length old.gear

pub sent_room : (s was : SiteState) (old : Standing) (shares : List ℕ) (room : ℕ) (r : Request) (t : Trouble) → s ≡ was → IsSite s old shares room
    → IsUp (world was) r.sender × MaySend (world was) r.sender r.frame
    → (IsSpent was r t → ⊥) → IsSendable t → HasGiftRoom old Everyone r
sent_room s was old shares room r t view site may enough sendable =
    let enough_s : IsSpent s r t → ⊥ = subst (λ (w : SiteState). IsSpent w r t → ⊥) (sym view) enough in
    let may_s = subst (λ (w : SiteState). IsUp (world w) r.sender × MaySend (world w) r.sender r.frame) (sym view) may in
    let draws : draws_needed Everyone (command_of r.frame) 0 (world s).gear ≤ length (world s).left =
    subst (λ reach. draws_needed reach (command_of r.frame) 0 (world s).gear ≤ length (world s).left) (everyone t sendable) (draws_there s r t enough_s) in
    subst (λ (o : Standing). HasGiftRoom o Everyone r) (sym site.stands)
    (gifts_fit_after s.plan s.queue s.log (event.Sent r.sender r.frame Silence) site.run (record { up = may_s.0; may = may_s.1; draws = draws; heard = tt })
    (nobodys_leaves s.plan.used (event.Sent r.sender r.frame Silence) refl))

pub lost_room : (s was : SiteState) (old : Standing) (shares : List ℕ) (room : ℕ) (r : Request) (set : GearSet) → s ≡ was → IsSite s old shares room
    → IsUp (world was) r.sender × MaySend (world was) r.sender r.frame
    → (IsSpent was r (trouble.Destroyed set) → ⊥) → HasGiftRoom old (Only set) r
lost_room s was old shares room r set view site may enough =
    let enough_s : IsSpent s r (trouble.Destroyed set) → ⊥ = subst (λ (w : SiteState). IsSpent w r (trouble.Destroyed set) → ⊥) (sym view) enough in
    let may_s = subst (λ (w : SiteState). IsUp (world w) r.sender × MaySend (world w) r.sender r.frame) (sym view) may in
    subst (λ (o : Standing). HasGiftRoom o (Only set) r) (sym site.stands)
    (gifts_fit_after s.plan s.queue s.log (event.Destroyed r.sender r.frame set) site.run
    (record { up = may_s.0; may = may_s.1; draws = draws_there s r (trouble.Destroyed set) enough_s })
    (nobodys_leaves s.plan.used (event.Destroyed r.sender r.frame set) refl))

-- the request that is next may be sent
pub request_may : (s was : SiteState) (old : Standing) (shares : List ℕ) (room : ℕ) (r : Request) → s ≡ was → IsSite s old shares room → MayBeSent old r
    → IsUp (world was) r.sender × MaySend (world was) r.sender r.frame
request_may s was old shares room r view site may =
    subst (λ (w : SiteState). IsUp (world w) r.sender × MaySend (world w) r.sender r.frame) view (may (world s) (machines s) site.stands)

pub world_lists : (s was : SiteState) (old : Standing) (shares : List ℕ) (room : ℕ) (q : Request) → s ≡ was → IsSite s old shares room
    → collision old.bus.lists ≡ Some q → collision (world was).bus.lists ≡ Some q
world_lists s was old shares room q view site is =
    subst (λ (w : SiteState). collision (world w).bus.lists ≡ Some q) view (subst (λ (t : Standing). collision t.bus.lists ≡ Some q) site.stands is)

pub sendable_of : (t : Trouble) → (t ≡ trouble.None) ⊎ ((t ≡ trouble.AnswerLost) ⊎ (t ≡ trouble.Noise)) → IsSendable t
sendable_of t (inl e) = rw e tt
sendable_of t (inr (inl e)) = rw e tt
sendable_of t (inr (inr e)) = rw e tt

-- ---------------------------------------------------------------- no machine halts with a conflict

pub never_conflicts : (s was : SiteState) (old : Standing) (shares : List ℕ) (room c : ℕ) (i : Input) → s ≡ was → IsSite s old shares room
    → c < length was.plan.blocks → IsDue (controller_on old c) i
    → IsPlacedOn old c → MayAnswer (machine_in old.machines c) i (Halt fault.Conflict) → ⊥
never_conflicts s was old shares room c i view site there due placed answer = go (machine_in old.machines c) refl answer where
  there_s : c < length (world s).controllers
  there_s = subst (λ n. c < n) (sym site.controller_count) (subst (λ (w : SiteState). c < length w.plan.blocks) (sym view) there)

  is : controller_on old c ≡ controller_at (world s) c
  is = ap (λ (t : Standing). controller_on t c) site.stands

  go : (m : Option Machine) → machine_in old.machines c ≡ m → MayAnswer m i (Halt fault.Conflict) → ⊥
  go None has answer = elim answer [ ]
  go (Some m) has answer =
      let known = subst (λ (k : Controller). IsRunning k m × IsPlacedBy (owns old.bus.owner c) old.trace k (Some m)) is (placed m has) in
      no_conflict s.plan s.queue s.log c m i (owns old.bus.owner c) old.trace site.run there_s
      (subst (λ (k : Controller). IsDue k i) is due) known.0 known.1 answer.answered

-- ---------------------------------------------------------------- a machine keeps its controller's records

pub own_records : (s was : SiteState) (old : Standing) (shares : List ℕ) (room c : ℕ) → s ≡ was → IsSite s old shares room → IsPlacedOn old c
    → (m : Machine) → machine_at was c ≡ Some m → m.kept ≡ (controller_at (world was) c).records
own_records s was old shares room c view site placed m has =
    let has_s : machine_in (machines s) c ≡ Some m = subst (λ (w : SiteState). machine_at w c ≡ Some m) (sym view) has in
    let has_old : machine_in old.machines c ≡ Some m = ap (λ (t : Standing). machine_in t.machines c) site.stands ∙ has_s in
    (placed m has_old).0.kept ∙ ap (λ (t : Standing). (controller_on t c).records) site.stands
    ∙ ap (λ (w : SiteState). (controller_at (world w) c).records) view

-- ---------------------------------------------------------------- a survey that ends with all-found has called the roll

-- what is known of a controller that acts
pub act_known : (s : SiteState) (old : Standing) (shares : List ℕ) (room c : ℕ) (i : Input) (o : Order) → IsSite s old shares room
    → IsDue (controller_on old c) i → IsPlacedOn old c → MayAnswer (machine_in old.machines c) i o → LeavesWhole (machine_in old.machines c) i o
    → IsKnownOf s (event.Acted c i o)
act_known s old shares room c i o site due placed answer whole m there =
    let has : machine_in old.machines c ≡ Some m = ap (λ (t : Standing). machine_in t.machines c) site.stands ∙ there in
    let known = (placed m has).0 in (
      known.last ∙ ap (λ (t : Standing). (controller_on t c).last) site.stands,
      subst (λ l. accepts (due_after l) i ≡ true) (sym known.last) (waits_by (controller_on old c) i due known.told),
      subst (λ x. MayAnswer x i o) has answer,
      subst (λ x. LeavesWhole x i o) has whole,
    )

-- and of one whose frame is sent
pub send_known : (s : SiteState) (old : Standing) (shares : List ℕ) (room : ℕ) (r : Request) (h : Answer) → IsSite s old shares room → FollowsItsMachine old r
    → IsKnownOf s (event.Sent r.sender r.frame h)
send_known s old shares room r h site goes = subst (λ (t : Standing). FollowsItsMachine t r) site.stands goes

pub act_found : (s was : SiteState) (old : Standing) (shares : List ℕ) (room c : ℕ) (i : Input) (o : Order) → s ≡ was → IsSite s old shares room
    → MayAnswer (machine_in old.machines c) i o → (m : Machine) → machine_at was c ≡ Some m → m.course.way ≡ Surveying → o ≡ Done AllFound
    → RollWasCalled was c
act_found s was old shares room c i o view site answer m there surveys is =
    subst (λ (w : SiteState). RollWasCalled w c) view
    (found_called s c i m site.remembers (subst (λ (w : SiteState). machine_at w c ≡ Some m) (sym view) there) surveys
    (subst (λ d. MayAnswer (machine_at s c) i d) is (subst (λ (t : Standing). MayAnswer (machine_in t.machines c) i o) site.stands answer)))

-- ---------------------------------------------------------------- the promise, of the world now

pub safe_now : (p : Plan) (queue : ℕ) (log : List Event) → IsRun p queue log → IsSafe (after p queue log)
safe_now p queue log run = safe p run.plan (after p queue log) (holds_after p queue log run)

-- its log is a history of the page, which keeps the page's promise
pub page_now : (p : Plan) (queue : ℕ) (log : List Event) → IsRun p queue log
    → (ms : List Moment) × IsReadAs p queue log ms × KeepsPagePromise (plan_seen p) ms
page_now p queue log run =
    let history = every_run_is_a_history p queue log [] (subst (λ (l : List Event). IsRun p queue l) (sym (append-nil log)) run) in
    (history.0, history.2, every_history_keeps_the_promise (plan_seen p) history.0 history.2.leads.history)

pub records_now : (p : Plan) (queue : ℕ) (log : List Event) → IsRun p queue log → KeepsRecords p (after p queue log)
records_now p queue log run = records_kept p queue log [] (subst (λ (l : List Event). IsRun p queue l) (sym (append-nil log)) run)

pub agreeing_now : (p : Plan) (queue : ℕ) (log : List Event) → IsRun p queue log → TablesAgree (after p queue log)
agreeing_now p queue log run = tables_agree_in p queue log [] (subst (λ (l : List Event). IsRun p queue l) (sym (append-nil log)) run)
