use Rattle.std.proofs.Common.{◌≡◌, ℕ, ◌+◌, ◌⊎◌, inl, inr, Bool, true, false, List, [], ◌∷◌, ◌++◌, refl, sym, ap, subst, ◌∙◌, arith, append_assoc, append-nil}
use Rattle.std.proofs.Common.{Option, Some, None, set, get_or, get_or-set_same, get_or-set_other, nat_eq, zero, suc, if◌then◌else◌, map}
use Rattle.std.{proofs.lemmas.Bool.Decides.nat_tests, specs.List.AllByRecursion, specs.Option.option_map}
use Rattle.dali_frame.specs.{Priority.FIRST, Priority.LATER, Random.value_of, Random.MASK24}
use Rattle.dali_frame.specs.declared.{frames.Answer.Answer, frames.Answer.TheVariants.Silence, frames.Forward.Forward, numbers.SearchAddress.SearchAddress}
use Rattle.dali_special.specs.Command.{command_of, frame_of}
use Rattle.dali_special.{specs.declared.command.Command.TheVariants.Terminate, specs.declared.command.Command.TheVariants.Compare, proofs.Table.read_written}
use Rattle.dali_arbiter.specs.Arbiter.{owns}
use Rattle.dali_script.specs.{Due.due_after, Due.accepts, Due.frame_put, Due.record_ordered, Scripts.IsFront, Stages.stage_of, declared.block.Block.Block}
use Rattle.dali_script.specs.declared.orders.{End.End, End.TheVariants.AllFound, End.TheVariants.GaveUp, Input.Input, Order.Order}
use Rattle.dali_script.specs.declared.orders.Order.TheVariants.{Put, Commit, Done, Halt}
use Rattle.dali_script.specs.declared.{records.Record.Record, stage.Stage.TheVariants.Free, stage.Stage.TheVariants.Hunted, stage.Stage.TheVariants.Terminated}
use Rattle.dali_script.{specs.declared.trace.Entry.Entry, proofs.Transactions.stage_none}
use Rattle.dali_script.specs.declared.orders.Input.TheVariants as input
use Rattle.dali_controller.specs.{Course.Course, Course.closing_of, Course.turn_of, Machine.Machine, Machine.machine_told, Machine.at_first, Next.course_by}
use Rattle.dali_controller.specs.Orders.{IsGiven, IsAnswered, IsOrdered, IsFollowed, MayOrderPut, IsCaused, IsBegun, IsSilentCall, AllAreFound, running_close}
use Rattle.dali_controller.specs.{Orders.machine_after, Whole.IsWhole, declared.purpose.Purpose.Purpose, declared.purpose.Purpose.TheVariants.Opening}
use Rattle.dali_controller.specs.declared.{purpose.Purpose.TheVariants.Calling, purpose.Purpose.TheVariants.Closing, way.Way.TheVariants.Surveying}
use Rattle.dali_controller.proofs.{Courses.keeps_way, Given.IsGivenBy, Silences.IsSilent, Silences.next_silent, Silences.later_silent}
use Rattle.dali_events.specs.{Allowed.Allowed, Allowed.IsDue, Calling.IsClosing, Calling.Orders, Calling.HasCalled, Calling.roll_call, Happens.happens}
use Rattle.dali_events.specs.Happens.{trace_running, entry, is_arc, told_sent, told_destroyed, told_lapsed, owner_told, controller_acted, gone_down, come_up}
use Rattle.dali_events.specs.{Runs.after, Runs.IsRun, Searching.sent_event, World.World, World.Controller, World.controller_at, World.controller_begun}
use Rattle.dali_events.specs.{World.nobody, World.controllers_changed, World.start, declared.event.Event.Event}
use Rattle.dali_events.proofs.{Invariant.Growing.after_more, Search.Rolled.IsWholeCall, Search.Rolled.whole_call, Search.Rolled.IsRolled}
use Rattle.dali_events.proofs.Search.Rolled.{rolled, orders_more, orders_none, orders_all, orders_front, called_more, called_all, IsBehind, sent_behind}
use Rattle.dali_events.specs.declared.event.Event.TheVariants as event
use Rattle.dali_standing.specs.{Seats.MayAnswer, Standing.machine_in, Standing.machines_at, Standing.machines_after}
use Rattle.dali_world.specs.Site.{SiteState, world, machines, machine_at, site_logged, RollWasCalled, IsCalling, WasSent, WasSilent, Remembers, Remember}
use Rattle.dali_world.proofs.Calling.{HeardOf, told_calling, heard_course, committed_course, told_purpose, told_way, survey_first, heard_trace, put_first}
use Rattle.dali_world.proofs.Calling.{put_later, put_given, calling_kept}

-- THE LOG REMEMBERS THE ROLL CALL of a survey that closes with all-found.

-- ---------------------------------------------------------------- a close is begun

closing_is : (p : Purpose) (e : End) → closing_of p ≡ Some e → p ≡ Closing e
closing_is (Closing x) e is = let same : x ≡ e = cc in ap Closing same
closing_is _ e is = absurd (cc)

-- a close of a survey that ran before
closed_before : (s : SiteState) (k : Controller) (c : ℕ) (m : Machine) (i : Input) → Remembers s k c m → accepts (due_after m.last) i ≡ true
    → (machine_told m i).course.purpose ≡ Closing AllFound → (machine_told m i).course.way ≡ Surveying → RollWasCalled s c
closed_before s k c m i was waits closes surveys = was.closing purpose (sym (told_way m i begun) ∙ surveys) where
  purpose : m.course.purpose ≡ Closing AllFound
  purpose = sym (told_purpose m i) ∙ closes

  begun : i ≡ input.Survey → ⊥
  begun is =
      let first : m.last ≡ None = survey_first m.last (subst (λ j. accepts (due_after m.last) j ≡ true) is waits) in
      let opening : m.course.purpose ≡ Opening = was.unstarted first in
      let no : Opening ≡ Closing AllFound = sym opening ∙ purpose in
      cc

-- a whole roll call that nobody answered was sent last
pub record WasCalled (s : SiteState) (c : ℕ) (m : Machine) : Type 0 where
  pub again : Entry
  pub all : value_of m.course.number ≡ MASK24
  pub whole : IsWholeCall m.course.number m.trace again
  pub sent : WasSent s c m again.frame again.heard

call_ended : (s : SiteState) (k : Controller) (c : ℕ) (m : Machine) (i : Input) (p : ℕ) (f : Forward) → Remembers s k c m
    → IsDue k i → m.last ≡ k.last → accepts (due_after m.last) i ≡ true → IsFollowed (machine_told m i) (Put p f) → p ≡ FIRST
    → IsSilent (machine_told m i) → WasCalled s c m
call_ended s k c m i p f was due last waits followed first silent = go (told_calling m i n waits called_now) where
  n : SearchAddress
  n = m.course.number

  called_now : IsCalling n m.trace m.last
  called_now = was.calling (sym (told_purpose m i) ∙ silent.calling)

  once : silent.left ≡ 1 → ⊥
  once one =
      let stage : stage_of (machine_told m i).trace ≡ Hunted silent.number (Some Silence) 1 =
      silent.stage ∙ ap (λ l. Hunted silent.number (Some Silence) l) one in
      let turn : turn_of (machine_told m i).course.purpose (machine_told m i).course.number (stage_of (machine_told m i).trace) ≡ Some Compare =
      rw (silent.calling, stage) refl in
      let again : Put p f ≡ Put LATER (frame_of Compare) = followed.sent Compare turn in
      let other : Put FIRST f ≡ Put LATER (frame_of Compare) = ap (λ q. Put q f) (sym first) ∙ again in
      cc

  go : HeardOf m i ⊎ ((machine_told m i).trace ≡ []) → WasCalled s c m
  go (inr none) = absurd (let stage : Free ≡ Hunted silent.number (Some Silence) silent.left = sym (ap stage_of none ∙ stage_none) ∙ silent.stage in cc)
  go (inl h) =
      let x : Entry = entry h.frame h.answer in
      let calls : IsFront m.trace h.frame (roll_call n) × (value_of n ≡ MASK24) = subst (IsCalling n m.trace) h.last called_now in
      record {
        again = x;
        all = calls.1;
        whole = whole_call n m.trace x calls.0 (silent.number, silent.left, ap stage_of (sym (heard_trace m i h)) ∙ silent.stage, once);
        sent = was.heard h.frame h.answer (ap frame_put (sym last ∙ h.last)) (subst (λ j. IsDue k j) h.is due);
      }

-- so the roll was called
called_once : (s : SiteState) (c : ℕ) (m : Machine) → IsRun s.plan s.queue s.log → WasCalled s c m → HasCalled s.plan s.queue (λ o. Unit {0}) s.log c
called_once s c m run is =
    (rolled s.plan s.queue (λ o. Unit {0}) c m.course.number is.all [] refl s.log is.sent.front is.sent.rest is.again m.trace run is.sent.log
    is.sent.running is.whole (orders_all (λ o. Unit {0}) c is.sent.rest is.sent.since)).called

-- and twice, where it was called before
called_twice : (s : SiteState) (c : ℕ) (m : Machine) → IsRun s.plan s.queue s.log → WasCalled s c m → WasSilent s c → RollWasCalled s c
called_twice s c m run is was = record { last = found.called; before = before } where
  acted : Event
  acted = event.Acted c was.input was.order

  earlier : List Event
  earlier = was.earlier ++ acted ∷ []

  last : Event
  last = sent_event c is.again

  behind : IsBehind (was.earlier ++ event.Acted c was.input was.order ∷ []) was.later is.sent.front (sent_event c is.again) is.sent.rest
  behind = sent_behind c was.earlier was.input was.order was.later is.sent.front is.again is.sent.rest (sym was.log ∙ is.sent.log) is.sent.since

  found : IsRolled s.plan s.queue IsClosing s.log c earlier behind.0
  found = rolled s.plan s.queue IsClosing c m.course.number is.all earlier was.idle s.log behind.0 is.sent.rest is.again m.trace run
      (is.sent.log ∙ ap (λ l. l ++ last ∷ is.sent.rest) behind.1)
      (subst (λ l. trace_running (after s.plan s.queue l) c ≡ m.trace) behind.1 is.sent.running) is.whole
      (orders_all IsClosing c is.sent.rest is.sent.since)

  later_is : was.later ≡ found.later ++ (found.more ++ last ∷ is.sent.rest)
  later_is = behind.2 ∙ ap (λ l. l ++ last ∷ is.sent.rest) found.within ∙ append_assoc found.later found.more (last ∷ is.sent.rest)

  up : AllByRecursion (Orders (λ o. Unit {0}) c) found.later
  up = orders_front (λ o. Unit {0}) c found.later (found.more ++ last ∷ is.sent.rest)
      (subst (λ l. AllByRecursion (Orders (λ o. Unit {0}) c) l) later_is was.up)

  before : HasCalled s.plan s.queue (λ o. Unit {0}) found.called.front c
  before = subst (λ l. HasCalled s.plan s.queue (λ o. Unit {0}) l c) (sym found.stands)
      (called_all s.plan s.queue (λ o. Unit {0}) earlier found.later c up
      (called_more s.plan s.queue (λ o. Unit {0}) was.earlier c acted (λ same. tt) was.called))

told_silent : (m : Machine) (i : Input) → (machine_told m i).course.tally.is_silent ≡ true → m.course.tally.is_silent ≡ true
told_silent m input.Survey s = absurd (cc)
told_silent m (input.Heard h) s = ap (λ (c : Course). c.tally.is_silent) (sym (heard_course m (frame_put m.last) h)) ∙ s
told_silent m input.Committed s = ap (λ (c : Course). c.tally.is_silent) (sym (committed_course m (record_ordered m.last))) ∙ s
told_silent m _ s = s

-- a roll call that is silent: no transaction of c runs once the next one is begun
idle_after : (w : World) (c : ℕ) (i : Input) (p : ℕ) (f : Forward) → p ≡ FIRST → trace_running (happens w (event.Acted c i (Put p f))) c ≡ []
idle_after w c i p f first = go (owns w.bus.owner c) refl where
  go : (b : Bool) → owns w.bus.owner c ≡ b → trace_running (happens w (event.Acted c i (Put p f))) c ≡ []
  go true e = rw (first, e) refl
  go false e = rw (first, e) (rw e refl)

silent_begun : (s : SiteState) (k : Controller) (c : ℕ) (m : Machine) (i : Input) (p : ℕ) (f : Forward) → IsRun s.plan s.queue s.log → Remembers s k c m
    → IsDue k i → m.last ≡ k.last → accepts (due_after m.last) i ≡ true → IsFollowed (machine_told m i) (Put p f) → p ≡ FIRST
    → IsSilent (machine_told m i) → WasSilent (site_logged s (event.Acted c i (Put p f))) c
silent_begun s k c m i p f run was due last waits followed first silent = record {
  earlier = s.log;
  input = i;
  order = Put p f;
  later = [];
  log = sym (append-nil (s.log ++ event.Acted c i (Put p f) ∷ []));
  idle = ap (λ w. trace_running w c) (after_more (start s.plan s.queue) s.log (event.Acted c i (Put p f))) ∙ idle_after (world s) c i p f first;
  up = tt;
  called = called_once s c m run (call_ended s k c m i p f was due last waits followed first silent);
}

silent_more : (s : SiteState) (e : Event) (c : ℕ) → Orders (λ o. Unit {0}) c e → WasSilent s c → WasSilent (site_logged s e) c
silent_more s e c here was = record {
  earlier = was.earlier;
  input = was.input;
  order = was.order;
  later = was.later ++ e ∷ [];
  log = ap (λ l. l ++ e ∷ []) was.log ∙ append_assoc (was.earlier ++ event.Acted c was.input was.order ∷ []) was.later (e ∷ []);
  idle = was.idle;
  up = orders_more (λ o. Unit {0}) c was.later e was.up here;
  called = was.called;
}

silent_kept : (s : SiteState) (k : Controller) (c : ℕ) (m : Machine) (i : Input) (o : Order) → IsRun s.plan s.queue s.log → Remembers s k c m
    → IsDue k i → m.last ≡ k.last → accepts (due_after m.last) i ≡ true → IsGiven m i o
    → (machine_after m i o).course.tally.is_silent ≡ true → WasSilent (site_logged s (event.Acted c i o)) c
silent_kept s k c m i o run was due last waits given silent = go o given silent where
  before : (o : Order) → (machine_told m i).course.tally.is_silent ≡ true → WasSilent (site_logged s (event.Acted c i o)) c
  before o silent = silent_more s (event.Acted c i o) c (λ same. tt) (was.silent (told_silent m i silent))

  put : (p : ℕ) (f : Forward) → IsGivenBy (machine_told m i) (Put p f) → (course_by (machine_told m i) (Put p f)).tally.is_silent ≡ true
      → MayOrderPut (machine_told m i) p f → WasSilent (site_logged s (event.Acted c i (Put p f))) c
  put p f given silent (inl may) =
      by (next_silent (machine_told m i) (subst (λ (d : Course). d.tally.is_silent ≡ true) (put_first (machine_told m i) p f may.0).1 silent)) where
        by : ((machine_told m i).course.tally.is_silent ≡ true) ⊎ IsSilent (machine_told m i) → WasSilent (site_logged s (event.Acted c i (Put p f))) c
        by (inl was_so) = before (Put p f) was_so
        by (inr heard) = silent_begun s k c m i p f run was due last waits given.followed may.0 heard
  put p f given silent (inr may) =
      before (Put p f) (later_silent (machine_told m i) (stage_of (machine_told m i).trace)
      (subst (λ (d : Course). d.tally.is_silent ≡ true) (put_later (machine_told m i) p f may.0).1 silent))

  go : (o : Order) → IsGiven m i o → (machine_after m i o).course.tally.is_silent ≡ true → WasSilent (site_logged s (event.Acted c i o)) c
  go (Put p f) given silent = put p f (put_given m i p f given) silent (put_given m i p f given).ordered.allowed
  go (Commit x) given silent = before (Commit x) silent
  go (Done e) given silent = before (Done e) silent
  go (Halt why) given silent = before (Halt why) silent

-- a close that is begun, or begun again
close_begun : (s : SiteState) (k : Controller) (c : ℕ) (m : Machine) (i : Input) (p : ℕ) (f : Forward) → IsRun s.plan s.queue s.log → Remembers s k c m
    → IsDue k i → m.last ≡ k.last → accepts (due_after m.last) i ≡ true → IsGivenBy (machine_told m i) (Put p f)
    → (machine_after m i (Put p f)).course.purpose ≡ Closing AllFound → (machine_after m i (Put p f)).course.way ≡ Surveying
    → RollWasCalled s c × (command_of f ≡ Terminate)
close_begun s k c m i p f run was due last waits given closes surveys = (go begun, ap command_of first.1 ∙ read_written Terminate tt) where
  t : Machine
  t = machine_told m i

  closing : closing_of (course_by t (Put p f)).purpose ≡ Some AllFound
  closing = ap closing_of closes

  cause : IsCaused t (course_by t (Put p f)) (Put p f)
  cause = given.ordered.caused

  first : (p ≡ FIRST) × (f ≡ frame_of Terminate)
  first = by cause.1 where
    by : (closing_of (course_by t (Put p f)).purpose ≡ None) ⊎ ((p ≡ FIRST) × (f ≡ frame_of Terminate)) → (p ≡ FIRST) × (f ≡ frame_of Terminate)
    by (inl none) = absurd (let no : Some AllFound ≡ None = sym closing ∙ none in cc)
    by (inr is) = is

  way : t.course.way ≡ Surveying
  way = sym (ap (λ (d : Course). d.way) (put_first t p f first.0).1 ∙ keeps_way t) ∙ surveys

  begun : (running_close t ≡ Some AllFound) ⊎ ((running_close t ≡ None) × ((t.course.opened ≡ true) × AllAreFound t t.course.way))
  begun = subst (IsBegun t) closing cause.0

  go : (running_close t ≡ Some AllFound) ⊎ ((running_close t ≡ None) × ((t.course.opened ≡ true) × AllAreFound t t.course.way)) → RollWasCalled s c
  go (inl runs) = closed_before s k c m i was waits (closing_is t.course.purpose AllFound runs) way
  go (inr new) = ended (subst (AllAreFound t) way new.1.1) where
    ended : IsSilentCall t → RollWasCalled s c
    ended silent = called_twice s c m run
        (call_ended s k c m i p f was due last waits given.followed first.0
        (record { number = silent.number; left = silent.left; stage = silent.stage; calling = silent.calling }))
        (was.silent (told_silent m i silent.before))

not_committing : (m : Machine) (i : Input) (x : Record) → IsAnswered m i (Commit x) → running_close (machine_told m i) ≡ None
not_committing m input.CommitFailed x answered = absurd (cc)
not_committing m input.Start x answered = answered.caused
not_committing m input.Survey x answered = answered.caused
not_committing m (input.Heard h) x answered = answered.caused
not_committing m input.Destroyed x answered = answered.caused
not_committing m input.Lapsed x answered = answered.caused
not_committing m input.Committed x answered = answered.caused

close_kept : (s : SiteState) (k : Controller) (c : ℕ) (m : Machine) (i : Input) (o : Order) → IsRun s.plan s.queue s.log → Remembers s k c m
    → IsDue k i → m.last ≡ k.last → accepts (due_after m.last) i ≡ true → IsGiven m i o
    → (machine_after m i o).course.purpose ≡ Closing AllFound → (machine_after m i o).course.way ≡ Surveying → RollWasCalled s c × IsClosing o
close_kept s k c m i (Put p f) run was due last waits given closes surveys =
    close_begun s k c m i p f run was due last waits (put_given m i p f given) closes surveys
close_kept s k c m i (Commit x) run was due last waits given closes surveys =
    absurd (let none : closing_of (machine_told m i).course.purpose ≡ None = not_committing m i x given.answered in
    let some : closing_of (machine_told m i).course.purpose ≡ Some AllFound = ap closing_of closes in
    cc)
close_kept s k c m i (Done e) run was due last waits given closes surveys = (closed_before s k c m i was waits closes surveys, tt)
close_kept s k c m i (Halt why) run was due last waits given closes surveys = (closed_before s k c m i was waits closes surveys, tt)

-- ---------------------------------------------------------------- lists with a change at one place

pub changed_at : (P : Controller → Type 0) (cs : List Controller) (d c : ℕ) (change : Controller → Controller) → P (get_or cs c nobody)
    → (d ≡ c → P (get_or cs c nobody) → P (change (get_or cs c nobody))) → P (get_or (controllers_changed cs d change) c nobody)
changed_at P [] d c change was does = was
changed_at P (k ∷ cs) zero zero change was does = does refl was
changed_at P (k ∷ cs) zero (suc c) change was does = was
changed_at P (k ∷ cs) (suc d) zero change was does = was
changed_at P (k ∷ cs) (suc d) (suc c) change was does = changed_at P cs d c change was (λ e. does (ap suc e))

pub none_set : (ms : List (Option Machine)) (d : ℕ) → get_or (set ms d None) d None ≡ None
none_set [] d = refl
none_set (x ∷ ms) zero = refl
none_set (x ∷ ms) (suc d) = none_set ms d

pub some_set : (ms : List (Option Machine)) (d : ℕ) (n m : Machine) → get_or (set ms d (Some n)) d None ≡ Some m → n ≡ m
some_set [] d n m e = absurd (cc)
some_set (x ∷ ms) zero n m e = cc
some_set (x ∷ ms) (suc d) n m e = some_set ms d n m e

-- an event of controller d, by whether it is c
pub by_place : (P : Type 0) (d c : ℕ) → (d ≡ c → P) → ((c ≡ d → ⊥) → P) → P
by_place P d c here there = go (nat_eq d c) refl where
  go : (b : Bool) → nat_eq d c ≡ b → P
  go true e = here (let same : d ≡ c = grind (arith, nat_tests) in same)
  go false e = there (let other : c ≡ d → ⊥ = grind (arith, nat_tests) in other)

-- ---------------------------------------------------------------- one event of a site

abbrev IsAtFirst : Machine → Type 0
IsAtFirst m = (m.course.purpose ≡ Opening) × (m.course.tally.is_silent ≡ false)

pub remembers_first : (s : SiteState) (k : Controller) (c : ℕ) (m : Machine) → IsAtFirst m → k.last ≡ None → Remembers s k c m
remembers_first s k c m at none = record {
  silent = λ is. absurd (let no : false ≡ true = sym at.1 ∙ is in cc);
  unstarted = λ e. at.0;
  calling = λ calls. absurd (let no : Opening ≡ Calling = sym at.0 ∙ calls in cc);
  heard = λ f h put told. absurd (let no : None ≡ Some f = ap frame_put (sym none) ∙ put in cc);
  closing = λ closes surveys. absurd (let no : Opening ≡ Closing AllFound = sym at.0 ∙ closes in cc);
}

twice_more : (s : SiteState) (e : Event) (c : ℕ) → Orders IsClosing c e → RollWasCalled s c → RollWasCalled (site_logged s e) c
twice_more s e c here was = record { last = called_more s.plan s.queue IsClosing s.log c e here was.last; before = was.before }

sent_more : (s : SiteState) (e : Event) (c : ℕ) (m : Machine) (f : Forward) (h : Answer) → Orders (λ o. ⊥) c e → WasSent s c m f h
    → WasSent (site_logged s e) c m f h
sent_more s e c m f h here was = record {
  front = was.front;
  rest = was.rest ++ e ∷ [];
  log = ap (λ l. l ++ e ∷ []) was.log ∙ append_assoc was.front (event.Sent c f h ∷ was.rest) (e ∷ []);
  running = was.running;
  since = orders_more (λ o. ⊥) c was.rest e was.since here;
}

-- what is remembered stays, where the controller takes no step
grown : (s : SiteState) (e : Event) (k : Controller) (c : ℕ) (m : Machine) → Orders (λ o. ⊥) c e → Remembers s k c m → Remembers (site_logged s e) k c m
grown s e k c m here was = record {
  unstarted = was.unstarted;
  calling = was.calling;
  heard = λ f h put told. sent_more s e c m f h here (was.heard f h put told);
  silent = λ is. silent_more s e c (orders_none (λ o. Unit {0}) c e here) (was.silent is);
  closing = λ closes surveys. twice_more s e c (orders_none IsClosing c e here) (was.closing closes surveys);
}

-- and where it is told nothing that was heard
told_again : (s : SiteState) (k k' : Controller) (c : ℕ) (m : Machine) → k'.last ≡ k.last
    → ((h : Answer) → k'.told ≡ Some (input.Heard h) → k.told ≡ Some (input.Heard h)) → Remembers s k c m → Remembers s k' c m
told_again s k k' c m last told was = record {
  unstarted = was.unstarted;
  calling = was.calling;
  heard = λ f h put now. was.heard f h (ap frame_put (sym last) ∙ put) (told h now);
  silent = was.silent;
  closing = was.closing;
}

-- it acts
acted_kept : (s : SiteState) (k k' : Controller) (c : ℕ) (m : Machine) (i : Input) (o : Order) → IsRun s.plan s.queue s.log → Remembers s k c m
    → IsDue k i → m.last ≡ k.last → accepts (due_after m.last) i ≡ true → IsGiven m i o → IsWhole (machine_after m i o) → k'.told ≡ None
    → Remembers (site_logged s (event.Acted c i o)) k' c (machine_after m i o)
acted_kept s k k' c m i o run was due last waits given whole told = record {
  unstarted = λ e. absurd (cc);
  calling = calling_kept m i o waits was.calling given whole;
  heard = λ f h put now. absurd (let no : None ≡ Some (input.Heard h) = sym told ∙ now in cc);
  silent = silent_kept s k c m i o run was due last waits given;
  closing = λ closes surveys.
      let is = close_kept s k c m i o run was due last waits given closes surveys in
      twice_more s (event.Acted c i o) c (λ same. is.1) is.0;
}

-- a frame is sent
sent_kept : (s : SiteState) (k : Controller) (c d : ℕ) (m : Machine) (f : Forward) (h : Answer) → d ≡ c
    → (is_arc (command_of f) ≡ false → (frame_put k.last ≡ Some f) × (trace_running (world s) d ≡ m.trace))
    → Remembers (site_logged s (event.Sent d f h)) k c m
    → Remembers (site_logged s (event.Sent d f h)) (told_sent (trace_running (world s) d) f h k) c m
sent_kept s k c d m f h same sent was = go (is_arc (command_of f)) refl where
  s' : SiteState
  s' = site_logged s (event.Sent d f h)

  k' : Controller
  k' = told_sent (trace_running (world s) d) f h k

  heard_one : (g h : Answer) → Some (input.Heard g) ≡ Some (input.Heard h) → g ≡ h
  heard_one g h e = cc

  frame_one : (f g : Forward) (o : Option Forward) → o ≡ Some f → o ≡ Some g → f ≡ g
  frame_one f g o one two = cc

  go : (b : Bool) → is_arc (command_of f) ≡ b → Remembers s' k' c m
  go true arc = told_again s' k k' c m refl
      (λ g now. ap (λ b. if b then k.told else Some (input.Heard h)) (sym arc) ∙ now) was
  go false scripted = record {
    unstarted = was.unstarted;
    calling = was.calling;
    heard = λ g a put now.
        let frame : f ≡ g = frame_one f g (frame_put k.last) (sent scripted).0 put in
        let answer : h ≡ a = heard_one h a (ap (λ b. if b then k.told else Some (input.Heard h)) (sym scripted) ∙ now) in
        record {
          front = s.log;
          rest = [];
          log = ap (λ n. s.log ++ event.Sent n f h ∷ []) same ∙ ap (λ x. s.log ++ event.Sent c x h ∷ []) frame
              ∙ ap (λ x. s.log ++ event.Sent c g x ∷ []) answer;
          running = subst (λ n. trace_running (world s) n ≡ m.trace) same (sent scripted).1;
          since = tt;
        };
    silent = was.silent;
    closing = was.closing;
  }

lost_kept : (s : SiteState) (cs : List Controller) (c d : ℕ) (m : Machine) (f : Forward) → Remembers s (get_or cs c nobody) c m
    → Remembers s (get_or (controllers_changed cs d (told_destroyed f)) c nobody) c m
lost_kept s cs c d m f was = changed_at (λ k. Remembers s k c m) cs d c (told_destroyed f) was
    (λ same is. told_again s (get_or cs c nobody) (told_destroyed f (get_or cs c nobody)) c m refl (λ h now. go (is_arc (command_of f)) h now) is) where
      go : (b : Bool) (h : Answer) → (if b then (get_or cs c nobody).told else Some input.Destroyed) ≡ Some (input.Heard h)
          → (get_or cs c nobody).told ≡ Some (input.Heard h)
      go true h now = now
      go false h now = absurd (cc)

lapsed_kept : (s : SiteState) (cs : List Controller) (c : ℕ) (owner : Option ℕ) (m : Machine) → Remembers s (get_or cs c nobody) c m
    → Remembers s (get_or (owner_told cs owner) c nobody) c m
lapsed_kept s cs c None m was = was
lapsed_kept s cs c (Some d) m was = changed_at (λ k. Remembers s k c m) cs d c told_lapsed was
    (λ same is. told_again s (get_or cs c nobody) (told_lapsed (get_or cs c nobody)) c m refl (λ h now. absurd (cc)) is)

-- what is known of an event that a site adds
abbrev pub IsKnownOf : SiteState → Event → Type 0
IsKnownOf s (event.Acted d i o) =
    (m : Machine) → machine_at s d ≡ Some m → (m.last ≡ (controller_at (world s) d).last) × (accepts (due_after m.last) i ≡ true) × IsGiven m i o
    × IsWhole (machine_after m i o)
IsKnownOf s (event.Sent d f h) = is_arc (command_of f) ≡ false → (frame_put (controller_at (world s) d).last ≡ Some f)
    × ((m : Machine) → machine_at s d ≡ Some m → trace_running (world s) d ≡ m.trace)
IsKnownOf s _ = Unit {0}

module _ (s : SiteState) (run : IsRun s.plan s.queue s.log) (was : Remember s (world s) (machines s)) where
  abbrev w : World
  w = world s

  abbrev ms : List (Option Machine)
  ms = machines s

  -- controller c after an event of another
  elsewhere : (e : Event) (c : ℕ) (m : Machine) → Orders (λ o. ⊥) c e → controller_at (happens w e) c ≡ controller_at w c
      → machine_in (machines_after w ms e) c ≡ machine_in ms c → machine_in (machines_after w ms e) c ≡ Some m
      → Remembers (site_logged s e) (controller_at (happens w e) c) c m
  elsewhere e c m here controller machine there =
      subst (λ (k : Controller). Remembers (site_logged s e) k c m) (sym controller)
      (grown s e (controller_at w c) c m here (was c m (sym machine ∙ there)))

  acted : (d : ℕ) (i : Input) (o : Order) → Allowed w (event.Acted d i o) → IsKnownOf s (event.Acted d i o)
      → Remember (site_logged s (event.Acted d i o)) (happens w (event.Acted d i o)) (machines_after w ms (event.Acted d i o))
  acted d i o here known c m there = by_place _ d c own
      (λ other. elsewhere (event.Acted d i o) c m (λ same. other (sym same))
      (get_or-set_other w.controllers d c (controller_acted (controller_at w d) i o) nobody other)
      (get_or-set_other ms d c (option_map (λ n. machine_after n i o) (machine_in ms d)) None other) there) where
        at : (x : Option Machine) → machine_in ms d ≡ x → (n : Machine) → machine_in (machines_after w ms (event.Acted d i o)) d ≡ Some n
            → Remembers (site_logged s (event.Acted d i o)) (controller_at (happens w (event.Acted d i o)) d) d n
        at None has n there = absurd (
            let none : machine_in (machines_after w ms (event.Acted d i o)) d ≡ None =
            ap (λ x. get_or (set ms d (option_map (λ n. machine_after n i o) x)) d None) has ∙ none_set ms d in
            cc)
        at (Some l) has n there =
            let k = known l has in
            let is : machine_after l i o ≡ n = some_set ms d (machine_after l i o) n
            (ap (λ x. get_or (set ms d (option_map (λ n. machine_after n i o) x)) d None) (sym has) ∙ there) in
            let controller : controller_at (happens w (event.Acted d i o)) d ≡ controller_acted (controller_at w d) i o =
            get_or-set_same w.controllers d (controller_acted (controller_at w d) i o) nobody here.up.known in
            subst (λ (x : Machine). Remembers (site_logged s (event.Acted d i o)) (controller_at (happens w (event.Acted d i o)) d) d x) is
            (acted_kept s (controller_at w d) (controller_at (happens w (event.Acted d i o)) d) d l i o run (was d l has) here.due k.0 k.1 k.2 k.3
            (ap (λ (k : Controller). k.told) controller))

        own : d ≡ c → Remembers (site_logged s (event.Acted d i o)) (controller_at (happens w (event.Acted d i o)) c) c m
        own same = subst (λ n. (m : Machine) → machine_in (machines_after w ms (event.Acted d i o)) n ≡ Some m
            → Remembers (site_logged s (event.Acted d i o)) (controller_at (happens w (event.Acted d i o)) n) n m) same
            (at (machine_in ms d) refl) m there

  sent : (d : ℕ) (f : Forward) (h : Answer) → IsKnownOf s (event.Sent d f h)
      → Remember (site_logged s (event.Sent d f h)) (happens w (event.Sent d f h)) ms
  sent d f h known c m there =
      changed_at (λ k. Remembers (site_logged s (event.Sent d f h)) k c m) w.controllers d c (told_sent (trace_running w d) f h)
      (grown s (event.Sent d f h) (controller_at w c) c m tt (was c m there))
      (λ same is. sent_kept s (controller_at w c) c d m f h same
      (λ scripted. (
        subst (λ n. frame_put (controller_at w n).last ≡ Some f) same (known scripted).0,
        (known scripted).1 m (subst (λ n. machine_in ms n ≡ Some m) (sym same) there),
      )) is)

  down : (d : ℕ) → Remember (site_logged s (event.Down d)) (happens w (event.Down d)) (machines_after w ms (event.Down d))
  down d c m there = by_place _ d c
      (λ same. absurd (let never : None ≡ Some m = sym (none_set ms d) ∙ subst (λ n. get_or (set ms d None) n None ≡ Some m) (sym same) there in cc))
      (λ other. elsewhere (event.Down d) c m (λ same. other (sym same))
      (get_or-set_other w.controllers d c (gone_down (controller_at w d)) nobody other) (get_or-set_other ms d c None None other) there)

  up : (d : ℕ) (kept : Bool) → Allowed w (event.Up d kept)
      → Remember (site_logged s (event.Up d kept)) (happens w (event.Up d kept)) (machines_after w ms (event.Up d kept))
  up d kept here c m there = by_place _ d c own
      (λ other. elsewhere (event.Up d kept) c m tt
      (get_or-set_other w.controllers d c (come_up kept (controller_at w d)) nobody other)
      (get_or-set_other ms d c (Some (at_first d (come_up kept (controller_at w d)).records)) None other) there) where
        first : (n : Machine) → machine_in (machines_after w ms (event.Up d kept)) d ≡ Some n
            → Remembers (site_logged s (event.Up d kept)) (controller_at (happens w (event.Up d kept)) d) d n
        first n there =
            subst (λ (x : Machine). Remembers (site_logged s (event.Up d kept)) (controller_at (happens w (event.Up d kept)) d) d x)
            (some_set ms d (at_first d (come_up kept (controller_at w d)).records) n there)
            (remembers_first (site_logged s (event.Up d kept)) (controller_at (happens w (event.Up d kept)) d) d
            (at_first d (come_up kept (controller_at w d)).records) (refl, refl)
            (ap (λ (k : Controller). k.last) (get_or-set_same w.controllers d (come_up kept (controller_at w d)) nobody here.0.known)))

        own : d ≡ c → Remembers (site_logged s (event.Up d kept)) (controller_at (happens w (event.Up d kept)) c) c m
        own same = subst (λ n. (m : Machine) → machine_in (machines_after w ms (event.Up d kept)) n ≡ Some m
            → Remembers (site_logged s (event.Up d kept)) (controller_at (happens w (event.Up d kept)) n) n m) same first m there

  pub remembers_more : (e : Event) → Allowed w e → IsKnownOf s e → Remember (site_logged s e) (happens w e) (machines_after w ms e)
  remembers_more (event.Acted d i o) here known = acted d i o here known
  remembers_more (event.Sent d f h) here known = sent d f h known
  remembers_more (event.Destroyed d f some) here known = λ c m there. lost_kept (site_logged s (event.Destroyed d f some)) w.controllers c d m f
      (grown s (event.Destroyed d f some) (controller_at w c) c m tt (was c m there))
  remembers_more (event.Collided d f e g) here known = λ c m there.
      lost_kept (site_logged s (event.Collided d f e g)) (controllers_changed w.controllers d (told_destroyed f)) c e m g
      (lost_kept (site_logged s (event.Collided d f e g)) w.controllers c d m f
      (grown s (event.Collided d f e g) (controller_at w c) c m tt (was c m there)))
  remembers_more event.Lapsed here known = λ c m there. lapsed_kept (site_logged s event.Lapsed) w.controllers c w.bus.owner m
      (grown s event.Lapsed (controller_at w c) c m tt (was c m there))
  remembers_more (event.Down d) here known = down d
  remembers_more (event.Up d kept) here known = up d kept here
  remembers_more e here known = λ c m there. grown s e (controller_at w c) c m tt (was c m there)

-- ---------------------------------------------------------------- the start

start_last : (bs : List Block) (c : ℕ) → (get_or (map controller_begun bs) c nobody).last ≡ None
start_last [] c = refl
start_last (b ∷ bs) zero = refl
start_last (b ∷ bs) (suc c) = start_last bs c

start_machine : (n : ℕ) (bs : List Block) (c : ℕ) (m : Machine) → machine_in (machines_at n bs) c ≡ Some m → IsAtFirst m
start_machine n [] c m there = absurd (cc)
start_machine n (b ∷ bs) zero m there = subst IsAtFirst (some_same _ m there) (refl, refl) where
  some_same : (x m : Machine) → Some x ≡ Some m → x ≡ m
  some_same x m e = cc
start_machine n (b ∷ bs) (suc c) m there = start_machine (n + 1) bs c m there

pub remembers_start : (s : SiteState) → Remember s (start s.plan s.queue) (machines_at 0 s.plan.blocks)
remembers_start s c m there =
    remembers_first s (controller_at (start s.plan s.queue) c) c m (start_machine 0 s.plan.blocks c m there) (start_last s.plan.blocks c)

-- ---------------------------------------------------------------- a survey that ends with all-found

abbrev IsFoundBy : Machine → Input → Type 0
IsFoundBy m i = running_close (machine_told m i) ≡ Some AllFound

found_closes : (m : Machine) (i : Input) → IsAnswered m i (Done AllFound) → IsFoundBy m i
found_closes m i answered = go i answered where
  by : (j : Input) → IsOrdered (machine_told m j) (Done AllFound) → IsFoundBy m j
  by j ordered = pick ordered.caused where
    pick : ((AllFound ≡ GaveUp) × ((machine_told m j).tries ≡ 8)) ⊎ ((running_close (machine_told m j) ≡ Some AllFound)
        × (stage_of (machine_told m j).trace ≡ Terminated)) → IsFoundBy m j
    pick (inl is) = absurd (let no = is.0 in cc)
    pick (inr is) = is.0

  go : (j : Input) → IsAnswered m j (Done AllFound) → IsFoundBy m j
  go input.CommitFailed answered = absurd (cc)
  go input.Start answered = by input.Start answered
  go input.Survey answered = by input.Survey answered
  go (input.Heard h) answered = by (input.Heard h) answered
  go input.Destroyed answered = by input.Destroyed answered
  go input.Lapsed answered = by input.Lapsed answered
  go input.Committed answered = by input.Committed answered

pub found_called : (s : SiteState) (c : ℕ) (i : Input) (m : Machine) → Remember s (world s) (machines s) → machine_at s c ≡ Some m
    → m.course.way ≡ Surveying → MayAnswer (machine_at s c) i (Done AllFound) → RollWasCalled s c
found_called s c i m was there surveys answer =
    let given : IsGiven m i (Done AllFound) = subst (λ x. MayAnswer x i (Done AllFound)) there answer in
    (was c m there).closing (sym (told_purpose m i) ∙ closing_is (machine_told m i).course.purpose AllFound (found_closes m i given.answered)) surveys
