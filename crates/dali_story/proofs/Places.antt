use Rattle.std.proofs.Common.{◌≡◌, ◌⊎◌, inl, inr, ℕ, ◌<◌, ◌+◌, ◌-◌, Bool, true, false, not, ◌&&◌, List, [], ◌∷◌, ◌++◌, length, Option, Some, None}
use Rattle.std.proofs.Common.{refl, sym, ap, subst, ◌∙◌, arith, length-append, ◌==◌, if◌then◌else◌}
use Rattle.dali_frame.specs.declared.{frames.Forward.Forward, frames.Answer.Answer, frames.Answer.TheVariants.Silence}
use Rattle.dali_special.specs.Command.{command_of}
use Rattle.dali_special.specs.declared.command.Command.TheVariants.{Terminate, SearchHigh, RandomByte, Arc}
use Rattle.dali_special.specs.declared.command.Part.TheVariants.{High}
use Rattle.dali_gear.specs.declared.gear_set.GearSet.{GearSet}
use Rattle.dali_arbiter.specs.Arbiter.{Arbiter, owns, bus_freed, bus_lapsed, bus_muted, bus_silenced}
use Rattle.dali_script.specs.declared.{block.Block.Block, stage.Stage.Stage, trace.Entry.Entry, orders.Order.Order}
use Rattle.dali_script.specs.declared.orders.Order.TheVariants as order
use Rattle.dali_script.specs.declared.stage.Stage.TheVariants.{Free, Initialised, Hunted}
use Rattle.dali_script.specs.Records.{Assignment}
use Rattle.dali_script.specs.Scripts.{Lawful, IsLawful, IsFirst}
use Rattle.dali_script.specs.Stages.{IsHunting, may_come, may_follow, next_stage, stage_of}
use Rattle.dali_script.proofs.{Transactions.self, Transactions.positive, Transactions.stage_more, Transactions.stage_none, Transactions.room}
use Rattle.dali_script.proofs.Firsts.{terminate_first, arc_first, random_high_first, search_high_first, first_commands}
use Rattle.dali_script.proofs.Senders.{lawful_comes, comes_lawful}
use Rattle.dali_events.specs.declared.event.Event.{Event}
use Rattle.dali_events.specs.declared.event.Event.TheVariants as event
use Rattle.dali_events.specs.{Plan.Plan, World.World, World.controller_at, World.start}
use Rattle.dali_events.specs.Happens.{happens, keeps_bus, gives_up, put_after, trace_running, entry}
use Rattle.dali_events.specs.{Allowed.Allowed, Allowed.MaySend, Runs.IsRun, Runs.AllAllowed, Runs.after, Runs.after_all}
use Rattle.dali_story.specs.declared.transactions.Running.{Running}
use Rattle.dali_story.specs.{RunGear.Moment, Teller.Told, Teller.told_after, Teller.told_after_all}
use Rattle.dali_story.specs.Transactions.{counted, goes_on, further_frame, first_frame, with_frame, given_up, given_up_if, running_after, none_runs}
use Rattle.dali_story.specs.Places.{told_first, running_told, running_with, IsPlaced}

-- WHAT IS TOLD OF A TRANSACTION, AND WHAT STANDS.

-- no first frame goes on with a transaction that is complete
abbrev IsDead : Stage → Type 0
IsDead s = (t : List Entry) × (b : Block) × (xs : List Assignment) × (s ≡ stage_of t) × (may_follow b xs (stage_of t) ≡ false)

alive : (b : Block) (xs : List Assignment) (s : Stage) → IsHunting s → may_follow b xs s ≡ true
alive b xs (Hunted r last left) hunts = rw (positive left hunts) refl
alive b xs _ hunts = absurd hunts

alive_empty : (b : Block) (xs : List Assignment) (t : List Entry) → t ≡ [] → may_follow b xs (stage_of t) ≡ true
alive_empty b xs t none = rw (none, stage_none) refl

alive_first : (b : Block) (xs : List Assignment) (t : List Entry) (f : Forward) → IsFirst f → IsLawful t f → may_follow b xs (stage_of t) ≡ true
alive_first b xs t f first lawful = go (first_commands f first) where
  later : (t ≡ []) ⊎ (IsHunting (stage_of t) ⊎ (stage_of t ≡ Initialised)) → may_follow b xs (stage_of t) ≡ true
  later (inl none) = alive_empty b xs t none
  later (inr (inl hunts)) = alive b xs (stage_of t) hunts
  later (inr (inr initialised)) = rw initialised refl

  go : (command_of f ≡ Terminate)
      ⊎ (((high : ℕ) × (command_of f ≡ SearchHigh high)) ⊎ (((g : Forward) × (command_of f ≡ Arc g)) ⊎ ((a : ℕ) × (command_of f ≡ RandomByte a High))))
      → may_follow b xs (stage_of t) ≡ true
  go (inl e) = alive_empty b xs t (terminate_first lawful.0 lawful.1 t f lawful.2 e)
  go (inr (inl (high, e))) = later (search_high_first lawful.0 lawful.1 t f high lawful.2 e)
  go (inr (inr (inl (g, e)))) = alive_empty b xs t (arc_first lawful.0 lawful.1 t f g lawful.2 e)
  go (inr (inr (inr (a, e)))) = alive_empty b xs t (random_high_first lawful.0 lawful.1 t f a lawful.2 e)

dead_first : (s : Stage) (f : Forward) → IsDead s → IsFirst f → may_come s (command_of f) ≡ false
dead_first s f (t, b, xs, same, over) first = subst (λ x. may_come x (command_of f) ≡ false) (sym same) (go (may_come (stage_of t) (command_of f)) refl) where
  go : (x : Bool) → x ≡ may_come (stage_of t) (command_of f) → x ≡ false
  go false e = refl
  go true e = absurd (let on = alive_first b xs t f first (comes_lawful t f (sym e)) in let never : true ≡ false = sym on ∙ over in cc)

-- THE RELATION. The owner's transaction is the one that is told last; and if no controller owns the bus, no frame that may be sent goes on with it.
record Stands (o : Option ℕ) (t : List Entry) (r : Running) : Type 0 where
  owner : (c : ℕ) → o ≡ Some c → r.owner ≡ Some c
  stage : (c : ℕ) → o ≡ Some c → r.stage ≡ stage_of t
  frames : (c : ℕ) → o ≡ Some c → r.frames ≡ length t
  some : (c : ℕ) → o ≡ Some c → 0 < length t
  free : o ≡ None → (r.owner ≡ None) ⊎ IsDead r.stage

stands_none : (t : List Entry) (r : Running) → r.owner ≡ None → Stands None t r
stands_none t r none = record {
  owner = λ c e. absurd (let never : None ≡ Some c = e in cc);
  stage = λ c e. absurd (let never : None ≡ Some c = e in cc);
  frames = λ c e. absurd (let never : None ≡ Some c = e in cc);
  some = λ c e. absurd (let never : None ≡ Some c = e in cc);
  free = λ e. inl none;
}

-- ---------------------------------------------------------------- a frame

-- what is told of a frame by a transaction with it: the trace t that it goes on with, and itself
record IsWith (was : Running) (c : ℕ) (t : List Entry) (e : Entry) (is : Running) : Type 0 where
  begun : is.begun ≡ (if length t == 0 then counted was.begun 1 else was.begun)
  frames : is.frames ≡ length t + 1
  owner : is.owner ≡ Some c
  stage : is.stage ≡ stage_of (t ++ e ∷ [])

counted_few : (n : ℕ) → n < 8 → counted n 1 ≡ n + 1
counted_few n few = omega arith

owned : (o : Option ℕ) (c : ℕ) → o ≡ Some c → owns o c ≡ true
owned o c own = ap (λ x. owns x c) own ∙ self c

owned_not : (o : Option ℕ) (c : ℕ) → o ≡ None → owns o c ≡ false
owned_not o c none = ap (λ x. owns x c) none

further : (b : Block) (xs : List Assignment) (o : Option ℕ) (t : List Entry) (r : Running) (c : ℕ) (f : Forward) (h : Answer) → Stands o t r
    → o ≡ Some c → Lawful b xs t f → IsWith r c (if owns o c then t else []) (entry f h) (with_frame r c (command_of f) h)
further b xs o t r c f h s own lawful =
    let comes : may_come r.stage (command_of f) ≡ true =
    subst (λ x. may_come x (command_of f) ≡ true) (sym (s.stage c own)) (lawful_comes t f (b, xs, lawful)) in
    let more : goes_on r c (command_of f) ≡ true = rw (owned r.owner c (s.owner c own), comes) refl in
    let ready : IsWith r c t (entry f h) (further_frame r c (command_of f) h) = record {
      begun = rw (positive (length t) (s.some c own)) refl;
      frames = ap (λ n. counted n 1) (s.frames c own) ∙ counted_few (length t) (room b xs t f lawful);
      owner = refl;
      stage = rw comes (ap (λ x. next_stage x (command_of f) h) (s.stage c own) ∙ sym (stage_more t (entry f h)));
    } in
    subst (λ x. IsWith r c (if x then t else []) (entry f h) (with_frame r c (command_of f) h)) (sym (owned o c own))
    (subst (λ x. IsWith r c t (entry f h) (if x then further_frame r c (command_of f) h else first_frame r c (command_of f) h)) (sym more) ready)

no_more : (b : Bool) → (b && false) ≡ false
no_more true = refl
no_more false = refl

begins : (r : Running) (c : ℕ) (f : Forward) → IsFirst f → (r.owner ≡ None) ⊎ IsDead r.stage → may_come Free (command_of f) ≡ true
    → goes_on r c (command_of f) ≡ false
begins r c f first (inl none) comes = rw (owned_not r.owner c none) refl
begins r c f first (inr dead) comes = rw (dead_first r.stage f dead first, comes) (no_more (owns r.owner c))

first : (o : Option ℕ) (t : List Entry) (r : Running) (c : ℕ) (f : Forward) (h : Answer) → Stands o t r → o ≡ None → IsFirst f
    → IsWith r c (if owns o c then t else []) (entry f h) (with_frame r c (command_of f) h)
first o t r c f h s none is =
    let comes : may_come Free (command_of f) ≡ true = subst (λ x. may_come x (command_of f) ≡ true) stage_none (lawful_comes [] f is) in
    let ready : IsWith r c [] (entry f h) (first_frame r c (command_of f) h) = record {
      begun = refl;
      frames = refl;
      owner = refl;
      stage = rw comes (ap (λ x. next_stage x (command_of f) h) (sym stage_none) ∙ sym (stage_more [] (entry f h)));
    } in
    subst (λ x. IsWith r c (if x then t else []) (entry f h) (with_frame r c (command_of f) h)) (sym (owned_not o c none))
    (subst (λ x. IsWith r c [] (entry f h) (if x then further_frame r c (command_of f) h else first_frame r c (command_of f) h))
    (sym (begins r c f is (s.free none) comes)) ready)

frame_with : (w : World) (r : Running) (c : ℕ) (f : Forward) (h : Answer) → Stands w.bus.owner w.trace r → MaySend w c f
    → IsWith r c (trace_running w c) (entry f h) (with_frame r c (command_of f) h)
frame_with w r c f h s (inl (own, lawful)) =
    further (controller_at w c).records.block (controller_at w c).records.reserved w.bus.owner w.trace r c f h s own lawful
frame_with w r c f h s (inr (none, is)) = first w.bus.owner w.trace r c f h s none is

-- after a frame that was sent, with which the transaction goes on or not
sent_stands : (more : Bool) (b : Block) (xs : List Assignment) (was : Running) (c : ℕ) (t : List Entry) (e : Entry) (is : Running) → IsWith was c t e is
    → more ≡ may_follow b xs (stage_of (t ++ e ∷ [])) → Stands (if more then Some c else None) (if more then t ++ e ∷ [] else []) is
sent_stands true b xs was c t e is with more = record {
  owner = λ d same. with.owner ∙ same;
  stage = λ d same. with.stage;
  frames = λ d same. with.frames ∙ sym (length-append t (e ∷ []));
  some = λ d same. let long : length (t ++ e ∷ []) ≡ length t + 1 = length-append t (e ∷ []) in omega arith;
  free = λ none. absurd (let never : Some c ≡ None = none in cc);
}
sent_stands false b xs was c t e is with more = record {
  owner = λ d never. absurd (let no : None ≡ Some d = never in cc);
  stage = λ d never. absurd (let no : None ≡ Some d = never in cc);
  frames = λ d never. absurd (let no : None ≡ Some d = never in cc);
  some = λ d never. absurd (let no : None ≡ Some d = never in cc);
  free = λ none. inr (t ++ e ∷ [], b, xs, with.stage, sym more);
}

-- ---------------------------------------------------------------- an owner that may give up the bus

given_none : (so : Bool) (t : List Entry) (r : Running) → Stands None t r → Stands None t (given_up_if so r)
given_none true t r s = stands_none t (given_up r) refl
given_none false t r s = s

given_some : (so : Bool) (d : ℕ) (t : List Entry) (r : Running) → Stands (Some d) t r
    → Stands (if so then None else Some d) (if so then [] else t) (given_up_if so r)
given_some true d t r s = stands_none [] (given_up r) refl
given_some false d t r s = s

-- g asks whether the owner does so
given : (g : Bool → Bool) → g false ≡ false → (o : Option ℕ) (t : List Entry) (r : Running) (c : ℕ) → Stands o t r
    → Stands (if g (owns o c) then None else o) (if g (owns o c) then [] else t) (given_up_if (g (owns r.owner c)) r)
given g never None t r c s = rw never (given_none (g (owns r.owner c)) t r s)
given g never (Some d) t r c s =
    let same : g (owns r.owner c) ≡ g (owns (Some d) c) = ap (λ x. g (owns x c)) (s.owner d refl) in
    subst (λ x. Stands (if g (owns (Some d) c) then None else Some d) (if g (owns (Some d) c) then [] else t) (given_up_if x r)) (sym same)
    (given_some (g (owns (Some d) c)) d t r s)

put_owner : (b : Arbiter) (c : ℕ) (o : Order) → (put_after b c o).owner ≡ b.owner
put_owner b c (order.Put p f) = refl
put_owner b c (order.Commit x) = refl
put_owner b c (order.Done e) = refl
put_owner b c (order.Halt e) = refl

lapsed_owner : (so : Bool) (b : Arbiter) → (if so then bus_lapsed b else b).owner ≡ (if so then None else b.owner)
lapsed_owner true b = refl
lapsed_owner false b = refl

silenced_owner : (so : Bool) (b : Arbiter) (c : ℕ) → (if so then bus_freed (bus_muted b c) else bus_muted b c).owner ≡ (if so then None else b.owner)
silenced_owner true b c = refl
silenced_owner false b c = refl

acted : (w : World) (c : ℕ) (o : Order) (r : Running) → Stands w.bus.owner w.trace r
    → Stands (put_after (if gives_up w.bus c o then bus_lapsed w.bus else w.bus) c o).owner (if gives_up w.bus c o then [] else w.trace)
    (given_up_if (owns r.owner c && not (keeps_bus o)) r)
acted w c o r s =
    let same = put_owner (if gives_up w.bus c o then bus_lapsed w.bus else w.bus) c o ∙ lapsed_owner (gives_up w.bus c o) w.bus in
    subst (λ x. Stands x (if gives_up w.bus c o then [] else w.trace) (given_up_if (owns r.owner c && not (keeps_bus o)) r)) (sym same)
    (given (λ x. x && not (keeps_bus o)) refl w.bus.owner w.trace r c s)

down : (w : World) (c : ℕ) (r : Running) → Stands w.bus.owner w.trace r
    → Stands (bus_silenced w.bus c).owner (if owns w.bus.owner c then [] else w.trace) (given_up_if (owns r.owner c) r)
down w c r s =
    subst (λ x. Stands x (if owns w.bus.owner c then [] else w.trace) (given_up_if (owns r.owner c) r))
    (sym (silenced_owner (owns w.bus.owner c) w.bus c)) (given (λ x. x) refl w.bus.owner w.trace r c s)

-- ---------------------------------------------------------------- each event, and a run

happened : (w : World) (e : Event) (r : Running) → Stands w.bus.owner w.trace r → Allowed w e
    → Stands (happens w e).bus.owner (happens w e).trace (running_after e r)
happened w (event.Acted c i o) r s may = acted w c o r s
happened w (event.Offered c f) r s may = s
happened w (event.Sent c f h) r s may =
    let b : Block = (controller_at w c).records.block in
    let xs : List Assignment = (controller_at w c).records.reserved in
    sent_stands (may_follow b xs (stage_of (trace_running w c ++ entry f h ∷ []))) b xs r c (trace_running w c) (entry f h)
    (with_frame r c (command_of f) h) (frame_with w r c f h s may.may) refl
happened w (event.Destroyed c f set) r s may = stands_none [] (given_up (with_frame r c (command_of f) Silence)) refl
happened w (event.Collided c f d g) r s may = stands_none [] (given_up r) refl
happened w event.Lapsed r s may = stands_none [] (given_up r) refl
happened w event.Quiet r s may = s
happened w (event.Foreign f) r s may = s
happened w (event.Power g on) r s may = s
happened w (event.Expired g) r s may = s
happened w (event.Down c) r s may = down w c r s
happened w (event.Up c kept) r s may = s

all_happened : (w : World) (es : List Event) (t : Told) → Stands w.bus.owner w.trace t.counts.running → AllAllowed w es
    → Stands (after_all w es).bus.owner (after_all w es).trace (told_after_all es t).counts.running
all_happened w [] t s may = s
all_happened w (e ∷ es) t s may = all_happened (happens w e) es (told_after e t) (happened w e t.counts.running s may.0) may.1

run_stands : (p : Plan) (capacity : ℕ) (log : List Event) (m : Moment) → IsRun p capacity log
    → Stands (after p capacity log).bus.owner (after p capacity log).trace (running_told m log)
run_stands p capacity log m run = all_happened (start p capacity) log (told_first m) (stands_none [] none_runs refl) run.allowed

placed : (w : World) (was : Running) (c : ℕ) (e : Entry) (is : Running) → IsWith was c (trace_running w c) e is → IsPlaced w c was is
placed w was c e is with = record {
  place = let one : is.frames ≡ length (trace_running w c) + 1 = with.frames in omega arith;
  number = with.begun;
}

pub sent_placed : (p : Plan) (capacity : ℕ) (log : List Event) (m : Moment) (c : ℕ) (f : Forward) (h : Answer) → IsRun p capacity log
    → Allowed (after p capacity log) (event.Sent c f h)
    → IsPlaced (after p capacity log) c (running_told m log) (running_with m log (event.Sent c f h))
sent_placed p capacity log m c f h run may =
    placed (after p capacity log) (running_told m log) c (entry f h) (running_with m log (event.Sent c f h))
    (frame_with (after p capacity log) (running_told m log) c f h (run_stands p capacity log m run) may.may)

pub destroyed_placed : (p : Plan) (capacity : ℕ) (log : List Event) (m : Moment) (c : ℕ) (f : Forward) (set : GearSet) → IsRun p capacity log
    → Allowed (after p capacity log) (event.Destroyed c f set)
    → IsPlaced (after p capacity log) c (running_told m log) (running_with m log (event.Destroyed c f set))
destroyed_placed p capacity log m c f set run may =
    let with : IsWith (running_told m log) c (trace_running (after p capacity log) c) (entry f Silence)
    (with_frame (running_told m log) c (command_of f) Silence) =
    frame_with (after p capacity log) (running_told m log) c f Silence (run_stands p capacity log m run) may.may in
    record {
      place = (placed (after p capacity log) (running_told m log) c (entry f Silence) (with_frame (running_told m log) c (command_of f) Silence) with).place;
      number = with.begun;
    }
