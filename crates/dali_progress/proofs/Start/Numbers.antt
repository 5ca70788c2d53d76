use Rattle.dali_progress.proofs.Below.{◌≡◌, ℕ, ◌≤◌, inl, inr, Bool, true, false, List, [], ◌∷◌, ◌++◌, refl, sym, ap, subst, ◌∙◌, arith, length, Option, Some}
use Rattle.dali_progress.proofs.Below.{None, ◌==◌, if◌then◌else◌, count_by, Answer, Forward, SearchAddress, command_of, Command, Gear, row_after, row_left}
use Rattle.dali_progress.proofs.Below.{draws_needed, Everyone, frame_put, record_ordered, Kept, stage_of, next_stage, GaveUp, Input, Order, Put, Commit, Done}
use Rattle.dali_progress.proofs.Below.{Halt, Record, Reserve, Enrol, Stage, stage_more, stage_none, Search, Again, Found, Nobody, Course, searching_first}
use Rattle.dali_progress.proofs.Below.{closing, after_step, Machine, machine_heard, machine_committed, machine_told, next_course, begins_at, course_on}
use Rattle.dali_progress.proofs.Below.{goes_on_to, at_rest, asked_once, silenced_on, most_silent, unanswered, ungiven, machine_ordered, machine_after}
use Rattle.dali_progress.proofs.Below.{IsAllowed, Purpose, Opening, Probing, Visiting, Closing, Hunting, Fresh, given_by, entry, block_at, is_bare, World}
use Rattle.dali_progress.proofs.{Below.{controller_at, informed_by, world, Succeeds}, Both.{none_apart, never_draws, left_same, opening_none, opening_draws}}
use Rattle.dali_progress.proofs.{Both.{draws_few, is_complete, with_kept, not_failed}, Drawing.Draws, Gives.{bare_fewer, frame_gives}, Later.unasked_but}
use Rattle.dali_progress.proofs.{Later.stays_at, Lone.{due_of, IsDueOf, Moment, acts_by}, Stands.{CloseStage, At, Stands, Sends}, Start.Goes.{Hears, Holds}}
use Rattle.{dali_progress.proofs.Start.{Goes.of_start, Turns.{IsNext, CommitsTo, goes_on_anew}}, dali_search.specs.declared.step.Step.Step}
use Rattle.dali_script.specs.declared.orders.Input.TheVariants as input
use Rattle.dali_script.specs.declared.stage.Stage.TheVariants as stage

-- THE NUMBERS THAT GEAR DRAW: if there is one for each gear at the start, they are never spent. Gear draw once, at the
-- last frame of the one opening.

-- ---------------------------------------------------------------- until they have drawn

-- they have not drawn before the opening, and until it is complete
abbrev pub Undrawn : Option Order → Bool → Stage → Type 0
Undrawn None opened s = Unit {0}
Undrawn (Some (Put p f)) opened s = (opened ≡ false) × (is_complete s ≡ false)
Undrawn (Some (Commit x)) opened s = ⊥
Undrawn (Some (Done e)) opened s = ⊥
Undrawn (Some (Halt w)) opened s = ⊥

abbrev pub UndrawnAt : Machine → Type 0
UndrawnAt m = Undrawn m.last m.course.opened (stage_of m.trace)

-- ---------------------------------------------------------------- the frame that is to be sent

enough_none : (x y : ℕ) → x ≡ 0 → x ≤ y
enough_none x y none = omega (arith, none)

opening_early : (s : Stage) (n : SearchAddress) (k : Kept) (c : Command) → Sends Opening n k s c → is_complete s ≡ false
opening_early stage.Opened n k c is = absurd (cc)
opening_early _ n k c is = refl

draws_enough : (p : Purpose) (s : Stage) (k : Kept) (opened : Bool) (x : Search) (n : SearchAddress) (gs : List Gear) (numbers : List ℕ) (left : ℕ)
    (c : Command) → At p s k opened x n gs left → Sends p n k s c → (opened ≡ false → is_complete s ≡ false → count_by is_bare gs ≤ length numbers)
    → draws_needed Everyone c 0 gs ≤ length numbers
draws_enough Opening s k opened x n gs numbers left c at is has =
    let few = draws_few s c gs (opening_draws s k n gs left c at.1 is) in
    let left = has at.0 (opening_early s n k c is) in omega (arith, few, left)
draws_enough Probing s k opened x n gs numbers left c at is has =
    enough_none (draws_needed Everyone c 0 gs) (length numbers) (none_apart Probing n k s gs c (never_draws Probing n k s tt) is)
draws_enough Visiting s k opened x n gs numbers left c at is has =
    enough_none (draws_needed Everyone c 0 gs) (length numbers) (none_apart Visiting n k s gs c (never_draws Visiting n k s tt) is)
draws_enough (Closing e) s k opened x n gs numbers left c at is has =
    enough_none (draws_needed Everyone c 0 gs) (length numbers) (none_apart (Closing e) n k s gs c (never_draws (Closing e) n k s tt) is)
draws_enough _ s k opened x n gs numbers left c at is has = absurd at

none_drawn : (p : Purpose) (s : Stage) (k : Kept) (opened : Bool) (x : Search) (n : SearchAddress) (gs : List Gear) (left : ℕ) (c : Command) (h : Answer)
    → At p s k opened x n gs left → Sends p n k s c → opened ≡ false → is_complete (next_stage s c h) ≡ false
    → (draws_needed Everyone c 0 gs ≡ 0) × (is_complete s ≡ false)
none_drawn Opening s k opened x n gs left c h at is early closed = (opening_none s k n gs left c h at.1 is closed, opening_early s n k c is)
none_drawn Probing s k opened x n gs left c h at is early closed = absurd (let both : true ≡ false = sym at.0 ∙ early in cc)
none_drawn Visiting s k opened x n gs left c h at is early closed = absurd (let both : true ≡ false = sym at.0 ∙ early in cc)
none_drawn (Closing e) s k opened x n gs left c h at is early closed =
    (none_apart (Closing e) n k s gs c (never_draws (Closing e) n k s tt) is, close_early s at.stage_is)
  where
    close_early : (s : Stage) → CloseStage s → is_complete s ≡ false
    close_early stage.Opened at = absurd at
    close_early _ at = refl
none_drawn _ s k opened x n gs left c h at is early closed = absurd at

-- ---------------------------------------------------------------- the transaction that begins

-- no hunt stands so
never_hunted : (p : Purpose) (s : Stage) (k : Kept) (opened : Bool) (x : Search) (n : SearchAddress) (gs : List Gear) (left : ℕ) (r : SearchAddress)
    (h : Answer) (room : ℕ) → At p s k opened x n gs left → s ≡ stage.Hunted r (Some h) room → ⊥
never_hunted p s k opened x n gs left r h room at is = go p (subst (λ q. At p q k opened x n gs left) is at) where
  go : (p : Purpose) → At p (stage.Hunted r (Some h) room) k opened x n gs left → ⊥
  go Opening at = at.1.stage_is
  go Probing at = at.1.stage_is
  go Visiting at = at.1.stage_is
  go (Closing e) at = at.stage_is
  go _ at = at

-- if gear are searched, they are afterwards
stays_open : (t : Machine) (s : Stage) → t.course.way ≡ Fresh → t.course.opened ≡ true
    → ((r : SearchAddress) (h : Answer) (room : ℕ) → s ≡ stage.Hunted r (Some h) room → ⊥) → (begins_at t s).opened ≡ true
stays_open t s fresh opened never = go s never where
  on : (goes_on_to t).opened ≡ true
  on = ap (λ (c : Course). c.opened) (goes_on_anew t opened fresh)

  first : (searching_first t.course.way t.course).opened ≡ true
  first = ap (λ y. (searching_first y t.course).opened) fresh

  rest : (l : Option Order) → (at_rest t l).opened ≡ true
  rest (Some (Put p f)) = opened
  rest (Some (Commit (Reserve a n))) = opened
  rest _ = on

  once : (b : Bool) → (asked_once t b).opened ≡ true
  once true = on
  once false = opened

  silent : (b : Bool) → (if b then closing t.course GaveUp else silenced_on t t.course.way).opened ≡ true
  silent true = opened
  silent false = ap (λ y. (silenced_on t y).opened) fresh ∙ on

  unheard : (r : SearchAddress) (b : Bool) (x : Option ℕ) → (unanswered t r b x).opened ≡ true
  unheard r false (Some a) = opened
  unheard r false None = silent (t.silent == most_silent t.course.way)
  unheard r true x = silent (t.silent == most_silent t.course.way)

  step : (x : Step) (c : Course) → c.opened ≡ true → (after_step x c).opened ≡ true
  step Again c is = is
  step (Found r) c is = is
  step Nobody c is = is

  go : (s : Stage) → ((r : SearchAddress) (h : Answer) (room : ℕ) → s ≡ stage.Hunted r (Some h) room → ⊥) → (begins_at t s).opened ≡ true
  go stage.Free never = rest t.last
  go stage.Opened never = first
  go stage.DrawBarred never = first
  go (stage.HighAsked a high) never = once (t.asked == 0)
  go (stage.Probed r h) never = step _ _ opened
  go (stage.Hunted r (Some h) room) never = absurd (never r h room refl)
  go (stage.Unnamed r) never = ap (λ y. (ungiven t y).opened) fresh ∙ opened
  go (stage.Unanswered r) never = unheard r t.course.opened _
  go (stage.Inconclusive r other) never = silent (t.silent == most_silent t.course.way)
  go (stage.PassedOver r) never = opened
  go _ never = on

-- once an opening is complete, they are
early_before : (t : Machine) (s : Stage) → t.course.way ≡ Fresh → (begins_at t s).opened ≡ false → is_complete s ≡ false
early_before t stage.Opened fresh is =
    absurd (let opened : (searching_first t.course.way t.course).opened ≡ true = ap (λ y. (searching_first y t.course).opened) fresh in
    let both : true ≡ false = sym opened ∙ is in cc)
early_before t _ fresh is = refl

-- ---------------------------------------------------------------- event by event

heard_undrawn : (before : List Gear) (t : Machine) (o : Order) (gs : List Gear) (left : ℕ) → Stands before t gs left → IsAllowed t o
    → UndrawnAt (machine_ordered t o) → (t.course.opened ≡ false) × (is_complete (stage_of t.trace) ≡ false)
heard_undrawn before t (Put p f) gs left st (inl (first, lawful)) undrawn =
    go t.course.opened refl (subst (λ q. UndrawnAt (machine_ordered t (Put q f))) first undrawn).0 where
      go : (b : Bool) → t.course.opened ≡ b → (next_course t).opened ≡ false → (t.course.opened ≡ false) × (is_complete (stage_of t.trace) ≡ false)
      go true is closed =
          let opened : (next_course t).opened ≡ true =
          stays_open t (stage_of t.trace) st.fresh is (λ r h room e. never_hunted t.course.purpose (stage_of t.trace)
          t.kept t.course.opened t.course.search t.course.number gs left r h room st.at e) in
          absurd (let both : true ≡ false = sym opened ∙ closed in cc)
      go false is closed = (is, early_before t (stage_of t.trace) st.fresh closed)
heard_undrawn before t (Put p f) gs left st (inr (later, runs, lawful)) undrawn =
    let here = subst (λ q. UndrawnAt (machine_ordered t (Put q f))) later undrawn in
    let stays : course_on t (stage_of t.trace) ≡ t.course =
    stays_at t (stage_of t.trace) (unasked_but (stage_of t.trace) t.course.purpose (λ e. never_hunts t.course.purpose st.at e)) in
    (sym (ap (λ (c : Course). c.opened) stays) ∙ here.0, here.1)
  where
    never_hunts : (p : Purpose) → At p (stage_of t.trace) t.kept t.course.opened t.course.search t.course.number gs left → p ≡ Hunting → ⊥
    never_hunts Hunting at e = at
    never_hunts Opening at e = cc
    never_hunts Probing at e = cc
    never_hunts Visiting at e = cc
    never_hunts (Closing x) at e = cc
    never_hunts _ at e = at
heard_undrawn before t (Commit x) gs left st allowed undrawn = absurd undrawn
heard_undrawn before t (Done e) gs left st allowed undrawn = absurd undrawn
heard_undrawn before t (Halt w) gs left st allowed undrawn = absurd undrawn

-- once a record is kept they have drawn
commits_opened : (before : List Gear) (m : Machine) (x : Record) (gs : List Gear) (left : ℕ) → CommitsTo before m x gs left → m.course.opened ≡ true
commits_opened before m (Reserve a r) gs left v = v.opened
commits_opened before m (Enrol b r) gs left v = v.opened
commits_opened before m _ gs left v = absurd v

kept_undrawn : (t : Machine) (o : Order) → t.course.way ≡ Fresh → t.course.opened ≡ true → t.trace ≡ [] → IsAllowed t o → UndrawnAt (machine_ordered t o) → ⊥
kept_undrawn t (Put p f) fresh opened free (inl (first, lawful)) undrawn =
    let at : stage_of t.trace ≡ stage.Free = ap stage_of free ∙ stage_none in
    let here = subst (λ q. UndrawnAt (machine_ordered t (Put q f))) first undrawn in
    let wide : (next_course t).opened ≡ true =
    stays_open t (stage_of t.trace) fresh opened (λ r h room e. (let other : stage.Free ≡ stage.Hunted r (Some h) room = sym at ∙ e in cc)) in
    (let both : true ≡ false = sym wide ∙ here.0 in cc)
kept_undrawn t (Put p f) fresh opened free (inr (later, runs, lawful)) undrawn = runs free
kept_undrawn t (Commit x) fresh opened free allowed undrawn = undrawn
kept_undrawn t (Done e) fresh opened free allowed undrawn = undrawn
kept_undrawn t (Halt w) fresh opened free allowed undrawn = undrawn

-- THERE IS A NUMBER FOR EACH GEAR WITHOUT SHORT ADDRESS, while they have not drawn
abbrev pub LeavesDraws : Machine → List Gear → List ℕ → Type 0
LeavesDraws m gs numbers = UndrawnAt m → count_by is_bare gs ≤ length numbers

undrawn_last : (t : Machine) (l : Option Order) → t.last ≡ l → Undrawn l t.course.opened (stage_of t.trace) → UndrawnAt t
undrawn_last t l is undrawn = subst (λ k. Undrawn k t.course.opened (stage_of t.trace)) (sym is) undrawn

acts_has : (before : List Gear) (w : World) (q c : ℕ) (m : Machine) (out : Option Record) (last : Option Order) (told : Option Input) (i : Input) (o : Order)
    (gs : List Gear) (numbers : List ℕ) (left : ℕ) → Moment w q c m out last told → m.last ≡ last → IsDueOf last told i → Succeeds false i
    → IsAllowed (machine_told m i) o → Holds before m last told gs left → LeavesDraws (informed_by m told) gs numbers
    → LeavesDraws (machine_after m i o) gs numbers
acts_has before w q c m out last told i o gs numbers left at is due good allowed holds has =
    acts_by false (λ k t j. Moment w q c m out k t → m.last ≡ k → IsAllowed (machine_told m j) o → Holds before m k t gs left
    → LeavesDraws (informed_by m t) gs numbers
    → LeavesDraws (machine_after m j o) gs numbers) (λ at is allowed holds has undrawn. has (undrawn_last m None is tt))
    heard keeps w q c m out last told i at due good at is allowed holds has
  where
    heard : (p : ℕ) (f : Forward) (h : Answer) → Moment w q c m out (Some (Put p f)) (Some (input.Heard h)) → m.last ≡ Some (Put p f)
        → IsAllowed (machine_told m (input.Heard h)) o → Hears before m f h gs left → LeavesDraws (informed_by m (Some (input.Heard h))) gs numbers
        → LeavesDraws (machine_after m (input.Heard h) o) gs numbers
    heard p f h at is allowed holds has undrawn =
        let told : machine_told m (input.Heard h) ≡ machine_heard m (Some f) h = ap (λ x. machine_heard m (frame_put x) h) is in
        let stands : Stands before (machine_told m (input.Heard h)) gs left = subst (λ t. Stands before t gs left) (sym told) holds.stands in
        has (undrawn_last (machine_told m (input.Heard h)) (Some (Put p f)) (ap (λ (t : Machine). t.last) told ∙ is)
        (heard_undrawn before (machine_told m (input.Heard h)) o gs left stands allowed undrawn))

    keeps : (x : Record) → Moment w q c m out (Some (Commit x)) None → m.last ≡ Some (Commit x) → IsAllowed (machine_told m input.Committed) o
        → Holds before m (Some (Commit x)) None gs left → LeavesDraws (informed_by m None) gs numbers
        → LeavesDraws (machine_after m input.Committed o) gs numbers
    keeps x at is allowed holds has undrawn =
        let told : machine_told m input.Committed ≡ with_kept m x = ap (λ l. machine_committed m (record_ordered l)) is in
        absurd (kept_undrawn (with_kept m x) o holds.0.fresh (commits_opened before m x gs left holds.1) at.1 (subst (λ t. IsAllowed t o) told allowed)
        (subst (λ t. UndrawnAt (machine_ordered t o)) told undrawn))

has_heard : (m : Machine) (p : ℕ) (f : Forward) (h : Answer) (before : List Gear) (gs : List Gear) (numbers : List ℕ) (left : ℕ) → m.last ≡ Some (Put p f)
    → count_by is_bare (row_after Everyone (command_of f) 0 gs numbers) ≤ count_by is_bare gs → IsNext before m (Put p f) gs left → LeavesDraws m gs numbers
    → LeavesDraws (machine_told m (input.Heard h)) (row_after Everyone (command_of f) 0 gs numbers) (row_left Everyone (command_of f) 0 gs numbers)
has_heard m p f h before gs numbers left last fewer next has =
    subst (λ t. LeavesDraws t (row_after Everyone (command_of f) 0 gs numbers) (row_left Everyone (command_of f) 0 gs numbers))
    (sym (ap (λ l. machine_heard m (frame_put l) h) last)) go
  where
    go : LeavesDraws (machine_heard m (Some f) h) (row_after Everyone (command_of f) 0 gs numbers) (row_left Everyone (command_of f) 0 gs numbers)
    go undrawn =
        let now = subst (λ l. Undrawn l m.course.opened (stage_of (m.trace ++ entry f h ∷ []))) last undrawn in
        let none = none_drawn m.course.purpose (stage_of m.trace) m.kept m.course.opened m.course.search m.course.number gs left (command_of f) h next.0.at
        next.1 now.0 (subst (λ s. is_complete s ≡ false) (stage_more m.trace (entry f h)) now.1) in
        let enough : count_by is_bare gs ≤ length numbers = has (undrawn_last m (Some (Put p f)) last (now.0, none.1)) in
        rw (left_same Everyone (command_of f) 0 gs numbers none.0) (omega (arith, fewer, enough))

-- so they are never spent
pub start_draws : (before : List Gear) → Draws (of_start before) LeavesDraws
start_draws before = record {
  stays = record {
    acts = λ s c left l i o u here good given holds has.
        acts_has before (world s) s.queue c u.machine (controller_at (world s) c).outstanding (controller_at (world s) c).last
        (controller_at (world s) c).told i o (world s).gear (world s).left left u.goes.lone.moment u.goes.lone.last
        (due_of (controller_at (world s) c) i here.due) good (given_by u.machine i o (not_failed false i good) given).ordered.allowed u.goes.holds has;
    sends = λ s c left rest p f h u here heard last holds now has. has_heard u.machine p f h before (world s).gear (world s).left left last
        (bare_fewer (block_at s.plan c) (world s).gear (row_after Everyone (command_of f) 0 (world s).gear (world s).left) (frame_gives s c f h u.run here))
        holds has;
  };
  enough = λ m p f gs numbers left last holds has.
      draws_enough m.course.purpose (stage_of m.trace) m.kept m.course.opened m.course.search m.course.number gs numbers left (command_of f) holds.0.at holds.1
      (λ early before_it. has (undrawn_last m (Some (Put p f)) last (early, before_it)));
}
