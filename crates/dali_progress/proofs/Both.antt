use Rattle.dali_progress.proofs.Below.{◌≡◌, ℕ, ◌+◌, ◌<◌, ◌≤◌, ◌⊎◌, inl, inr, Bool, true, false, suc, List, [], ◌∷◌, ◌++◌, refl, sym, ap, subst, ◌∙◌, arith}
use Rattle.dali_progress.proofs.Below.{Option, Some, None, if◌then◌else◌, ◌&&◌, IfSome, ◌==◌, sum_by-cons, count_by, value_of, MASK24, Answer, Silence, Byte}
use Rattle.dali_progress.proofs.Below.{Damaged, Forward, SearchAddress, command_of, Command, Arc, Terminate, Initialise, Randomise, Compare, SearchHigh}
use Rattle.dali_progress.proofs.Below.{SearchMiddle, SearchLow, Program, Unaddressed, Gear, draws_a_number, answers_of, heard_of, drawn_of, takes, left_after}
use Rattle.dali_progress.proofs.Below.{row_left, draws_needed, Reach, Everyone, needs_none, finding_of, Assignment, Kept, Has, HasAddress, HasRandom}
use Rattle.dali_progress.proofs.Below.{with_record, IsMap, Lawful, IsLawful, stage_of, next_stage, finding_at, End, Input, Order, Put, Commit, Done, Halt}
use Rattle.dali_progress.proofs.Below.{Record, Reserve, Enrol, Release, Stage, Entry, free_is_empty, has_map, has_last, has_left, has_right, same_member}
use Rattle.dali_progress.proofs.Below.{sought, byte_to_send, call_turn, turn_of, first_of, closing_of, Machine, tries_after, beginning, next_course}
use Rattle.dali_progress.proofs.Below.{IsAddressing, Purpose, Opening, Probing, Visiting, Closing, Hunting, Calling, PassingOver, Asking, Resolving, Drawing}
use Rattle.dali_progress.proofs.Below.{IsNoEnrolment, IsGivenBy, Allowed, happens, is_arc, trace_running, AreDrawn, IsRun, Seek, OfPowered, is_bare, IsOpened}
use Rattle.dali_progress.proofs.Below.{NoneNamed, wants, is_wanted, World, controller_at, lawful_of, gear_are_searched, opened_apart, AreOpening, SiteState}
use Rattle.dali_progress.proofs.{Below.{world, site_logged, Succeeds}, Frames.{IsTaken, value_sought}, Logged.{drawn_now, world_logged, run_logged}}
use Rattle.dali_progress.proofs.{Lone.Addresses, Stands.{Opens, Sends, AsksBy, Visits, VisitFrames, search_frames, CloseStage}, Tables.StandsStill}
use Rattle.{dali_progress.proofs.Tables.{still_twice, LeavesNames}, dali_events.specs.Searching.number_at}
use Rattle.dali_script.specs.declared.orders.Input.TheVariants as input
use Rattle.dali_script.specs.declared.stage.Stage.TheVariants as stage
use Rattle.dali_controller.proofs.Given as given
use Rattle.dali_events.specs.declared.event.Event.TheVariants as event

-- WHAT BOTH ARGUMENTS USE, of a start and of a survey.

-- ---------------------------------------------------------------- records and orders

pub never_eight : (n : ℕ) → n ≡ 0 → n ≡ 8 → ⊥
never_eight n none e = omega (arith, none, e)

-- the number of a search address that is a random address
pub drawn_number : (n : SearchAddress) (r : ℕ) → n ≡ sought r → r < MASK24 → value_of n < MASK24
drawn_number n r is drawn = subst (λ m. m < MASK24) (sym (ap value_of is ∙ value_sought r)) drawn

pub has_random : (xs : List Assignment) (a n : ℕ) → Has xs (a, n) → HasRandom xs n
has_random xs a n has = has_map (λ (q : Assignment). q.1) xs (a, n) has

pub has_address : (xs : List Assignment) (a n : ℕ) → Has xs (a, n) → HasAddress xs a
has_address xs a n has = has_map (λ (q : Assignment). q.0) xs (a, n) has

no_enrolment : (a r : ℕ) (last : Option Order) → last ≡ Some (Commit (Reserve a r)) → IsNoEnrolment last
no_enrolment a r last is b n e = let other : Some (Commit (Reserve a r)) ≡ Some (Commit (Enrol b n)) = sym is ∙ e in cc

pub no_enrolment_now : (a r : ℕ) (last : Option Order) → last ≡ Some (Commit (Release a r)) → IsNoEnrolment last
no_enrolment_now a r last is b n e = let other : Some (Commit (Release a r)) ≡ Some (Commit (Enrol b n)) = sym is ∙ e in cc

pub no_enrolment_yet : (last : Option Order) → last ≡ None → IsNoEnrolment last
no_enrolment_yet last none b n e = let other : None ≡ Some (Commit (Enrol b n)) = sym none ∙ e in cc

-- with its record
abbrev pub with_kept : Machine → Record → Machine
with_kept m x = record m { kept = with_record m.kept x }

-- a visit begins once an address is reserved
pub reserved_begins : (m : Machine) (a r : ℕ) (o : Order) → m.tries ≡ 0 → m.trace ≡ [] → m.last ≡ Some (Commit (Reserve a r))
    → IsGivenBy (with_kept m (Reserve a r)) o → o ≡ beginning (next_course (with_kept m (Reserve a r)))
reserved_begins m a r o tries free last by = given.begins_free (with_kept m (Reserve a r)) o by free (no_enrolment a r m.last last) (never_eight m.tries tries)

-- and another transaction once an entry is kept
pub enrolled_begins : (m : Machine) (b r : ℕ) (o : Order) → Has m.kept.reserved (b, r) → m.trace ≡ [] → m.last ≡ Some (Commit (Enrol b r))
    → IsMap m.kept.reserved → IsGivenBy (with_kept m (Enrol b r)) o → o ≡ beginning (next_course (with_kept m (Enrol b r)))
enrolled_begins m b r o reserved free last map by =
    given.enrolled (with_kept m (Enrol b r)) o b r by last free
    (λ a has. ap (λ (q : Assignment). q.0) (same_member (λ (q : Assignment). q.1) m.kept.reserved (a, r) (b, r) map.random_once has reserved refl))

pub entry_last : (xs : List Assignment) (y x : Assignment) → Has (y ∷ xs) x → Has (xs ++ y ∷ []) x
entry_last xs y x (inl same) = subst (Has (xs ++ y ∷ [])) same (has_last xs y)
entry_last xs y x (inr has) = has_left xs (y ∷ []) x has

pub entry_twice : (xs : List Assignment) (y : Assignment) → Has xs y → (x : Assignment) → Has (y ∷ xs) x → Has xs x
entry_twice xs y has x (inl same) = subst (Has xs) same has
entry_twice xs y has x (inr h) = h

pub put_no_enrolment : (p : ℕ) (f : Forward) (last : Option Order) → last ≡ Some (Put p f) → IsNoEnrolment last
put_no_enrolment p f last is b n e = let other : Some (Put p f) ≡ Some (Commit (Enrol b n)) = sym is ∙ e in cc

pub addresses_by : (o : Order) → IsAddressing o → Addresses (Some o)
addresses_by (Put p f) addressing = go (command_of f) refl where
  go : (d : Command) → command_of f ≡ d → is_arc d ≡ false
  go (Arc x) e = absurd (addressing x e)
  go _ e = refl
addresses_by (Commit x) addressing = tt
addresses_by (Done e) addressing = tt
addresses_by (Halt why) addressing = tt

pub not_failed : (by : Bool) (i : Input) → Succeeds by i → i ≡ input.CommitFailed → ⊥
not_failed by i good e = subst (Succeeds by) e good

pub no_tries : (complete : Bool) (n : ℕ) → n ≡ 0 → tries_after complete n ≡ 0
no_tries true n is = refl
no_tries false n is = is

pub not_free : (t : List Entry) (x : Entry) → stage_of (t ++ x ∷ []) ≡ stage.Free → ⊥
not_free t x e = go t (free_is_empty (t ++ x ∷ []) e) where
  go : (t : List Entry) → t ++ x ∷ [] ≡ [] → ⊥
  go [] e = cc
  go (y ∷ t) e = cc

-- ---------------------------------------------------------------- a frame that is sent

-- what is known of a frame that is allowed, in a run
pub record IsKnown (w : World) (c : ℕ) (f : Forward) (h : Answer) : Type 0 where
  pub drawn : AreDrawn w
  pub after : AreDrawn (happens w (event.Sent c f h))
  pub seeks : (r : SearchAddress) → number_at (stage_of w.trace) ≡ Some r → Seek w.gear r

pub known_sent : (s : SiteState) (d : ℕ) (f : Forward) (h : Answer) → IsRun s.plan s.queue s.log → Allowed (world s) (event.Sent d f h)
    → IsRun s.plan s.queue (site_logged s (event.Sent d f h)).log × IsKnown (world s) d f h
known_sent s d f h run here =
    let now = run_logged s (event.Sent d f h) run here (λ e i a n has. cc) in (
      now,
      record {
        drawn = drawn_now s run;
        after = subst AreDrawn (world_logged s (event.Sent d f h)) (drawn_now (site_logged s (event.Sent d f h)) now);
        seeks = λ n at. gear_are_searched s.plan s.queue s.log n run at;
      },
    )

pub lawful_now : (w : World) (c : ℕ) (t : List Entry) (f : Forward) (h : Answer) → trace_running w c ≡ t → Allowed w (event.Sent c f h) → IsLawful t f
lawful_now w c t f h is here = (
  (controller_at w c).records.block,
  (controller_at w c).records.reserved,
  subst (λ e. Lawful (controller_at w c).records.block (controller_at w c).records.reserved e f) is (lawful_of w c f here.may),
)

pub taken_of : (w : World) (c : ℕ) (f : Forward) (h : Answer) → Allowed w (event.Sent c f h) → IsKnown w c f h
    → h ≡ heard_of (answers_of Everyone (command_of f) 0 w.gear) → IsTaken (command_of f) w.gear w.left h
taken_of w c f h here known heard = record {
  heard = heard;
  enough = here.draws;
  below = λ x has. known.after.below x.0 x.1 (has_right w.drawn (drawn_of Everyone (command_of f) 0 w.gear w.left) x has);
  apart = opened_apart w known.drawn;
}

-- ---------------------------------------------------------------- a close is over

pub close_ends : (t : Machine) (o : Order) (e : End) (s : Stage) → IsGivenBy t o → t.course.purpose ≡ Closing e → stage_of t.trace ≡ s → (s ≡ stage.Free → ⊥)
    → CloseStage s → finding_of t.trace ≡ finding_at s → t.tries ≡ 0 → o ≡ Done e
close_ends t o e stage.Free by purpose is running closes found tries = absurd (running refl)
close_ends t o e stage.Terminated by purpose is running closes found tries = given.closed t o e by (ap closing_of purpose) is found (never_eight t.tries tries)
close_ends t o e _ by purpose is running closes found tries = absurd closes

-- ---------------------------------------------------------------- a visit begins

pub visits_first : (k : Kept) (r more : ℕ) (gs : List Gear) (left : ℕ) → IsOpened gs → NoneNamed gs → wants gs r ≡ true → r < MASK24
    → count_by is_wanted gs ≡ suc more → VisitFrames k (sought r) more (left + 0) → Visits stage.Free k (sought r) gs left
visits_first k r more gs left ready unnamed wants_it drawn count frames = record {
  stage_is = tt;
  searched = tt;
  ready = ready;
  unnamed = unnamed;
  more = more;
  visited = record { wanted = subst (λ n. wants gs n ≡ true) (sym (value_sought r)) wants_it; number = r; number_is = refl; drawn = drawn; count = count };
  frames = frames;
}

-- once an address is reserved
pub frames_reserved : (k : Kept) (a r more left : ℕ) → 7 + search_frames more ≤ left → VisitFrames (with_record k (Reserve a r)) (sought r) more (left + 0)
frames_reserved k a r more left enough = inl (
  subst (HasRandom (k.reserved ++ (a, r) ∷ [])) (sym (value_sought r)) (has_random (k.reserved ++ (a, r) ∷ []) a r (has_last k.reserved (a, r))),
  omega (arith, enough),
)

-- ---------------------------------------------------------------- the numbers that gear draw

-- if none is drawn, all are left
pub left_same : (reach : Reach) (c : Command) (k : ℕ) (gs : List Gear) (left : List ℕ) → draws_needed reach c k gs ≡ 0 → row_left reach c k gs left ≡ left
left_same reach c k [] left none = refl
left_same reach c k (g ∷ gs) left none = go (takes reach k g && draws_a_number c g) none (λ more. left_same reach c (k + 1) gs left more) where
  go : (b : Bool) → (if b then 1 else 0) + draws_needed reach c (k + 1) gs ≡ 0 → (draws_needed reach c (k + 1) gs ≡ 0 → row_left reach c (k + 1) gs left ≡ left)
      → row_left reach c (k + 1) gs (left_after b left) ≡ left
  go true none same = absurd (omega (arith, none))
  go false none same = same (omega (arith, none))

-- no gear draws at a first RANDOMISE
one_first : (k : ℕ) (g : Gear) → (g.powered ≡ true → g.half ≡ None) → (takes Everyone k g && draws_a_number Randomise g) ≡ false
one_first k g half = go (g.powered) refl where
  go : (b : Bool) → g.powered ≡ b → (takes Everyone k g && draws_a_number Randomise g) ≡ false
  go true on = rw (on, half on) refl
  go false off = rw off refl

pub none_first : (k : ℕ) (gs : List Gear) → AreOpening stage.Initialised gs → draws_needed Everyone Randomise k gs ≡ 0
none_first k [] all = refl
none_first k (g ∷ gs) all =
    sum (takes Everyone k g && draws_a_number Randomise g) (draws_needed Everyone Randomise (k + 1) gs) (one_first k g (λ on. (all 0 (omega arith) on).0))
    (none_first (k + 1) gs (λ j in_row on. all (suc j) (omega (arith, in_row)) on)) where
      sum : (b : Bool) (n : ℕ) → b ≡ false → n ≡ 0 → (if b then 1 else 0) + n ≡ 0
      sum true n first more = absurd (cc)
      sum false n first more = omega (arith, more)

-- ---------------------------------------------------------------- which commands are sent

-- a transaction at which no gear draw
abbrev pub IsDry : Purpose → Type 0
IsDry Opening = ⊥
IsDry Drawing = ⊥
IsDry _ = Unit {0}

byte_names : (n r : SearchAddress) → LeavesNames (byte_to_send n r)
byte_names n r = go (r.high == n.high) (r.low == n.low) (r.middle == n.middle) where
  go : (a b m : Bool) → LeavesNames (if a then (if b then (if m then Compare else SearchMiddle n.middle) else SearchLow n.low) else SearchHigh n.high)
  go false b m = tt
  go true false m = tt
  go true true false = tt
  go true true true = tt

called_names : (last : Option Answer) (left : ℕ) → IfSome (call_turn last left) LeavesNames
called_names None left = tt
called_names (Some Silence) left = go (left == 1) where
  go : (b : Bool) → IfSome (if b then Some Compare else None) LeavesNames
  go true = tt
  go false = tt
called_names (Some (Byte v)) left = tt
called_names (Some Damaged) left = tt

turn_names : (p : Purpose) (n : SearchAddress) (s : Stage) → IsDry p → IfSome (turn_of p n s) LeavesNames
turn_names Hunting n (stage.Hunted r None left) dry = byte_names n r
turn_names Hunting n (stage.Hunted r (Some h) left) dry = tt
turn_names Calling n (stage.Hunted r last left) dry = called_names last left
turn_names (Asking a) n (stage.HighAsked b None) dry = tt
turn_names (Asking a) n (stage.HighAsked b (Some v)) dry = tt
turn_names (Asking a) n (stage.MiddleAsked b None) dry = tt
turn_names (Asking a) n (stage.MiddleAsked b (Some x)) dry = tt
turn_names Opening n s dry = absurd dry
turn_names Drawing n s dry = absurd dry
turn_names Probing n stage.Free dry = tt
turn_names Probing n _ dry = tt
turn_names Hunting n _ dry = tt
turn_names Visiting n stage.Free dry = tt
turn_names Visiting n _ dry = tt
turn_names PassingOver n stage.Free dry = tt
turn_names PassingOver n _ dry = tt
turn_names Calling n _ dry = tt
turn_names (Asking a) n _ dry = tt
turn_names (Resolving a) n stage.Free dry = tt
turn_names (Resolving a) n _ dry = tt
turn_names (Closing e) n stage.Free dry = tt
turn_names (Closing e) n _ dry = tt

first_names : (p : Purpose) (n : SearchAddress) → LeavesNames (first_of p n)
first_names Opening n = tt
first_names _ n = tt

some_names : (o : Option Command) (c : Command) → IfSome o LeavesNames → o ≡ Some c → LeavesNames c
some_names o c all is = subst (λ x. IfSome x LeavesNames) is all

asked_names : (p : Purpose) (n r : SearchAddress) (last : Option Answer) (left : ℕ) (c : Command) → AsksBy p n r last left c → LeavesNames c
asked_names Hunting n r last left c is = subst LeavesNames (sym is) (byte_names n r)
asked_names Calling n r last left c is = some_names (call_turn last left) c (called_names last left) is
asked_names _ n r last left c is = absurd is

pub is_unnamed : (s : Stage) → ((r : SearchAddress) × (s ≡ stage.Unnamed r)) ⊎ ((r : SearchAddress) → s ≡ stage.Unnamed r → ⊥)
is_unnamed (stage.Unnamed r) = inl (r, refl)
is_unnamed _ = inr (λ r e. cc)

-- it leaves numbers and short addresses, unless an address is programmed
pub names_sent : (p : Purpose) (n : SearchAddress) (k : Kept) (s : Stage) (c : Command) → IsDry p → ((r : SearchAddress) → s ≡ stage.Unnamed r → ⊥)
    → Sends p n k s c → LeavesNames c
names_sent p n k stage.Free c dry other is = subst LeavesNames (sym is) (first_names p n)
names_sent p n k (stage.Unnamed r) c dry other is = absurd (other r refl)
names_sent p n k (stage.Hunted r last left) c dry other is = asked_names p n r last left c is
names_sent p n k s c dry other is = some_names (turn_of p n s) c (turn_names p n s dry) is

pub never_draws : (p : Purpose) (n : SearchAddress) (k : Kept) (s : Stage) → IsDry p → Sends p n k s Randomise → ⊥
never_draws p n k s dry is = go (is_unnamed s) where
  go : ((r : SearchAddress) × (s ≡ stage.Unnamed r)) ⊎ ((r : SearchAddress) → s ≡ stage.Unnamed r → ⊥) → ⊥
  go (inl (r, at)) = let given = subst (λ q. Sends p n k q Randomise) at is in let never : Randomise ≡ Program (Some given.0) = given.3 in cc
  go (inr other) = names_sent p n k s Randomise dry other is

-- only an opening draws
pub none_apart : (p : Purpose) (n : SearchAddress) (k : Kept) (s : Stage) (gs : List Gear) (c : Command) → (Sends p n k s Randomise → ⊥) → Sends p n k s c
    → draws_needed Everyone c 0 gs ≡ 0
none_apart p n k s gs c never is = needs_none Everyone c 0 gs (λ e. never (subst (λ d. Sends p n k s d) e is))

-- whether an opening is complete
abbrev pub is_complete : Stage → Bool
is_complete stage.Opened = true
is_complete _ = false

-- gear draw at the last frame of an opening alone, and then those alone that have no short address
abbrev pub DrawsOnce : Stage → Command → List Gear → Type 0
DrawsOnce s c gs = (draws_needed Everyone c 0 gs ≡ 0) ⊎ ((s ≡ stage.RandomisedOnce) × (c ≡ Randomise) × AreOpening stage.RandomisedOnce gs)

needs_bare : (k : ℕ) (gs : List Gear) → OfPowered gs StandsStill → draws_needed Everyone Randomise k gs ≤ count_by is_bare gs
needs_bare k [] still = omega arith
needs_bare k (g ∷ gs) still =
    subst (λ n. draws_needed Everyone Randomise k (g ∷ gs) ≤ n) (sym (sum_by-cons (λ x. if is_bare x then 1 else 0) g gs))
    (more (takes Everyone k g && draws_a_number Randomise g) (is_bare g) (draws_needed Everyone Randomise (k + 1) gs) (count_by is_bare gs)
    (one g.powered refl g.short refl (still 0 (omega arith))) (needs_bare (k + 1) gs (λ j there. still (suc j) (omega (arith, there)))))
  where
    more : (a b : Bool) (m n : ℕ) → (a ≡ true → b ≡ true) → m ≤ n → (if a then 1 else 0) + m ≤ (if b then 1 else 0) + n
    more true true m n pass few = omega (arith, few)
    more true false m n pass few = absurd (let both : false ≡ true = pass refl in cc)
    more false true m n pass few = omega (arith, few)
    more false false m n pass few = omega (arith, few)

    one : (p : Bool) → g.powered ≡ p → (o : Option ℕ) → g.short ≡ o → (g.powered ≡ true → StandsStill g)
        → (takes Everyone k g && draws_a_number Randomise g) ≡ true → is_bare g ≡ true
    one false off o short stands is = absurd (let never : false ≡ true = subst (λ p. ((p && true) && draws_a_number Randomise g) ≡ true) off is in cc)
    one true on None short stands is = rw (on, short) refl
    one true on (Some a) short stands is =
        absurd (let still : draws_a_number Randomise g ≡ false = stands on a short in
        let none : (takes Everyone k g && false) ≡ true = subst (λ b. (takes Everyone k g && b) ≡ true) still is in never (takes Everyone k g) none)
      where
        never : (t : Bool) → (t && false) ≡ true → ⊥
        never true e = cc
        never false e = cc

pub draws_few : (s : Stage) (c : Command) (gs : List Gear) → DrawsOnce s c gs → draws_needed Everyone c 0 gs ≤ count_by is_bare gs
draws_few s c gs (inl none) = omega (arith, none)
draws_few s c gs (inr (at, is, gear)) = subst (λ d. draws_needed Everyone d 0 gs ≤ count_by is_bare gs) (sym is) (needs_bare 0 gs (still_twice gs gear))

-- so if the opening is still not complete, none was drawn
pub closed_none : (s : Stage) (c : Command) (h : Answer) (gs : List Gear) → DrawsOnce s c gs → is_complete (next_stage s c h) ≡ false
    → draws_needed Everyone c 0 gs ≡ 0
closed_none s c h gs (inl none) closed = none
closed_none s c h gs (inr (at, is, gear)) closed =
    absurd (let both : true ≡ false =
    subst (λ d. is_complete (next_stage stage.RandomisedOnce d h) ≡ false) is (subst (λ t. is_complete (next_stage t c h) ≡ false) at closed) in cc)

pub opening_draws : (s : Stage) (k : Kept) (n : SearchAddress) (gs : List Gear) (left : ℕ) (c : Command) → Opens s gs left → Sends Opening n k s c
    → DrawsOnce s c gs
opening_draws stage.Free k n gs left c o is = inl (needs_none Everyone c 0 gs (λ e. (let other : Terminate ≡ Randomise = sym is ∙ e in cc)))
opening_draws stage.Terminated k n gs left c o is =
    inl (needs_none Everyone c 0 gs (λ e. (let other : Some (Initialise Unaddressed) ≡ Some Randomise =
    subst (λ d. Some (Initialise Unaddressed) ≡ Some d) e is in cc)))
opening_draws stage.InitialisedOnce k n gs left c o is =
    inl (needs_none Everyone c 0 gs (λ e. (let other : Some (Initialise Unaddressed) ≡ Some Randomise =
    subst (λ d. Some (Initialise Unaddressed) ≡ Some d) e is in cc)))
opening_draws stage.Initialised k n gs left c o is =
    let same : Randomise ≡ c = cc in
    inl (subst (λ d. draws_needed Everyone d 0 gs ≡ 0) same (none_first 0 gs o.gear))
opening_draws stage.RandomisedOnce k n gs left c o is = inr (refl, (let same : c ≡ Randomise = cc in same), o.gear)
opening_draws stage.Opened k n gs left c o is = absurd (cc)
opening_draws _ k n gs left c o is = absurd o.stage_is

pub opening_none : (s : Stage) (k : Kept) (n : SearchAddress) (gs : List Gear) (left : ℕ) (c : Command) (h : Answer) → Opens s gs left → Sends Opening n k s c
    → is_complete (next_stage s c h) ≡ false → draws_needed Everyone c 0 gs ≡ 0
opening_none s k n gs left c h o is closed = closed_none s c h gs (opening_draws s k n gs left c o is) closed
