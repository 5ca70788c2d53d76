use Rattle.dali_progress.proofs.Below.{◌≡◌, ℕ, ◌+◌, ◌*◌, ◌-◌, ◌<◌, ◌≤◌, ◌⊎◌, inl, inr, Bool, true, false, zero, suc, List, [], ◌∷◌, ◌++◌, refl, sym, ap, subst}
use Rattle.dali_progress.proofs.Below.{◌∙◌, arith, length, length-append, nat_lt, Some, None, ◌==◌, if◌then◌else◌, nat_tests, count_by, LATER, value_of, MASK24}
use Rattle.dali_progress.proofs.Below.{SearchAddress, command_of, frame_of, IsSpelled, Command, Program, read_written, Gear, fresh, finding_of, Assignment}
use Rattle.dali_progress.proofs.Below.{Kept, Has, HasRandom, IsKept, IsMap, with_record, IsTrace, stage_of, finding_at, End, BlockFull, Order, Put, Commit}
use Rattle.dali_progress.proofs.Below.{Done, Halt, Record, Reserve, Enrol, Stage, trace_none, has_cases, has_left, same_member, stage_none, Search, Agrees}
use Rattle.dali_progress.proofs.Below.{Says, NumberOf, lowest, highest, answered, step_between, IsNarrowing, Again, Found, Nobody, agrees_more, Course}
use Rattle.dali_progress.proofs.Below.{first_of, turn_of, is_yes, closing_of, searching_anew, visiting, probed, after_step, closing as closing_by}
use Rattle.dali_progress.proofs.Below.{opening as opening_of, unfinished_at, unfinished_among, visit_or_opening, going_on, searching_first, searching_on}
use Rattle.dali_progress.proofs.Below.{Machine, next_course, begins_at, at_rest, beginning, goes_on_to, ungiven, machine_ordered, Contradicts, AfterFinding}
use Rattle.dali_progress.proofs.Below.{Purpose, Opening, Probing, Visiting, Closing, Fresh, keeps_fresh, goes_on_fresh, IsGivenBy, IsNoEnrolment, HasShort}
use Rattle.dali_progress.proofs.{Below.{is_wanted, wants, is_bare, OfPowered, IsOpened, NoneNamed, EndsWell, AreTabled}, Both.{with_kept, never_eight}}
use Rattle.dali_progress.proofs.Both.{drawn_number, has_address, entry_last, visits_first, frames_reserved, enrolled_begins, reserved_begins, no_enrolment_yet}
use Rattle.dali_progress.proofs.{Both.entry_twice, Frames.{nobody_short, nobody_wanted}, Later.{IsUnasked, later_leaves, turn_unasked}, Stands.to_come}
use Rattle.dali_progress.proofs.Stands.{search_frames, probe_frames, Opens, Probes, VisitFrames, Visits, Leaves, VisitsAt, Closes, At, IsWithin, Stands, Sends}
use Rattle.{dali_progress.proofs.Tables.tabled_over, dali_search.specs.declared.step.Step.Step}
use Rattle.dali_script.specs.declared.stage.Stage.TheVariants as stage
use Rattle.dali_search.proofs.Answered as searching
use Rattle.dali_controller.proofs.Given as given
use Rattle.dali_events.proofs.Search.Opened as opening
use Rattle.dali_events.proofs.Search.Wanted as wanted

-- A CONTROLLER ACTS on what it was told, and what it orders goes on with the commissioning.

-- what every machine has that is not disturbed
pub record IsUndisturbed (m : Machine) : Type 0 where
  pub tries : m.tries ≡ 0
  pub fresh : m.course.way ≡ Fresh
  pub silent : m.silent ≡ 0
  pub within : IsWithin m.kept

-- a reservation is to be kept, and then its gear is visited once more
pub record Reserves (before : List Gear) (m : Machine) (r : ℕ) (gs : List Gear) (left : ℕ) : Type 0 where
  pub opened : m.course.opened ≡ true
  pub ready : IsOpened gs
  pub unnamed : NoneNamed gs
  pub wanted : wants gs r ≡ true
  pub drawn : r < MASK24
  pub more : ℕ
  pub count : count_by is_wanted gs ≡ suc more
  pub tabled : AreTabled before m.kept.enrolled gs
  pub frames : 7 + search_frames more ≤ left

-- an enrolment is to be kept, and then a new search begins
pub record Enrols (before : List Gear) (m : Machine) (b r : ℕ) (gs : List Gear) (left : ℕ) : Type 0 where
  pub opened : m.course.opened ≡ true
  pub ready : IsOpened gs
  pub unnamed : NoneNamed gs
  pub reserved : Has m.kept.reserved (b, r)
  pub tabled : AreTabled before ((b, r) ∷ m.kept.enrolled) gs
  pub frames : search_frames (count_by is_wanted gs) ≤ left

abbrev pub CommitsTo : List Gear → Machine → Record → List Gear → ℕ → Type 0
CommitsTo before m (Reserve a r) gs left = Reserves before m r gs left
CommitsTo before m (Enrol b r) gs left = Enrols before m b r gs left
CommitsTo before m _ gs left = ⊥

-- what is to come of an order
abbrev pub IsNext : List Gear → Machine → Order → List Gear → ℕ → Type 0
IsNext before m (Put p f) gs left = Stands before m gs left × Sends m.course.purpose m.course.number m.kept (stage_of m.trace) (command_of f)
IsNext before m (Commit x) gs left = IsUndisturbed m × CommitsTo before m x gs left
IsNext before m (Done e) gs left = EndsWell e m.kept gs × AreTabled before m.kept.enrolled gs
IsNext before m (Halt why) gs left = ⊥

abbrev pub GoesTo : List Gear → Machine → Order → List Gear → ℕ → Type 0
GoesTo before t o gs left = IsNext before (machine_ordered t o) o gs left

calm_of : (before : List Gear) (t : Machine) (gs : List Gear) (left : ℕ) → Stands before t gs left → IsUndisturbed t
calm_of before t gs left st = record { tries = st.tries; fresh = st.fresh; silent = st.silent; within = st.within }

-- ---------------------------------------------------------------- a later frame, and a first one

goes_later : (before : List Gear) (t : Machine) (o : Order) (s : Stage) (c : Command) (gs : List Gear) (left : ℕ) → Stands before t gs left
    → stage_of t.trace ≡ s → IsUnasked s t.course.purpose → o ≡ Put LATER (frame_of c) → IsSpelled c
    → Sends t.course.purpose t.course.number t.kept (stage_of t.trace) c → GoesTo before t o gs left
goes_later before t o s c gs left st at unasked is spelled sends =
    subst (λ q. GoesTo before t q gs left) (sym is) (subst (λ m. IsNext before m (Put LATER (frame_of c)) gs left)
    (sym (later_leaves t (frame_of c) s at unasked)) (
      record { tries = st.tries; fresh = st.fresh; silent = st.silent; trace = st.trace; within = st.within; tabled = st.tabled; at = st.at },
      subst (λ d. Sends t.course.purpose t.course.number t.kept (stage_of t.trace) d) (sym (read_written c spelled)) sends,
    ))

goes_by : (before : List Gear) (t : Machine) (o : Order) (cs : Course) (gs : List Gear) (left : ℕ) → IsUndisturbed t → AreTabled before t.kept.enrolled gs
    → o ≡ beginning (next_course t) → next_course t ≡ cs → IsSpelled (first_of cs.purpose cs.number)
    → At cs.purpose stage.Free t.kept cs.opened cs.search cs.number gs left → GoesTo before t o gs left
goes_by before t o cs gs left calm tabled is same spelled at = subst (λ q. GoesTo before t q gs left) (sym is) (
  record {
    tries = calm.tries;
    fresh = keeps_fresh t calm.fresh;
    silent = calm.silent;
    trace = subst (λ s. IsTrace s []) (sym stage_none) trace_none;
    within = calm.within;
    tabled = subst (λ s. AreTabled before (to_come s (next_course t).number t.kept.enrolled) gs) (sym stage_none) tabled;
    at = subst (λ s. At (next_course t).purpose s t.kept (next_course t).opened (next_course t).search (next_course t).number gs left) (sym stage_none)
        (subst (λ (d : Course). At d.purpose stage.Free t.kept d.opened d.search d.number gs left) (sym same) at);
  },
  subst (λ s. Sends (next_course t).purpose (next_course t).number t.kept s (command_of (frame_of (first_of (next_course t).purpose (next_course t).number))))
      (sym stage_none) (read_written (first_of (next_course t).purpose (next_course t).number)
      (subst (λ (d : Course). IsSpelled (first_of d.purpose d.number)) (sym same) spelled)),
)

-- the finding of a transaction by its stage
found_none : (before : List Gear) (t : Machine) (gs : List Gear) (left : ℕ) (s : Stage) → Stands before t gs left → stage_of t.trace ≡ s → finding_at s ≡ None
    → finding_of t.trace ≡ None
found_none before t gs left s st is none = st.trace.finding ∙ ap finding_at is ∙ none

-- the table by its stage
tabled_at : (before : List Gear) (t : Machine) (gs : List Gear) (left : ℕ) (s : Stage) → Stands before t gs left → stage_of t.trace ≡ s
    → AreTabled before (to_come s t.course.number t.kept.enrolled) gs
tabled_at before t gs left s st is = subst (λ q. AreTabled before (to_come q t.course.number t.kept.enrolled) gs) is st.tabled

-- ---------------------------------------------------------------- a new search

pub search_at_first : (gs : List Gear) (left : ℕ) → search_frames (count_by is_wanted gs) ≤ left → probe_frames 0 (count_by is_wanted gs) ≤ left + 0
search_at_first gs left enough = go (count_by is_wanted gs) enough where
  go : (n : ℕ) → search_frames n ≤ left → probe_frames 0 n ≤ left + 0
  go zero e = omega (arith, e)
  go (suc n) e = omega (arith, e)

pub begins_search : (c : Course) (gs : List Gear) (left : ℕ) → IsOpened gs → NoneNamed gs → search_frames (count_by is_wanted gs) ≤ left
    → Probes stage.Free (searching_anew c).search (searching_anew c).number gs left
begins_search c gs left ready unnamed enough = record {
  stage_is = tt;
  searched = tt;
  ready = ready;
  unnamed = unnamed;
  searches = record { running = refl; narrowing = searching.begins; agrees = tt };
  number = refl;
  frames = search_at_first gs left enough;
}

searches_anew : (before : List Gear) (t : Machine) (o : Order) (gs : List Gear) (left : ℕ) → IsUndisturbed t → AreTabled before t.kept.enrolled gs
    → o ≡ beginning (next_course t) → next_course t ≡ searching_anew t.course → IsOpened gs → NoneNamed gs → search_frames (count_by is_wanted gs) ≤ left
    → GoesTo before t o gs left
searches_anew before t o gs left calm tabled is same ready unnamed enough =
    goes_by before t o (searching_anew t.course) gs left calm tabled is same tt (refl, begins_search t.course gs left ready unnamed enough)

-- after an opening before which an opening was complete
pub goes_on_anew : (t : Machine) → t.course.opened ≡ true → t.course.way ≡ Fresh → goes_on_to t ≡ searching_anew t.course
goes_on_anew t opened fresh = ap (λ b. going_on t.kept b t.course) opened ∙ ap (λ y. searching_on y t.course) fresh

-- ---------------------------------------------------------------- the opening

-- its next frame
turns_later : (before : List Gear) (t : Machine) (o : Order) (p : Purpose) (s : Stage) (c : Command) (gs : List Gear) (left : ℕ) → IsGivenBy t o
    → Stands before t gs left → t.course.purpose ≡ p → stage_of t.trace ≡ s → turn_of p t.course.number s ≡ Some c → IsSpelled c
    → Sends p t.course.number t.kept s c → GoesTo before t o gs left
turns_later before t o p s c gs left g st purpose is turn spelled sends =
    goes_later before t o s c gs left st is (subst (IsUnasked s) (sym purpose) (turn_unasked p t.course.number s c turn))
    (given.turns t o c g (rw (purpose, is) turn)) spelled (rw (purpose, is) sends)

opening_turns : (before : List Gear) (t : Machine) (o : Order) (s : Stage) (gs : List Gear) (left : ℕ) → IsGivenBy t o → Stands before t gs left
    → IsNoEnrolment t.last → t.course.purpose ≡ Opening → stage_of t.trace ≡ s → (s ≡ stage.Free → ⊥) → Opens s gs left → GoesTo before t o gs left
opening_turns before t o stage.Free gs left g st last purpose is running opens = absurd (running refl)
opening_turns before t o stage.Terminated gs left g st last purpose is running opens =
    turns_later before t o Opening stage.Terminated _ gs left g st purpose is refl tt refl
opening_turns before t o stage.InitialisedOnce gs left g st last purpose is running opens =
    turns_later before t o Opening stage.InitialisedOnce _ gs left g st purpose is refl tt refl
opening_turns before t o stage.Initialised gs left g st last purpose is running opens =
    turns_later before t o Opening stage.Initialised _ gs left g st purpose is refl tt refl
opening_turns before t o stage.RandomisedOnce gs left g st last purpose is running opens =
    turns_later before t o Opening stage.RandomisedOnce _ gs left g st purpose is refl tt refl
opening_turns before t o stage.Opened gs left g st last purpose is running opens =
    let count : count_by is_wanted gs ≡ count_by is_bare gs = opening.opened_count gs opens.gear in
    let enough : 5 + search_frames (count_by is_bare gs) ≤ left + 5 = opens.frames in
    searches_anew before t o gs left (calm_of before t gs left st) (tabled_at before t gs left stage.Opened st is)
    (given.begins_after t o stage.Opened g is tt (found_none before t gs left stage.Opened st is refl) last (never_eight t.tries st.tries))
    (ap (begins_at t) is ∙ ap (λ y. searching_first y t.course) st.fresh) (opening.opened_is gs opens.gear) (opening.opened_none_named gs opens.gear)
    (omega (arith, count, enough))
opening_turns before t o _ gs left g st last purpose is running opens = absurd opens.stage_is

-- ---------------------------------------------------------------- a probe that was answered

-- if no gear is wanted, each answer is a no
none_said : (has : ℕ → Bool) (answers : List (ℕ × Bool)) → ((m : ℕ) → has m ≡ true → ⊥) → Agrees has answers → highest answers ≡ 0xFFFFFF
none_said has [] none agrees = refl
none_said has ((q, true) ∷ later) none agrees = let some = agrees.0 in absurd (none some.0 some.1)
none_said has ((q, false) ∷ later) none agrees = none_said has later none agrees.1

again_less : (low high : ℕ) → step_between low high ≡ Again → low < high
again_less low high e = go (nat_lt low high) (low == 0xFFFFFF) refl e where
  go : (b c : Bool) → nat_lt low high ≡ b → (if b then Again else (if c then Nobody else Found low)) ≡ Again → low < high
  go true c is e = grind (arith, nat_tests)
  go false true is e = cc
  go false false is e = cc

length_more : (answers : List (ℕ × Bool)) (p : ℕ) (b : Bool) → length (answers ++ (p, b) ∷ []) ≡ length answers + 1
length_more answers p b = length-append answers ((p, b) ∷ [])

-- so a search that was answered does not go on
again_some : (x : Search) (said : Bool) (has : ℕ → Bool) → IsNarrowing (answered x said) → (answered x said).step ≡ Again → Agrees has (answered x said).answers
    → ((m : ℕ) → has m ≡ true → ⊥) → ⊥
again_some x said has n running agrees none =
    let top : highest (answered x said).answers ≡ 0xFFFFFF = none_said has (answered x said).answers none agrees in
    let less : lowest (answered x said).answers < highest (answered x said).answers =
    again_less (lowest (answered x said).answers) (highest (answered x said).answers) (sym n.step_is ∙ running) in
    let count : length (answered x said).answers ≡ 0 = n.untouched top less in
    let more : length (answered x said).answers ≡ length x.answers + 1 = length_more x.answers x.probe said in
    omega (arith, count, more)

again_frames : (gs : List Gear) (x : Search) (said : Bool) (left n : ℕ) → IsNarrowing (answered x said) → (answered x said).step ≡ Again
    → Agrees (wants gs) (answered x said).answers → count_by is_wanted gs ≡ n → probe_frames (length x.answers) n ≤ left + 4
    → probe_frames (length (answered x said).answers) n ≤ left + 0
again_frames gs x said left zero narrowing running agrees count enough = absurd (again_some x said (wants gs) narrowing running agrees (nobody_wanted gs count))
again_frames gs x said left (suc n) narrowing running agrees count enough =
    let more : length (answered x said).answers ≡ length x.answers + 1 = length_more x.answers x.probe said in
    let few : length (answered x said).answers < 25 = searching.ends (answered x said) narrowing running in
    let small : length x.answers + 1 < 25 = subst (λ m. m < 25) more few in
    let now : 4 + (4 * (24 - (length x.answers + 1)) + 11 + search_frames n) ≤ left + 0 = less (length x.answers) small enough in
    subst (λ m. 4 + (4 * (24 - m) + 11 + search_frames n) ≤ left + 0) (sym more) now
  where
    less : (k : ℕ) → k + 1 < 25 → 4 + (4 * (24 - k) + 11 + search_frames n) ≤ left + 4 → 4 + (4 * (24 - (k + 1)) + 11 + search_frames n) ≤ left + 0
    less k small enough = omega (arith, small, enough)

more_wanted : (n : ℕ) → 0 < n → (more : ℕ) × (n ≡ suc more)
more_wanted zero some = absurd (omega (arith, some))
more_wanted (suc more) some = (more, refl)

-- the number that was found is wanted, and is a random address
found_wanted : (gs : List Gear) (x : Search) (r : ℕ) → IsOpened gs → IsNarrowing x → Agrees (wants gs) x.answers → x.step ≡ Found r
    → (wants gs r ≡ true) × (r < MASK24)
found_wanted gs x r ready narrowing agrees is =
    let says : Says (wants gs) (Found r) =
    subst (Says (wants gs)) is (searching.says_least x narrowing (wants gs) (λ m e. wanted.wanted_below gs m ready e) agrees) in
    (says.0, subst (λ s. NumberOf s (λ m. m < 0xFFFFFF)) is (searching.finds_below x narrowing))

-- if no gear is left, every gear with power has a short address
pub all_have : (gs : List Gear) (x : Search) → IsOpened gs → IsNarrowing x → Agrees (wants gs) x.answers → x.step ≡ Nobody → OfPowered gs HasShort
all_have gs x ready narrowing agrees is =
    nobody_short gs ready (subst (Says (wants gs)) is (searching.says_least x narrowing (wants gs) (λ m e. wanted.wanted_below gs m ready e) agrees))

found_frames : (answers n left more : ℕ) → probe_frames answers n ≤ left + 4 → n ≡ suc more → 11 + search_frames more ≤ left + 0
found_frames answers zero left more enough is = absurd (omega (arith, is))
found_frames answers (suc n) left more enough is = omega (arith, enough, is)

pub close_frames : (answers n left : ℕ) → probe_frames answers n ≤ left + 4 → 1 ≤ left + 0
close_frames answers zero left enough = omega (arith, enough)
close_frames answers (suc n) left enough = omega (arith, enough)

-- what an answer leads to
pub probed_at : (s : Step) (k : Kept) (c : Course) (said : Bool) (gs : List Gear) (left : ℕ) → (answered c.search said).step ≡ s → IsOpened gs → NoneNamed gs
    → IsNarrowing (answered c.search said) → Agrees (wants gs) (answered c.search said).answers
    → probe_frames (length c.search.answers) (count_by is_wanted gs) ≤ left + 4
    → IsSpelled (first_of (after_step s (record c { search = answered c.search said })).purpose
    (after_step s (record c { search = answered c.search said })).number)
    × At (after_step s (record c { search = answered c.search said })).purpose stage.Free k true
    (after_step s (record c { search = answered c.search said })).search (after_step s (record c { search = answered c.search said })).number gs left
probed_at Again k c said gs left is ready unnamed narrowing agrees enough = (
  tt,
  (
    refl,
    record {
      stage_is = tt;
      searched = tt;
      ready = ready;
      unnamed = unnamed;
      searches = record { running = is; narrowing = narrowing; agrees = agrees };
      number = refl;
      frames = again_frames gs c.search said left (count_by is_wanted gs) narrowing is agrees refl enough;
    },
  ),
)
probed_at (Found r) k c said gs left is ready unnamed narrowing agrees enough =
    let found = found_wanted gs (answered c.search said) r ready narrowing agrees is in
    let more = more_wanted (count_by is_wanted gs) (wanted.count_some gs r found.0) in (
      tt,
      (
        refl,
        visits_first k r more.0 gs left ready unnamed found.0 found.1 more.1
            (inr (found_frames (length c.search.answers) (count_by is_wanted gs) left more.0 enough more.1)),
      ),
    )
probed_at Nobody k c said gs left is ready unnamed narrowing agrees enough = (
  tt,
  record {
    stage_is = tt;
    well = all_have gs (answered c.search said) ready narrowing agrees is;
    frames = close_frames (length c.search.answers) (count_by is_wanted gs) left enough;
  },
)

step_opened : (s : Step) (c : Course) → (after_step s c).opened ≡ c.opened
step_opened Again c = refl
step_opened (Found r) c = refl
step_opened Nobody c = refl

probing_turns : (before : List Gear) (t : Machine) (o : Order) (s : Stage) (gs : List Gear) (left : ℕ) → IsGivenBy t o → Stands before t gs left
    → IsNoEnrolment t.last → t.course.purpose ≡ Probing → stage_of t.trace ≡ s → (s ≡ stage.Free → ⊥) → t.course.opened ≡ true
    → Probes s t.course.search t.course.number gs left → GoesTo before t o gs left
probing_turns before t o stage.Free gs left g st last purpose is running opened p = absurd (running refl)
probing_turns before t o (stage.HighSent high) gs left g st last purpose is running opened p =
    turns_later before t o Probing (stage.HighSent high) _ gs left g st purpose is refl tt refl
probing_turns before t o (stage.MiddleSent high middle) gs left g st last purpose is running opened p =
    turns_later before t o Probing (stage.MiddleSent high middle) _ gs left g st purpose is refl tt refl
probing_turns before t o (stage.NumberSent r) gs left g st last purpose is running opened p =
    turns_later before t o Probing (stage.NumberSent r) _ gs left g st purpose is refl tt refl
probing_turns before t o (stage.Probed r h) gs left g st last purpose is running opened p =
    let c : Course = t.course in
    let narrowing : IsNarrowing (answered t.course.search (is_yes h)) = searching.goes_on t.course.search (is_yes h) p.searches.narrowing p.searches.running in
    let agrees : Agrees (wants gs) (answered t.course.search (is_yes h)).answers =
    agrees_more (wants gs) t.course.search.answers t.course.search.probe (is_yes h) p.searches.agrees p.stage_is in
    let there = probed_at (answered t.course.search (is_yes h)).step t.kept t.course (is_yes h) gs left refl p.ready p.unnamed narrowing agrees p.frames in
    goes_by before t o (probed t.course h) gs left (calm_of before t gs left st) (tabled_at before t gs left (stage.Probed r h) st is)
    (given.begins_after t o (stage.Probed r h) g is tt (found_none before t gs left (stage.Probed r h) st is refl) last (never_eight t.tries st.tries))
    (ap (begins_at t) is) there.0 (subst (λ b. At (probed t.course h).purpose stage.Free t.kept b (probed t.course h).search
    (probed t.course h).number gs left) (sym
    (step_opened (answered t.course.search (is_yes h)).step (record t.course { search = answered t.course.search (is_yes h) }) ∙ opened))
    there.1)
probing_turns before t o _ gs left g st last purpose is running opened p = absurd p.stage_is

-- ---------------------------------------------------------------- a visit

unnamed_turns : (before : List Gear) (t : Machine) (o : Order) (r : SearchAddress) (gs : List Gear) (left : ℕ) → IsGivenBy t o → Stands before t gs left
    → IsKept t.kept → t.course.purpose ≡ Visiting → stage_of t.trace ≡ stage.Unnamed r → t.course.opened ≡ true
    → Visits (stage.Unnamed r) t.kept t.course.number gs left → GoesTo before t o gs left
unnamed_turns before t o r gs left g st kept purpose is opened v = go (given.unnamed t o r st.fresh g is) where
  same : value_of r ≡ value_of t.course.number
  same = ap value_of (sym v.searched)

  frames : (HasRandom t.kept.reserved (value_of r) → ⊥) → VisitFrames t.kept t.course.number v.more (left + 4) → 7 + search_frames v.more ≤ left
  frames none (inl e) = absurd (none (subst (HasRandom t.kept.reserved) (sym same) e.0))
  frames none (inr e) = omega (arith, e)

  some : VisitFrames t.kept t.course.number v.more (left + 4) → 1 ≤ left + 0
  some (inl e) = let enough : 7 + search_frames v.more ≤ left + 4 = e.1 in omega (arith, enough)
  some (inr e) = omega (arith, e)

  go : given.IsUnnamedBy t r o → GoesTo before t o gs left
  go (inl e) =
      let small : e.0 < 64 = kept.reserved.short e.0 (has_address t.kept.reserved e.0 (value_of r) e.1) in
      goes_later before t o (stage.Unnamed r) (Program (Some e.0)) gs left st is tt e.2 small (rw is (e.0, small, e.1, refl))
  go (inr (inl e)) = subst (λ q. GoesTo before t q gs left) (sym e.1.2) (
    record { tries = st.tries; fresh = st.fresh; silent = st.silent; within = st.within },
    record {
      opened = opened;
      ready = v.ready;
      unnamed = v.unnamed;
      wanted = subst (λ m. wants gs m ≡ true) (sym same) v.visited.wanted;
      drawn = subst (λ m. m < MASK24) (sym same) (drawn_number t.course.number v.visited.number v.visited.number_is v.visited.drawn);
      more = v.more;
      count = v.visited.count;
      tabled = tabled_at before t gs left (stage.Unnamed r) st is;
      frames = frames e.0 v.frames;
    },
  )
  go (inr (inr e)) =
      let next : next_course t ≡ closing_by t.course BlockFull = ap (begins_at t) is ∙ ap (ungiven t) st.fresh in
      goes_by before t o (closing_by t.course BlockFull) gs left (calm_of before t gs left st) (tabled_at before t gs left (stage.Unnamed r) st is)
      (e.2 ∙ sym (ap beginning next)) next tt (record { stage_is = tt; well = e.1; frames = some v.frames })

-- what is enrolled is reserved, so nothing contradicts what is reserved
no_contradiction : (k : Kept) (b n : ℕ) → IsKept k → IsWithin k → Has k.reserved (b, n) → Contradicts k.enrolled b n → ⊥
no_contradiction k b n kept within has (inl is) =
    is.2 (ap (λ (q : Assignment). q.1) (same_member (λ (q : Assignment). q.0) k.reserved (b, is.0) (b, n) kept.reserved.address_once
    (within (b, is.0) is.1) has refl))
no_contradiction k b n kept within has (inr is) =
    is.2 (ap (λ (q : Assignment). q.0) (same_member (λ (q : Assignment). q.1) k.reserved (is.0, n) (b, n) kept.reserved.random_once
    (within (is.0, n) is.1) has refl))

withdrawn_turns : (before : List Gear) (t : Machine) (o : Order) (r : SearchAddress) (a : ℕ) (gs : List Gear) (left : ℕ) → IsGivenBy t o
    → Stands before t gs left → IsKept t.kept → t.course.purpose ≡ Visiting → stage_of t.trace ≡ stage.Withdrawn r a → t.course.opened ≡ true
    → Leaves r a t.kept t.course.number gs left → GoesTo before t o gs left
withdrawn_turns before t o r a gs left g st kept purpose is opened v = go o g (g.ordered.found r a is) where
  reserved : Has t.kept.reserved (a, value_of r)
  reserved = subst (λ (m : SearchAddress). Has t.kept.reserved (a, value_of m)) (sym v.searched) v.reserved

  tabled : AreTabled before ((a, value_of r) ∷ t.kept.enrolled) gs
  tabled = subst (λ (m : SearchAddress). AreTabled before ((a, value_of m) ∷ t.kept.enrolled) gs) (sym v.searched)
      (tabled_at before t gs left (stage.Withdrawn r a) st is)

  go : (q : Order) → IsGivenBy t q → AfterFinding t a (value_of r) q → GoesTo before t q gs left
  go (Put p f) g has =
      searches_anew before t (Put p f) gs left (calm_of before t gs left st)
      (tabled_over before ((a, value_of r) ∷ t.kept.enrolled) t.kept.enrolled gs (entry_twice t.kept.enrolled (a, value_of r) has) tabled)
      (given.withdrawn_known t (Put p f) r a g is kept.enrolled has) (ap (begins_at t) is ∙ goes_on_anew t opened st.fresh) v.ready v.unnamed v.frames
  go (Commit x) g has = subst (λ y. GoesTo before t (Commit y) gs left) (sym has) (
    record { tries = st.tries; fresh = st.fresh; silent = st.silent; within = st.within },
    record { opened = opened; ready = v.ready; unnamed = v.unnamed; reserved = reserved; tabled = tabled; frames = v.frames },
  )
  go (Done e) g has = absurd has
  go (Halt why) g has = absurd (no_contradiction t.kept a (value_of r) kept st.within reserved has)

visiting_turns : (before : List Gear) (t : Machine) (o : Order) (s : Stage) (gs : List Gear) (left : ℕ) → IsGivenBy t o → Stands before t gs left
    → IsKept t.kept → t.course.purpose ≡ Visiting → stage_of t.trace ≡ s → (s ≡ stage.Free → ⊥) → t.course.opened ≡ true
    → VisitsAt s t.kept t.course.number gs left → GoesTo before t o gs left
visiting_turns before t o stage.Free gs left g st kept purpose is running opened v = absurd (running refl)
visiting_turns before t o (stage.HighSent high) gs left g st kept purpose is running opened v =
    turns_later before t o Visiting (stage.HighSent high) _ gs left g st purpose is refl tt refl
visiting_turns before t o (stage.MiddleSent high middle) gs left g st kept purpose is running opened v =
    turns_later before t o Visiting (stage.MiddleSent high middle) _ gs left g st purpose is refl tt refl
visiting_turns before t o (stage.NumberSent r) gs left g st kept purpose is running opened v =
    turns_later before t o Visiting (stage.NumberSent r) _ gs left g st purpose is refl tt refl
visiting_turns before t o (stage.Unnamed r) gs left g st kept purpose is running opened v = unnamed_turns before t o r gs left g st kept purpose is opened v
visiting_turns before t o (stage.Programmed r a) gs left g st kept purpose is running opened v =
    turns_later before t o Visiting (stage.Programmed r a) _ gs left g st purpose is refl tt refl
visiting_turns before t o (stage.Confirmed r a) gs left g st kept purpose is running opened v =
    turns_later before t o Visiting (stage.Confirmed r a) _ gs left g st purpose is refl tt refl
visiting_turns before t o (stage.Withdrawn r a) gs left g st kept purpose is running opened v =
    withdrawn_turns before t o r a gs left g st kept purpose is opened v
visiting_turns before t o _ gs left g st kept purpose is running opened v = absurd v.stage_is

-- ---------------------------------------------------------------- the close

closing_turns : (before : List Gear) (t : Machine) (o : Order) (e : End) (s : Stage) (gs : List Gear) (left : ℕ) → IsGivenBy t o → Stands before t gs left
    → t.course.purpose ≡ Closing e → stage_of t.trace ≡ s → (s ≡ stage.Free → ⊥) → Closes e s t.kept gs left → GoesTo before t o gs left
closing_turns before t o e stage.Free gs left g st purpose is running v = absurd (running refl)
closing_turns before t o e stage.Terminated gs left g st purpose is running v =
    let ends : o ≡ Done e =
    given.closed t o e g (ap closing_of purpose) is (found_none before t gs left stage.Terminated st is refl) (never_eight t.tries st.tries) in
    subst (λ q. GoesTo before t q gs left) (sym ends) (v.well, tabled_at before t gs left stage.Terminated st is)
closing_turns before t o e _ gs left g st purpose is running v = absurd v.stage_is

-- ---------------------------------------------------------------- of whatever transaction

-- after a frame that was heard
pub turned : (before : List Gear) (t : Machine) (o : Order) (gs : List Gear) (left : ℕ) → IsGivenBy t o → Stands before t gs left → IsKept t.kept
    → IsNoEnrolment t.last → (stage_of t.trace ≡ stage.Free → ⊥) → GoesTo before t o gs left
turned before t o gs left g st kept last running = go t.course.purpose refl st.at where
  go : (p : Purpose) → t.course.purpose ≡ p → At p (stage_of t.trace) t.kept t.course.opened t.course.search t.course.number gs left → GoesTo before t o gs left
  go Opening purpose at = opening_turns before t o (stage_of t.trace) gs left g st last purpose refl running at.1
  go Probing purpose at = probing_turns before t o (stage_of t.trace) gs left g st last purpose refl running at.0 at.1
  go Visiting purpose at = visiting_turns before t o (stage_of t.trace) gs left g st kept purpose refl running at.0 at.1
  go (Closing e) purpose at = closing_turns before t o e (stage_of t.trace) gs left g st purpose refl running at
  go _ purpose at = absurd at

-- ---------------------------------------------------------------- the start

nothing_unfinished : (k : Kept) (n from : ℕ) → k.reserved ≡ [] → unfinished_among k n from ≡ None
nothing_unfinished k zero from none = refl
nothing_unfinished k (suc n) from none =
    let here : unfinished_at k from ≡ None = rw none refl in
    rw here (nothing_unfinished k n (from + 1) none)

pub started_begins : (t : Machine) (o : Order) → IsGivenBy t o → IsUndisturbed t → t.trace ≡ [] → t.last ≡ None → o ≡ beginning (next_course t)
started_begins t o g calm free last = given.begins_free t o g free (no_enrolment_yet t.last last) (never_eight t.tries calm.tries)

pub started : (before : List Gear) (t : Machine) (o : Order) (gs : List Gear) (left : ℕ) → IsGivenBy t o → IsUndisturbed t → AreTabled before t.kept.enrolled gs
    → t.trace ≡ [] → t.last ≡ None → t.kept.reserved ≡ [] → t.course.opened ≡ false → t.course.purpose ≡ Opening
    → 5 + search_frames (count_by is_bare gs) ≤ left → GoesTo before t o gs left
started before t o gs left g calm tabled free last none unopened purpose enough =
    let stage : stage_of t.trace ≡ stage.Free = ap stage_of free ∙ stage_none in
    let next : next_course t ≡ opening_of t.course =
    ap (begins_at t) stage ∙ ap (at_rest t) last ∙ goes_on_fresh t calm.fresh unopened
    ∙ ap (visit_or_opening t.course) (nothing_unfinished t.kept (64 - t.course.from) t.course.from none) in
    goes_by before t o (opening_of t.course) gs left calm tabled (started_begins t o g calm free last)
    next tt (unopened, record { stage_is = tt; gear = λ k in_row on. tt; frames = omega (arith, enough) })

-- ---------------------------------------------------------------- a record that is kept

within_reserved : (k : Kept) (a r : ℕ) → IsWithin k → IsWithin (with_record k (Reserve a r))
within_reserved k a r within x has = has_left k.reserved ((a, r) ∷ []) x (within x has)

within_enrolled : (k : Kept) (b r : ℕ) → IsWithin k → Has k.reserved (b, r) → IsWithin (with_record k (Enrol b r))
within_enrolled k b r within reserved x has = go (has_cases k.enrolled (b, r) x has) where
  go : Has k.enrolled x ⊎ ((b, r) ≡ x) → Has k.reserved x
  go (inl e) = within x e
  go (inr e) = subst (Has k.reserved) e reserved

reserved_next : (before : List Gear) (m : Machine) (a r : ℕ) (o : Order) (gs : List Gear) (left : ℕ) → IsUndisturbed m → Reserves before m r gs left
    → m.trace ≡ [] → m.last ≡ Some (Commit (Reserve a r)) → IsGivenBy (with_kept m (Reserve a r)) o → GoesTo before (with_kept m (Reserve a r)) o gs left
reserved_next before m a r o gs left calm v free last g =
    let stage : stage_of m.trace ≡ stage.Free = ap stage_of free ∙ stage_none in
    let t : Machine = with_kept m (Reserve a r) in
    goes_by before (with_kept m (Reserve a r)) o (visiting m.course r) gs left
    (record { tries = calm.tries; fresh = calm.fresh; silent = calm.silent; within = within_reserved m.kept a r calm.within }) v.tabled
    (reserved_begins m a r o calm.tries free last g) (ap (begins_at (with_kept m (Reserve a r))) stage ∙ ap (at_rest (with_kept m (Reserve a r))) last)
    tt (
      v.opened,
      visits_first (with_record m.kept (Reserve a r)) r v.more gs left v.ready v.unnamed v.wanted v.drawn v.count
          (frames_reserved m.kept a r v.more left v.frames),
    )

enrolled_next : (before : List Gear) (m : Machine) (b r : ℕ) (o : Order) (gs : List Gear) (left : ℕ) → IsUndisturbed m → Enrols before m b r gs left
    → m.trace ≡ [] → m.last ≡ Some (Commit (Enrol b r)) → IsMap m.kept.reserved → IsGivenBy (with_kept m (Enrol b r)) o
    → GoesTo before (with_kept m (Enrol b r)) o gs left
enrolled_next before m b r o gs left calm v free last map g =
    let stage : stage_of m.trace ≡ stage.Free = ap stage_of free ∙ stage_none in
    searches_anew before (with_kept m (Enrol b r)) o gs left
    (record { tries = calm.tries; fresh = calm.fresh; silent = calm.silent; within = within_enrolled m.kept b r calm.within v.reserved })
    (tabled_over before ((b, r) ∷ m.kept.enrolled) (m.kept.enrolled ++ (b, r) ∷ []) gs (entry_last m.kept.enrolled (b, r)) v.tabled)
    (enrolled_begins m b r o v.reserved free last map g) (ap (begins_at (with_kept m (Enrol b r))) stage ∙ ap (at_rest (with_kept m (Enrol b r))) last
    ∙ goes_on_anew (with_kept m (Enrol b r)) v.opened calm.fresh)
    v.ready v.unnamed v.frames

pub committed : (before : List Gear) (m : Machine) (x : Record) (o : Order) (gs : List Gear) (left : ℕ) → IsUndisturbed m → CommitsTo before m x gs left
    → m.trace ≡ [] → m.last ≡ Some (Commit x) → IsMap m.kept.reserved → IsGivenBy (with_kept m x) o → GoesTo before (with_kept m x) o gs left
committed before m (Reserve a r) o gs left calm v free last map g = reserved_next before m a r o gs left calm v free last g
committed before m (Enrol b r) o gs left calm v free last map g = enrolled_next before m b r o gs left calm v free last map g
committed before m _ o gs left calm v free last map g = absurd v

-- a frame is put then
pub committed_begins : (before : List Gear) (m : Machine) (x : Record) (o : Order) (gs : List Gear) (left : ℕ) → IsUndisturbed m → CommitsTo before m x gs left
    → m.trace ≡ [] → m.last ≡ Some (Commit x) → IsMap m.kept.reserved → IsGivenBy (with_kept m x) o → o ≡ beginning (next_course (with_kept m x))
committed_begins before m (Reserve a r) o gs left calm v free last map g = reserved_begins m a r o calm.tries free last g
committed_begins before m (Enrol b r) o gs left calm v free last map g = enrolled_begins m b r o v.reserved free last map g
committed_begins before m _ o gs left calm v free last map g = absurd v
