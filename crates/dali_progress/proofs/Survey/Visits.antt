use Rattle.dali_progress.proofs.Below.{◌≡◌, ℕ, ◌+◌, ◌-◌, ◌*◌, ◌<◌, ◌≤◌, ◌⊎◌, inl, inr, Bool, true, false, List, [], ◌∷◌, ◌++◌, refl, sym, ap, subst, ◌∙◌, arith}
use Rattle.dali_progress.proofs.Below.{Option, Some, None, ◌==◌, if◌then◌else◌, suc, ◌&&◌, nat_lt, is_some, MatchOption, count_by, LATER, value_of, MASK24}
use Rattle.dali_progress.proofs.Below.{SearchAddress, Gear, Assignment, Has, IsMap, with_record, Kept, HasRandom, IsKept, stage_of, Input, Order, Put, Commit}
use Rattle.dali_progress.proofs.Below.{Done, Halt, BlockFull, Record, Reserve, Enrol, Release, Queried, Stage, has_last, has_before, has_cases, without_has}
use Rattle.dali_progress.proofs.Below.{has_map, same_member, stage_none, Found, visiting, sought, address_for, least_open, is_open, is_anothers, opening_anew}
use Rattle.dali_progress.proofs.Below.{closing as closing_by, turn_of, Machine, is_withheld, is_withheld_by, next_course, begins_at, at_rest, beginning}
use Rattle.dali_progress.proofs.Below.{course_by, may_draw, full, ungiven, machine_ordered, AfterEnrolled, AfterFinding, AfterMaskOn, AfterMaskBy}
use Rattle.dali_progress.proofs.Below.{AfterReserved, IsWhole, Purpose, Opening, Probing, Hunting, Visiting, Resolving, Closing, Calling, Drawing, PassingOver}
use Rattle.dali_progress.proofs.Below.{Asking as Counting, Way, Fresh, Surveying, IsGivenBy, IsNoEnrolment, frame_of, Command, Program, is_wanted, wants}
use Rattle.dali_progress.proofs.{Below.{is_bare, AreTabled}, Both.{never_eight, entry_last, with_kept, no_enrolment_now, visits_first, frames_reserved}}
use Rattle.dali_progress.proofs.{Both.{reserved_begins, enrolled_begins, drawn_number, close_ends, entry_twice}, Frames.value_sought, Stands.search_frames}
use Rattle.dali_progress.proofs.{Stands.{VisitFrames, Visits, Leaves}, Survey.Stands.{Calm, Begun, survey_frames, called_after, Hunts, SurveyAt, SurveyStands}}
use Rattle.dali_progress.proofs.Survey.{Stands.{Draws, Settles, IsSettledIn}, Begins.{EnrolsCounted, ReleasesCounted, EnrolsHunted, ReservesHunted}}
use Rattle.dali_progress.proofs.Survey.Begins.{SurveyCommits, first_by, asks_on, hunts_on, clear_reserved, Above, later_by, turns_by, all_taken, nobody_elses}
use Rattle.dali_progress.proofs.Survey.{Begins.GoesTo, Drawn.{those_drawn, is_lost, bare_split, drawn_tabled}, Queried.{OneShort, IsTrue, unseen, IsAtHand}}
use Rattle.dali_progress.proofs.Survey.{Hunting.{never_full, hunting_turns, drawn_turns}, Turns.{IsUncontradicted, found_at, census_turns, calling_turns}}
use Rattle.dali_progress.proofs.{Tables.tabled_over, Accounted.open_is, Surveying.draw_over, Later.asked_none}
use Rattle.dali_script.specs.declared.stage.Stage.TheVariants as stage
use Rattle.dali_controller.proofs.Given as given
use Rattle.dali_events.proofs.Search.Wanted as wanted

-- A RECORD OF A SURVEY IS KEPT, and the next transaction begins.

-- How many events come before the next frame is sent, at the most. A frame that goes on with a transaction spares one for what
-- comes after it: a gear is enrolled, what else is reserved for its number is released, and the next transaction begins.
abbrev pub spared : ℕ → ℕ
spared p = if p == LATER then 1 else 0

abbrev pub survey_slack : Option Order → Option Input → ℕ
survey_slack None told = 1
survey_slack (Some (Put p f)) None = spared p
survey_slack (Some (Put p f)) (Some i) = spared p + 2
survey_slack (Some (Commit (Enrol a r))) told = 2
survey_slack (Some (Commit x)) told = 1
survey_slack (Some (Done e)) told = 0
survey_slack (Some (Halt why)) told = 0

pub spared_few : (p : ℕ) → spared p ≤ 1
spared_few p = go (p == LATER) where
  go : (b : Bool) → (if b then 1 else 0) ≤ 1
  go true = omega arith
  go false = omega arith

-- ---------------------------------------------------------------- of the census

counted_count : (a wake left : ℕ) → a < 64 → 3 * (63 - a) + wake ≤ left → 3 * (64 - (a + 1)) + wake ≤ left
counted_count a wake left small enough = omega (arith, small, enough)

pub rest_next : (m : Machine) (x : Record) → m.trace ≡ [] → m.last ≡ Some (Commit x) → next_course (with_kept m x) ≡ at_rest (with_kept m x) (Some (Commit x))
rest_next m x free last =
    let at : stage_of m.trace ≡ stage.Free = ap stage_of free ∙ stage_none in
    ap (begins_at (with_kept m x)) at ∙ ap (at_rest (with_kept m x)) last

settled_more : (start : Begun) (k : Kept) (a r : ℕ) (x : Assignment) → IsSettledIn start k x → IsSettledIn start (with_record k (Enrol a r)) x
settled_more start k a r x (inl entry) = inl (has_before k.enrolled (a, r) x entry)
settled_more start k a r x (inr was) = inr (was.0, λ e. has_before k.enrolled (a, r) x (was.1 e))

-- it is enrolled: what else is reserved for it is released, or the next short address is asked
counted_next : (start : Begun) (m : Machine) (a r : ℕ) (o : Order) (gs : List Gear) (left : ℕ) → Calm m → EnrolsCounted start m a r gs left → m.trace ≡ []
    → m.last ≡ Some (Commit (Enrol a r)) → IsGivenBy (with_kept m (Enrol a r)) o → OneShort gs → IsTrue (m.kept.enrolled ++ (a, r) ∷ []) gs
    → GoesTo start (with_kept m (Enrol a r)) o gs left × (survey_slack (Some o) None + 1 ≤ 2)
counted_next start m a r o gs left calm v free last g one holds = go o g (g.followed.enrolled a r last) where
  goes : (q : Order) → IsGivenBy (with_kept m (Enrol a r)) q → ((c : ℕ) → Has m.kept.reserved (c, r) → c ≡ a) → GoesTo start (with_kept m (Enrol a r)) q gs left
  goes q g own =
      asks_on start (with_kept m (Enrol a r)) q (a + 1) gs left calm (given.enrolled (with_kept m (Enrol a r)) q a r g last free own)
      (rest_next m (Enrol a r) free last) v.uncalled v.asked v.from_is (let small : a < 64 = v.small in omega (arith, small))
      (λ x has. settled_more start m.kept a r x (v.settled x has)) v.clear one holds v.same
      v.tabled (counted_count a (survey_frames gs) left v.small v.frames)

  go : (q : Order) → IsGivenBy (with_kept m (Enrol a r)) q → AfterEnrolled (with_kept m (Enrol a r)) a r q
      → GoesTo start (with_kept m (Enrol a r)) q gs left × (survey_slack (Some q) None + 1 ≤ 2)
  go (Put p f) g own = (goes (Put p f) g own, let few = spared_few p in omega (arith, few))
  go (Commit x) g (c, has, is) =
      subst (λ y. GoesTo start (with_kept m (Enrol a r)) (Commit y) gs left × (survey_slack (Some (Commit y)) None + 1 ≤ 2)) (sym is) (
        (
          calm,
          (
            a,
            record {
              uncalled = v.uncalled;
              asked = asked_none m.course.opened m.asked v.asked;
              small = v.small;
              from_is = v.from_is;
              settled = λ x has. settled_more start m.kept a r x (v.settled x has);
              clear = v.clear;
              same = v.same;
              tabled = v.tabled;
              frames = v.frames;
            },
          ),
        ),
        omega arith,
      )
  go (Done e) g is = absurd is
  go (Halt why) g is = absurd is

-- and then the next short address is asked
released_begins : (m : Machine) (c r : ℕ) (o : Order) → Calm m → m.trace ≡ [] → m.last ≡ Some (Commit (Release c r)) → IsGivenBy (with_kept m (Release c r)) o
    → o ≡ beginning (next_course (with_kept m (Release c r)))
released_begins m c r o calm free last g =
    given.begins_free (with_kept m (Release c r)) o g free (no_enrolment_now c r m.last last) (never_eight m.tries calm.untried)

released_next : (start : Begun) (m : Machine) (c r a : ℕ) (o : Order) (gs : List Gear) (left : ℕ) → Calm m → ReleasesCounted start m a gs left → m.trace ≡ []
    → m.last ≡ Some (Commit (Release c r)) → IsGivenBy (with_kept m (Release c r)) o → OneShort gs → IsTrue m.kept.enrolled gs
    → GoesTo start (with_kept m (Release c r)) o gs left
released_next start m c r a o gs left calm v free last g one holds =
    asks_on start (with_kept m (Release c r)) o (a + 1) gs left calm (released_begins m c r o calm free last g)
    (rest_next m (Release c r) free last) v.uncalled v.asked v.from_is (let small : a < 64 = v.small in omega (arith, small))
    (λ x has. v.settled x (without_has (c, r) m.kept.reserved x has))
    (λ d q has. v.clear d q (without_has (c, r) m.kept.reserved (d, q) has)) one holds v.same v.tabled
    (counted_count a (survey_frames gs) left v.small v.frames)

-- ---------------------------------------------------------------- of a visit

hunted_next : (start : Begun) (m : Machine) (b r : ℕ) (o : Order) (gs : List Gear) (left : ℕ) → Calm m → EnrolsHunted start m b r gs left → m.trace ≡ []
    → m.last ≡ Some (Commit (Enrol b r)) → IsMap m.kept.reserved → IsGivenBy (with_kept m (Enrol b r)) o → GoesTo start (with_kept m (Enrol b r)) o gs left
hunted_next start m b r o gs left calm v free last map g =
    hunts_on start (with_kept m (Enrol b r)) o r gs left
    calm (enrolled_begins m b r o v.reserved free last map g) (rest_next m (Enrol b r) free last) v.hunted
    v.clear (λ x has. settled x has (v.settled x has))
    v.above v.ready v.unnamed (tabled_over (unseen start.gear) ((b, r) ∷ m.kept.enrolled) (m.kept.enrolled ++ (b, r) ∷ []) (those_drawn gs)
    (entry_last m.kept.enrolled (b, r))
    v.tabled)
    v.frames
  where
    settled : (x : Assignment) → Has m.kept.reserved x → IsSettledIn start m.kept x ⊎ (x.1 ≡ r) → IsSettledIn start (with_record m.kept (Enrol b r)) x
    settled x has (inl was) = settled_more start m.kept b r x was
    settled x has (inr number) =
        inl (subst (Has (m.kept.enrolled ++ (b, r) ∷ [])) (sym
        (same_member (λ (q : Assignment). q.1) m.kept.reserved x (b, r) map.random_once has v.reserved number)) (has_last m.kept.enrolled (b, r)))

reserved_next : (start : Begun) (m : Machine) (a r : ℕ) (o : Order) (gs : List Gear) (left : ℕ) → Calm m → ReservesHunted start m a r gs left → m.trace ≡ []
    → m.last ≡ Some (Commit (Reserve a r)) → IsGivenBy (with_kept m (Reserve a r)) o → GoesTo start (with_kept m (Reserve a r)) o gs left
reserved_next start m a r o gs left calm v free last g =
    first_by start (with_kept m (Reserve a r)) o (visiting m.course r) gs left calm (reserved_begins m a r o calm.untried free last g)
    (rest_next m (Reserve a r) free last)
    calm.smooth (record {
      hunted = v.hunted;
      called = tt;
      clear = clear_reserved m.kept m.heard a r v.clear v.open_is;
      settled = λ x has. settled x (has_cases m.kept.reserved (a, r) x has);
      rest = 7 + search_frames v.more;
      at = (
        visits_first (with_record m.kept (Reserve a r)) r v.more (those_drawn gs) (7 + search_frames v.more) v.ready v.unnamed v.wanted v.drawn v.count
            (frames_reserved m.kept a r v.more (7 + search_frames v.more) (omega arith)),
        record { is = v.is; reached = v.reached ∙ ap Found (sym (value_sought r)); least = λ k has. subst (λ j. j ≤ k) (sym (value_sought r)) (v.least k has) },
      );
      tabled = v.tabled;
      behind = v.more;
      behind_is = v.count;
      frames = count v.more (called_after (count_by is_lost gs)) v.frames;
    })
  where
    count : (more after : ℕ) → 39 + 106 * more + after ≤ left → 7 + search_frames more + 27 + after ≤ left + 5 * more
    count more after enough = omega (arith, enough)

    settled : (x : Assignment) → Has m.kept.reserved x ⊎ ((a, r) ≡ x) → IsSettledIn start m.kept x ⊎ (x.1 ≡ value_of (sought r))
    settled x (inl has) = inl (v.settled x has)
    settled x (inr same) = inr (sym (ap (λ (q : Assignment). q.1) same) ∙ sym (value_sought r))

-- ---------------------------------------------------------------- of whichever

-- what is to come of its order, and that events before the next frame are one less
abbrev KeptTo : Begun → Machine → Record → Order → List Gear → ℕ → Type 0
KeptTo start m x o gs left = GoesTo start (with_kept m x) o gs left × (survey_slack (Some o) None + 1 ≤ survey_slack (Some (Commit x)) None)

pub begins_less : (o : Order) (t : Machine) (n : ℕ) → o ≡ beginning (next_course t) → 1 ≤ n → survey_slack (Some o) None + 1 ≤ n
begins_less o t n is one = let none : survey_slack (Some o) None ≡ 0 = rw is refl in omega (arith, none, one)

pub committed : (start : Begun) (m : Machine) (x : Record) (o : Order) (gs : List Gear) (left : ℕ) → Calm m → SurveyCommits start m x gs left → m.trace ≡ []
    → m.last ≡ Some (Commit x) → IsMap m.kept.reserved → IsGivenBy (with_kept m x) o → OneShort gs → IsTrue (with_kept m x).kept.enrolled gs
    → KeptTo start m x o gs left
committed start m (Reserve a r) o gs left calm v free last map g one holds = (
  reserved_next start m a r o gs left calm v free last g,
  begins_less o (with_kept m (Reserve a r)) 1 (reserved_begins m a r o calm.untried free last g) (omega arith),
)
committed start m (Enrol b r) o gs left calm (inl v) free last map g one holds = counted_next start m b r o gs left calm v free last g one holds
committed start m (Enrol b r) o gs left calm (inr v) free last map g one holds = (
  hunted_next start m b r o gs left calm v free last map g,
  begins_less o (with_kept m (Enrol b r)) 2 (enrolled_begins m b r o v.reserved free last map g) (omega arith),
)
committed start m (Release c r) o gs left calm v free last map g one holds = (
  released_next start m c r v.0 o gs left calm v.1 free last g one holds,
  begins_less o (with_kept m (Release c r)) 1 (released_begins m c r o calm free last g) (omega arith),
)

-- A CONTROLLER THAT SURVEYS ACTS, in a visit and at its close; and in whatever transaction.

-- ---------------------------------------------------------------- a visit

pub found_address : (xs : List Assignment) (r : ℕ) → MatchOption (address_for xs r) (HasRandom xs r → ⊥) (λ a. Has xs (a, r))
found_address [] r = λ h. h
found_address (p ∷ xs) r = go (p.1 == r) refl (address_for xs r) (found_address xs r) where
  go : (b : Bool) → (p.1 == r) ≡ b → (o : Option ℕ) → MatchOption o (HasRandom xs r → ⊥) (λ a. Has xs (a, r))
      → MatchOption (if b then Some p.0 else o) (HasRandom (p ∷ xs) r → ⊥) (λ a. Has (p ∷ xs) (a, r))
  go true is o later = inl (ap (λ x. (p.0, x)) (wanted.same_number p.1 r is))
  go false is None none = none_of where
    none_of : HasRandom (p ∷ xs) r → ⊥
    none_of (inl e) = let there : (p.1 == r) ≡ true = wanted.number_same p.1 r e in let never : true ≡ false = sym there ∙ is in cc
    none_of (inr h) = none h
  go false is (Some a) there = inr there

pub withheld_anothers : (t : Machine) (y : Way) (a r : ℕ) → is_withheld_by t y a r ≡ true → is_anothers t.kept t.heard a r ≡ true
withheld_anothers t Fresh a r withheld = absurd (cc)
withheld_anothers t Surveying a r withheld = (wanted.both_pass t.course.opened (is_anothers t.kept t.heard a r) withheld).1

pub ungiven_next : (t : Machine) (r : SearchAddress) (b : Bool) → stage_of t.trace ≡ stage.Unnamed r → t.course.way ≡ Surveying → may_draw t ≡ b
    → next_course t ≡ (if b then opening_anew t.course else full t t.course)
ungiven_next t r b is way may = ap (begins_at t) is ∙ ap (ungiven t) way ∙ ap (λ y. if y then opening_anew t.course else full t t.course) may

-- a gear that is visited has no address yet
visited_bare : (r : SearchAddress) (k : Kept) (n : SearchAddress) (gs : List Gear) (rest : ℕ) → Visits (stage.Unnamed r) k n (those_drawn gs) rest
    → 0 < count_by is_bare gs
visited_bare r k n gs rest w =
    some (count_by is_bare gs) (count_by is_bare (those_drawn gs)) (count_by is_lost gs) (count_by is_wanted (those_drawn gs)) w.more (bare_split gs)
    (wanted.wanted_count (those_drawn gs) w.ready w.unnamed) w.visited.count
  where
    some : (bare drew lost sought more : ℕ) → bare ≡ drew + lost → sought ≡ drew → sought ≡ suc more → 0 < bare
    some bare drew lost sought more split same count = omega (arith, split, same, count)

unnamed_turns : (start : Begun) (t : Machine) (o : Order) (r : SearchAddress) (gs : List Gear) (left : ℕ) → IsGivenBy t o → SurveyStands true start t gs left
    → IsAtHand t.kept gs → t.course.purpose ≡ Visiting → stage_of t.trace ≡ stage.Unnamed r
    → Hunts true Visiting (stage.Unnamed r) t.kept t.heard t.course start gs left → GoesTo start t o gs left
unnamed_turns start t o r gs left g st hand purpose is v =
    go (address_for t.kept.reserved (value_of r)) (found_address t.kept.reserved (value_of r)) (least_open t.kept t.heard) refl
    (subst (λ y. AfterMaskOn y t (course_by t o) r o) st.calm.smooth.way (g.ordered.unnamed r is)) where
      w : Visits (stage.Unnamed r) t.kept t.course.number (those_drawn gs) v.rest
      w = v.at.0

      same : value_of r ≡ value_of t.course.number
      same = ap value_of (sym w.searched)

      frames : (HasRandom t.kept.reserved (value_of r) → ⊥) → VisitFrames t.kept t.course.number w.more (v.rest + 4) → 7 + search_frames w.more ≤ v.rest
      frames none (inl e) = absurd (none (subst (HasRandom t.kept.reserved) (sym same) e.0))
      frames none (inr e) = omega (arith, e)

      same_behind : suc w.more ≡ suc v.behind
      same_behind = sym w.visited.count ∙ v.behind_is

      some : VisitFrames t.kept t.course.number w.more (v.rest + 4) → 8 + 111 * w.more ≤ v.rest
      some (inl e) = let enough : 7 + search_frames w.more ≤ v.rest + 4 = e.1 in omega (arith, enough)
      some (inr e) = omega (arith, e)

      -- nothing is reserved for the number, so all that is reserved is enrolled
      settled : (HasRandom t.kept.reserved (value_of r) → ⊥) → Settles start t.kept
      settled none x has = by (v.settled x has) where
        by : IsSettledIn start t.kept x ⊎ (x.1 ≡ value_of t.course.number) → IsSettledIn start t.kept x
        by (inl was) = was
        by (inr number) = absurd (none (subst (HasRandom t.kept.reserved) (number ∙ sym same) (has_map (λ (q : Assignment). q.1) t.kept.reserved x has)))

      reserves : (a : ℕ) → is_open t.kept t.heard a ≡ true → (HasRandom t.kept.reserved (value_of r) → ⊥)
          → GoesTo start t (Commit (Reserve a (value_of r))) gs left
      reserves a free none = (
        st.calm,
        record {
          hunted = v.hunted;
          clear = v.clear;
          settled = settled none;
          open_is = free;
          ready = w.ready;
          unnamed = w.unnamed;
          is = v.at.1.is;
          reached = v.at.1.reached ∙ ap Found (sym same);
          least = λ k has. subst (λ m. m ≤ k) (sym same) (v.at.1.least k has);
          wanted = subst (λ m. wants (those_drawn gs) m ≡ true) (sym same) w.visited.wanted;
          drawn = subst (λ m. m < MASK24) (sym same) (drawn_number t.course.number w.visited.number w.visited.number_is w.visited.drawn);
          more = w.more;
          count = w.visited.count;
          tabled = v.tabled;
          frames = count w.more v.behind v.rest (called_after (count_by is_lost gs)) same_behind (frames none w.frames) v.frames;
        },
      ) where
        count : (more behind rest after : ℕ) → suc more ≡ suc behind → 7 + search_frames more ≤ rest → rest + 27 + after ≤ left + 5 * behind
            → 39 + 106 * more + after ≤ left
        count more behind rest after same one two = omega (arith, same, one, two)

      go : (given_to : Option ℕ) → MatchOption given_to (HasRandom t.kept.reserved (value_of r) → ⊥) (λ a. Has t.kept.reserved (a, value_of r))
          → (free : Option ℕ) → least_open t.kept t.heard ≡ free → AfterMaskBy t r given_to free o → GoesTo start t o gs left
      go (Some a) has free least mask = by (is_withheld t a (value_of r)) refl where
        by : (b : Bool) → is_withheld t a (value_of r) ≡ b → GoesTo start t o gs left
        by false free = later_by start t o (stage.Unnamed r) (frame_of (Program (Some a))) gs left st (subst (λ b. AfterReserved t a b o) free mask) is tt
        by true withheld =
            absurd (let never : true ≡ false = sym (withheld_anothers t t.course.way a (value_of r) withheld)
            ∙ nobody_elses t.kept t.heard gs hand.holds hand.owned v.clear a (value_of r) has in cc)
      go None none (Some a) least mask =
          subst (λ q. GoesTo start t q gs left) (sym mask)
          (reserves a (open_is t.kept t.heard (t.kept.block.last + 1 - t.kept.block.first) t.kept.block.first a least) none)
      go None none None least mask =
          first_by start t o (closing_by t.course BlockFull) gs left st.calm mask
          (ungiven_next t r false is st.calm.smooth.way (ap (λ x. nat_lt t.course.tally.draws 3 && is_some x) least ∙ never (nat_lt t.course.tally.draws 3))
          ∙ never_full t t.course st.calm.smooth.unmissed) st.calm.smooth (record {
            stage_is = tt;
            well = (visited_bare r t.kept t.course.number gs v.rest w, all_taken t.kept t.heard least);
            settled = settled none;
            tabled = drawn_tabled (unseen start.gear) t.kept.enrolled gs v.tabled;
            frames = count w.more v.behind v.rest (called_after (count_by is_lost gs)) same_behind (some w.frames) v.frames;
          })
        where
          never : (b : Bool) → (b && false) ≡ false
          never true = refl
          never false = refl

          count : (more behind rest after : ℕ) → suc more ≡ suc behind → 8 + 111 * more ≤ rest → rest + 27 + after ≤ left + 5 * behind → 1 ≤ left + 0
          count more behind rest after same one two = omega (arith, same, one, two)

withdrawn_turns : (start : Begun) (t : Machine) (o : Order) (r : SearchAddress) (a : ℕ) (gs : List Gear) (left : ℕ) → IsGivenBy t o
    → SurveyStands true start t gs left → IsKept t.kept → t.course.purpose ≡ Visiting → stage_of t.trace ≡ stage.Withdrawn r a
    → Hunts true Visiting (stage.Withdrawn r a) t.kept t.heard t.course start gs left → IsUncontradicted t → GoesTo start t o gs left
withdrawn_turns start t o r a gs left g st kept purpose is v agreed = go o g (g.ordered.found r a is) where
  w : Leaves r a t.kept t.course.number (those_drawn gs) v.rest
  w = v.at.0

  reserved : Has t.kept.reserved (a, value_of r)
  reserved = subst (λ (m : SearchAddress). Has t.kept.reserved (a, value_of m)) (sym w.searched) w.reserved

  tabled : AreTabled (unseen start.gear) ((a, value_of r) ∷ t.kept.enrolled) (those_drawn gs)
  tabled = subst (λ (m : SearchAddress). AreTabled (unseen start.gear) ((a, value_of m) ∷ t.kept.enrolled) (those_drawn gs)) (sym w.searched) v.tabled

  same : value_of t.course.number ≡ value_of r
  same = ap value_of (sym w.searched)

  -- the frames that are left for the search that goes on
  ends : 106 * count_by is_wanted (those_drawn gs) + 32 + called_after (count_by is_lost gs) ≤ left
  ends = go (count_by is_wanted (those_drawn gs)) ((called_after (count_by is_lost gs))) v.behind v.behind_is.0 v.behind_is.1 v.frames where
    go : (count after behind : ℕ) → count ≤ behind → search_frames behind ≤ v.rest → v.rest + 27 + after ≤ left + 5 * behind → 106 * count + 32 + after ≤ left
    go count after behind few enough all = omega (arith, few, enough, all)

  -- and who is left is above it
  up : Above t.course.ascent (value_of r) (those_drawn gs)
  up = record {
    is = v.at.1.is;
    reached = v.at.1.reached ∙ ap Found same;
    drawn = subst (λ m. m < MASK24) same (drawn_number t.course.number w.number w.number_is w.drawn);
    past = λ k has. subst (λ m. m < k) same (v.at.1.least k has);
  }

  -- the one that is reserved for the number is that entry
  settled : Has t.kept.enrolled (a, value_of r) → Settles start t.kept
  settled entry x has = by (v.settled x has) where
    by : IsSettledIn start t.kept x ⊎ (x.1 ≡ value_of t.course.number) → IsSettledIn start t.kept x
    by (inl was) = was
    by (inr number) =
        inl (subst (Has t.kept.enrolled) (sym (same_member (λ (q : Assignment). q.1) t.kept.reserved x (a, value_of r) kept.reserved.random_once has reserved
        (number ∙ same))) entry)

  go : (q : Order) → IsGivenBy t q → AfterFinding t a (value_of r) q → GoesTo start t q gs left
  go (Put p f) g has =
      hunts_on start t (Put p f) (value_of r) gs left st.calm (given.withdrawn_known t (Put p f) r a g is kept.enrolled has)
      (ap (begins_at t) is) v.hunted v.clear (settled has) up w.ready w.unnamed
      (tabled_over (unseen start.gear) ((a, value_of r) ∷ t.kept.enrolled) t.kept.enrolled (those_drawn gs) (entry_twice t.kept.enrolled (a, value_of r) has)
      tabled)
      ends
  go (Commit x) g has = subst (λ y. GoesTo start t (Commit y) gs left) (sym has) (
    st.calm,
    inr (record {
      hunted = v.hunted;
      clear = v.clear;
      ready = w.ready;
      unnamed = w.unnamed;
      above = up;
      reserved = reserved;
      settled = λ x is. by x (v.settled x is);
      tabled = tabled;
      frames = ends;
    }),
  ) where
    by : (x : Assignment) → IsSettledIn start t.kept x ⊎ (x.1 ≡ value_of t.course.number) → IsSettledIn start t.kept x ⊎ (x.1 ≡ value_of r)
    by x (inl was) = inl was
    by x (inr number) = inr (number ∙ same)
  go (Done e) g has = absurd has
  go (Halt why) g has = absurd (agreed (Queried a (value_of r)) (found_at start t gs left (stage.Withdrawn r a) st is) has)

visiting_turns : (start : Begun) (t : Machine) (o : Order) (s : Stage) (gs : List Gear) (left : ℕ) → IsGivenBy t o → SurveyStands true start t gs left
    → IsAtHand t.kept gs → t.course.purpose ≡ Visiting → stage_of t.trace ≡ s → (s ≡ stage.Free → ⊥)
    → Hunts true Visiting s t.kept t.heard t.course start gs left → IsUncontradicted t → turn_of Visiting t.course.number s ≡ None → GoesTo start t o gs left
visiting_turns start t o stage.Free gs left g st hand purpose is running v agreed over = absurd (running refl)
visiting_turns start t o (stage.HighSent high) gs left g st hand purpose is running v agreed over = absurd (cc)
visiting_turns start t o (stage.MiddleSent high middle) gs left g st hand purpose is running v agreed over = absurd (cc)
visiting_turns start t o (stage.NumberSent r) gs left g st hand purpose is running v agreed over = absurd (cc)
visiting_turns start t o (stage.Unnamed r) gs left g st hand purpose is running v agreed over = unnamed_turns start t o r gs left g st hand purpose is v
visiting_turns start t o (stage.Programmed r a) gs left g st hand purpose is running v agreed over = absurd (cc)
visiting_turns start t o (stage.Confirmed r a) gs left g st hand purpose is running v agreed over = absurd (cc)
visiting_turns start t o (stage.Withdrawn r a) gs left g st hand purpose is running v agreed over =
    withdrawn_turns start t o r a gs left g st hand.kept purpose is v agreed
visiting_turns start t o _ gs left g st hand purpose is running v agreed over = absurd v.at.0.stage_is

-- ---------------------------------------------------------------- of whatever transaction

-- after a frame that was heard
pub turned : (start : Begun) (t : Machine) (o : Order) (gs : List Gear) (left : ℕ) → IsGivenBy t o → SurveyStands true start t gs left → IsAtHand t.kept gs
    → IsUncontradicted t → IsWhole (machine_ordered t o) → IsNoEnrolment t.last → (stage_of t.trace ≡ stage.Free → ⊥) → GoesTo start t o gs left
turned start t o gs left g st hand agreed whole last running = by (turn_of t.course.purpose t.course.number (stage_of t.trace)) refl where
  go : (p : Purpose) → t.course.purpose ≡ p → SurveyAt true p (stage_of t.trace) t.kept t.heard t.asked t.course start gs left
      → turn_of p t.course.number (stage_of t.trace) ≡ None → GoesTo start t o gs left
  go (Counting a) purpose at over = census_turns start t o a (stage_of t.trace) gs left g st last purpose refl running at.0 at.1 hand agreed whole over
  go Calling purpose at over = calling_turns start t o (stage_of t.trace) gs left g st purpose refl running at hand.numbered over
  go Drawing purpose at over =
      let drew = draw_over Drawing (stage_of t.trace) t.course.number gs tt at.draw over running in
      drawn_turns start t o gs left g st last drew (subst (λ s. Draws s t.kept t.heard t.course start gs left) drew at)
  go Hunting purpose at over = hunting_turns start t o (stage_of t.trace) gs left g st purpose refl running at over
  go Visiting purpose at over = visiting_turns start t o (stage_of t.trace) gs left g st hand purpose refl running at agreed over
  go (Closing e) purpose at over =
      subst (λ q. GoesTo start t q gs left) (sym (close_ends t o e (stage_of t.trace) g purpose refl running at.stage_is st.trace.finding st.calm.untried))
      (at.well, at.tabled, at.settled)
  go Opening purpose at over = absurd at
  go Probing purpose at over = absurd at
  go PassingOver purpose at over = absurd at
  go (Resolving a) purpose at over = absurd at

  by : (q : Option Command) → turn_of t.course.purpose t.course.number (stage_of t.trace) ≡ q → GoesTo start t o gs left
  by (Some c) turn = turns_by start t o t.course.purpose (stage_of t.trace) c gs left g st refl refl turn
  by None over = go t.course.purpose refl st.at over
