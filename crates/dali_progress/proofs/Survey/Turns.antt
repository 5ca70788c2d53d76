use Rattle.dali_progress.proofs.Below.{◌≡◌, ℕ, ◌+◌, ◌-◌, ◌*◌, ◌<◌, ◌≤◌, ◌⊎◌, inl, inr, Bool, true, false, zero, suc, List, [], ◌∷◌, ◌++◌, refl, sym, ap, subst}
use Rattle.dali_progress.proofs.Below.{◌∙◌, arith, Some, None, ◌==◌, ◌&&◌, not, nat_lt, if◌then◌else◌, nat_tests, count_by, MASK24, Answer, SearchAddress, Gear}
use Rattle.dali_progress.proofs.Below.{assigned, finding_of, Has, stage_of, finding_at, Finding, Resolved, AllFound, Order, Put, Commit, Done, Halt, Enrol}
use Rattle.dali_progress.proofs.Below.{Stage, has_last, has_before, Course, call_turn, calling, closing, hunting_first, is_yes, turn_of, Machine, next_course}
use Rattle.dali_progress.proofs.Below.{begins_at, beginning, asked_once, called_to, compared_in, blocked, is_blocked, machine_ordered, asked_by, Contradicts}
use Rattle.dali_progress.proofs.Below.{AfterFinding, IsSought, none_passed, is_some_passed, heard_call, silent_call, IsWhole, Asking, Calling, Tally, IsGivenBy}
use Rattle.dali_progress.proofs.{Below.{IsNoEnrolment, gear_of, is_wanted, is_bare, IsOpened, NoneNamed}, Survey.Begins.{first_by, begins_whole, asks_on}}
use Rattle.dali_progress.proofs.Survey.{Begins.{hunts_first, roll_some, roll_none, GoesTo}, Drawn.{those_drawn, is_lost, AreNumbered, bare_split, woken_opened}}
use Rattle.dali_progress.proofs.Survey.{Drawn.{woken_none_named, tabled_drawn}, Queried.{Holds, OneShort, IsTrue, unseen, below_next, IsAtHand, one_gear}}
use Rattle.dali_progress.proofs.Survey.Stands.{Begun, survey_frames, silent_left, Counts, IsUncalled, Calls, hunted_after, SurveyAt, SurveyStands}
use Rattle.dali_progress.proofs.{Survey.Woken.all_short, Surveying.{IsCalledBy, roll_first, roll_over}, Later.asked_none}
use Rattle.dali_script.specs.declared.stage.Stage.TheVariants as stage
use Rattle.dali_controller.proofs.Given as given
use Rattle.dali_events.proofs.Search.Wanted as wanted

-- A CONTROLLER THAT SURVEYS ACTS on what it was told, and what it orders goes on with the survey.

-- what is known beside: the table does not contradict what the transaction found
abbrev pub IsUncontradicted : Machine → Type 0
IsUncontradicted t = (x : Finding) → finding_of t.trace ≡ Some x → Contradicts t.kept.enrolled (assigned x).0 (assigned x).1 → ⊥

-- the finding of a transaction by its stage
pub found_at : {told : Bool} (start : Begun) (t : Machine) (gs : List Gear) (left : ℕ) (s : Stage) → SurveyStands told start t gs left → stage_of t.trace ≡ s
    → finding_of t.trace ≡ finding_at s
found_at start t gs left s st is = st.trace.finding ∙ ap finding_at is

-- ---------------------------------------------------------------- the census

again_left : (asked : ℕ) → (asked == 0) ≡ false → 3 - asked ≤ silent_left asked
again_left zero e = absurd (let none : (zero == 0) ≡ true = refl in cc)
again_left (suc k) e = omega arith

silent_turns : (start : Begun) (t : Machine) (o : Order) (a b : ℕ) (gs : List Gear) (left : ℕ) → IsGivenBy t o → SurveyStands true start t gs left
    → IsNoEnrolment t.last → t.course.purpose ≡ Asking a → stage_of t.trace ≡ stage.HighAsked b None → IsUncalled t.course
    → Counts a (stage.HighAsked b None) t.kept t.heard t.asked t.course.from start gs left → IsWhole (machine_ordered t o) → OneShort gs
    → IsTrue t.kept.enrolled gs → GoesTo start t o gs left
silent_turns start t o a b gs left g st last purpose is uncalled v whole one holds = go (t.asked == 0) refl where
  begins : o ≡ beginning (next_course t)
  begins =
      begins_whole t o (Asking a) (stage.HighAsked b None) g purpose is (λ r e. cc) (λ e. cc) tt (λ f sends. (let none = sends.0 in cc))
      (found_at start t gs left (stage.HighAsked b None) st is) last st.calm.untried whole

  next : next_course t ≡ asked_once t (t.asked == 0)
  next = ap (begins_at t) is

  go : (e : Bool) → (t.asked == 0) ≡ e → GoesTo start t o gs left
  go true none =
      asks_on start t o (a + 1) gs left st.calm begins (next ∙ ap (asked_once t) none) uncalled
      (let zero_is : t.asked ≡ 0 = grind (arith, nat_tests, none) in zero_is) v.from_is
      (let small : a < 64 = v.ask.small in omega (arith, small)) v.settled v.ask.clear one holds v.same
      (below_next a start.gear t.kept.enrolled t.kept.enrolled gs v.same v.tabled (λ x h. h) (λ i holds. absurd (v.ask.asked.1 i holds)))
      (count (silent_left t.asked) (survey_frames gs) v.ask.small v.frames) where
        count : (some wake : ℕ) → a < 64 → 3 * (63 - a) + some + wake ≤ left → 3 * (64 - (a + 1)) + wake ≤ left
        count some wake small enough = omega (arith, small, enough)
  go false again =
      first_by start t o t.course gs left st.calm begins (next ∙ ap (asked_once t) again) st.calm.smooth
      (subst (λ n. SurveyAt false t.course.purpose stage.Free t.kept t.heard n t.course start gs left)
      (sym (ap (λ b. asked_by b t.asked) uncalled.unopened)) (rw purpose (
        record { unopened = uncalled.unopened; undrawn = uncalled.undrawn; loud = uncalled.loud },
        record {
          ask = record { small = v.ask.small; asked = tt; clear = v.ask.clear };
          from_is = v.from_is;
          settled = v.settled;
          same = v.same;
          count = inr (v.ask.asked.1, v.count);
          tabled = v.tabled;
          frames = count (3 - t.asked) (silent_left t.asked) (survey_frames gs) (again_left t.asked again) v.frames;
        },
      ))) where
        count : (now some wake : ℕ) → now ≤ some → 3 * (63 - a) + some + wake ≤ left → 3 * (63 - a) + now + wake ≤ left
        count now some wake less enough = omega (arith, less, enough)

-- three bytes told a number
told_turns : (start : Begun) (t : Machine) (o : Order) (a b n : ℕ) (gs : List Gear) (left : ℕ) → IsGivenBy t o → SurveyStands true start t gs left
    → t.course.purpose ≡ Asking a → stage_of t.trace ≡ stage.Spelled b (Some n) → IsUncalled t.course
    → Counts a (stage.Spelled b (Some n)) t.kept t.heard t.asked t.course.from start gs left → IsAtHand t.kept gs → IsUncontradicted t
    → GoesTo start t o gs left
told_turns start t o a b n gs left g st purpose is uncalled v hand agrees = go (nat_lt n MASK24) refl where
  count : (wake : ℕ) → a < 64 → 3 * (63 - a) + 0 + wake ≤ left → 3 * (64 - (a + 1)) + wake ≤ left
  count wake small enough = omega (arith, small, enough)

  same_count : (wake : ℕ) → 3 * (63 - a) + 0 + wake ≤ left → 3 * (63 - a) + wake ≤ left
  same_count wake enough = omega (arith, enough)

  told_by : (i : ℕ) → Holds gs i a → n ≡ (gear_of gs i).random
  told_by i has = v.ask.asked.1.2 ∙ ap (λ j. (gear_of gs j).random) (one_gear gs hand.one v.ask.asked.1.0 i a v.ask.asked.1.1 has)

  sought : n < MASK24 → IsSought t.course.purpose t.course.number n
  sought small = subst (λ p. IsSought p t.course.number n) (sym purpose) small

  -- the next short address, if the gear that has this one is in the table, or has no number that gear draw
  goes : (q : Order) → q ≡ beginning (next_course t)
      → ((i : ℕ) → Holds gs i a → ((gear_of gs i).random ≡ MASK24) ⊎ Has t.kept.enrolled (a, (gear_of gs i).random)) → GoesTo start t q gs left
  goes q begins here =
      asks_on start t q (a + 1) gs left st.calm begins (ap (begins_at t) is) uncalled v.count v.from_is
      (let small : a < 64 = v.ask.small in omega (arith, small)) v.settled v.ask.clear hand.one hand.holds v.same
      (below_next a start.gear t.kept.enrolled t.kept.enrolled gs v.same v.tabled (λ x h. h) here) (count (survey_frames gs) v.ask.small v.frames)

  none_drawn : (n < MASK24 → ⊥) → (i : ℕ) → Holds gs i a → ((gear_of gs i).random ≡ MASK24) ⊎ Has t.kept.enrolled (a, (gear_of gs i).random)
  none_drawn large i has = by (hand.numbered i has.there) where
    by : ((gear_of gs i).random ≡ MASK24) ⊎ ((gear_of gs i).random < MASK24) → ((gear_of gs i).random ≡ MASK24) ⊎ Has t.kept.enrolled (a, (gear_of gs i).random)
    by (inl mask) = inl mask
    by (inr small) = absurd (large (subst (λ m. m < MASK24) (sym (told_by i has)) small))

  enrols : GoesTo start t (Commit (Enrol a n)) gs left
  enrols = (
    st.calm,
    inl (record {
      uncalled = uncalled;
      asked = asked_none t.course.opened t.asked v.count;
      small = v.ask.small;
      from_is = v.from_is;
      settled = v.settled;
      clear = v.ask.clear;
      same = v.same;
      tabled = below_next a start.gear t.kept.enrolled (t.kept.enrolled ++ (a, n) ∷ []) gs v.same v.tabled (λ x h. has_before t.kept.enrolled (a, n) x h)
          (λ i has. inr (subst (λ r. Has (t.kept.enrolled ++ (a, n) ∷ []) (a, r)) (told_by i has) (has_last t.kept.enrolled (a, n))));
      frames = same_count (survey_frames gs) v.frames;
    }),
  )

  follows : (q : Order) → IsGivenBy t q → n < MASK24 → AfterFinding t b n q → GoesTo start t q gs left
  follows (Put p f) g small has =
      goes (Put p f) (given.spelled_known t (Put p f) b n g is (sought small) hand.kept.enrolled has)
      (λ i told. inr (subst (λ c. Has t.kept.enrolled (c, (gear_of gs i).random)) v.ask.asked.0 (subst (λ r. Has t.kept.enrolled (b, r)) (told_by i told) has)))
  follows (Commit x) g small same =
      subst (λ y. GoesTo start t (Commit y) gs left) (sym same) (subst (λ c. GoesTo start t (Commit (Enrol c n)) gs left) (sym v.ask.asked.0) enrols)
  follows (Done e) g small never = absurd never
  follows (Halt why) g small contradicts = absurd (agrees (Resolved b n) (found_at start t gs left (stage.Spelled b (Some n)) st is) contradicts)

  go : (s : Bool) → nat_lt n MASK24 ≡ s → GoesTo start t o gs left
  go true less =
      let small : n < MASK24 = grind (arith, nat_tests, less) in
      follows o g small (g.followed.told b n is (sought small))
  go false over =
      let large : n < MASK24 → ⊥ = grind (arith, nat_tests, over) in
      goes o (g.followed.another b n is (λ s. large (subst (λ p. IsSought p t.course.number n) purpose s))) (none_drawn large)

pub census_turns : (start : Begun) (t : Machine) (o : Order) (a : ℕ) (s : Stage) (gs : List Gear) (left : ℕ) → IsGivenBy t o → SurveyStands true start t gs left
    → IsNoEnrolment t.last → t.course.purpose ≡ Asking a → stage_of t.trace ≡ s → (s ≡ stage.Free → ⊥) → IsUncalled t.course
    → Counts a s t.kept t.heard t.asked t.course.from start gs left → IsAtHand t.kept gs → IsUncontradicted t → IsWhole (machine_ordered t o)
    → turn_of (Asking a) t.course.number s ≡ None → GoesTo start t o gs left
census_turns start t o a stage.Free gs left g st last purpose is running uncalled v hand agrees whole over = absurd (running refl)
census_turns start t o a (stage.HighAsked b None) gs left g st last purpose is running uncalled v hand agrees whole over =
    silent_turns start t o a b gs left g st last purpose is uncalled v whole hand.one hand.holds
census_turns start t o a (stage.HighAsked b (Some u)) gs left g st last purpose is running uncalled v hand agrees whole over = absurd (cc)
census_turns start t o a (stage.MiddleAsked b (Some x)) gs left g st last purpose is running uncalled v hand agrees whole over = absurd (cc)
census_turns start t o a (stage.Spelled b (Some n)) gs left g st last purpose is running uncalled v hand agrees whole over =
    told_turns start t o a b n gs left g st purpose is uncalled v hand agrees
census_turns start t o a _ gs left g st last purpose is running uncalled v hand agrees whole over = absurd v.ask.asked

-- ---------------------------------------------------------------- the roll call

called_next : (t : Machine) (r : SearchAddress) (h : Answer) (room : ℕ) (b : Bool) → stage_of t.trace ≡ stage.Hunted r (Some h) room
    → t.course.purpose ≡ Calling → is_yes h ≡ b → next_course t ≡ called_to t b t.course
called_next t r h room b is purpose said = ap (begins_at t) is ∙ ap (λ p. compared_in t p h) purpose ∙ ap (λ y. called_to t y t.course) said

pub silent_next : (t : Machine) (r : SearchAddress) (h : Answer) (room : ℕ) (b : Bool) → stage_of t.trace ≡ stage.Hunted r (Some h) room
    → t.course.purpose ≡ Calling → is_yes h ≡ false → t.course.tally.is_silent ≡ b
    → next_course t ≡ (if b then closing t.course AllFound else calling (record t.course { tally = silent_call t.course.tally }))
silent_next t r h room b is purpose said silent =
    called_next t r h room false is purpose said ∙ ap (λ y. if y then closing t.course AllFound else calling
    (record t.course { tally = silent_call t.course.tally })) silent

pub heard_next : (t : Machine) (r : SearchAddress) (h : Answer) (room : ℕ) (b : Bool) → stage_of t.trace ≡ stage.Hunted r (Some h) room
    → t.course.purpose ≡ Calling → is_yes h ≡ true → is_blocked t.course.tally ≡ b
    → next_course t ≡ (if b then blocked t else hunting_first (record t.course { tally = heard_call t.course.tally }))
heard_next t r h room b is purpose said stuck =
    called_next t r h room true is purpose said ∙ ap (λ y. if y then blocked t else hunting_first (record t.course { tally = heard_call t.course.tally })) stuck

-- no gear was passed over
unblocked : (y : Tally) → y.passed ≡ none_passed → is_blocked y ≡ false
unblocked y none = ap (λ p. not (nat_lt y.calls 3) && is_some_passed p) none ∙ both (not (nat_lt y.calls 3)) where
  both : (b : Bool) → (b && false) ≡ false
  both true = refl
  both false = refl

-- no gear is without short address: the roll is called once more, or the close comes
silent_call_turns : (start : Begun) (t : Machine) (o : Order) (r : SearchAddress) (h : Answer) (room : ℕ) (gs : List Gear) (left : ℕ)
    → SurveyStands true start t gs left → t.course.purpose ≡ Calling → stage_of t.trace ≡ stage.Hunted r (Some h) room
    → Calls (stage.Hunted r (Some h) room) t.kept t.heard t.course start gs left → o ≡ beginning (next_course t) → is_yes h ≡ false → count_by is_bare gs ≡ 0
    → GoesTo start t o gs left
silent_call_turns start t o r h room gs left st purpose is v begins said nobody = go t.course.tally.is_silent refl where
  none : count_by is_bare (those_drawn gs) + count_by is_lost gs ≡ 0
  none = sym (bare_split gs) ∙ nobody

  frames : (b : Bool) → t.course.tally.is_silent ≡ b → (if b then 9 else 17) ≤ left + (8 - room)
  frames b e =
      subst (λ n. n ≤ left + (8 - room)) (roll_none t.course.tally.is_silent (count_by is_bare (those_drawn gs)) (count_by is_lost gs) none
      ∙ ap (λ y. if y then 9 else 17) e) v.frames

  go : (b : Bool) → t.course.tally.is_silent ≡ b → GoesTo start t o gs left
  go true e =
      first_by start t o (closing t.course AllFound) gs left st.calm begins (silent_next t r h room true is purpose said e)
      st.calm.smooth (record { stage_is = tt; well = all_short gs nobody; settled = v.settled; tabled = v.tabled; frames = count (frames true e) }) where
        count : 9 ≤ left + (8 - room) → 1 ≤ left + 0
        count enough = omega (arith, enough)
  go false e =
      first_by start t o (calling (record t.course { tally = silent_call t.course.tally })) gs left st.calm begins
      (silent_next t r h room false is purpose said e)
      st.calm.smooth (record {
        opened_is = v.opened_is;
        roll = roll_first gs;
        quiet = λ silent. nobody;
        first = v.first;
        clear = v.clear;
        settled = v.settled;
        tabled = v.tabled;
        frames = subst (λ n. n ≤ left + 0) (sym (roll_none true (count_by is_bare (those_drawn gs)) (count_by is_lost gs) none)) (count (frames false e));
      }) where
        count : 17 ≤ left + (8 - room) → 9 ≤ left + 0
        count enough = omega (arith, enough)

-- some gear is: if it drew a number it is searched
heard_call_turns : (start : Begun) (t : Machine) (o : Order) (r : SearchAddress) (h : Answer) (room : ℕ) (gs : List Gear) (left : ℕ)
    → SurveyStands true start t gs left → t.course.purpose ≡ Calling → stage_of t.trace ≡ stage.Hunted r (Some h) room
    → Calls (stage.Hunted r (Some h) room) t.kept t.heard t.course start gs left → AreNumbered gs → o ≡ beginning (next_course t) → is_yes h ≡ true
    → 0 < count_by is_bare gs → room ≡ 1 → GoesTo start t o gs left
heard_call_turns start t o r h room gs left st purpose is v numbered begins said some one =
    hunts_first start t o heard gs left st.calm begins (heard_next t r h room false is purpose said (unblocked t.course.tally st.calm.smooth.passed))
    st.calm.smooth (record { opened_is = v.opened_is; loud = refl; first = v.first; low = v.roll.low }) some v.clear v.settled opened unnamed
    (tabled_drawn (unseen start.gear) t.kept.enrolled gs v.tabled) (subst (λ n. 106 * n + 10 + hunted_after n (count_by is_lost gs) ≤ left) (sym count)
    (enough (count_by is_bare (those_drawn gs)) (hunted_after (count_by is_bare (those_drawn gs)) (count_by is_lost gs))
    room one (subst (λ n. n ≤ left + (8 - room)) (roll_some t.course.tally.is_silent (count_by is_bare (those_drawn gs)) (count_by is_lost gs)
    (subst (λ n. 0 < n) (bare_split gs) some)) v.frames)))
  where
    heard : Course
    heard = record t.course { tally = heard_call t.course.tally }

    opened : IsOpened (those_drawn gs)
    opened = woken_opened gs numbered v.roll.gear

    unnamed : NoneNamed (those_drawn gs)
    unnamed = woken_none_named gs v.roll.gear

    count : count_by is_wanted (those_drawn gs) ≡ count_by is_bare (those_drawn gs)
    count = wanted.wanted_count (those_drawn gs) opened unnamed

    enough : (drew after room : ℕ) → room ≡ 1 → 106 * drew + 17 + after ≤ left + (8 - room) → 106 * drew + 10 + after ≤ left
    enough drew after room one frames = omega (arith, one, frames)

pub calling_turns : (start : Begun) (t : Machine) (o : Order) (s : Stage) (gs : List Gear) (left : ℕ) → IsGivenBy t o → SurveyStands true start t gs left
    → t.course.purpose ≡ Calling → stage_of t.trace ≡ s → (s ≡ stage.Free → ⊥) → Calls s t.kept t.heard t.course start gs left → AreNumbered gs
    → turn_of Calling t.course.number s ≡ None → GoesTo start t o gs left
calling_turns start t o s gs left g st purpose is running v numbered over =
    let at = roll_over s t.course.number gs v.roll over running in
    go at.0 at.1 at.2 (is ∙ at.3) (subst (λ q. Calls q t.kept t.heard t.course start gs left) at.3 v) at.4
  where
    go : (r : SearchAddress) (h : Answer) (room : ℕ) → stage_of t.trace ≡ stage.Hunted r (Some h) room
        → Calls (stage.Hunted r (Some h) room) t.kept t.heard t.course start gs left → call_turn (Some h) room ≡ None → GoesTo start t o gs left
    go r h room is v over = by v.roll.stage_is.1 where
      begins : o ≡ beginning (next_course t)
      begins = g.followed.called r h room is purpose over

      by : IsCalledBy h room gs → GoesTo start t o gs left
      by (inl none) = silent_call_turns start t o r h room gs left st purpose is v begins none.0 none.1
      by (inr said) = heard_call_turns start t o r h room gs left st purpose is v numbered begins said.0 said.1 said.2
