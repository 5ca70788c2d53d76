use Rattle.dali_progress.proofs.Below.{◌≡◌, ℕ, ◌+◌, ◌*◌, ◌<◌, ◌≤◌, inl, inr, Bool, true, false, zero, suc, List, refl, sym, ap, subst, ◌∙◌, arith, Option, Some}
use Rattle.dali_progress.proofs.Below.{None, ◌==◌, ◌&&◌, nat_lt, if◌then◌else◌, is_some, nat_tests, count_by, LATER, MASK24, Answer, Forward, SearchAddress}
use Rattle.dali_progress.proofs.Below.{frame_of, Command, Gear, stage_of, BlockFull, Order, Put, Stage, Ascent, asked_next, ascended, leads_to, asking_next}
use Rattle.dali_progress.proofs.Below.{room_left, Again, Found, Nobody, Course, is_yes, least_open, sought, byte_to_send, next_unfinished, searching_first}
use Rattle.dali_progress.proofs.Below.{asking_again, turn_of, bytes_to_send, hunting, hunted, visiting, calling, drawing, closing as closing_by, Machine}
use Rattle.dali_progress.proofs.Below.{next_course, begins_at, beginning, has_open, hunted_to, is_hunting, question, asks_again, full, giving_up, undrawn}
use Rattle.dali_progress.proofs.Below.{nobody_left, compared_in, asked_on, course_on, machine_ordered, asked_by, Hunting, IsGivenBy, IsNoEnrolment, HasShort}
use Rattle.dali_progress.proofs.{Below.{IsOpened, NoneNamed, gear_of, is_wanted, is_bare, OfPowered, AreTabled}, Both.{never_eight, visits_first}}
use Rattle.dali_progress.proofs.{Frames.value_sought, Stands.search_frames, Survey.Stands.{Calm, IsHunted, Begun, IsCalledFor, Draws, called_after}}
use Rattle.dali_progress.proofs.Survey.{Stands.{hunted_after, roll_frames, frames_after, Rises, Hunts, IsSmooth, SurveyStands, Settles}, Begins.IsNext}
use Rattle.dali_progress.proofs.Survey.{Begins.{first_by, hunts_by, hunts_first, hunted_some, called_roll, all_taken, GoesTo}, Drawn.{those_drawn, is_undrawn}}
use Rattle.dali_progress.proofs.Survey.{Drawn.{is_lost, bare_split, drawn_tabled, tabled_drawn, kept_at, drawn_length, undrawn_random}, Queried.unseen}
use Rattle.dali_progress.proofs.Survey.{Rising.{bytes_same, Answered, answered_rise, rises_new, rises_in, IsReachedAt, rise_found, rise_nobody}, Turns.found_at}
use Rattle.dali_progress.proofs.{Survey.Woken.{none_bare, opened_lost, drawn_is, drawn_none_named}, Surveying.{NoneDrawn, draw_left, roll_first, IsClear}}
use Rattle.dali_search.specs.{Questions.Asking, declared.step.Step.Step}
use Rattle.dali_script.specs.declared.stage.Stage.TheVariants as stage
use Rattle.dali_search.specs.Questions as questions
use Rattle.dali_controller.proofs.Given as given
use Rattle.dali_events.proofs.Search.Opened as opening
use Rattle.dali_events.proofs.Search.Wanted as wanted

-- A CONTROLLER THAT SURVEYS ACTS, while gear draw, and while it searches.

-- ---------------------------------------------------------------- gear have drawn

drawn_frames : (wanted lost bare left : ℕ) → wanted ≡ bare → lost ≡ 0 → 0 < bare → 106 * bare + 26 ≤ left → 106 * wanted + 10 + hunted_after wanted lost ≤ left
drawn_frames zero lost bare left same none there enough = absurd (omega (arith, same, there))
drawn_frames (suc n) (suc lost) bare left same none there enough = absurd (omega (arith, none))
drawn_frames (suc n) zero bare left same none there enough = omega (arith, same, enough)

pub drawn_turns : (start : Begun) (t : Machine) (o : Order) (gs : List Gear) (left : ℕ) → IsGivenBy t o → SurveyStands true start t gs left
    → IsNoEnrolment t.last → stage_of t.trace ≡ stage.Opened → Draws stage.Opened t.kept t.heard t.course start gs left → GoesTo start t o gs left
drawn_turns start t o gs left g st last is v =
    hunts_first start t o t.course gs left st.calm (given.begins_after t o stage.Opened g is tt (found_at start t gs left stage.Opened st is) last
    (never_eight t.tries st.calm.untried)) (ap (begins_at t) is ∙ ap (λ y. searching_first y t.course) st.calm.smooth.way) st.calm.smooth
    (record { opened_is = v.opened_is; loud = v.loud; first = λ some. absurd (omega (arith, some, none)); low = v.draw.low })
    v.somebody v.clear v.settled ready unnamed (tabled_drawn (unseen start.gear) t.kept.enrolled gs v.tabled)
    (drawn_frames (count_by is_wanted (those_drawn gs)) (count_by is_lost gs) (count_by is_bare gs) left
    (count (count_by is_wanted (those_drawn gs)) (count_by is_bare (those_drawn gs)) (count_by is_lost gs) (count_by is_bare gs)
    (wanted.wanted_count (those_drawn gs) ready unnamed) (bare_split gs) none) none v.somebody (frames v.frames))
  where
    none : count_by is_lost gs ≡ 0
    none = opened_lost gs v.draw.gear

    ready : IsOpened (those_drawn gs)
    ready = drawn_is gs (opening.opened_is gs v.draw.gear)

    unnamed : NoneNamed (those_drawn gs)
    unnamed = drawn_none_named gs (opening.opened_none_named gs v.draw.gear)

    count : (wanted drew lost bare : ℕ) → wanted ≡ drew → bare ≡ drew + lost → lost ≡ 0 → wanted ≡ bare
    count wanted drew lost bare same split none = omega (arith, same, split, none)

    frames : draw_left stage.Opened + 106 * count_by is_bare gs + 26 ≤ left → 106 * count_by is_bare gs + 26 ≤ left
    frames enough = omega (arith, enough)

-- ---------------------------------------------------------------- no gear is left

-- if no gear is left of those that drew, gear without short address have none yet
none_but : (gs : List Gear) → OfPowered (those_drawn gs) HasShort → NoneDrawn gs
none_but gs all k in_row on none = go (is_undrawn (gear_of gs k)) refl where
  go : (b : Bool) → is_undrawn (gear_of gs k) ≡ b → (gear_of gs k).random ≡ MASK24
  go true is = (undrawn_random (gear_of gs k) is).0
  go false is =
      let same : gear_of (those_drawn gs) k ≡ gear_of gs k = kept_at gs k in_row is in
      let short = all k (subst (λ n. k < n) (sym (drawn_length gs)) in_row) (ap (λ (x : Gear). x.powered) same ∙ on) in
      absurd (let never : None ≡ Some short.0 = sym none ∙ (sym (ap (λ (x : Gear). x.short) same) ∙ short.1) in cc)

pub hunted_next : (t : Machine) (h : Answer) (r : SearchAddress) (room : ℕ) (s : Step) → t.course.purpose ≡ Hunting
    → stage_of t.trace ≡ stage.Hunted r (Some h) room → leads_to (ascended t.course.ascent (is_yes h)) ≡ s → next_course t ≡ hunted_to t s (hunted t.course h)
hunted_next t h r room s purpose is leads = ap (begins_at t) is ∙ ap (λ p. compared_in t p h) purpose ∙ ap (λ x. hunted_to t x (hunted t.course h)) leads

-- another transaction begins with its first frame
pub begins_by : (t : Machine) (o : Order) (cs : Course) (r : SearchAddress) (room : ℕ) → o ≡ question (next_course t) r room → next_course t ≡ cs
    → is_hunting cs.purpose ≡ false → o ≡ beginning (next_course t)
begins_by t o cs r room asks same other = asks ∙ go (subst (λ (c : Course). is_hunting c.purpose ≡ false) (sym same) other) where
  go : is_hunting (next_course t).purpose ≡ false → question (next_course t) r room ≡ beginning (next_course t)
  go none =
      ap (λ b. if b && nat_lt (bytes_to_send (next_course t).number r) room
      then Put LATER (frame_of (byte_to_send (next_course t).number r)) else beginning (next_course t)) none

pub found_same : (x : Ascent) (b : Bool) → (ascended x b).found ≡ x.found
found_same x true = refl
found_same x false = refl

-- short addresses are not asked again, since no visit failed
unasked_again : (t : Machine) → t.course.tally.is_missed ≡ false → asks_again t ≡ false
unasked_again t none =
    ap (λ b. nat_lt t.course.tally.askings 6 && b && is_some (next_unfinished t.kept 0)) none
    ∙ middle (nat_lt t.course.tally.askings 6) (is_some (next_unfinished t.kept 0)) where
      middle : (a c : Bool) → (a && false && c) ≡ false
      middle true c = refl
      middle false c = refl

pub never_full : (t : Machine) (c : Course) → t.course.tally.is_missed ≡ false → full t c ≡ closing_by c BlockFull
never_full t c none = ap (λ b. if b then asking_again t.kept c else closing_by c BlockFull) (unasked_again t none)

pub nothing_open : (t : Machine) → has_open t ≡ false → least_open t.kept t.heard ≡ None
nothing_open t e = go (least_open t.kept t.heard) e where
  go : (p : Option ℕ) → is_some p ≡ false → p ≡ None
  go None e = refl
  go (Some a) e = absurd (cc)

-- what is known when a hunt is over
record IsOver (start : Begun) (t : Machine) (h : Answer) (gs : List Gear) (left : ℕ) : Type 0 where
  smooth : IsSmooth t.course
  hunted : IsHunted t.course gs
  called : t.course.ascent.found ≡ 0 → 0 < count_by is_bare gs
  clear : IsClear t.kept t.heard
  settled : Settles start t.kept
  all : OfPowered (those_drawn gs) HasShort
  unwanted : count_by is_wanted (those_drawn gs) ≡ 0
  tabled : AreTabled (unseen start.gear) t.kept.enrolled (those_drawn gs)
  frames : 1 + hunted_after (t.course.ascent.found + count_by is_wanted (those_drawn gs)) (count_by is_lost gs) ≤ left

-- what follows if no gear was found
pub vain_next : (t : Machine) (h : Answer) (a b : Bool) → next_course t ≡ undrawn t (hunted t.course h) → has_open t ≡ a → nat_lt t.course.tally.draws 3 ≡ b
    → next_course t ≡ (if a then (if b then drawing (hunted t.course h) else giving_up (hunted t.course h)) else full t (hunted t.course h))
vain_next t h a b next free few =
    next ∙ ap (λ q. if q then (if nat_lt t.course.tally.draws 3 then drawing (hunted t.course h) else giving_up (hunted t.course h))
    else full t (hunted t.course h)) free ∙ ap (λ q. if a then (if q then drawing (hunted t.course h) else giving_up (hunted t.course h)) else full t
    (hunted t.course h)) few

-- no gear was found: those that never drew do, or no address is open
vain_over : (start : Begun) (t : Machine) (o : Order) (h : Answer) (r : SearchAddress) (room : ℕ) (gs : List Gear) (left : ℕ) → Calm t
    → o ≡ question (next_course t) r room → next_course t ≡ undrawn t (hunted t.course h) → t.course.ascent.found ≡ 0 → IsOver start t h gs left
    → GoesTo start t o gs left
vain_over start t o h r room gs left calm asks next none v = go (has_open t) refl where
  whole_table : AreTabled (unseen start.gear) t.kept.enrolled gs
  whole_table = drawn_tabled (unseen start.gear) t.kept.enrolled gs v.tabled

  some : 0 < count_by is_bare gs
  some = v.called none

  lost : count_by is_bare gs ≡ count_by is_lost gs
  lost = let parts = bare_split gs in let nobody = none_bare (those_drawn gs) v.all in omega (arith, parts, nobody)

  undrawn_yet : t.course.tally.draws ≡ 0
  undrawn_yet = v.hunted.first (subst (λ n. 0 < n) lost some)

  after : (m n l : ℕ) → m ≡ 0 → n ≡ 0 → 1 + hunted_after (m + n) l ≤ left → 106 * l + 34 ≤ left
  after zero zero l one two enough = omega (arith, enough)
  after (suc m) n l one two enough = absurd (omega (arith, one))
  after zero (suc n) l one two enough = absurd (omega (arith, two))

  frames : 106 * count_by is_lost gs + 34 ≤ left
  frames = after t.course.ascent.found (count_by is_wanted (those_drawn gs)) (count_by is_lost gs) none v.unwanted v.frames

  draws : nat_lt t.course.tally.draws 3 ≡ true
  draws = ap (λ n. nat_lt n 3) undrawn_yet

  go : (b : Bool) → has_open t ≡ b → GoesTo start t o gs left
  go true is =
      first_by start t o (drawing (hunted t.course h)) gs left calm (begins_by t o (drawing (hunted t.course h)) r room asks drawn refl) drawn
      v.smooth (record {
        opened_is = v.hunted.opened_is;
        draw = record { stage_is = tt; drawn = (none_but gs v.all, refl); gear = λ k in_row on. tt; low = v.hunted.low };
        loud = v.hunted.loud;
        somebody = some;
        clear = v.clear;
        settled = v.settled;
        tabled = whole_table;
        frames = count (count_by is_bare gs) (count_by is_lost gs) lost frames;
      })
    where
      drawn : next_course t ≡ drawing (hunted t.course h)
      drawn = vain_next t h true true next is draws

      count : (bare lost : ℕ) → bare ≡ lost → 106 * lost + 34 ≤ left → 8 + 106 * bare + 26 ≤ left
      count bare lost same enough = omega (arith, same, enough)
  go false is =
      first_by start t o (closing_by (hunted t.course h) BlockFull) gs left calm
      (begins_by t o (closing_by (hunted t.course h) BlockFull) r room asks closes refl) closes
      v.smooth (record {
        stage_is = tt;
        well = (some, all_taken t.kept t.heard (nothing_open t is));
        settled = v.settled;
        tabled = whole_table;
        frames = count (count_by is_lost gs) frames;
      })
    where
      closes : next_course t ≡ closing_by (hunted t.course h) BlockFull
      closes = vain_next t h false true next is draws ∙ never_full t (hunted t.course h) v.smooth.unmissed

      count : (lost : ℕ) → 106 * lost + 34 ≤ left → 1 ≤ left + 0
      count lost enough = omega (arith, enough)

-- some gear was: the roll is called
found_over : (start : Begun) (t : Machine) (o : Order) (h : Answer) (r : SearchAddress) (room : ℕ) (gs : List Gear) (left : ℕ) → Calm t
    → o ≡ question (next_course t) r room → next_course t ≡ calling (hunted t.course h) → 0 < t.course.ascent.found → IsOver start t h gs left
    → GoesTo start t o gs left
found_over start t o h r room gs left calm asks next some v =
    first_by start t o (calling (hunted t.course h)) gs left calm (begins_by t o (calling (hunted t.course h)) r room asks next refl) next
    v.smooth (record {
      opened_is = v.hunted.opened_is;
      roll = roll_first gs;
      quiet = λ silent. absurd (let both : true ≡ false = sym silent ∙ v.hunted.loud in cc);
      first = v.hunted.first;
      clear = v.clear;
      settled = v.settled;
      tabled = drawn_tabled (unseen start.gear) t.kept.enrolled gs v.tabled;
      frames = subst (λ b. roll_frames b (count_by is_bare (those_drawn gs)) (count_by is_lost gs) ≤ left + 0) (sym v.hunted.loud)
          (subst (λ n. n ≤ left + 0) (sym (called_roll (count_by is_bare (those_drawn gs)) (count_by is_lost gs) (none_bare (those_drawn gs) v.all)))
          (count (called_after (count_by is_lost gs))
          (subst (λ n. 1 + n ≤ left) (hunted_some (t.course.ascent.found + count_by is_wanted (those_drawn gs)) (count_by is_lost gs)
          (more t.course.ascent.found (count_by is_wanted (those_drawn gs)) some)) v.frames)));
    })
  where
    more : (m n : ℕ) → 0 < m → 0 < m + n
    more m n some = omega (arith, some)

    count : (after : ℕ) → 1 + after ≤ left → after + 1 ≤ left + 0
    count after enough = omega (arith, enough)

hunt_over : (start : Begun) (t : Machine) (o : Order) (h : Answer) (r : SearchAddress) (room : ℕ) (gs : List Gear) (left : ℕ) → Calm t
    → o ≡ question (next_course t) r room → next_course t ≡ nobody_left t (hunted t.course h) → IsOver start t h gs left → GoesTo start t o gs left
hunt_over start t o h r room gs left calm asks next v = go ((hunted t.course h).ascent.found == 0) refl where
  same : (hunted t.course h).ascent.found ≡ t.course.ascent.found
  same = found_same t.course.ascent (is_yes h)

  by : (b : Bool) → ((hunted t.course h).ascent.found == 0) ≡ b → next_course t ≡ (if b then undrawn t (hunted t.course h) else calling (hunted t.course h))
  by b is = next ∙ ap (λ y. if y then undrawn t (hunted t.course h) else calling (hunted t.course h)) is

  some : (n : ℕ) → (n == 0) ≡ false → 0 < n
  some n e = grind (arith, nat_tests, e)

  go : (b : Bool) → ((hunted t.course h).ascent.found == 0) ≡ b → GoesTo start t o gs left
  go true is = vain_over start t o h r room gs left calm asks (by true is) (sym same ∙ wanted.same_number (hunted t.course h).ascent.found 0 is) v
  go false is = found_over start t o h r room gs left calm asks (by false is) (subst (λ n. 0 < n) same (some (hunted t.course h).ascent.found is)) v

-- ---------------------------------------------------------------- a hunt

-- a machine that puts the next question in the same transaction
pub later_asked : (t : Machine) (h : Answer) (r : SearchAddress) (room : ℕ) (f : Forward) → t.course.purpose ≡ Hunting
    → stage_of t.trace ≡ stage.Hunted r (Some h) room → next_course t ≡ hunting (hunted t.course h)
    → machine_ordered t (Put LATER f) ≡ record t { last = Some (Put LATER f); course = hunting (hunted t.course h); asked = asked_by t.course.opened t.asked }
later_asked t h r room f purpose is next =
    ap (λ (d : Course). record t { last = Some (Put LATER f); course = d; asked = asked_by d.opened t.asked })
    (ap (course_on t) is ∙ ap (λ p. asked_on t p h) purpose ∙ sym (ap (begins_at t) is ∙ ap (λ p. compared_in t p h) purpose) ∙ next)

-- the next question, in the same transaction
goes_on : (start : Begun) (t : Machine) (o : Order) (h : Answer) (r : SearchAddress) (room : ℕ) (gs : List Gear) (left : ℕ) → SurveyStands true start t gs left
    → t.course.purpose ≡ Hunting → stage_of t.trace ≡ stage.Hunted r (Some h) room → next_course t ≡ hunting (hunted t.course h)
    → o ≡ Put LATER (frame_of (byte_to_send (hunting (hunted t.course h)).number r))
    → Hunts false Hunting (stage.Hunted r (Some h) room) t.kept t.heard (hunting (hunted t.course h)) start gs left → GoesTo start t o gs left
goes_on start t o h r room gs left st purpose is next sends v =
    subst (λ q. GoesTo start t q gs left) (sym sends) (subst (λ m. IsNext start m (Put LATER (frame_of c)) gs left)
    (sym (later_asked t h r room (frame_of c) purpose is next)) (
      record {
        calm = st.calm;
        trace = st.trace;
        at = subst (λ s. Hunts false Hunting s t.kept t.heard (hunting (hunted t.course h)) start gs left) (sym is) v;
      },
      inl refl,
    )) where
      c : Command
      c = byte_to_send (hunting (hunted t.course h)).number r

-- which question is put, by whether there is room
pub asked_where : (t : Machine) (o : Order) (h : Answer) (r : SearchAddress) (room : ℕ) (b : Bool) → o ≡ question (next_course t) r room
    → next_course t ≡ hunting (hunted t.course h) → nat_lt (bytes_to_send (hunting (hunted t.course h)).number r) room ≡ b
    → o ≡ (if b then Put LATER (frame_of (byte_to_send (hunting (hunted t.course h)).number r)) else beginning (next_course t))
asked_where t o h r room b asks next fits =
    asks ∙ ap (λ c. question c r room) next ∙ rw fits (ap
    (λ c. if b then Put LATER (frame_of (byte_to_send (hunting (hunted t.course h)).number r)) else beginning c) (sym next))

pub hunting_turns : (start : Begun) (t : Machine) (o : Order) (s : Stage) (gs : List Gear) (left : ℕ) → IsGivenBy t o → SurveyStands true start t gs left
    → t.course.purpose ≡ Hunting → stage_of t.trace ≡ s → (s ≡ stage.Free → ⊥) → Hunts true Hunting s t.kept t.heard t.course start gs left
    → turn_of Hunting t.course.number s ≡ None → GoesTo start t o gs left
hunting_turns start t o stage.Free gs left g st purpose is running v over = absurd (running refl)
hunting_turns start t o (stage.HighSent high) gs left g st purpose is running v over = absurd (cc)
hunting_turns start t o (stage.LowSent high low) gs left g st purpose is running v over = absurd (cc)
hunting_turns start t o (stage.Hunted r None room) gs left g st purpose is running v over = absurd (cc)
hunting_turns start t o (stage.Hunted r (Some h) room) gs left g st purpose is running v over = go (leads_to (ascended t.course.ascent (is_yes h))) refl where
  p : Rises true (stage.Hunted r (Some h) room) t.course.ascent t.course.number (those_drawn gs) v.rest
  p = v.at

  now : Ascent
  now = ascended t.course.ascent (is_yes h)

  asking : Asking
  asking = asking_next p.before (asked_next t.course.ascent)

  answered : Answered (ascended t.course.ascent (is_yes h)) (asking_next p.before (asked_next t.course.ascent)) (those_drawn gs) v.rest
  answered = answered_rise r h room t.course.ascent t.course.number (those_drawn gs) v.rest p

  asks : o ≡ question (next_course t) r room
  asks = g.followed.hunted r h room is purpose

  stood : r ≡ sought (asked_next t.course.ascent)
  stood = p.stage_is.0 ∙ p.number

  next : (s : Step) → leads_to (ascended t.course.ascent (is_yes h)) ≡ s → next_course t ≡ hunted_to t s (hunted t.course h)
  next s e = hunted_next t h r room s purpose is e

  fits : nat_lt (bytes_to_send (sought (asked_next (ascended t.course.ascent (is_yes h)))) r) room
      ≡ questions.has_room (asking_next p.before (asked_next t.course.ascent)) (asked_next (ascended t.course.ascent (is_yes h)))
  fits =
      ap (λ d. nat_lt (bytes_to_send (sought (asked_next (ascended t.course.ascent (is_yes h)))) r) d) p.stage_is.1
      ∙ ap (λ d. nat_lt d (room_left p.before (asked_next t.course.ascent)))
      (ap (bytes_to_send (sought (asked_next (ascended t.course.ascent (is_yes h))))) stood
      ∙ bytes_same (asked_next (ascended t.course.ascent (is_yes h))) (asked_next t.course.ascent))

  -- no gear is found by a question
  found : (hunted t.course h).ascent.found ≡ t.course.ascent.found
  found = found_same t.course.ascent (is_yes h)

  called : IsCalledFor Hunting (hunted t.course h).ascent gs
  called none = v.called (sym found ∙ none)

  after : frames_after Hunting t.course.ascent gs ≡ frames_after Hunting (hunted t.course h).ascent gs
  after = ap (λ n. hunted_after (n + count_by is_wanted (those_drawn gs)) (count_by is_lost gs)) (sym found)

  plain : (rest after behind : ℕ) → behind ≡ 0 → rest + 0 + after ≤ left + 5 * behind → rest + after ≤ left
  plain rest after behind none enough = omega (arith, none, enough)

  frames : v.rest + frames_after Hunting t.course.ascent gs ≤ left
  frames = plain v.rest (frames_after Hunting t.course.ascent gs) v.behind v.behind_is v.frames

  again : (b : Bool) → questions.has_room (asking_next p.before (asked_next t.course.ascent)) (asked_next (ascended t.course.ascent (is_yes h))) ≡ b
      → leads_to (ascended t.course.ascent (is_yes h)) ≡ Again → GoesTo start t o gs left
  again true some e =
      goes_on start t o h r room gs left st purpose is (next Again e) (asked_where t o h r room true asks (next Again e) (fits ∙ some)) (record {
        hunted = v.hunted;
        called = called;
        clear = v.clear;
        settled = v.settled;
        rest = v.rest;
        at = rises_in now asking (those_drawn gs) v.rest r h room answered e stood p.stage_is.1 some;
        tabled = v.tabled;
        behind = v.behind;
        behind_is = v.behind_is;
        frames = subst (λ n. v.rest + 0 + n ≤ left + 5 * v.behind) after v.frames;
      })
  again false none e =
      hunts_by start t o (hunted t.course h) v.rest gs left st.calm (asked_where t o h r room false asks (next Again e) (fits ∙ none)) (next Again e)
      st.calm.smooth v.hunted called v.clear v.settled (rises_new now asking (those_drawn gs) v.rest answered e none) v.tabled
      (subst (λ n. v.rest + n ≤ left) after frames)

  go : (s : Step) → leads_to (ascended t.course.ascent (is_yes h)) ≡ s → GoesTo start t o gs left
  go Again e = again (questions.has_room asking (asked_next now)) refl e
  go (Found m) e =
      let there : IsReachedAt now m (those_drawn gs) v.rest = rise_found now asking (those_drawn gs) v.rest m answered e in
      first_by start t o (visiting (hunted t.course h) m) gs left st.calm (begins_by t o (visiting (hunted t.course h) m) r room asks (next (Found m) e) refl)
      (next (Found m) e)
      st.calm.smooth (record {
        hunted = v.hunted;
        called = tt;
        clear = v.clear;
        settled = λ x has. inl (v.settled x has);
        rest = 11 + search_frames there.more;
        at = (
          visits_first t.kept m there.more (those_drawn gs) (11 + search_frames there.more) answered.ready answered.unnamed there.wanted_is there.drawn
              there.count (inr (omega arith)),
          record {
            is = answered.way.way.is;
            reached = e ∙ ap Found (sym (value_sought m));
            least = λ k has. subst (λ j. j ≤ k) (sym (value_sought m)) (there.least k has);
          },
        );
        tabled = v.tabled;
        behind = there.more;
        behind_is = there.count;
        frames = count v.rest there.more (called_after (count_by is_lost gs)) there.frames
            (subst (λ n. v.rest + n ≤ left) (hunted_some (t.course.ascent.found + count_by is_wanted (those_drawn gs)) (count_by is_lost gs)
            (some_more t.course.ascent.found (count_by is_wanted (those_drawn gs)) there.more there.count)) frames);
      })
    where
      some_more : (n m more : ℕ) → m ≡ suc more → 0 < n + m
      some_more n m more is = omega (arith, is)

      count : (rest more after : ℕ) → 43 + 106 * more ≤ rest → rest + after ≤ left → 11 + search_frames more + 27 + after ≤ left + 5 * more
      count rest more after need enough = omega (arith, need, enough)
  go Nobody e =
      let none = rise_nobody now asking (those_drawn gs) v.rest answered e in
      hunt_over start t o h r room gs left st.calm asks (next Nobody e) (record {
        smooth = st.calm.smooth;
        hunted = v.hunted;
        called = v.called;
        clear = v.clear;
        settled = v.settled;
        all = none.0;
        unwanted = wanted.wanted_count (those_drawn gs) answered.ready answered.unnamed ∙ none_bare (those_drawn gs) none.0;
        tabled = v.tabled;
        frames = count v.rest (frames_after Hunting t.course.ascent gs) none.1 frames;
      })
    where
      count : (rest after : ℕ) → 1 ≤ rest → rest + after ≤ left → 1 + after ≤ left
      count rest after some enough = omega (arith, some, enough)
hunting_turns start t o _ gs left g st purpose is running v over = absurd v.at.stage_is
