use Rattle.dali_progress.proofs.Below.{◌≡◌, ℕ, ◌+◌, ◌-◌, ◌*◌, ◌<◌, ◌≤◌, ◌⊎◌, inl, inr, Bool, true, false, List, refl, sym, ap, subst, ◌∙◌, arith, length}
use Rattle.dali_progress.proofs.Below.{Option, Some, None, ◌==◌, not, nat_lt, MatchOption, if◌then◌else◌, nat_tests, LATER, value_of, MASK24, Answer}
use Rattle.dali_progress.proofs.Below.{SearchAddress, frame_of, Command, Program, Gear, Enabled, Has, HasRandom, IsFresh, MayAdd, stage_of, Queried, BlockFull}
use Rattle.dali_progress.proofs.Below.{GaveUp, Order, Put, Commit, Done, Halt, Stage, Ascent, Knows, IsAscent, ascent_at_first, asked_next, leads_to, ascended}
use Rattle.dali_progress.proofs.Below.{one_if, Gives, Again, Found, Nobody, Course, is_yes, byte_to_send, bytes_to_send, address_for, least_open, turn_of}
use Rattle.dali_progress.proofs.Below.{ask_or_call, asking_again, next_asked, calling, drawing, opening_anew, closing as closing_by, hunting, visiting}
use Rattle.dali_progress.proofs.Below.{passing_over, missed, hunted, Machine, is_withheld, next_course, begins_at, beginning, course_by, hunted_to, nobody_left}
use Rattle.dali_progress.proofs.Below.{undrawn, full, asks_again, has_open, may_draw, silenced, silenced_on, missed_again, is_failed, unanswered, most_silent}
use Rattle.dali_progress.proofs.Below.{question, is_hunting, machine_ordered, AfterFinding, AfterMaskOn, AfterMaskBy, AfterReserved, asked_again, passed_over}
use Rattle.dali_progress.proofs.Below.{drew, IsWhole, Purpose, Opening, Probing, Visiting, Resolving, Closing, Hunting, Asking, Calling, Drawing, PassingOver}
use Rattle.dali_progress.proofs.{Below.{Tally, IsGivenBy, IsNoEnrolment, gear_of, is_wanted, wants, AreServedBut}, Accounted.open_is, Both.never_eight}
use Rattle.dali_progress.proofs.{Both.close_ends, Frames.{value_sought, short_if}, Misheard.Begins.{KeepsPast, IsOwn, IsNext, later_by, turns_by, first_by}}
use Rattle.dali_progress.proofs.Misheard.{Begins.{fills, hunts_above, hunts_on, GoesTo}, Stands.{Calm, AreSeen, IsCounted, Rises, IsReached, IsOfOne, Visits}}
use Rattle.dali_progress.proofs.Misheard.{Stands.{Hunted, Hunts, At, Draws, MisheardStands, IsCountedFor, IsFew}, Gear.{AreSought, AreBare, HaveDrawn, HasOne}}
use Rattle.dali_progress.proofs.{Misheard.Turns.{found_at, known_as, own_by, census_turns, calling_turns, drawn_turns}, Survey.Begins.clear_reserved}
use Rattle.dali_progress.proofs.Survey.{Begins.{nobody_elses, begins_whole, all_taken}, Drawn.{AreNumbered, DrewApart}, Hunting.{found_same, begins_by}}
use Rattle.dali_progress.proofs.Survey.{Hunting.{nothing_open, later_asked, vain_next, asked_where, hunted_next}, Queried.IsAtHand, Rising.knows_told}
use Rattle.dali_progress.proofs.{Survey.{Stands.AreTaken, Turns.IsUncontradicted, Visits.{found_address, withheld_anothers, ungiven_next}}, Surveying.NoneDrawn}
use Rattle.{dali_progress.proofs.Surveying.{roll_first, IsDraws, draw_over}, dali_search.specs.declared.step.Step.Step}
use Rattle.dali_script.specs.declared.stage.Stage.TheVariants as stage
use Rattle.dali_controller.proofs.Given as given
use Rattle.dali_events.proofs.Search.Wanted as wanted
use Rattle.dali_progress.proofs.Misheard.Climbing as climbing
use Rattle.dali_progress.proofs.Misheard.Stands as stands

-- A CONTROLLER ACTS while gear are hunted and visited, and at its close; and in whatever transaction.

-- ---------------------------------------------------------------- no gear is left

-- no gear that drew is left to be found
abbrev pub NobodyLeft : List Gear → Type 0
NobodyLeft gs = (m : ℕ) → wants gs m ≡ true → MASK24 ≤ m

left_none : (gs : List Gear) (k : ℕ) → NobodyLeft gs → k < length gs → (gear_of gs k).powered ≡ true → (gear_of gs k).state ≡ Enabled
    → (gear_of gs k).random < MASK24 → ⊥
left_none gs k nobody there on enabled small =
    let most : MASK24 ≤ (gear_of gs k).random =
    nobody (gear_of gs k).random (wanted.wants_by gs (gear_of gs k).random k there (wanted.is_wanted_by (gear_of gs k) on enabled) refl) in
    omega (arith, most, small)

served_by : (g found : ℕ) (gs : List Gear) → AreSought g found gs → HaveDrawn gs → NobodyLeft gs → AreServedBut g gs
served_by g found gs sought_are drawn nobody k there other on = short_if (gear_of gs k) (λ e.
    let small : (gear_of gs k).random < MASK24 = drawn k there on e in
    left_none gs k nobody there on (sought_are k there on (λ same. absurd (other same)) e small) small)

none_drawn : (g found : ℕ) (gs : List Gear) → AreSought g found gs → found ≡ 0 → AreNumbered gs → NobodyLeft gs → NoneDrawn gs
none_drawn g found gs sought_are nothing numbered nobody k there on none = go (numbered k there) where
  go : ((gear_of gs k).random ≡ MASK24) ⊎ ((gear_of gs k).random < MASK24) → (gear_of gs k).random ≡ MASK24
  go (inl mask) = mask
  go (inr small) = absurd (left_none gs k nobody there on (sought_are k there on (λ same. nothing) none small) small)

-- what is counted if gear draw once more
counted_draw : (g : ℕ) (y : Tally) (silent : ℕ) (gs : List Gear) → IsCounted g y silent 0 gs → nat_lt y.draws 3 ≡ true → IsCountedFor (drew y) silent
counted_draw g y silent gs v few = record {
  calls = v.calls;
  draws = less y.draws few;
  passed = more y.passed.count y.calls y.draws v.passed;
  quiet = enough silent (one_if (not (is_failed y.failed (gear_of gs g).random))) y.passed.count y.draws v.quiet;
} where
  less : (n : ℕ) → nat_lt n 3 ≡ true → n + 1 ≤ 3
  less n e = grind (arith, nat_tests, e)

  more : (count calls draws : ℕ) → count ≤ calls + draws + 1 → count ≤ calls + (draws + 1)
  more count calls draws enough = omega (arith, enough)

  enough : (silent one count draws : ℕ) → silent + one ≤ 2 * count + 1 + 20 * draws + 0 → silent ≤ 2 * count + 20 * (draws + 1)
  enough silent one count draws quiet = omega (arith, quiet)

-- another transaction begins if the block is full
full_rests : (t : Machine) (c : Course) → is_hunting (full t c).purpose ≡ false
full_rests t c = go (asks_again t) where
  by : (d : Course) (next : Option ℕ) → is_hunting (ask_or_call d next).purpose ≡ false
  by d None = refl
  by d (Some a) = refl

  go : (b : Bool) → is_hunting (if b then asking_again t.kept c else closing_by c BlockFull).purpose ≡ false
  go true = by (record c { from = 0; opened = false; ascent = ascent_at_first; tally = asked_again c.tally }) (next_asked t.kept 0)
  go false = refl

-- what is known when a hunt is over
record IsOver (g : ℕ) (t : Machine) (gs : List Gear) : Type 0 where
  stands : MisheardStands true g t gs
  hunted : Hunted g (IsFew Hunting g t.course.tally gs) t.course.opened t.course.tally t.silent 0 t.course.ascent.found gs
  open hunted use *
  hand : IsAtHand t.kept gs
  known : AreSeen t.kept t.heard gs
  nobody : NobodyLeft gs

-- the roll is called
found_over : (g : ℕ) (t : Machine) (o : Order) (h : Answer) (r : SearchAddress) (room : ℕ) (gs : List Gear) → o ≡ question (next_course t) r room
    → next_course t ≡ calling (hunted t.course h) → IsOver g t gs → GoesTo g t o gs
found_over g t o h r room gs asks next v =
    first_by g t o (calling (hunted t.course h)) gs v.stands.calm (begins_by t o (calling (hunted t.course h)) r room asks next refl) next
    v.stands.calm.way (record { opened_is = v.opened_is; counted = v.counted; roll = roll_first gs })
    (v.known, inl (λ passed drew. served_by g t.course.ascent.found gs v.sought_are (v.counted.drawn drew) v.nobody))

-- no gear was found: those that never drew do, or may no more, or no address is open
vain_over : (g : ℕ) (t : Machine) (o : Order) (h : Answer) (r : SearchAddress) (room : ℕ) (gs : List Gear) → o ≡ question (next_course t) r room
    → next_course t ≡ undrawn t (hunted t.course h) → t.course.ascent.found ≡ 0 → IsOver g t gs → GoesTo g t o gs
vain_over g t o h r room gs asks next none v = go (has_open t) refl (nat_lt t.course.tally.draws 3) refl where
  calm : Calm g t gs
  calm = v.stands.calm

  go : (a : Bool) → has_open t ≡ a → (b : Bool) → nat_lt t.course.tally.draws 3 ≡ b → GoesTo g t o gs
  go true free true few =
      first_by g t o (drawing (hunted t.course h)) gs calm
      (begins_by t o (drawing (hunted t.course h)) r room asks (vain_next t h true true next free few) refl)
      (vain_next t h true true next free few) v.stands.calm.way (record {
        opened_is = v.opened_is;
        counted = counted_draw g t.course.tally t.silent gs v.counted few;
        draw = record {
          stage_is = tt;
          drawn = (none_drawn g t.course.ascent.found gs v.sought_are none v.hand.numbered v.nobody, refl);
          gear = λ k in_row on. tt;
          low = v.low;
        };
      }) v.known
  go true free false spent = by t.course.tally.is_heard refl where
    after : (b : Bool) → t.course.tally.is_heard ≡ b → next_course t ≡ (if b then closing_by (hunted t.course h) GaveUp else calling (hunted t.course h))
    after b e = vain_next t h true false next free spent ∙ ap (λ q. if q then closing_by (hunted t.course h) GaveUp else calling (hunted t.course h)) e

    some : (n : ℕ) → nat_lt n 3 ≡ false → 0 < n
    some n e = grind (arith, nat_tests, e)

    by : (b : Bool) → t.course.tally.is_heard ≡ b → GoesTo g t o gs
    by true heard =
        first_by g t o (closing_by (hunted t.course h) GaveUp) gs calm
        (begins_by t o (closing_by (hunted t.course h) GaveUp) r room asks (after true heard) refl) (after true heard) v.stands.calm.way
        (record { stage_is = tt; well = inl (served_by g t.course.ascent.found gs v.sought_are (v.counted.drawn (some t.course.tally.draws spent)) v.nobody) })
        v.known
    by false unheard = found_over g t o h r room gs asks (after false unheard) v
  go false shut b few =
      fills g t o (hunted t.course h) gs calm (begins_full (vain_next t h false b next shut few))
      (vain_next t h false b next shut few) v.stands.calm.way v.counted
      v.known (all_taken t.kept t.heard (nothing_open t shut)) v.hand.one v.hand.holds
    where
      begins_full : next_course t ≡ full t (hunted t.course h) → o ≡ beginning (next_course t)
      begins_full same = begins_by t o (full t (hunted t.course h)) r room asks same (full_rests t (hunted t.course h))

hunt_over : (g : ℕ) (t : Machine) (o : Order) (h : Answer) (r : SearchAddress) (room : ℕ) (gs : List Gear) → o ≡ question (next_course t) r room
    → next_course t ≡ nobody_left t (hunted t.course h) → IsOver g t gs → GoesTo g t o gs
hunt_over g t o h r room gs asks next v = go ((hunted t.course h).ascent.found == 0) refl where
  by : (b : Bool) → ((hunted t.course h).ascent.found == 0) ≡ b → next_course t ≡ (if b then undrawn t (hunted t.course h) else calling (hunted t.course h))
  by b is = next ∙ ap (λ y. if y then undrawn t (hunted t.course h) else calling (hunted t.course h)) is

  go : (b : Bool) → ((hunted t.course h).ascent.found == 0) ≡ b → GoesTo g t o gs
  go true is =
      vain_over g t o h r room gs asks (by true is) (sym (found_same t.course.ascent (is_yes h)) ∙ wanted.same_number (hunted t.course h).ascent.found 0 is) v
  go false is = found_over g t o h r room gs asks (by false is) v

-- ---------------------------------------------------------------- a hunt

-- the next question, in the same transaction
goes_on : (g : ℕ) (t : Machine) (o : Order) (h : Answer) (r : SearchAddress) (room : ℕ) (gs : List Gear) → MisheardStands true g t gs
    → t.course.purpose ≡ Hunting → stage_of t.trace ≡ stage.Hunted r (Some h) room → next_course t ≡ hunting (hunted t.course h)
    → o ≡ Put LATER (frame_of (byte_to_send (hunting (hunted t.course h)).number r))
    → Hunts false g Hunting (stage.Hunted r (Some h) room) (hunting (hunted t.course h)) t.silent gs → AreSeen t.kept t.heard gs → GoesTo g t o gs
goes_on g t o h r room gs st purpose is next sends v known =
    subst (λ q. GoesTo g t q gs) (sym sends) (subst (λ m. IsNext g m (Put LATER (frame_of c)) gs) (sym (later_asked t h r room (frame_of c) purpose is next))
    (record {
      calm = st.calm;
      trace = st.trace;
      at = subst (λ s. Hunts false g Hunting s (hunting (hunted t.course h)) t.silent gs) (sym is) v;
      known = known;
    })) where
      c : Command
      c = byte_to_send (hunting (hunted t.course h)).number r

answered_turns : (g : ℕ) (t : Machine) (o : Order) (r : SearchAddress) (h : Answer) (room : ℕ) (gs : List Gear) → IsGivenBy t o → MisheardStands true g t gs
    → IsAtHand t.kept gs → t.course.purpose ≡ Hunting → stage_of t.trace ≡ stage.Hunted r (Some h) room
    → Hunts true g Hunting (stage.Hunted r (Some h) room) t.course t.silent gs → GoesTo g t o gs
answered_turns g t o r h room gs by st hand purpose is v = go (leads_to (ascended t.course.ascent (is_yes h))) refl where
  known : AreSeen t.kept t.heard gs
  known = known_as g t gs Hunting st purpose

  p : Rises true g (stage.Hunted r (Some h) room) t.course.ascent t.course.number gs
  p = v.at

  now : Ascent
  now = ascended t.course.ascent (is_yes h)

  gives : Gives (wants gs) (asked_next t.course.ascent) (is_yes h)
  gives = subst (λ m. Gives (wants gs) m (is_yes h)) (ap value_of p.number ∙ value_sought (asked_next t.course.ascent)) p.stage_is

  knows : Knows (wants gs) (ascended t.course.ascent (is_yes h))
  knows = knows_told (wants gs) t.course.ascent (is_yes h) p.knows gives

  ascent : IsAscent (ascended t.course.ascent (is_yes h))
  ascent = climbing.ascended_is t.course.ascent (is_yes h) p.is p.running

  asks : o ≡ question (next_course t) r room
  asks = by.followed.hunted r h room is purpose

  next : (s : Step) → leads_to (ascended t.course.ascent (is_yes h)) ≡ s → next_course t ≡ hunted_to t s (hunted t.course h)
  next s e = hunted_next t h r room s purpose is e

  so_far : Hunted g (IsFew Hunting g t.course.tally gs) t.course.opened t.course.tally t.silent 0 (hunted t.course h).ascent.found gs
  so_far =
      subst (λ n. Hunted g (IsFew Hunting g t.course.tally gs) t.course.opened t.course.tally t.silent 0 n gs)
      (sym (found_same t.course.ascent (is_yes h))) v.hunted

  again : (b : Bool) → nat_lt (bytes_to_send (hunting (hunted t.course h)).number r) room ≡ b → leads_to (ascended t.course.ascent (is_yes h)) ≡ Again
      → GoesTo g t o gs
  again true some e =
      goes_on g t o h r room gs st purpose is (next Again e) (asked_where t o h r room true asks (next Again e) some) (record {
        hunted = so_far;
        quiet = tt;
        at = record { is = ascent; knows = knows; running = e; number = refl; bare = p.bare; stage_is = tt };
      }) known
  again false none e =
      first_by g t o (hunting (hunted t.course h)) gs st.calm (asked_where t o h r room false asks (next Again e) none) (next Again e) st.calm.way (record {
        hunted = so_far;
        quiet = tt;
        at = record { is = ascent; knows = knows; running = e; number = refl; bare = p.bare; stage_is = tt };
      }) known

  go : (s : Step) → leads_to (ascended t.course.ascent (is_yes h)) ≡ s → GoesTo g t o gs
  go Again e = again (nat_lt (bytes_to_send (hunting (hunted t.course h)).number r) room) refl e
  go (Found m) e =
      let there = climbing.found_is (wants gs) (ascended t.course.ascent (is_yes h)) m knows e in
      first_by g t o (visiting (hunted t.course h) m) gs st.calm (begins_by t o (visiting (hunted t.course h) m) r room asks (next (Found m) e) refl)
      (next (Found m) e) st.calm.way (record {
        hunted = so_far;
        quiet = tt;
        at = record {
          visited = m;
          number = refl;
          drawn = there.drawn;
          stage_is = (record { is = ascent; reached = e; there = there.there; least = there.least }, p.bare);
        };
      }) known
  go Nobody e =
      hunt_over g t o h r room gs asks (next Nobody e) (record {
        stands = st;
        hunted = v.hunted;
        hand = hand;
        known = known;
        nobody = climbing.nobody_is (wants gs) (ascended t.course.ascent (is_yes h)) ascent knows e;
      })

hunting_turns : (g : ℕ) (t : Machine) (o : Order) (s : Stage) (gs : List Gear) → IsGivenBy t o → MisheardStands true g t gs → IsAtHand t.kept gs
    → t.course.purpose ≡ Hunting → stage_of t.trace ≡ s → (s ≡ stage.Free → ⊥) → Hunts true g Hunting s t.course t.silent gs
    → turn_of Hunting t.course.number s ≡ None → GoesTo g t o gs
hunting_turns g t o stage.Free gs by st hand purpose is running v over = absurd (running refl)
hunting_turns g t o (stage.HighSent high) gs by st hand purpose is running v over = absurd (cc)
hunting_turns g t o (stage.LowSent high low) gs by st hand purpose is running v over = absurd (cc)
hunting_turns g t o (stage.Hunted r None room) gs by st hand purpose is running v over = absurd (cc)
hunting_turns g t o (stage.Hunted r (Some h) room) gs by st hand purpose is running v over = answered_turns g t o r h room gs by st hand purpose is v
hunting_turns g t o _ gs by st hand purpose is running v over = absurd v.at.stage_is

-- ---------------------------------------------------------------- a visit that failed

-- it was that of gear g, which is wanted
one_wanted : (g v : ℕ) (gs : List Gear) → DrewApart gs → g < length gs → v < MASK24 → wants gs v ≡ true → IsOfOne g v gs → is_wanted (gear_of gs g) ≡ true
one_wanted g v gs apart in_row small wants_it one =
    let there = wanted.wants_at gs v wants_it in
    let same : there.0 ≡ g = apart there.0 g there.1 in_row (subst (λ n. n < MASK24) (sym there.3) small) (there.3 ∙ sym one) in
    subst (λ k. is_wanted (gear_of gs k) ≡ true) same there.2

passed_more : (y : Tally) (r : ℕ) → y.passed.count < 255 → (passed_over y r).passed.count ≡ y.passed.count + 1
passed_more y r few = go (nat_lt y.passed.count 255) refl where
  go : (b : Bool) → nat_lt y.passed.count 255 ≡ b → (if nat_lt y.passed.count 255 then y.passed.count + 1 else y.passed.count) ≡ y.passed.count + 1
  go true e = rw e refl
  go false e = absurd (let over : y.passed.count < 255 → ⊥ = grind (arith, nat_tests, e) in over few)

failed_turns : (g : ℕ) (t : Machine) (o : Order) (s : Stage) (gs : List Gear) → MisheardStands true g t gs → DrewApart gs
    → Hunts true g Visiting s t.course t.silent gs → stands.failed_at s ≡ 1 → stands.found_at s t.course.ascent ≡ t.course.ascent.found
    → (w : Visits g Visiting s t.course.ascent t.course.number gs) → IsReached t.course.ascent w.visited gs × AreBare g gs × IsOfOne g w.visited gs
    → AreSeen t.kept t.heard gs → o ≡ beginning (next_course t) → next_course t ≡ silenced t → GoesTo g t o gs
failed_turns g t o s gs st apart v failed found w at known begins next = go (is_failed t.course.tally.failed (value_of t.course.number)) refl where
  y : Tally
  y = t.course.tally

  counted : IsCounted g t.course.tally t.silent 1 gs
  counted = subst (λ n. IsCounted g t.course.tally t.silent n gs) failed v.counted

  value : value_of t.course.number ≡ w.visited
  value = ap value_of w.number ∙ value_sought w.visited

  own : value_of t.course.number ≡ (gear_of gs g).random
  own = value ∙ sym at.2

  few : t.course.tally.passed.count ≤ t.course.tally.calls + t.course.tally.draws
  few = v.few (one_wanted g w.visited gs apart st.calm.there w.drawn at.0.there at.2)

  sought_are : AreSought g t.course.ascent.found gs
  sought_are = subst (λ n. AreSought g n gs) found v.sought_are

  loud : (t.silent == most_silent t.course.way) ≡ false
  loud = ap (λ q. t.silent == most_silent q) st.calm.way ∙ other t.silent (one_if (not (is_failed t.course.tally.failed (gear_of gs g).random)))
      t.course.tally.passed.count t.course.tally.calls t.course.tally.draws counted.quiet few counted.calls counted.draws where
        apart_from : (n : ℕ) → n < 80 → (n == 80) ≡ false
        apart_from n less = grind (arith, nat_tests, less)

        other : (silent one count calls draws : ℕ) → silent + one ≤ 2 * count + 1 + 20 * draws + 1 → count ≤ calls + draws → calls ≤ 3 → draws ≤ 3
            → (silent == 80) ≡ false
        other silent one count calls draws quiet passed calls_few draws_few = apart_from silent (omega (arith, quiet, passed, calls_few, draws_few))

  by : (b : Bool) → is_failed t.course.tally.failed (value_of t.course.number) ≡ b → next_course t ≡ missed_again b t.course
  by b e =
      next ∙ ap (λ q. if q then closing_by t.course GaveUp else silenced_on t t.course.way) loud ∙ ap (silenced_on t) st.calm.way
      ∙ ap (λ q. missed_again q t.course) e

  -- what was counted of gear g before
  counted_so : (b : Bool) → is_failed t.course.tally.failed (value_of t.course.number) ≡ b
      → t.silent + one_if (not b) ≤ 2 * t.course.tally.passed.count + 1 + 20 * t.course.tally.draws + 1
  counted_so b e =
      subst (λ q. t.silent + one_if (not q) ≤ 2 * t.course.tally.passed.count + 1 + 20 * t.course.tally.draws + 1)
      (ap (is_failed t.course.tally.failed) (sym own) ∙ e) counted.quiet

  go : (b : Bool) → is_failed t.course.tally.failed (value_of t.course.number) ≡ b → GoesTo g t o gs
  go true twice =
      first_by g t o (passing_over t.course) gs st.calm begins (by true twice) st.calm.way (record {
        hunted = record { opened_is = v.opened_is; counted = more_counted; few = tt; low = v.low; sought_are = sought_are };
        quiet = tt;
        at = record { visited = w.visited; number = w.number; drawn = w.drawn; stage_is = (at.0, at.1, at.2) };
      }) known
    where
      small : (count calls draws : ℕ) → count ≤ calls + draws → calls ≤ 3 → draws ≤ 3 → count < 255
      small count calls draws one two three = omega (arith, one, two, three)

      count : (passed_over t.course.tally (value_of t.course.number)).passed.count ≡ t.course.tally.passed.count + 1
      count = passed_more t.course.tally (value_of t.course.number)
          (small t.course.tally.passed.count t.course.tally.calls t.course.tally.draws few counted.calls counted.draws)

      more : (n m : ℕ) → n ≤ m → n + 1 ≤ m + 1
      more n m less = omega (arith, less)

      enough : (silent count draws : ℕ) → silent + 0 ≤ 2 * count + 1 + 20 * draws + 1 → silent + 1 ≤ 2 * (count + 1) + 1 + 20 * draws + 0
      enough silent count draws quiet = omega (arith, quiet)

      more_counted : IsCounted g (passed_over t.course.tally (value_of t.course.number)) t.silent 0 gs
      more_counted = record {
        calls = counted.calls;
        draws = counted.draws;
        passed = subst (λ n. n ≤ t.course.tally.calls + t.course.tally.draws + 1) (sym count) (more t.course.tally.passed.count _ few);
        quiet = subst (λ n. t.silent + 1 ≤ 2 * n + 1 + 20 * t.course.tally.draws + 0) (sym count)
            (enough t.silent t.course.tally.passed.count t.course.tally.draws (counted_so true twice));
        drawn = counted.drawn;
      }
  go false once =
      first_by g t o (missed t.course) gs st.calm begins (by false once) st.calm.way (record {
        hunted = record { opened_is = v.opened_is; counted = counted_once; few = λ wanted_is. few; low = v.low; sought_are = sought_are };
        quiet = tt;
        at = record {
          is = climbing.anew_is t.course.ascent at.0.is;
          knows = climbing.anything_anew (wants gs) t.course.ascent;
          running = refl;
          number = refl;
          bare = at.1;
          stage_is = tt;
        };
      }) known
    where
      enough : (silent count draws : ℕ) → silent + 1 ≤ 2 * count + 1 + 20 * draws + 1 → silent + 0 ≤ 2 * count + 1 + 20 * draws + 0
      enough silent count draws quiet = omega (arith, quiet)

      counted_once : IsCounted g (missed t.course).tally t.silent 0 gs
      counted_once = record {
        calls = counted.calls;
        draws = counted.draws;
        passed = counted.passed;
        quiet = subst (λ b. t.silent + one_if (not b) ≤ 2 * t.course.tally.passed.count + 1 + 20 * t.course.tally.draws + 0)
            (sym (wanted.number_same (value_of t.course.number) (gear_of gs g).random own))
            (enough t.silent t.course.tally.passed.count t.course.tally.draws (counted_so false once));
        drawn = counted.drawn;
      }

-- ---------------------------------------------------------------- a visit in which MASK was answered

-- no address can be given: gear draw new numbers, or the block is full
ungiven_turns : (g : ℕ) (t : Machine) (o : Order) (r : SearchAddress) (gs : List Gear) → MisheardStands true g t gs
    → Hunts true g Visiting (stage.Unnamed r) t.course t.silent gs → stage_of t.trace ≡ stage.Unnamed r → o ≡ beginning (next_course t)
    → AreTaken t.kept t.heard → AreSeen t.kept t.heard gs → IsAtHand t.kept gs → GoesTo g t o gs
ungiven_turns g t o r gs st v is begins filled known hand = go (may_draw t) refl where
  go : (b : Bool) → may_draw t ≡ b → GoesTo g t o gs
  go true may =
      first_by g t o (opening_anew t.course) gs st.calm begins (ungiven_next t r true is st.calm.way may) st.calm.way (record {
        opened_is = v.opened_is;
        counted = counted_draw g t.course.tally t.silent gs v.counted (wanted.both_pass (nat_lt t.course.tally.draws 3) (has_open t) may).0;
        draw = record { stage_is = tt; drawn = tt; gear = λ k in_row on. tt; low = v.low };
      }) known
  go false may = fills g t o t.course gs st.calm begins (ungiven_next t r false is st.calm.way may) st.calm.way v.counted known filled hand.one hand.holds

-- an address that is open is not marked
unnamed_turns : (g : ℕ) (t : Machine) (o : Order) (r : SearchAddress) (gs : List Gear) → IsGivenBy t o → MisheardStands true g t gs → IsAtHand t.kept gs
    → t.course.purpose ≡ Visiting → stage_of t.trace ≡ stage.Unnamed r → Hunts true g Visiting (stage.Unnamed r) t.course t.silent gs → GoesTo g t o gs
unnamed_turns g t o r gs by st hand purpose is v =
    go (address_for t.kept.reserved (value_of r)) (found_address t.kept.reserved (value_of r)) (least_open t.kept t.heard) refl
    (subst (λ y. AfterMaskOn y t (course_by t o) r o) st.calm.way (by.ordered.unnamed r is)) where
      known : AreSeen t.kept t.heard gs
      known = known_as g t gs Visiting st purpose

      w : Visits g Visiting (stage.Unnamed r) t.course.ascent t.course.number gs
      w = v.at

      value : w.visited ≡ value_of r
      value = sym (ap value_of (w.stage_is.2 ∙ w.number) ∙ value_sought w.visited)

      go : (given_to : Option ℕ) → MatchOption given_to (HasRandom t.kept.reserved (value_of r) → ⊥) (λ a. Has t.kept.reserved (a, value_of r))
          → (free : Option ℕ) → least_open t.kept t.heard ≡ free → AfterMaskBy t r given_to free o → GoesTo g t o gs
      go (Some a) has free least mask = choose (is_withheld t a (value_of r)) refl where
        choose : (b : Bool) → is_withheld t a (value_of r) ≡ b → GoesTo g t o gs
        choose false free = later_by g t o (stage.Unnamed r) (frame_of (Program (Some a))) gs st (subst (λ b. AfterReserved t a b o) free mask) is tt
        choose true withheld =
            absurd (let never : true ≡ false = sym (withheld_anothers t t.course.way a (value_of r) withheld)
            ∙ nobody_elses t.kept t.heard gs hand.holds hand.owned known.1 a (value_of r) has in cc)
      go None none (Some a) least mask = subst (λ q. GoesTo g t q gs) (sym mask) (
        st.calm,
        record {
          hunted = v.hunted;
          bare = w.stage_is.1;
          drawn = subst (λ m. m < MASK24) value w.drawn;
          reached = subst (λ m. IsReached t.course.ascent m gs) value w.stage_is.0;
          known = known.0;
          clear = clear_reserved t.kept t.heard a (value_of r) known.1
              (open_is t.kept t.heard (t.kept.block.last + 1 - t.kept.block.first) t.kept.block.first a least);
        },
      )
      go None none None least mask = ungiven_turns g t o r gs st v is mask (all_taken t.kept t.heard least) known hand

-- who was found is withdrawn
withdrawn_turns : (g : ℕ) (t : Machine) (o : Order) (r : SearchAddress) (a : ℕ) (gs : List Gear) → IsGivenBy t o → MisheardStands true g t gs
    → IsAtHand t.kept gs → IsUncontradicted t → t.course.purpose ≡ Visiting → stage_of t.trace ≡ stage.Withdrawn r a
    → Hunts true g Visiting (stage.Withdrawn r a) t.course t.silent gs → GoesTo g t o gs
withdrawn_turns g t o r a gs by st hand agreed purpose is v = go o by (by.ordered.found r a is) where
  w : Visits g Visiting (stage.Withdrawn r a) t.course.ascent t.course.number gs
  w = v.at

  keeps : KeepsPast g t.kept t.heard t.course t.silent gs
  keeps = (
    record {
      opened_is = v.opened_is;
      counted = v.counted;
      low = v.low;
      sought_are = v.sought_are;
      bare = w.stage_is.1;
      quiet = v.quiet;
      visited = w.visited;
      drawn = w.drawn;
      past = w.stage_is.0;
    },
    known_as g t gs Visiting st purpose,
  )

  value : w.visited ≡ value_of r
  value = sym w.stage_is.3

  own : IsFresh t.kept.enrolled (a, value_of r) → IsOwn t.kept a (value_of r)
  own fresh =
      own_by t.kept a (value_of r) gs hand.kept (known_as g t gs Visiting st purpose).0 (subst (λ m. HasOne m a gs) value w.stage_is.2)
      w.stage_is.4 (subst (λ m. m < MASK24) value w.drawn) fresh.0

  go : (q : Order) → IsGivenBy t q → AfterFinding t a (value_of r) q → GoesTo g t q gs
  go (Put p f) by has = hunts_on g t (Put p f) gs st.calm (given.withdrawn_known t (Put p f) r a by is hand.kept.enrolled has) (ap (begins_at t) is) keeps
  go (Commit x) by has =
      let may : IsFresh t.kept.enrolled (a, value_of r) = subst (λ y. MayAdd t.kept y) has by.ordered.allowed.may in
      subst (λ y. GoesTo g t (Commit y) gs) (sym has) (st.calm, inr (keeps, own may))
  go (Done e) by has = absurd has
  go (Halt why) by has = absurd (agreed (Queried a (value_of r)) (found_at g t gs (stage.Withdrawn r a) st is) has)

visiting_turns : (g : ℕ) (t : Machine) (o : Order) (s : Stage) (gs : List Gear) → IsGivenBy t o → MisheardStands true g t gs → IsAtHand t.kept gs
    → IsUncontradicted t → IsNoEnrolment t.last → t.course.purpose ≡ Visiting → stage_of t.trace ≡ s → (s ≡ stage.Free → ⊥)
    → Hunts true g Visiting s t.course t.silent gs → turn_of Visiting t.course.number s ≡ None → GoesTo g t o gs
visiting_turns g t o stage.Free gs by st hand agreed last purpose is running v over = absurd (running refl)
visiting_turns g t o (stage.HighSent high) gs by st hand agreed last purpose is running v over = absurd (cc)
visiting_turns g t o (stage.MiddleSent high middle) gs by st hand agreed last purpose is running v over = absurd (cc)
visiting_turns g t o (stage.NumberSent r) gs by st hand agreed last purpose is running v over = absurd (cc)
visiting_turns g t o (stage.Found r b) gs by st hand agreed last purpose is running v over = absurd (cc)
visiting_turns g t o (stage.Unnamed r) gs by st hand agreed last purpose is running v over = unnamed_turns g t o r gs by st hand purpose is v
visiting_turns g t o (stage.Programmed r a) gs by st hand agreed last purpose is running v over = absurd (cc)
visiting_turns g t o (stage.Confirmed r a) gs by st hand agreed last purpose is running v over = absurd (cc)
visiting_turns g t o (stage.Withdrawn r a) gs by st hand agreed last purpose is running v over = withdrawn_turns g t o r a gs by st hand agreed purpose is v
visiting_turns g t o (stage.Unanswered r) gs by st hand agreed last purpose is running v over =
    failed_turns g t o (stage.Unanswered r) gs st hand.apart v refl refl v.at v.at.stage_is (known_as g t gs Visiting st purpose)
    (given.begins_after t o (stage.Unanswered r) by is tt (found_at g t gs (stage.Unanswered r) st is) last (never_eight t.tries st.calm.untried))
    (ap (begins_at t) is ∙ ap (λ b. unanswered t r b (address_for t.kept.reserved (value_of r))) v.opened_is)
visiting_turns g t o (stage.Inconclusive r other) gs by st hand agreed last purpose is running v over =
    failed_turns g t o (stage.Inconclusive r other) gs st hand.apart v refl refl v.at v.at.stage_is (known_as g t gs Visiting st purpose)
    (by.followed.unconfirmed r other is) (ap (begins_at t) is)
visiting_turns g t o _ gs by st hand agreed last purpose is running v over = absurd v.at.stage_is

-- ---------------------------------------------------------------- gear g is passed over

passing_turns : (g : ℕ) (t : Machine) (o : Order) (s : Stage) (gs : List Gear) → IsGivenBy t o → MisheardStands true g t gs → IsNoEnrolment t.last
    → t.course.purpose ≡ PassingOver → stage_of t.trace ≡ s → (s ≡ stage.Free → ⊥) → Hunts true g PassingOver s t.course t.silent gs
    → IsWhole (machine_ordered t o) → turn_of PassingOver t.course.number s ≡ None → GoesTo g t o gs
passing_turns g t o stage.Free gs by st last purpose is running v whole over = absurd (running refl)
passing_turns g t o (stage.HighSent high) gs by st last purpose is running v whole over = absurd (cc)
passing_turns g t o (stage.MiddleSent high middle) gs by st last purpose is running v whole over = absurd (cc)
passing_turns g t o (stage.NumberSent r) gs by st last purpose is running v whole over = absurd (cc)
passing_turns g t o (stage.PassedOver r) gs by st last purpose is running v whole over =
    hunts_above g t o t.course w.visited gs st.calm (begins_whole t o PassingOver (stage.PassedOver r) by purpose is (λ q e. cc) (λ e. cc) tt
    (λ f sends. (let none = sends.0 in cc)) (found_at g t gs (stage.PassedOver r) st is) last st.calm.untried whole)
    (ap (begins_at t) is) st.calm.way v.opened_is v.counted (λ wanted_is. absurd (unwanted wanted_is))
    v.low v.sought_are w.stage_is.1 w.drawn w.stage_is.0 (known_as g t gs PassingOver st purpose)
  where
    w : Visits g PassingOver (stage.PassedOver r) t.course.ascent t.course.number gs
    w = v.at

    unwanted : is_wanted (gear_of gs g) ≡ true → ⊥
    unwanted wanted_is =
        let more : w.visited < w.visited = w.stage_is.0.past w.visited (wanted.wants_by gs w.visited g st.calm.there wanted_is w.stage_is.2) in
        omega (arith, more)
passing_turns g t o _ gs by st last purpose is running v whole over = absurd v.at.stage_is

-- ---------------------------------------------------------------- of whatever transaction

-- after a frame that was heard
pub turned : (g : ℕ) (t : Machine) (o : Order) (gs : List Gear) → IsGivenBy t o → MisheardStands true g t gs → IsAtHand t.kept gs → IsUncontradicted t
    → IsWhole (machine_ordered t o) → IsNoEnrolment t.last → (stage_of t.trace ≡ stage.Free → ⊥) → GoesTo g t o gs
turned g t o gs by st hand agreed whole last running = turn (turn_of t.course.purpose t.course.number (stage_of t.trace)) refl where
  drew : (p : Purpose) → IsDraws p → t.course.purpose ≡ p → Draws p (stage_of t.trace) t.course t.silent gs → AreSeen t.kept t.heard gs
      → turn_of p t.course.number (stage_of t.trace) ≡ None → GoesTo g t o gs
  drew p draws purpose at known over =
      let opened = draw_over p (stage_of t.trace) t.course.number gs draws at.draw over running in
      drawn_turns g t o p gs by st last opened (subst (λ s. Draws p s t.course t.silent gs) opened at) known

  go : (p : Purpose) → t.course.purpose ≡ p → At true g p (stage_of t.trace) t.kept t.heard t.course t.silent gs
      → turn_of p t.course.number (stage_of t.trace) ≡ None → GoesTo g t o gs
  go (Asking a) purpose at over =
      census_turns g t o a (stage_of t.trace) gs by st hand agreed last purpose refl running at (known_as g t gs (Asking a) st purpose) whole over
  go Calling purpose at over = calling_turns g t o (stage_of t.trace) gs by st purpose refl running at over
  go Opening purpose at over = drew Opening tt purpose at (known_as g t gs Opening st purpose) over
  go Drawing purpose at over = drew Drawing tt purpose at (known_as g t gs Drawing st purpose) over
  go Hunting purpose at over = hunting_turns g t o (stage_of t.trace) gs by st hand purpose refl running at over
  go Visiting purpose at over = visiting_turns g t o (stage_of t.trace) gs by st hand agreed last purpose refl running at over
  go PassingOver purpose at over = passing_turns g t o (stage_of t.trace) gs by st last purpose refl running at whole over
  go (Closing e) purpose at over =
      subst (λ q. GoesTo g t q gs) (sym (close_ends t o e (stage_of t.trace) by purpose refl running at.stage_is st.trace.finding st.calm.untried)) at.well
  go Probing purpose at over = absurd at
  go (Resolving a) purpose at over = absurd at

  turn : (q : Option Command) → turn_of t.course.purpose t.course.number (stage_of t.trace) ≡ q → GoesTo g t o gs
  turn (Some c) e = turns_by g t o t.course.purpose (stage_of t.trace) c gs by st refl refl e
  turn None over = go t.course.purpose refl st.at over
