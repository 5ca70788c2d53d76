use Rattle.dali_progress.proofs.Below.{◌≡◌, ℕ, ◌-◌, ◌+◌, ◌*◌, ◌<◌, ◌≤◌, ◌⊎◌, inl, inr, Bool, true, false, List, [], refl, sym, ap, subst, ◌∙◌, arith, Option}
use Rattle.dali_progress.proofs.Below.{Some, None, not, nat_lt, if◌then◌else◌, nat_tests, LATER, MASK24, Forward, SearchAddress, frame_of, Command, Gear, Kept}
use Rattle.dali_progress.proofs.Below.{Has, with_record, IsTrace, stage_of, BlockFull, Order, Put, Commit, Done, Halt, Record, Reserve, Enrol, Release, Stage}
use Rattle.dali_progress.proofs.Below.{trace_none, stage_none, Ascent, ascent_at_first, above, gone_on_from, one_if, Course, is_asked, turn_of, asking}
use Rattle.dali_progress.proofs.Below.{calling_first, ask_or_call, asking_again, next_asked, going_on, going_on_early, hunting, hunting_first, hunting_above}
use Rattle.dali_progress.proofs.Below.{searching_on, closing as closing_by, Machine, next_course, beginning, goes_on_to, asks_again, full, is_failed}
use Rattle.dali_progress.proofs.Below.{machine_ordered, served, asked_again, Purpose, Hunting, Visiting, PassingOver, Shorts, Tally, Surveying, IsGivenBy}
use Rattle.dali_progress.proofs.{Below.{gear_of, is_wanted, wants, OpenedBy}, Census.{Coming.{asked_later, asked_before, unasked_enrolled}, Left.asked_within}}
use Rattle.dali_progress.proofs.{Later.{IsUnasked, later_leaves, turn_unasked}, Misheard.{Gear.{Each, AreSought, AreBare, AreKnown}, Stands.IsCounted}}
use Rattle.dali_progress.proofs.Misheard.Stands.{IsSpent, HuntStage, Rises, IsReached, IsPast, HuntAt, Hunted, Hunts, EndsBy, AreTabledBelow, AreSeen, IsCensus}
use Rattle.dali_progress.proofs.{Misheard.Stands.{KnownAt, At, MisheardStands, Calm, IsFew}, Survey.{Drawn.woken_short, Queried.{OneShort, IsTrue}}}
use Rattle.dali_progress.proofs.{Survey.{Stands.AreTaken, Woken.AreLow}, Surveying.{roll_first, IsClear}}
use Rattle.dali_script.specs.declared.stage.Stage.TheVariants as stage
use Rattle.dali_controller.proofs.Given as given
use Rattle.dali_progress.proofs.Misheard.Climbing as climbing

-- A TRANSACTION BEGINS, or goes on; and what is to come of an order.

-- a record is to be kept in the census, and then the next short address is asked. If that is done for the first time, something
-- else that is reserved for the number may be released then.
pub record KeepsAsked (g : ℕ) (k : Kept) (heard : Shorts) (c : Course) (silent : ℕ) (gs : List Gear) : Type 0 where
  pub unopened : c.opened ≡ false
  pub counted : IsCounted g c.tally silent 0 gs
  pub small : c.from ≤ 64
  pub clear : IsClear k heard
  pub census : IsCensus c.from c.tally k heard gs

-- one is to be kept of a visit that succeeded, and then the search goes on above it
pub record Past (g : ℕ) (c : Course) (silent : ℕ) (gs : List Gear) : Type 0 where
  pub opened_is : c.opened ≡ true
  pub counted : IsCounted g c.tally silent 0 gs
  pub low : AreLow gs
  pub sought_are : AreSought g 1 gs
  pub bare : AreBare g gs
  pub quiet : silent ≡ 0
  pub visited : ℕ
  pub drawn : visited < MASK24
  pub past : IsPast c.ascent visited gs

abbrev pub KeepsPast : ℕ → Kept → Shorts → Course → ℕ → List Gear → Type 0
KeepsPast g k heard c silent gs = Past g c silent gs × AreSeen k heard gs

-- a reservation is to be kept, and then its gear is visited once more
pub record KeepsReserved (g : ℕ) (k : Kept) (heard : Shorts) (c : Course) (silent a r : ℕ) (gs : List Gear) : Type 0 where
  pub hunted : Hunted g (IsFew Visiting g c.tally gs) c.opened c.tally silent 0 c.ascent.found gs
  pub bare : AreBare g gs
  pub drawn : r < MASK24
  pub reached : IsReached c.ascent r gs
  pub known : AreKnown k.reserved k.enrolled gs
  pub clear : IsClear (with_record k (Reserve a r)) heard

-- what is reserved for its number is this address alone
abbrev pub IsOwn : Kept → ℕ → ℕ → Type 0
IsOwn k b r = (a : ℕ) → Has k.reserved (a, r) → a ≡ b

-- each first time that short addresses are asked no gear was passed over
abbrev pub IsFirst : Tally → Type 0
IsFirst y = y.passed.count ≡ 0

abbrev pub Keeps : ℕ → Kept → Shorts → Course → ℕ → Record → List Gear → Type 0
Keeps g k heard c silent (Reserve a r) gs = KeepsReserved g k heard c silent a r gs
Keeps g k heard c silent (Enrol b r) gs =
    (KeepsAsked g (with_record k (Enrol b r)) heard c silent gs
    × (((IsFirst c.tally) × AreTabledBelow c.from (with_record k (Enrol b r)).enrolled gs) ⊎ IsOwn k b r)) ⊎ (KeepsPast g k heard c silent gs × IsOwn k b r)
Keeps g k heard c silent (Release a r) gs = KeepsAsked g k heard c silent gs × (IsFirst c.tally × AreTabledBelow c.from k.enrolled gs)

abbrev pub IsNext : ℕ → Machine → Order → List Gear → Type 0
IsNext g m (Put p f) gs = MisheardStands false g m gs
IsNext g m (Commit x) gs = Calm g m gs × Keeps g m.kept m.heard m.course m.silent x gs
IsNext g m (Done e) gs = EndsBy g e m.kept m.heard gs
IsNext g m (Halt why) gs = ⊥

abbrev pub GoesTo : ℕ → Machine → Order → List Gear → Type 0
GoesTo g t o gs = IsNext g (machine_ordered t o) o gs

-- ---------------------------------------------------------------- a later frame

rises_untold : (g : ℕ) (s : Stage) (x : Ascent) (n : SearchAddress) (gs : List Gear) → IsUnasked s Hunting → Rises true g s x n gs → Rises false g s x n gs
rises_untold g s x n gs unasked v =
    record { is = v.is; knows = v.knows; running = v.running; number = v.number; bare = v.bare; stage_is = go s unasked v.stage_is } where
      go : (s : Stage) → IsUnasked s Hunting → HuntStage true s n gs → HuntStage false s n gs
      go stage.Free unasked at = tt
      go (stage.HighSent high) unasked at = tt
      go (stage.LowSent high low) unasked at = tt
      go (stage.Hunted r None left) unasked at = tt
      go (stage.Hunted r (Some h) left) unasked at = absurd unasked
      go _ unasked at = absurd at

hunts_untold : (g : ℕ) (p : Purpose) (s : Stage) (c : Course) (silent : ℕ) (gs : List Gear)
    → (HuntAt true g p s c.ascent c.number gs → HuntAt false g p s c.ascent c.number gs) → Hunts true g p s c silent gs → Hunts false g p s c silent gs
hunts_untold g p s c silent gs on v = record { hunted = v.hunted; quiet = v.quiet; at = on v.at }

untold : (g : ℕ) (p : Purpose) (s : Stage) (k : Kept) (heard : Shorts) (c : Course) (silent : ℕ) (gs : List Gear) → IsUnasked s p
    → At true g p s k heard c silent gs → At false g p s k heard c silent gs
untold g Hunting s k heard c silent gs unasked at = hunts_untold g Hunting s c silent gs (rises_untold g s c.ascent c.number gs unasked) at
untold g Visiting s k heard c silent gs unasked at = hunts_untold g Visiting s c silent gs (λ v. v) at
untold g PassingOver s k heard c silent gs unasked at = hunts_untold g PassingOver s c silent gs (λ v. v) at
untold g _ s k heard c silent gs unasked at = at

pub later_by : (g : ℕ) (t : Machine) (o : Order) (s : Stage) (f : Forward) (gs : List Gear) → MisheardStands true g t gs → o ≡ Put LATER f
    → stage_of t.trace ≡ s → IsUnasked s t.course.purpose → GoesTo g t o gs
later_by g t o s f gs st is at unasked =
    subst (λ q. GoesTo g t q gs) (sym is) (subst (λ m. IsNext g m (Put LATER f) gs) (sym (later_leaves t f s at unasked)) (record {
      calm = st.calm;
      trace = st.trace;
      at = untold g t.course.purpose (stage_of t.trace) t.kept t.heard t.course t.silent gs (subst (λ q. IsUnasked q t.course.purpose) (sym at) unasked) st.at;
      known = st.known;
    }))

pub turns_by : (g : ℕ) (t : Machine) (o : Order) (p : Purpose) (s : Stage) (c : Command) (gs : List Gear) → IsGivenBy t o → MisheardStands true g t gs
    → t.course.purpose ≡ p → stage_of t.trace ≡ s → turn_of p t.course.number s ≡ Some c → GoesTo g t o gs
turns_by g t o p s c gs by st purpose at turn =
    later_by g t o s (frame_of c) gs st (given.turns t o c by (rw (purpose, at) turn)) at
    (subst (IsUnasked s) (sym purpose) (turn_unasked p t.course.number s c turn))

-- ---------------------------------------------------------------- a first one

pub first_by : (g : ℕ) (t : Machine) (o : Order) (cs : Course) (gs : List Gear) → Calm g t gs → o ≡ beginning (next_course t) → next_course t ≡ cs
    → cs.way ≡ Surveying → At false g cs.purpose stage.Free t.kept t.heard cs t.silent gs → KnownAt g cs.purpose stage.Free t.kept t.heard cs gs
    → GoesTo g t o gs
first_by g t o cs gs calm is same way at known = subst (λ q. GoesTo g t q gs) (sym is) (record {
  calm = record { there = calm.there; untried = calm.untried; way = subst (λ (d : Course). d.way ≡ Surveying) (sym same) way };
  trace = subst (λ s. IsTrace s []) (sym stage_none) trace_none;
  at = subst (λ s. At false g (next_course t).purpose s t.kept t.heard (next_course t) t.silent gs) (sym stage_none)
      (subst (λ (d : Course). At false g d.purpose stage.Free t.kept t.heard d t.silent gs) (sym same) at);
  known = subst (λ s. KnownAt g (next_course t).purpose s t.kept t.heard (next_course t) gs) (sym stage_none)
      (subst (λ (d : Course). KnownAt g d.purpose stage.Free t.kept t.heard d gs) (sym same) known);
})

-- ---------------------------------------------------------------- the census, and the first roll call

-- once all short addresses were asked, each gear is known
tabled_known : (k : Kept) (gs : List Gear) → AreTabledBelow 64 k.enrolled gs → AreKnown k.reserved k.enrolled gs
tabled_known k gs all i there on a small short drew = inl (all i there on a small short drew)

called_known : (g : ℕ) (y : Tally) (k : Kept) (heard : Shorts) (gs : List Gear) → IsClear k heard → IsCensus 64 y k heard gs
    → AreSeen k heard gs × IsSpent g y k heard gs
called_known g y k heard gs clear (inl first) =
    ((tabled_known k gs first.1, clear), inl (λ passed drew. absurd (let none : y.passed.count ≡ 0 = first.0 in omega (arith, none, passed))))
called_known g y k heard gs clear (inr later) = ((later.0, clear), inr later.1)

-- the table has each gear whose short address is not asked
tabled_on : (k : Kept) (gs : List Gear) (f d : ℕ) → OneShort gs → IsTrue k.enrolled gs → ((c : ℕ) → f ≤ c → c < d → is_asked k c ≡ false)
    → AreTabledBelow f k.enrolled gs → AreTabledBelow d k.enrolled gs
tabled_on k gs f d one holds unasked all i there on a low short drew = go (nat_lt a f) refl where
  go : (b : Bool) → nat_lt a f ≡ b → Has k.enrolled (a, (gear_of gs i).random)
  go true under = all i there on a (let less : a < f = grind (arith, nat_tests, under) in less) short drew
  go false over =
      let entry = unasked_enrolled k a (unasked a (let past : f ≤ a = grind (arith, nat_tests, over) in past) low) in
      let who = holds a entry.0 entry.1 in
      let same : who.0 ≡ i = one who.0 i a who.1 there who.2 short in
      subst (λ n. Has k.enrolled (a, n)) (sym who.3 ∙ ap (λ j. (gear_of gs j).random) same) entry.1

census_on : (f d : ℕ) (y : Tally) (k : Kept) (heard : Shorts) (gs : List Gear) → OneShort gs → IsTrue k.enrolled gs
    → ((c : ℕ) → f ≤ c → c < d → is_asked k c ≡ false) → IsCensus f y k heard gs → IsCensus d y k heard gs
census_on f d y k heard gs one holds unasked (inl first) = inl (first.0, tabled_on k gs f d one holds unasked first.1)
census_on f d y k heard gs one holds unasked (inr later) = inr later

-- the next short address, or the roll call
pub asks_or_calls : (g : ℕ) (t : Machine) (o : Order) (c : Course) (f : ℕ) (gs : List Gear) → Calm g t gs → o ≡ beginning (next_course t)
    → next_course t ≡ ask_or_call c (next_asked t.kept f) → c.way ≡ Surveying → c.opened ≡ false → IsCounted g c.tally t.silent 0 gs → f ≤ 64
    → IsClear t.kept t.heard → IsCensus f c.tally t.kept t.heard gs → OneShort gs → IsTrue t.kept.enrolled gs → GoesTo g t o gs
asks_or_calls g t o c f gs calm is same way unopened counted few clear census one holds =
    go (next_asked t.kept f) same (asked_later t.kept (64 - f) f) (asked_before t.kept (64 - f) f) (asked_within t.kept (64 - f) f) where
      go : (next : Option ℕ) → next_course t ≡ ask_or_call c next → (next ≡ None → (d : ℕ) → f ≤ d → d < f + (64 - f) → is_asked t.kept d ≡ false)
          → ((d : ℕ) → next ≡ Some d → (e : ℕ) → f ≤ e → e < d → is_asked t.kept e ≡ false) → ((d : ℕ) → next ≡ Some d → (f ≤ d) × (d < f + (64 - f)))
          → GoesTo g t o gs
      go None next none before within =
          first_by g t o (calling_first c) gs calm is next way (record { opened_is = refl; counted = counted; roll = roll_first gs })
          (called_known g c.tally t.kept t.heard gs clear
          (census_on f 64 c.tally t.kept t.heard gs one holds (λ d past under. none refl d past (omega (arith, under, few))) census))
      go (Some a) next none before within =
          let high : a < f + (64 - f) = (within a refl).1 in
          first_by g t o (asking c a) gs calm is next way (record { unopened = unopened; counted = counted }) (record {
            ask = record { small = omega (arith, high, few); asked = tt; clear = clear };
            from_is = refl;
            census = census_on f a c.tally t.kept t.heard gs one holds (λ d past under. before a refl d past under) census;
          })

pub asks_on : (g : ℕ) (t : Machine) (o : Order) (gs : List Gear) → Calm g t gs → o ≡ beginning (next_course t) → next_course t ≡ goes_on_to t
    → KeepsAsked g t.kept t.heard t.course t.silent gs → OneShort gs → IsTrue t.kept.enrolled gs → GoesTo g t o gs
asks_on g t o gs calm is next v one holds =
    asks_or_calls g t o t.course t.course.from gs calm is
    (next ∙ ap (λ b. going_on t.kept b t.course) v.unopened ∙ ap (λ y. going_on_early t.kept y t.course) calm.way) calm.way v.unopened v.counted v.small
    v.clear v.census one holds

-- the block is full: short addresses are asked again, or the close comes
pub fills : (g : ℕ) (t : Machine) (o : Order) (c : Course) (gs : List Gear) → Calm g t gs → o ≡ beginning (next_course t) → next_course t ≡ full t c
    → c.way ≡ Surveying → IsCounted g c.tally t.silent 0 gs → AreSeen t.kept t.heard gs → AreTaken t.kept t.heard → OneShort gs → IsTrue t.kept.enrolled gs
    → GoesTo g t o gs
fills g t o c gs calm is next way counted known filled one holds = go (asks_again t) refl where
  go : (b : Bool) → asks_again t ≡ b → GoesTo g t o gs
  go true again =
      asks_or_calls g t o (record c { from = 0; opened = false; ascent = ascent_at_first; tally = asked_again c.tally }) 0 gs calm is
      (next ∙ ap (λ b. if b then asking_again t.kept c else closing_by c BlockFull) again) way refl
      counted (omega arith) known.1 (inr (known.0, filled)) one holds
  go false last =
      first_by g t o (closing_by c BlockFull) gs calm is (next ∙ ap (λ b. if b then asking_again t.kept c else closing_by c BlockFull) last) way
      (record { stage_is = tt; well = filled }) known

-- ---------------------------------------------------------------- the search that goes up

pub one_most : (b : Bool) → one_if b ≤ 1
one_most true = omega arith
one_most false = omega arith

-- from the least number on, after a roll call or a draw
pub sought_opened : (g : ℕ) (gs : List Gear) → Each gs (λ k y. OpenedBy y) → AreSought g 0 gs
sought_opened g gs all k there on but none small = (all k there on).0 none

pub bare_opened : (g : ℕ) (gs : List Gear) → Each gs (λ k y. OpenedBy y) → AreBare g gs
bare_opened g gs all k there on other enabled = woken_short (gear_of gs k) (all k there on) (rw enabled refl)

pub hunts_first : (g : ℕ) (t : Machine) (o : Order) (cs : Course) (gs : List Gear) → Calm g t gs → o ≡ beginning (next_course t)
    → next_course t ≡ hunting_first cs → cs.way ≡ Surveying → cs.opened ≡ true → IsCounted g cs.tally t.silent 0 gs
    → cs.tally.passed.count ≤ cs.tally.calls + cs.tally.draws → AreLow gs → Each gs (λ k y. OpenedBy y) → AreSeen t.kept t.heard gs → GoesTo g t o gs
hunts_first g t o cs gs calm is next way opened counted few low all known =
    first_by g t o (hunting_first cs) gs calm is next way (record {
      hunted = record { opened_is = opened; counted = counted; few = λ wanted_is. few; low = low; sought_are = sought_opened g gs all };
      quiet = tt;
      at = record {
        is = climbing.first_is;
        knows = climbing.anything_first (wants gs);
        running = refl;
        number = refl;
        bare = bare_opened g gs all;
        stage_is = tt;
      };
    }) known

-- above who was found
pub hunts_above : (g : ℕ) (t : Machine) (o : Order) (cs : Course) (v : ℕ) (gs : List Gear) → Calm g t gs → o ≡ beginning (next_course t)
    → next_course t ≡ hunting_above cs → cs.way ≡ Surveying → cs.opened ≡ true → IsCounted g cs.tally t.silent 0 gs
    → (is_wanted (gear_of gs g) ≡ true → cs.tally.passed.count ≤ cs.tally.calls + cs.tally.draws) → AreLow gs → AreSought g 1 gs → AreBare g gs → v < MASK24
    → IsPast cs.ascent v gs → AreSeen t.kept t.heard gs → GoesTo g t o gs
hunts_above g t o cs v gs calm is next way opened counted few low sought_are bare drawn past known =
    first_by g t o (hunting (record cs { ascent = above cs.ascent v })) gs calm is
    (next ∙ ap (λ q. hunting (record cs { ascent = gone_on_from q cs.ascent })) past.reached) way (record {
      hunted = record {
        opened_is = opened;
        counted = counted;
        few = few;
        low = low;
        sought_are = λ k there on but none small. sought_are k there on (λ e. absurd (climbing.above_found cs.ascent v (but e))) none small;
      };
      quiet = tt;
      at = record {
        is = climbing.above_is cs.ascent v past.is drawn;
        knows = climbing.knows_above (wants gs) cs.ascent v past.past;
        running = refl;
        number = refl;
        bare = bare;
        stage_is = tt;
      };
    }) known

-- if a visit succeeded
pub hunts_on : (g : ℕ) (t : Machine) (o : Order) (gs : List Gear) → Calm g t gs → o ≡ beginning (next_course t) → next_course t ≡ goes_on_to t
    → KeepsPast g t.kept t.heard t.course t.silent gs → GoesTo g t o gs
hunts_on g t o gs calm is next (v, known) =
    hunts_above g t o (record t.course { tally = served t.course.tally }) v.visited gs calm is
    (next ∙ ap (λ b. going_on t.kept b t.course) v.opened_is ∙ ap (λ y. searching_on y t.course) calm.way) calm.way v.opened_is (record {
      calls = omega arith;
      draws = v.counted.draws;
      passed = omega arith;
      quiet = subst (λ n. n + one_if (not (is_failed None (gear_of gs g).random)) ≤ 2 * 0 + 1 + 20 * t.course.tally.draws + 0) (sym v.quiet)
          (least t.course.tally.draws);
      drawn = v.counted.drawn;
    }) (λ wanted_is. omega arith) v.low v.sought_are v.bare v.drawn v.past known
  where
    least : (n : ℕ) → 0 + 1 ≤ 2 * 0 + 1 + 20 * n + 0
    least n = omega arith
