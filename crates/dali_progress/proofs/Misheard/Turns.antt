use Rattle.dali_progress.proofs.Below.{◌≡◌, ℕ, ◌+◌, ◌*◌, ◌<◌, ◌≤◌, ◌⊎◌, inl, inr, Bool, true, false, List, [], ◌∷◌, ◌++◌, refl, sym, ap, subst, ◌∙◌, arith}
use Rattle.dali_progress.proofs.Below.{Some, None, ◌==◌, ◌&&◌, not, nat_lt, if◌then◌else◌, nat_tests, MASK24, Answer, SearchAddress, Gear, finding_of}
use Rattle.dali_progress.proofs.Below.{Assignment, Kept, Has, HasAddress, IsKept, IsFresh, MayAdd, with_record, stage_of, finding_at, Resolved, AllFound}
use Rattle.dali_progress.proofs.Below.{GaveUp, Order, Put, Commit, Done, Halt, Enrol, Stage, has_before, has_last, same_member, one_if, Course, call_turn}
use Rattle.dali_progress.proofs.Below.{is_yes, turn_of, calling, opening_at_last, closing as closing_by, searching_first, Machine, next_course, begins_at}
use Rattle.dali_progress.proofs.Below.{beginning, asked_once, blocked, is_blocked, full, has_open, may_draw, is_failed, machine_ordered, AfterFinding, IsSought}
use Rattle.dali_progress.proofs.Below.{has_short, heard_call, silent_call, IsWhole, Purpose, Asking, Calling, Shorts, Tally, IsGivenBy, IsNoEnrolment, gear_of}
use Rattle.dali_script.specs.declared.stage.Stage.TheVariants as stage
use Rattle.dali_controller.proofs.Given as given
use Rattle.dali_events.proofs.Search.Wanted as wanted
use Rattle.dali_progress.proofs.Misheard.Gear as gear
use Rattle.dali_progress.proofs.{Both.{never_eight, has_address}, Misheard.Begins.{KeepsAsked, IsOwn, Keeps, first_by, asks_on, one_most, hunts_first, GoesTo}}
use Rattle.dali_progress.proofs.{Misheard.Gear.{AreKnown, HasOne}, Misheard.Stands.{IsSpent, Asks, Calls, Draws, AreTabledBelow, AreSeen, IsCensus, Census}}
use Rattle.dali_progress.proofs.{Misheard.Stands.{KnownAt, EndsBy, MisheardStands}, Survey.Begins.{begins_whole, all_taken}, Survey.Hunting.nothing_open}
use Rattle.dali_progress.proofs.{Survey.Queried.{Holds, one_gear, IsAtHand}, Survey.Stands.AreTaken, Survey.Turns.{IsUncontradicted, silent_next, heard_next}}
use Rattle.dali_progress.proofs.Surveying.{roll_first, called_short, roll_over, IsClear}

-- A CONTROLLER ACTS on what it was told, and what it orders goes on with the survey.

-- the finding of a transaction by its stage
pub found_at : {told : Bool} (g : ℕ) (t : Machine) (gs : List Gear) (s : Stage) → MisheardStands told g t gs → stage_of t.trace ≡ s
    → finding_of t.trace ≡ finding_at s
found_at g t gs s st is = st.trace.finding ∙ ap finding_at is

-- ---------------------------------------------------------------- the census

-- who is known, by what the transaction is for
pub known_as : (g : ℕ) (t : Machine) (gs : List Gear) (p : Purpose) → MisheardStands true g t gs → t.course.purpose ≡ p
    → KnownAt g p (stage_of t.trace) t.kept t.heard t.course gs
known_as g t gs p st purpose = subst (λ q. KnownAt g q (stage_of t.trace) t.kept t.heard t.course gs) purpose st.known

-- the table has the gear that has the short address that was asked
tabled_next : (f : ℕ) (xs ys : List Assignment) (gs : List Gear) → ((x : Assignment) → Has xs x → Has ys x) → AreTabledBelow f xs gs
    → ((i : ℕ) → Holds gs i f → (gear_of gs i).random < MASK24 → Has ys (f, (gear_of gs i).random)) → AreTabledBelow (f + 1) ys gs
tabled_next f xs ys gs more below here i there on a low short drew = go (nat_lt a f) refl where
  go : (b : Bool) → nat_lt a f ≡ b → Has ys (a, (gear_of gs i).random)
  go true under = more (a, (gear_of gs i).random) (below i there on a (let less : a < f = grind (arith, nat_tests, under) in less) short drew)
  go false over =
      let past : f ≤ a = grind (arith, nat_tests, over) in
      let same : a ≡ f = omega (arith, past, low) in
      subst (λ c. Has ys (c, (gear_of gs i).random)) (sym same) (here i (record { there = there; on = on; short = short ∙ ap (λ c. Some c) same }) drew)

-- the next short address is to be asked
next_asks : (g a : ℕ) (s : Stage) (k : Kept) (heard : Shorts) (c : Course) (silent : ℕ) (gs : List Gear) → Asks g c silent gs → Census a s k heard c gs
    → IsClear k heard → ((i : ℕ) → Holds gs i a → (gear_of gs i).random < MASK24 → Has k.enrolled (a, (gear_of gs i).random)) → KeepsAsked g k heard c silent gs
next_asks g a s k heard c silent gs v w clear here = record {
  unopened = v.unopened;
  counted = v.counted;
  small = subst (λ n. n ≤ 64) (sym w.from_is) (let few : a < 64 = w.ask.small in omega (arith, few));
  clear = clear;
  census = subst (λ n. IsCensus n c.tally k heard gs) (sym w.from_is) (go w.census);
} where
  go : IsCensus a c.tally k heard gs → IsCensus (a + 1) c.tally k heard gs
  go (inl first) = inl (first.0, tabled_next a k.enrolled k.enrolled gs (λ x has. has) first.1 here)
  go (inr later) = inr later

address_before : (xs : List Assignment) (y : Assignment) (a : ℕ) → HasAddress xs a → HasAddress (xs ++ y ∷ []) a
address_before [] y a has = absurd has
address_before (p ∷ xs) y a (inl e) = inl e
address_before (p ∷ xs) y a (inr has) = inr (address_before xs y a has)

taken_enrolled : (k : Kept) (heard : Shorts) (b n : ℕ) → AreTaken k heard → AreTaken (with_record k (Enrol b n)) heard
taken_enrolled k heard b n taken a within = go (taken a within) where
  go : HasAddress k.reserved a ⊎ (HasAddress k.enrolled a ⊎ (has_short heard a ≡ true))
      → HasAddress k.reserved a ⊎ (HasAddress (k.enrolled ++ (b, n) ∷ []) a ⊎ (has_short heard a ≡ true))
  go (inl has) = inl has
  go (inr (inl has)) = inr (inl (address_before k.enrolled (b, n) a has))
  go (inr (inr marked)) = inr (inr marked)

-- what is reserved for its number is its address alone, if it is known and in no table
pub own_by : (k : Kept) (b n : ℕ) (gs : List Gear) → IsKept k → AreKnown k.reserved k.enrolled gs → HasOne n b gs → b < 64 → n < MASK24
    → (HasAddress k.enrolled b → ⊥) → IsOwn k b n
own_by k b n gs kept known one small drew fresh a has =
    go (subst (λ m. Has k.enrolled (b, m) ⊎ Has k.reserved (b, m)) one.4 (known one.0 one.1 one.2 b small one.3 (subst (λ m. m < MASK24) (sym one.4) drew)))
  where
    go : Has k.enrolled (b, n) ⊎ Has k.reserved (b, n) → a ≡ b
    go (inl entry) = absurd (fresh (has_address k.enrolled b n entry))
    go (inr entry) = ap (λ (x : Assignment). x.0) (same_member (λ (x : Assignment). x.1) k.reserved (a, n) (b, n) kept.reserved.random_once has entry refl)

-- three bytes told a number
told_turns : (g : ℕ) (t : Machine) (o : Order) (a b n : ℕ) (gs : List Gear) → IsGivenBy t o → MisheardStands true g t gs → IsAtHand t.kept gs
    → IsUncontradicted t → t.course.purpose ≡ Asking a → stage_of t.trace ≡ stage.Spelled b (Some n) → Asks g t.course t.silent gs
    → Census a (stage.Spelled b (Some n)) t.kept t.heard t.course gs → GoesTo g t o gs
told_turns g t o a b n gs by st hand agreed purpose is v w = go (nat_lt n MASK24) refl where
  who : ℕ
  who = w.ask.asked.1.0

  holds : Holds gs w.ask.asked.1.0 a
  holds = w.ask.asked.1.1

  number : n ≡ (gear_of gs w.ask.asked.1.0).random
  number = w.ask.asked.1.2

  same : (i : ℕ) → Holds gs i a → (gear_of gs i).random ≡ n
  same i has = ap (λ j. (gear_of gs j).random) (one_gear gs hand.one i w.ask.asked.1.0 a has holds) ∙ sym number

  goes : (q : Order) → q ≡ beginning (next_course t)
      → ((i : ℕ) → Holds gs i a → (gear_of gs i).random < MASK24 → Has t.kept.enrolled (a, (gear_of gs i).random)) → GoesTo g t q gs
  goes q begins here =
      asks_on g t q gs st.calm begins (ap (begins_at t) is) (next_asks g a (stage.Spelled b (Some n)) t.kept t.heard t.course t.silent gs v w w.ask.clear here)
      hand.one hand.holds

  sought_is : n < MASK24 → IsSought t.course.purpose t.course.number n
  sought_is small = subst (λ p. IsSought p t.course.number n) (sym purpose) small

  few : t.course.from ≤ 64
  few = subst (λ m. m ≤ 64) (sym w.from_is) (let small : a < 64 = w.ask.small in omega (arith, small))

  enrols : n < MASK24 → IsFresh t.kept.enrolled (b, n) → Keeps g t.kept t.heard t.course t.silent (Enrol b n) gs
  enrols small fresh = by_census w.census where
    more : (x : Assignment) → Has t.kept.enrolled x → Has (t.kept.enrolled ++ (b, n) ∷ []) x
    more x has = has_before t.kept.enrolled (b, n) x has

    asks : IsCensus t.course.from t.course.tally (with_record t.kept (Enrol b n)) t.heard gs
        → KeepsAsked g (with_record t.kept (Enrol b n)) t.heard t.course t.silent gs
    asks census = record { unopened = v.unopened; counted = v.counted; small = few; clear = w.ask.clear; census = census }

    by_census : IsCensus a t.course.tally t.kept t.heard gs → Keeps g t.kept t.heard t.course t.silent (Enrol b n) gs
    by_census (inl first) = inl (asks (inl (first.0, tabled)), inl (first.0, tabled)) where
      tabled : AreTabledBelow t.course.from (t.kept.enrolled ++ (b, n) ∷ []) gs
      tabled = subst (λ f. AreTabledBelow f (t.kept.enrolled ++ (b, n) ∷ []) gs) (sym w.from_is)
          (tabled_next a t.kept.enrolled (t.kept.enrolled ++ (b, n) ∷ []) gs more first.1
          (λ i has drew. subst (λ m. Has (t.kept.enrolled ++ (b, n) ∷ []) (a, m)) (sym (same i has))
          (subst (λ c. Has (t.kept.enrolled ++ (b, n) ∷ []) (c, n)) w.ask.asked.0 (has_last t.kept.enrolled (b, n)))))
    by_census (inr later) = inl (
      asks (inr (
        gear.known_more t.kept.reserved t.kept.enrolled t.kept.reserved (t.kept.enrolled ++ (b, n) ∷ []) gs (λ x has. has) more later.0,
        taken_enrolled t.kept t.heard b n later.1,
      )),
      inr (own_by t.kept b n gs hand.kept later.0 (
        w.ask.asked.1.0,
        holds.there,
        holds.on,
        subst (λ c. (gear_of gs w.ask.asked.1.0).short ≡ Some c) (sym w.ask.asked.0) holds.short,
        sym number,
      ) (subst (λ c. c < 64) (sym w.ask.asked.0) w.ask.small) small fresh.0),
    )

  follows : (q : Order) → IsGivenBy t q → n < MASK24 → AfterFinding t b n q → GoesTo g t q gs
  follows (Put p f) by small has =
      goes (Put p f) (given.spelled_known t (Put p f) b n by is (sought_is small) hand.kept.enrolled has)
      (λ i told drew. subst (λ m. Has t.kept.enrolled (a, m)) (sym (same i told)) (subst (λ c. Has t.kept.enrolled (c, n)) w.ask.asked.0 has))
  follows (Commit x) by small is_enrol =
      let may : IsFresh t.kept.enrolled (b, n) = subst (λ y. MayAdd t.kept y) is_enrol by.ordered.allowed.may in
      subst (λ y. GoesTo g t (Commit y) gs) (sym is_enrol) (st.calm, enrols small may)
  follows (Done e) by small never = absurd never
  follows (Halt why) by small contradicts = absurd (agreed (Resolved b n) (found_at g t gs (stage.Spelled b (Some n)) st is) contradicts)

  go : (s : Bool) → nat_lt n MASK24 ≡ s → GoesTo g t o gs
  go true less =
      let small : n < MASK24 = grind (arith, nat_tests, less) in
      follows o by small (by.followed.told b n is (sought_is small))
  go false over =
      let large : n < MASK24 → ⊥ = grind (arith, nat_tests, over) in
      goes o (by.followed.another b n is (λ s. large (subst (λ p. IsSought p t.course.number n) purpose s)))
      (λ i told drew. absurd (large (subst (λ m. m < MASK24) (same i told) drew)))

pub census_turns : (g : ℕ) (t : Machine) (o : Order) (a : ℕ) (s : Stage) (gs : List Gear) → IsGivenBy t o → MisheardStands true g t gs → IsAtHand t.kept gs
    → IsUncontradicted t → IsNoEnrolment t.last → t.course.purpose ≡ Asking a → stage_of t.trace ≡ s → (s ≡ stage.Free → ⊥) → Asks g t.course t.silent gs
    → Census a s t.kept t.heard t.course gs → IsWhole (machine_ordered t o) → turn_of (Asking a) t.course.number s ≡ None → GoesTo g t o gs
census_turns g t o a stage.Free gs by st hand agreed last purpose is running v w whole over = absurd (running refl)
census_turns g t o a (stage.HighAsked b None) gs by st hand agreed last purpose is running v w whole over = go (t.asked == 0) refl where
  begins : o ≡ beginning (next_course t)
  begins =
      begins_whole t o (Asking a) (stage.HighAsked b None) by purpose is (λ r e. cc) (λ e. cc) tt (λ f sends. (let none = sends.0 in cc))
      (found_at g t gs (stage.HighAsked b None) st is) last st.calm.untried whole

  next : next_course t ≡ asked_once t (t.asked == 0)
  next = ap (begins_at t) is

  go : (e : Bool) → (t.asked == 0) ≡ e → GoesTo g t o gs
  go true none =
      asks_on g t o gs st.calm begins (next ∙ ap (asked_once t) none)
      (next_asks g a (stage.HighAsked b None) t.kept t.heard t.course t.silent gs v w w.ask.clear (λ i has drew. absurd (w.ask.asked.1 i has)))
      hand.one hand.holds
  go false again =
      first_by g t o t.course gs st.calm begins (next ∙ ap (asked_once t) again) st.calm.way
      (rw purpose (record { unopened = v.unopened; counted = v.counted }))
      (rw purpose (record { ask = record { small = w.ask.small; asked = tt; clear = w.ask.clear }; from_is = w.from_is; census = w.census }))
census_turns g t o a (stage.HighAsked b (Some u)) gs by st hand agreed last purpose is running v w whole over = absurd (cc)
census_turns g t o a (stage.MiddleAsked b (Some x)) gs by st hand agreed last purpose is running v w whole over = absurd (cc)
census_turns g t o a (stage.Spelled b (Some n)) gs by st hand agreed last purpose is running v w whole over =
    told_turns g t o a b n gs by st hand agreed purpose is v w
census_turns g t o a _ gs by st hand agreed last purpose is running v w whole over = absurd w.ask.asked

-- ---------------------------------------------------------------- the roll call

-- one more that was heard is counted
heard_few : (y : Tally) → y.calls ≤ 3 → y.passed.count ≤ y.calls + y.draws + 1 → is_blocked y ≡ false
    → ((heard_call y).calls ≤ 3) × (y.passed.count ≤ (heard_call y).calls + y.draws)
heard_few y calls passed unblocked = go (nat_lt y.calls 3) refl (nat_lt 0 y.passed.count) refl unblocked where
  go : (b : Bool) → nat_lt y.calls 3 ≡ b → (d : Bool) → nat_lt 0 y.passed.count ≡ d → (not (nat_lt y.calls 3) && nat_lt 0 y.passed.count) ≡ false
      → ((if nat_lt y.calls 3 then y.calls + 1 else y.calls) ≤ 3) × (y.passed.count ≤ (if nat_lt y.calls 3 then y.calls + 1 else y.calls) + y.draws)
  go true less d e none =
      let small : y.calls < 3 = grind (arith, nat_tests, less) in
      rw less (omega (arith, small), omega (arith, passed))
  go false less false e none = let zero_is : y.passed.count ≡ 0 = grind (arith, nat_tests, e) in rw less (calls, omega (arith, zero_is))
  go false less true e none = absurd (let both : (not (nat_lt y.calls 3) && nat_lt 0 y.passed.count) ≡ true = rw (less, e) refl in
      let never : true ≡ false = sym both ∙ none in cc)

-- the fourth one since a visit succeeded, with some gear passed over
blocked_turns : (g : ℕ) (t : Machine) (o : Order) (r : SearchAddress) (h : Answer) (room : ℕ) (gs : List Gear) → MisheardStands true g t gs
    → Calls g (stage.Hunted r (Some h) room) t.course t.silent gs → AreSeen t.kept t.heard gs × IsSpent g t.course.tally t.kept t.heard gs
    → o ≡ beginning (next_course t) → next_course t ≡ blocked t → is_blocked t.course.tally ≡ true → GoesTo g t o gs
blocked_turns g t o r h room gs st v known begins next is_blocked_now = go (nat_lt t.course.tally.draws 3) refl (has_open t) refl where
  passed : 0 < t.course.tally.passed.count
  passed = some (wanted.both_pass (not (nat_lt t.course.tally.calls 3)) (nat_lt 0 t.course.tally.passed.count) is_blocked_now).1 where
    some : nat_lt 0 t.course.tally.passed.count ≡ true → 0 < t.course.tally.passed.count
    some e = grind (arith, nat_tests, e)

  by : (b : Bool) → may_draw t ≡ b → next_course t ≡ (if b then opening_at_last t.course else closing_by t.course GaveUp)
  by b e = next ∙ ap (λ q. if q then opening_at_last t.course else closing_by t.course GaveUp) e

  closes : may_draw t ≡ false → EndsBy g GaveUp t.kept t.heard gs → GoesTo g t o gs
  closes none well = first_by g t o (closing_by t.course GaveUp) gs st.calm begins (by false none) st.calm.way (record { stage_is = tt; well = well }) known.0

  go : (a : Bool) → nat_lt t.course.tally.draws 3 ≡ a → (b : Bool) → has_open t ≡ b → GoesTo g t o gs
  go true few true free =
      first_by g t o (opening_at_last t.course) gs st.calm begins (by true (rw (few, free) refl)) st.calm.way (record {
        opened_is = v.opened_is;
        counted = record {
          calls = omega arith;
          draws = omega arith;
          passed = omega arith;
          quiet = most t.silent (one_if (not (is_failed t.course.tally.failed (gear_of gs g).random))) t.course.tally.passed.count t.course.tally.calls
              t.course.tally.draws v.counted.quiet v.counted.passed v.counted.calls
              (let less : t.course.tally.draws < 3 = grind (arith, nat_tests, few) in less);
        };
        draw = record { stage_is = tt; drawn = tt; gear = λ k in_row on. tt; low = v.roll.low };
      }) known.0
    where
      most : (silent one count calls draws : ℕ) → silent + one ≤ 2 * count + 1 + 20 * draws + 0 → count ≤ calls + draws + 1 → calls ≤ 3 → draws < 3
          → silent ≤ 2 * 0 + 20 * 3
      most silent one count calls draws quiet passed calls_few draws_few = omega (arith, quiet, passed, calls_few, draws_few)
  go true few false full = closes (rw (few, full) refl) (inr (all_taken t.kept t.heard (nothing_open t full)))
  go false spent b free = closes (rw spent refl) (served known.1) where
    drew : 0 < t.course.tally.draws
    drew = some t.course.tally.draws (let over : t.course.tally.draws < 3 → ⊥ = grind (arith, nat_tests, spent) in over) where
      some : (n : ℕ) → (n < 3 → ⊥) → 0 < n
      some n over = omega (arith, over)

    served : IsSpent g t.course.tally t.kept t.heard gs → EndsBy g GaveUp t.kept t.heard gs
    served (inl all) = inl (all passed drew)
    served (inr filled) = inr filled

one_past : (n m : ℕ) → n ≤ m → n ≤ m + 1
one_past n m less = omega (arith, less)

answered_call : (g : ℕ) (t : Machine) (o : Order) (r : SearchAddress) (h : Answer) (room : ℕ) (gs : List Gear) → IsGivenBy t o → MisheardStands true g t gs
    → t.course.purpose ≡ Calling → stage_of t.trace ≡ stage.Hunted r (Some h) room → Calls g (stage.Hunted r (Some h) room) t.course t.silent gs
    → call_turn (Some h) room ≡ None → GoesTo g t o gs
answered_call g t o r h room gs by st purpose is v over = go (is_yes h) refl where
  known : AreSeen t.kept t.heard gs × IsSpent g t.course.tally t.kept t.heard gs
  known = known_as g t gs Calling st purpose

  begins : o ≡ beginning (next_course t)
  begins = by.followed.called r h room is purpose over

  silent_one : is_yes h ≡ false → (b : Bool) → t.course.tally.is_silent ≡ b → GoesTo g t o gs
  silent_one quiet_so true twice =
      first_by g t o (closing_by t.course AllFound) gs st.calm begins (silent_next t r h room true is purpose quiet_so twice) st.calm.way
      (record { stage_is = tt; well = called_short h room gs v.roll.stage_is.1 quiet_so }) known.0
  silent_one quiet_so false once =
      first_by g t o (calling (record t.course { tally = silent_call t.course.tally })) gs st.calm begins
      (silent_next t r h room false is purpose quiet_so once) st.calm.way (record { opened_is = v.opened_is; counted = v.counted; roll = roll_first gs })
      known

  heard_one : is_yes h ≡ true → (b : Bool) → is_blocked t.course.tally ≡ b → GoesTo g t o gs
  heard_one heard_so true stuck = blocked_turns g t o r h room gs st v known begins (heard_next t r h room true is purpose heard_so stuck) stuck
  heard_one heard_so false free =
      let few = heard_few t.course.tally v.counted.calls v.counted.passed free in
      hunts_first g t o (record t.course { tally = heard_call t.course.tally }) gs st.calm begins
      (heard_next t r h room false is purpose heard_so free) st.calm.way v.opened_is (record {
        calls = few.0;
        draws = v.counted.draws;
        passed = one_past t.course.tally.passed.count ((heard_call t.course.tally).calls + t.course.tally.draws) few.1;
        quiet = v.counted.quiet;
        drawn = v.counted.drawn;
      }) few.1 v.roll.low (λ k there on. (v.roll.gear k there on).1) known.0

  go : (b : Bool) → is_yes h ≡ b → GoesTo g t o gs
  go false quiet_so = silent_one quiet_so t.course.tally.is_silent refl
  go true heard_so = heard_one heard_so (is_blocked t.course.tally) refl

pub calling_turns : (g : ℕ) (t : Machine) (o : Order) (s : Stage) (gs : List Gear) → IsGivenBy t o → MisheardStands true g t gs → t.course.purpose ≡ Calling
    → stage_of t.trace ≡ s → (s ≡ stage.Free → ⊥) → Calls g s t.course t.silent gs → turn_of Calling t.course.number s ≡ None → GoesTo g t o gs
calling_turns g t o s gs by st purpose is running v over =
    let at = roll_over s t.course.number gs v.roll over running in
    answered_call g t o at.0 at.1 at.2 gs by st purpose (is ∙ at.3) (subst (λ q. Calls g q t.course t.silent gs) at.3 v) at.4

-- ---------------------------------------------------------------- gear have drawn

pub drawn_turns : (g : ℕ) (t : Machine) (o : Order) (p : Purpose) (gs : List Gear) → IsGivenBy t o → MisheardStands true g t gs → IsNoEnrolment t.last
    → stage_of t.trace ≡ stage.Opened → Draws p stage.Opened t.course t.silent gs → AreSeen t.kept t.heard gs → GoesTo g t o gs
drawn_turns g t o p gs by st last is v known =
    hunts_first g t o t.course gs st.calm (given.begins_after t o stage.Opened by is tt (found_at g t gs stage.Opened st is) last
    (never_eight t.tries st.calm.untried)) (ap (begins_at t) is ∙ ap (λ y. searching_first y t.course) st.calm.way) st.calm.way v.opened_is (record {
      calls = v.counted.calls;
      draws = v.counted.draws;
      passed = one_past t.course.tally.passed.count (t.course.tally.calls + t.course.tally.draws) v.counted.passed;
      quiet = enough t.silent (one_if (not (is_failed t.course.tally.failed (gear_of gs g).random))) t.course.tally.passed.count t.course.tally.draws
          (one_most (not (is_failed t.course.tally.failed (gear_of gs g).random))) v.counted.quiet;
      drawn = λ some k there on. (v.draw.gear k there on).0;
    }) v.counted.passed v.draw.low (λ k there on. (v.draw.gear k there on).1) known
  where
    enough : (silent one count draws : ℕ) → one ≤ 1 → silent ≤ 2 * count + 20 * draws → silent + one ≤ 2 * count + 1 + 20 * draws + 0
    enough silent one count draws most quiet = omega (arith, most, quiet)
