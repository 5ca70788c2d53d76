use Rattle.dali_progress.proofs.Below.{◌≡◌, ℕ, ◌+◌, ◌-◌, ◌*◌, ◌<◌, ◌≤◌, ◌⊎◌, inl, inr, Bool, true, false, zero, suc, List, [], ◌∷◌, ◌++◌, refl, sym, ap, subst}
use Rattle.dali_progress.proofs.Below.{◌∙◌, arith, Option, Some, None, min, ◌==◌, ◌&&◌, ◌||◌, not, is_some, MatchOption, if◌then◌else◌, nat_tests, count_by}
use Rattle.dali_progress.proofs.Below.{FIRST, LATER, MASK24, Forward, SearchAddress, frame_of, command_of, Command, Gear, finding_of, Assignment, Kept, Has}
use Rattle.dali_progress.proofs.Below.{HasAddress, with_record, IsTrace, stage_of, Order, Put, Commit, Done, Halt, Record, Reserve, Enrol, Release, Stage}
use Rattle.dali_progress.proofs.Below.{trace_none, has_map, has_cases, stage_none, Ascent, IsAscent, asked_next, leads_to, ascent_at_first, above, gone_on_from}
use Rattle.dali_progress.proofs.Below.{Found, Course, turn_of, number_at, is_open, open_among, least_open, is_another, is_anothers, is_asked, next_asked}
use Rattle.dali_progress.proofs.Below.{ask_or_call, asking, calling_first, going_on, going_on_early, sought, hunting, hunting_first, searching_on, Machine}
use Rattle.dali_progress.proofs.Below.{next_course, course_by, beginning, goes_on_to, BeginsWith, machine_ordered, asked_by, IsAllowed, IsCaused, has_short}
use Rattle.dali_progress.proofs.Below.{served, IsWhole, Sends as SendsWhole, Purpose, Hunting, Visiting, Asking as Counting, Shorts, found_number, IsGivenBy}
use Rattle.dali_progress.proofs.{Below.{IsNoEnrolment, is_bare, is_wanted, wants, IsOpened, NoneNamed, SameCore, AreTabled}, Both.never_eight}
use Rattle.dali_progress.proofs.{Census.{Asked.sending_of, Coming.{asked_later, asked_before, unasked_enrolled, from_next}, Left.asked_within}, Later.IsUnasked}
use Rattle.dali_progress.proofs.{Later.{later_leaves, turn_unasked, course_stays, asked_none}, Survey.Drawn.{those_drawn, is_lost, bare_split}}
use Rattle.dali_progress.proofs.Survey.{Queried.{OneShort, IsTrue, AreOwned, TabledBelow, unseen, below_all, below_named}, Rising.{rises_so, rises_first}}
use Rattle.dali_progress.proofs.Survey.{Rising.rises_above, Stands.{Begun, survey_frames, Counts, IsUncalled, IsCalledFor, called_after, hunted_after}}
use Rattle.dali_progress.proofs.Survey.Stands.{roll_frames, frames_after, Rises, HuntAt, Hunts, AreTaken, SurveyEnds, IsSmooth, SurveyAt, SurveyStands}
use Rattle.dali_progress.proofs.{Survey.Stands.{IsHunted, Calm, Settles, IsSettledIn}, Surveying.{roll_first, IsClear}}
use Rattle.dali_script.specs.declared.orders.Fault.TheVariants as fault
use Rattle.dali_script.specs.declared.stage.Stage.TheVariants as stage
use Rattle.dali_controller.proofs.Given as given

-- A TRANSACTION OF A SURVEY BEGINS, or goes on; and what is to come of an order.

-- the next short address is asked, once a record is kept: with these entries of the table
pub record AsksCounted (start : Begun) (m : Machine) (a : ℕ) (entries : List Assignment) (gs : List Gear) (left : ℕ) : Type 0 where
  pub uncalled : IsUncalled m.course
  pub asked : m.asked ≡ 0
  pub small : a < 64
  pub from_is : m.course.from ≡ a + 1
  pub settled : Settles start m.kept
  pub clear : IsClear m.kept m.heard
  pub same : SameCore start.gear gs
  pub tabled : TabledBelow (a + 1) start.gear entries gs
  pub frames : 3 * (63 - a) + survey_frames gs ≤ left

-- a gear that told its number is to be enrolled
abbrev pub EnrolsCounted : Begun → Machine → ℕ → ℕ → List Gear → ℕ → Type 0
EnrolsCounted start m a r gs left = AsksCounted start m a (m.kept.enrolled ++ (a, r) ∷ []) gs left

-- what was reserved for it is to be released
abbrev pub ReleasesCounted : Begun → Machine → ℕ → List Gear → ℕ → Type 0
ReleasesCounted start m a gs left = AsksCounted start m a m.kept.enrolled gs left

-- an ascent goes on above the gear that was found, if the gear that are left are above it
pub record Above (x : Ascent) (r : ℕ) (gs : List Gear) : Type 0 where
  pub is : IsAscent x
  pub reached : leads_to x ≡ Found r
  pub drawn : r < MASK24
  pub past : (k : ℕ) → wants gs k ≡ true → r < k

-- a gear that was given its address is to be enrolled, and then the search goes on above it
pub record EnrolsHunted (start : Begun) (m : Machine) (b r : ℕ) (gs : List Gear) (left : ℕ) : Type 0 where
  pub hunted : IsHunted m.course gs
  pub clear : IsClear m.kept m.heard
  pub ready : IsOpened (those_drawn gs)
  pub unnamed : NoneNamed (those_drawn gs)
  pub above : Above m.course.ascent r (those_drawn gs)
  pub reserved : Has m.kept.reserved (b, r)
  pub settled : (x : Assignment) → Has m.kept.reserved x → IsSettledIn start m.kept x ⊎ (x.1 ≡ r)
  pub tabled : AreTabled (unseen start.gear) ((b, r) ∷ m.kept.enrolled) (those_drawn gs)
  pub frames : 106 * count_by is_wanted (those_drawn gs) + 32 + called_after (count_by is_lost gs) ≤ left

-- a reservation is to be kept, and then its gear is visited once more
pub record ReservesHunted (start : Begun) (m : Machine) (a r : ℕ) (gs : List Gear) (left : ℕ) : Type 0 where
  pub hunted : IsHunted m.course gs
  pub clear : IsClear m.kept m.heard
  pub settled : Settles start m.kept
  pub open_is : is_open m.kept m.heard a ≡ true
  pub ready : IsOpened (those_drawn gs)
  pub unnamed : NoneNamed (those_drawn gs)
  pub is : IsAscent m.course.ascent
  pub reached : leads_to m.course.ascent ≡ Found r
  pub least : (k : ℕ) → wants (those_drawn gs) k ≡ true → r ≤ k
  pub wanted : wants (those_drawn gs) r ≡ true
  pub drawn : r < MASK24
  pub more : ℕ
  pub count : count_by is_wanted (those_drawn gs) ≡ suc more
  pub tabled : AreTabled (unseen start.gear) m.kept.enrolled (those_drawn gs)
  pub frames : 39 + 106 * more + called_after (count_by is_lost gs) ≤ left

abbrev pub SurveyCommits : Begun → Machine → Record → List Gear → ℕ → Type 0
SurveyCommits start m (Enrol a r) gs left = EnrolsCounted start m a r gs left ⊎ EnrolsHunted start m a r gs left
SurveyCommits start m (Reserve a r) gs left = ReservesHunted start m a r gs left
SurveyCommits start m (Release c r) gs left = (a : ℕ) × ReleasesCounted start m a gs left

-- a frame that is put goes on with a transaction, or none runs
abbrev pub IsPut : ℕ → Machine → Type 0
IsPut p m = (p ≡ LATER) ⊎ (m.trace ≡ [])

-- what is to come of an order
abbrev pub IsNext : Begun → Machine → Order → List Gear → ℕ → Type 0
IsNext start m (Put p f) gs left = SurveyStands false start m gs left × IsPut p m
IsNext start m (Commit x) gs left = Calm m × SurveyCommits start m x gs left
IsNext start m (Done e) gs left = SurveyEnds e m.kept m.heard gs × AreTabled (unseen start.gear) m.kept.enrolled gs × Settles start m.kept
IsNext start m (Halt why) gs left = ⊥

abbrev pub GoesTo : Begun → Machine → Order → List Gear → ℕ → Type 0
GoesTo start t o gs left = IsNext start (machine_ordered t o) o gs left

-- ---------------------------------------------------------------- a later frame, and a first one

-- if no answer in a hunt stands last, the machine that has acted stands as it did when it was told
rises_untold : (s : Stage) (x : Ascent) (n : SearchAddress) (gs : List Gear) (left : ℕ) → IsUnasked s Hunting → Rises true s x n gs left
    → Rises false s x n gs left
rises_untold stage.Free x n gs left unasked v = rises_so stage.Free x n gs left v v.stage_is v.frames
rises_untold (stage.HighSent high) x n gs left unasked v = rises_so (stage.HighSent high) x n gs left v v.stage_is v.frames
rises_untold (stage.LowSent high low) x n gs left unasked v = rises_so (stage.LowSent high low) x n gs left v v.stage_is v.frames
rises_untold (stage.Hunted r None room) x n gs left unasked v = rises_so (stage.Hunted r None room) x n gs left v v.stage_is v.frames
rises_untold (stage.Hunted r (Some h) room) x n gs left unasked v = absurd unasked
rises_untold _ x n gs left unasked v = absurd v.stage_is

hunt_untold : (p : Purpose) (s : Stage) (k : Kept) (x : Ascent) (n : SearchAddress) (gs : List Gear) (left : ℕ) → IsUnasked s p → HuntAt true p s k x n gs left
    → HuntAt false p s k x n gs left
hunt_untold Hunting s k x n gs left unasked at = rises_untold s x n gs left unasked at
hunt_untold Visiting s k x n gs left unasked at = at
hunt_untold _ s k x n gs left unasked at = absurd at

hunts_untold : (p : Purpose) (s : Stage) (k : Kept) (heard : Shorts) (c : Course) (start : Begun) (gs : List Gear) (left : ℕ) → IsUnasked s p
    → Hunts true p s k heard c start gs left → Hunts false p s k heard c start gs left
hunts_untold p s k heard c start gs left unasked v = record {
  hunted = v.hunted;
  called = v.called;
  clear = v.clear;
  settled = v.settled;
  rest = v.rest;
  at = hunt_untold p s k c.ascent c.number (those_drawn gs) v.rest unasked v.at;
  tabled = v.tabled;
  behind = v.behind;
  behind_is = v.behind_is;
  frames = v.frames;
}

untold : (p : Purpose) (s : Stage) (k : Kept) (heard : Shorts) (asked : ℕ) (c : Course) (start : Begun) (gs : List Gear) (left : ℕ) → IsUnasked s p
    → SurveyAt true p s k heard asked c start gs left → SurveyAt false p s k heard (asked_by c.opened asked) c start gs left
untold (Counting a) s k heard asked c start gs left unasked at =
    (at.0, subst (λ b. Counts a s k heard (asked_by b asked) c.from start gs left) (sym at.0.unopened) at.1)
untold Hunting s k heard asked c start gs left unasked at = hunts_untold Hunting s k heard c start gs left unasked at
untold Visiting s k heard asked c start gs left unasked at = hunts_untold Visiting s k heard c start gs left unasked at
untold _ s k heard asked c start gs left unasked at = at

pub later_by : (start : Begun) (t : Machine) (o : Order) (s : Stage) (f : Forward) (gs : List Gear) (left : ℕ) → SurveyStands true start t gs left
    → o ≡ Put LATER f → stage_of t.trace ≡ s → IsUnasked s t.course.purpose → GoesTo start t o gs left
later_by start t o s f gs left st is at unasked =
    subst (λ q. GoesTo start t q gs left) (sym is) (subst (λ m. IsNext start m (Put LATER f) gs left) (sym (later_leaves t f s at unasked)) (
      record {
        calm = st.calm;
        trace = st.trace;
        at = untold t.course.purpose (stage_of t.trace) t.kept t.heard t.asked t.course start gs left
            (subst (λ q. IsUnasked q t.course.purpose) (sym at) unasked) st.at;
      },
      inl refl,
    ))

pub turns_by : (start : Begun) (t : Machine) (o : Order) (p : Purpose) (s : Stage) (c : Command) (gs : List Gear) (left : ℕ) → IsGivenBy t o
    → SurveyStands true start t gs left → t.course.purpose ≡ p → stage_of t.trace ≡ s → turn_of p t.course.number s ≡ Some c → GoesTo start t o gs left
turns_by start t o p s c gs left g st purpose at turn =
    later_by start t o s (frame_of c) gs left st (given.turns t o c g (rw (purpose, at) turn)) at
    (subst (IsUnasked s) (sym purpose) (turn_unasked p t.course.number s c turn))

pub first_by : (start : Begun) (t : Machine) (o : Order) (cs : Course) (gs : List Gear) (left : ℕ) → Calm t → o ≡ beginning (next_course t) → next_course t ≡ cs
    → IsSmooth cs → SurveyAt false cs.purpose stage.Free t.kept t.heard (asked_by cs.opened t.asked) cs start gs left → GoesTo start t o gs left
first_by start t o cs gs left calm is same smooth at =
    subst (λ q. GoesTo start t q gs left) (sym is) (
      record {
        calm = record { untried = calm.untried; loud = calm.loud; smooth = subst IsSmooth (sym same) smooth };
        trace = subst (λ s. IsTrace s []) (sym stage_none) trace_none;
        at = subst (λ s. SurveyAt false (next_course t).purpose s t.kept t.heard (asked_by (next_course t).opened t.asked) (next_course t) start gs left)
            (sym stage_none) (subst (λ (d : Course). SurveyAt false d.purpose stage.Free t.kept t.heard (asked_by d.opened t.asked) d start gs left)
            (sym same) at);
      },
      inr refl,
    )

-- ---------------------------------------------------------------- a transaction that is over although a frame might follow

-- no later frame is put, since a whole machine sends none there
pub begins_whole : (t : Machine) (o : Order) (p : Purpose) (s : Stage) → IsGivenBy t o → t.course.purpose ≡ p → stage_of t.trace ≡ s
    → ((r : SearchAddress) → s ≡ stage.Unnamed r → ⊥) → (s ≡ stage.Terminated → ⊥) → IsUnasked s t.course.purpose
    → ((f : Forward) → SendsWhole t.kept t.course.number p s (command_of f) → ⊥) → finding_of t.trace ≡ None → IsNoEnrolment t.last → t.tries ≡ 0
    → IsWhole (machine_ordered t o) → o ≡ beginning (next_course t)
begins_whole t o p s g purpose at named closed unasked never found last tries = go o g where
  later : (f : Forward) → IsWhole (machine_ordered t (Put LATER f)) → ⊥
  later f whole =
      never f (subst (λ q. SendsWhole t.kept t.course.number p q (command_of f)) at
      (subst (λ q. SendsWhole t.kept t.course.number q (stage_of t.trace) (command_of f)) purpose
      (subst (λ (c : Course). SendsWhole t.kept c.number c.purpose (stage_of t.trace) (command_of f)) (course_stays t s at unasked)
      (sending_of (machine_ordered t (Put LATER f)) LATER f refl whole).sends)))

  first : (f : Forward) → BeginsWith (course_by t (Put FIRST f)) (Put FIRST f) → Put FIRST f ≡ beginning (next_course t)
  first f begins = ap (λ h. Put FIRST h) (begins refl)

  go : (o : Order) → IsGivenBy t o → IsWhole (machine_ordered t o) → o ≡ beginning (next_course t)
  go (Put p f) g whole = by g.ordered.allowed where
    by : IsAllowed t (Put p f) → Put p f ≡ beginning (next_course t)
    by (inl may) = ap (λ q. Put q f) may.0 ∙ first f (subst (λ q. BeginsWith (course_by t (Put q f)) (Put q f)) may.0 g.begins)
    by (inr may) = absurd (later f (subst (λ q. IsWhole (machine_ordered t (Put q f))) may.0 whole))
  go (Commit x) g whole = absurd (given.unwarranted t x (λ r e. named r (sym at ∙ e)) found last g.ordered.allowed.warranted)
  go (Done e) g whole = absurd (by g.ordered.caused) where
    by : IsCaused t t.course (Done e) → ⊥
    by (inl cause) = never_eight t.tries tries cause.1
    by (inr cause) = closed (sym at ∙ cause.1)
  go (Halt fault.Conflict) g whole = absurd (by g.ordered.caused) where
    by : IsCaused t t.course (Halt fault.Conflict) → ⊥
    by cause = let none = cause.2 in cc
  go (Halt fault.Store) g whole = absurd g.ordered.caused

-- ---------------------------------------------------------------- what is reserved is no other's

pub not_both : (one two : Bool) → one ≡ false → two ≡ false → (one || two) ≡ false
not_both one two none nothing = rw (none, nothing) refl

-- what is open is not marked
pub open_parts : (one two three : Bool) → (not one && not two && not three) ≡ true → (one ≡ false) × (two ≡ false) × (three ≡ false)
open_parts true two three e = absurd (cc)
open_parts false true three e = absurd (cc)
open_parts false false true e = absurd (cc)
open_parts false false false e = (refl, refl, refl)

pub clear_reserved : (k : Kept) (heard : Shorts) (a r : ℕ) → IsClear k heard → is_open k heard a ≡ true → IsClear (with_record k (Reserve a r)) heard
clear_reserved k heard a r clear free c q has = go (has_cases k.reserved (a, r) (c, q) has) where
  go : Has k.reserved (c, q) ⊎ (◌≡◌ {A = Assignment} (a, r) (c, q)) → has_short heard c ≡ false
  go (inl was) = clear c q was
  go (inr same) =
      subst (λ n. has_short heard n ≡ false) (ap (λ (x : Assignment). x.0) same)
      (open_parts (is_some (number_at k.reserved a)) (is_some (number_at k.enrolled a)) (has_short heard a) free).2

-- the gear that is enrolled under it has the number that it is reserved for
pub nobody_elses : (k : Kept) (heard : Shorts) (gs : List Gear) → IsTrue k.enrolled gs → AreOwned k.reserved gs → IsClear k heard → (a r : ℕ)
    → Has k.reserved (a, r) → is_anothers k heard a r ≡ false
nobody_elses k heard gs holds owned clear a r has =
    not_both (has_short heard a) (is_another r (number_at k.enrolled a)) (clear a r has) (go (number_at k.enrolled a) (found_number k.enrolled a)) where
      same : (m n : ℕ) → m ≡ n → not (m == n) ≡ false
      same m n e = grind (arith, nat_tests, e)

      go : (o : Option ℕ) → MatchOption o (HasAddress k.enrolled a → ⊥) (λ n. Has k.enrolled (a, n)) → is_another r o ≡ false
      go None none = refl
      go (Some n) entry = let who = holds a n entry in same n r (sym who.3 ∙ owned a r who.0 has who.1 who.2)

-- ---------------------------------------------------------------- if none is open, all are taken

taken_at : (k : Kept) (heard : Shorts) (a : ℕ) → is_open k heard a ≡ false → HasAddress k.reserved a ⊎ (HasAddress k.enrolled a ⊎ (has_short heard a ≡ true))
taken_at k heard a is =
    go (number_at k.reserved a) (found_number k.reserved a) (number_at k.enrolled a) (found_number k.enrolled a) (has_short heard a) refl is where
      go : (o : Option ℕ) → MatchOption o (HasAddress k.reserved a → ⊥) (λ r. Has k.reserved (a, r)) → (p : Option ℕ)
          → MatchOption p (HasAddress k.enrolled a → ⊥) (λ r. Has k.enrolled (a, r)) → (b : Bool) → has_short heard a ≡ b
          → (not (is_some o) && not (is_some p) && not b) ≡ false → HasAddress k.reserved a ⊎ (HasAddress k.enrolled a ⊎ (has_short heard a ≡ true))
      go (Some r) has p said b marked e = inl (has_map (λ (q : Assignment). q.0) k.reserved (a, r) has)
      go None none (Some r) has b marked e = inr (inl (has_map (λ (q : Assignment). q.0) k.enrolled (a, r) has))
      go None none None said true marked e = inr (inr marked)
      go None none None said false marked e = absurd (cc)

none_open : (k : Kept) (heard : Shorts) (n from : ℕ) → open_among k heard n from ≡ None → (a : ℕ) → from ≤ a → a < from + n → is_open k heard a ≡ false
none_open k heard zero from none a low high = absurd (omega (arith, low, high))
none_open k heard (suc n) from none a low high = go (is_open k heard from) refl none (none_open k heard n (from + 1)) where
  go : (b : Bool) → is_open k heard from ≡ b → (if b then Some from else open_among k heard n (from + 1)) ≡ None
      → (open_among k heard n (from + 1) ≡ None → (d : ℕ) → from + 1 ≤ d → d < from + 1 + n → is_open k heard d ≡ false) → is_open k heard a ≡ false
  go true is e more = absurd (cc)
  go false is e more = from_next (is_open k heard) from a low is (λ up. more e a up (omega (arith, high)))

pub all_taken : (k : Kept) (heard : Shorts) → least_open k heard ≡ None → AreTaken k heard
all_taken k heard none a within =
    taken_at k heard a (none_open k heard (k.block.last + 1 - k.block.first) k.block.first none a within.0
    (let low : k.block.first ≤ a = within.0 in let high : a ≤ k.block.last = within.1 in omega (arith, low, high)))

-- ---------------------------------------------------------------- how many frames follow

pub hunted_some : (n lost : ℕ) → 0 < n → hunted_after n lost ≡ called_after lost
hunted_some zero lost some = absurd (omega (arith, some))
hunted_some (suc n) lost some = refl

called_most : (lost : ℕ) → called_after lost ≤ 106 * lost + 49
called_most zero = omega arith
called_most (suc lost) = omega arith

hunted_most : (n lost : ℕ) → hunted_after n lost ≤ 106 * lost + 49
hunted_most zero lost = omega arith
hunted_most (suc n) lost = called_most lost

pub roll_some : (silent : Bool) (drawn lost : ℕ) → 0 < drawn + lost → roll_frames silent drawn lost ≡ 106 * drawn + 17 + hunted_after drawn lost
roll_some silent drawn lost some =
    ap (λ b. if b then (if silent then 9 else 17) else 106 * drawn + 17 + hunted_after drawn lost) (not_zero (drawn + lost) some) where
      not_zero : (n : ℕ) → 0 < n → (n == 0) ≡ false
      not_zero n h = grind (arith, nat_tests, h)

pub roll_none : (silent : Bool) (drawn lost : ℕ) → drawn + lost ≡ 0 → roll_frames silent drawn lost ≡ (if silent then 9 else 17)
roll_none silent drawn lost none =
    ap (λ b. if b then (if silent then 9 else 17) else 106 * drawn + 17 + hunted_after drawn lost) (is_zero (drawn + lost) none) where
      is_zero : (n : ℕ) → n ≡ 0 → (n == 0) ≡ true
      is_zero n h = grind (arith, nat_tests, h)

roll_most : (silent : Bool) (drawn lost bare : ℕ) → bare ≡ drawn + lost → roll_frames silent drawn lost ≤ 106 * bare + 66
roll_most silent drawn lost bare split = go (drawn + lost) refl where
  ends : (b : Bool) → (if b then 9 else 17) ≤ 17
  ends true = omega arith
  ends false = omega arith

  go : (n : ℕ) → drawn + lost ≡ n → roll_frames silent drawn lost ≤ 106 * bare + 66
  go zero is = let last = ends silent in rw (roll_none silent drawn lost is) (omega (arith, last))
  go (suc n) is =
      let most = hunted_most drawn lost in
      rw (roll_some silent drawn lost (omega (arith, is))) (omega (arith, most, split))

-- no gear is lost, or those that never drew follow
pub called_roll : (drawn lost : ℕ) → drawn ≡ 0 → roll_frames false drawn lost ≡ called_after lost + 1
called_roll drawn zero none = roll_none false drawn zero (omega (arith, none))
called_roll drawn (suc lost) none =
    roll_some false drawn (suc lost) (omega arith) ∙ go drawn none where
      go : (n : ℕ) → n ≡ 0 → 106 * n + 17 + hunted_after n (suc lost) ≡ called_after (suc lost) + 1
      go zero is = omega arith
      go (suc n) is = absurd (omega (arith, is))

-- ---------------------------------------------------------------- the next short address, or the roll call

pub asks_on : (start : Begun) (t : Machine) (o : Order) (f : ℕ) (gs : List Gear) (left : ℕ) → Calm t → o ≡ beginning (next_course t)
    → next_course t ≡ goes_on_to t → IsUncalled t.course → t.asked ≡ 0 → t.course.from ≡ f → f ≤ 64 → Settles start t.kept
    → IsClear t.kept t.heard → OneShort gs → IsTrue t.kept.enrolled gs → SameCore start.gear gs → TabledBelow f start.gear t.kept.enrolled gs
    → 3 * (64 - f) + survey_frames gs ≤ left → GoesTo start t o gs left
asks_on start t o f gs left calm is next uncalled asked from few settled clear one holds same tabled enough =
    go (next_asked t.kept f) course (asked_later t.kept (64 - f) f) (asked_before t.kept (64 - f) f) (asked_within t.kept (64 - f) f) where
      course : next_course t ≡ ask_or_call t.course (next_asked t.kept f)
      course =
          next ∙ ap (λ b. going_on t.kept b t.course) uncalled.unopened ∙ ap (λ y. going_on_early t.kept y t.course) calm.smooth.way
          ∙ ap (λ n. ask_or_call t.course (next_asked t.kept n)) from

      go : (p : Option ℕ) → next_course t ≡ ask_or_call t.course p → (p ≡ None → (c : ℕ) → f ≤ c → c < f + (64 - f) → is_asked t.kept c ≡ false)
          → ((d : ℕ) → p ≡ Some d → (c : ℕ) → f ≤ c → c < d → is_asked t.kept c ≡ false) → ((d : ℕ) → p ≡ Some d → (f ≤ d) × (d < f + (64 - f)))
          → GoesTo start t o gs left
      go (Some d) at none before within =
          let there = within d refl in
          let low : f ≤ d = there.0 in
          let high : d < f + (64 - f) = there.1 in
          let small : d < 64 = omega (arith, high, few) in
          let unasked : asked_by t.course.opened t.asked ≡ 0 = asked_none t.course.opened t.asked asked in
          first_by start t o (asking t.course d) gs left calm is at calm.smooth (
            record { unopened = uncalled.unopened; undrawn = uncalled.undrawn; loud = uncalled.loud },
            record {
              ask = record { small = small; asked = tt; clear = clear };
              from_is = refl;
              settled = settled;
              same = same;
              count = inl unasked;
              tabled = below_named f d start.gear t.kept.enrolled gs one holds tabled (λ c past under. unasked_enrolled t.kept c (before d refl c past under));
              frames = count (survey_frames gs) d (asked_by t.course.opened t.asked) low small unasked enough;
            },
          )
        where
          count : (rest d asked : ℕ) → f ≤ d → d < 64 → asked ≡ 0 → 3 * (64 - f) + rest ≤ left → 3 * (63 - d) + (3 - asked) + rest ≤ left
          count rest d asked low small none enough = omega (arith, low, small, none, enough)
      go None at none before within =
          first_by start t o (calling_first t.course) gs left calm is at calm.smooth (record {
            opened_is = refl;
            roll = roll_first gs;
            quiet = λ silent. absurd (let both : true ≡ false = sym silent ∙ uncalled.loud in cc);
            first = λ some. uncalled.undrawn;
            clear = clear;
            settled = settled;
            tabled = below_all start.gear t.kept.enrolled gs same (below_named f 64 start.gear t.kept.enrolled gs one holds tabled
                (λ c past under. unasked_enrolled t.kept c (none refl c past (omega (arith, under, few)))));
            frames = count (roll_frames t.course.tally.is_silent (count_by is_bare (those_drawn gs)) (count_by is_lost gs)) (count_by is_bare gs)
                (roll_most t.course.tally.is_silent (count_by is_bare (those_drawn gs)) (count_by is_lost gs) (count_by is_bare gs) (bare_split gs)) enough;
          })
        where
          count : (roll bare : ℕ) → roll ≤ 106 * bare + 66 → 3 * (64 - f) + (106 * bare + 66) ≤ left → roll ≤ left + 0
          count roll bare most enough = omega (arith, most, enough)

-- ---------------------------------------------------------------- the search that goes up

no_surplus : (rest after left : ℕ) → rest + after ≤ left → rest + 0 + after ≤ left + 5 * 0
no_surplus rest after left enough = omega (arith, enough)

pub hunts_by : (start : Begun) (t : Machine) (o : Order) (cs : Course) (rest : ℕ) (gs : List Gear) (left : ℕ) → Calm t → o ≡ beginning (next_course t)
    → next_course t ≡ hunting cs → IsSmooth cs → IsHunted cs gs → IsCalledFor Hunting cs.ascent gs → IsClear t.kept t.heard
    → Settles start t.kept → Rises false stage.Free cs.ascent (sought (asked_next cs.ascent)) (those_drawn gs) rest
    → AreTabled (unseen start.gear) t.kept.enrolled (those_drawn gs) → rest + frames_after Hunting cs.ascent gs ≤ left → GoesTo start t o gs left
hunts_by start t o cs rest gs left calm is next smooth hunted called clear settled rises tabled frames =
    first_by start t o (hunting cs) gs left calm is next smooth (record {
      hunted = hunted;
      called = called;
      clear = clear;
      settled = settled;
      rest = rest;
      at = rises;
      tabled = tabled;
      behind = 0;
      behind_is = refl;
      frames = no_surplus rest (frames_after Hunting cs.ascent gs) left frames;
    })

-- from the least number on
pub hunts_first : (start : Begun) (t : Machine) (o : Order) (cs : Course) (gs : List Gear) (left : ℕ) → Calm t → o ≡ beginning (next_course t)
    → next_course t ≡ hunting_first cs → IsSmooth cs → IsHunted cs gs → 0 < count_by is_bare gs → IsClear t.kept t.heard
    → Settles start t.kept → IsOpened (those_drawn gs) → NoneNamed (those_drawn gs) → AreTabled (unseen start.gear) t.kept.enrolled (those_drawn gs)
    → 106 * count_by is_wanted (those_drawn gs) + 10 + hunted_after (count_by is_wanted (those_drawn gs)) (count_by is_lost gs) ≤ left
    → GoesTo start t o gs left
hunts_first start t o cs gs left calm is next smooth hunted some clear settled ready unnamed tabled frames =
    hunts_by start t o (record cs { ascent = ascent_at_first }) (106 * count_by is_wanted (those_drawn gs) + 10) gs left calm is next
    smooth hunted (λ none. some) clear settled (rises_first (those_drawn gs) (106 * count_by is_wanted (those_drawn gs) + 10) ready unnamed (omega arith))
    tabled (subst (λ n. 106 * count_by is_wanted (those_drawn gs) + 10 + hunted_after n (count_by is_lost gs) ≤ left)
    (no_more (count_by is_wanted (those_drawn gs))) frames)
  where
    no_more : (n : ℕ) → n ≡ 0 + n
    no_more n = omega arith

-- and above who was found
pub hunts_on : (start : Begun) (t : Machine) (o : Order) (r : ℕ) (gs : List Gear) (left : ℕ) → Calm t → o ≡ beginning (next_course t)
    → next_course t ≡ goes_on_to t → IsHunted t.course gs → IsClear t.kept t.heard → Settles start t.kept
    → Above t.course.ascent r (those_drawn gs) → IsOpened (those_drawn gs) → NoneNamed (those_drawn gs)
    → AreTabled (unseen start.gear) t.kept.enrolled (those_drawn gs)
    → 106 * count_by is_wanted (those_drawn gs) + 32 + called_after (count_by is_lost gs) ≤ left → GoesTo start t o gs left
hunts_on start t o r gs left calm is next hunted clear settled up ready unnamed tabled frames =
    hunts_by start t o served_above (106 * count_by is_wanted (those_drawn gs) + 32) gs left calm is
    (next ∙ ap (λ b. going_on t.kept b t.course) hunted.opened_is ∙ ap (λ y. searching_on y t.course) calm.smooth.way
    ∙ ap (λ x. hunting (record t.course { tally = served t.course.tally; ascent = gone_on_from x t.course.ascent })) up.reached)
    (record { way = calm.smooth.way; passed = refl; unmissed = calm.smooth.unmissed })
    hunted (λ none. absurd (let some : 0 < (above t.course.ascent r).found = found in omega (arith, some, none))) clear settled
    (rises_above t.course.ascent r (those_drawn gs) (106 * count_by is_wanted (those_drawn gs) + 32) up.is up.drawn up.past ready unnamed (omega arith))
    tabled (subst (λ n. 106 * count_by is_wanted (those_drawn gs) + 32 + n ≤ left)
    (sym (hunted_some ((above t.course.ascent r).found + count_by is_wanted (those_drawn gs)) (count_by is_lost gs)
    (more (above t.course.ascent r).found (count_by is_wanted (those_drawn gs)) found))) frames)
  where
    served_above : Course
    served_above = record t.course { tally = served t.course.tally; ascent = above t.course.ascent r }

    found : 0 < (above t.course.ascent r).found
    found = one t.course.ascent.found where
      one : (n : ℕ) → 0 < min (n + 1) 255
      one n = omega arith

    more : (m n : ℕ) → 0 < m → 0 < m + n
    more m n some = omega (arith, some)
