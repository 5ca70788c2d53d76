use Rattle.dali_progress.proofs.Below.{◌≡◌, ℕ, ◌+◌, ◌*◌, ◌<◌, ◌≤◌, inl, inr, true, false, suc, List, refl, sym, ap, subst, ◌∙◌, arith, Bool, zero, ◌-◌, [], ◌∷◌}
use Rattle.dali_progress.proofs.Below.{Option, Some, None, if◌then◌else◌, nat_lt, ◌&&◌, nat_tests, count_by, value_of, MASK24, Answer, Silence, Byte, Damaged}
use Rattle.dali_progress.proofs.Below.{SearchAddress, Command, Withdraw, SearchHigh, SearchMiddle, SearchLow, QueryShort, Terminate, RandomByte, High, Middle}
use Rattle.dali_progress.proofs.Below.{Low, Gear, draws_a_number, row_after, takes, left_after, drawn_one, drawn_of, answers_of, heard_of, Everyone, needs_none}
use Rattle.dali_progress.proofs.Below.{Kept, Has, next_stage, queried, verified, byte_heard, number_heard, Stage, End, AllFound, BlockFull, GaveUp, middle_next}
use Rattle.dali_progress.proofs.Below.{low_next, Ascent, asked_next, Purpose, Visiting, Hunting, Calling, Drawing, Opening, Probing, Resolving, Closing, Asking}
use Rattle.dali_progress.proofs.Below.{PassingOver, Shorts, Course, sought, heard_after, asked_after, asked_after_silence, asked_at, marked_at, wants}
use Rattle.dali_progress.proofs.{Below.{is_wanted, is_bare, SameCore, LeavesCore, LeavesShort, AreTabled}, Frames.{Seeks, IsTaken, one_less, at_sent}}
use Rattle.dali_progress.proofs.{Frames.{value_sought, low_byte}, Later.{queried_by, verified_by}, Stands.{search_frames, VisitFrames, VisitsAt, Sends}}
use Rattle.dali_progress.proofs.{Stands.{visit_by, some_is, to_come}, Survey.Stands.{IsBehind, IsLeastAt, IsReached, HuntAt, Begun, roll_frames, Calls, Draws}}
use Rattle.dali_progress.proofs.Survey.Stands.{survey_frames, silent_left, asked_left, Counts, AskCount, called_after, hunted_after, frames_after, IsCalledFor}
use Rattle.dali_progress.proofs.Survey.{Stands.{surplus, Hunts, SurveyEnds, SurveyCloses, SurveyAt}, Begins.{roll_some, roll_none}, Drawn.those_drawn}
use Rattle.dali_progress.proofs.Survey.Drawn.{is_lost, AreNumbered, IsSearching, IsSoughtBy, not_randomise, row_drawn, answers_drawn, searching_of, no_draw}
use Rattle.dali_progress.proofs.Survey.{Drawn.{still_of, lost_same, seek_drawn, apart_drawn, DrewApart}, Queried.{unseen, core_then, holds_back, IsAtHand}}
use Rattle.dali_progress.proofs.Survey.{Queried.below_on, Rising.{rises_sent, rising_one, rising_tabled, rising_sought}, Woken.{bare_after, lost_after}}
use Rattle.dali_progress.proofs.{Survey.Woken.{drew_after, IsByteLow, low_after, all_left}, Surveying.{IsTakenBut, RollSent, DrawSent, call_sent, draw_left}}
use Rattle.dali_progress.proofs.{Surveying.{roll_sent, draw_sent, draws_short, draws_tabled, AskedAt, asked_sent}, Tables.{tabled_left, IsTabledTo, at_tabled}}
use Rattle.dali_search.specs.Least.{at_first}
use Rattle.dali_script.specs.declared.stage.Stage.TheVariants as stage
use Rattle.dali_events.proofs.Search.Leaving as leaving
use Rattle.dali_events.proofs.Search.Programming as programming
use Rattle.dali_events.proofs.Search.Withdrawing as withdrawing

-- THE GEAR THAT IS VISITED is the least that is wanted; and how many gear are behind: that are counted with more frames than
-- the search needs for them.

-- of which transactions this is said
abbrev pub IsHunt : Purpose → Type 0
IsHunt Hunting = Unit {0}
IsHunt Visiting = Unit {0}
IsHunt _ = ⊥

-- ---------------------------------------------------------------- who is visited stays the least

abbrev IsNotLeft : Stage → Type 0
IsNotLeft t = (q : SearchAddress) (a : ℕ) → t ≡ stage.Withdrawn q a → ⊥

first_query : (r : SearchAddress) (h : Answer) → IsNotLeft (queried r h)
first_query r h = queried_by IsNotLeft r (λ b q a is. cc) (λ q a is. cc) (λ q a is. cc) (λ o q a is. cc) h

second_query : (r : SearchAddress) (b : ℕ) (h : Answer) → IsNotLeft (verified r b h)
second_query r b h = verified_by IsNotLeft r b (λ q a is. cc) (λ o q a is. cc) h

least_by : (t : Stage) (n : SearchAddress) (hs : List Gear) → ((m : ℕ) → wants hs m ≡ true → value_of n ≤ m) → IsNotLeft t → IsLeastAt t n hs
least_by (stage.Withdrawn q a) n hs least never = absurd (never q a refl)
least_by _ n hs least never = least

least_core : (gs hs : List Gear) (n : SearchAddress) → SameCore gs hs → ((m : ℕ) → wants gs m ≡ true → value_of n ≤ m) → (m : ℕ) → wants hs m ≡ true
    → value_of n ≤ m
least_core gs hs n same least m has = least m (sym (leaving.core_wants gs hs m same) ∙ has)

pub least_sent : (s : Stage) (k : Kept) (x : Ascent) (n : SearchAddress) (gs : List Gear) (numbers : List ℕ) (left : ℕ) (c : Command) (h : Answer)
    → VisitsAt s k n gs left → Sends Visiting n k s c → Seeks s gs → IsReached s x n gs → IsLeastAt (next_stage s c h) n (row_after Everyone c 0 gs numbers)
least_sent s k x n gs numbers left c h v is seek at =
    visit_by (λ t d. VisitsAt t k n gs left → Seeks t gs → IsReached t x n gs → IsLeastAt (next_stage t d h) n (row_after Everyone d 0 gs numbers)) n k gs left
    (λ w by r. least_core gs _ n (leaving.core_after (SearchHigh n.high) gs numbers tt) r.least)
    (λ high w by r. least_core gs _ n (leaving.core_after (SearchMiddle n.middle) gs numbers tt) r.least)
    (λ high middle w by r. least_core gs _ n (leaving.core_after (SearchLow n.low) gs numbers tt) r.least)
    (λ q w by r. least_by (queried q h) n _ (least_core gs _ n (leaving.core_after QueryShort gs numbers tt) r.least) (first_query q h))
    (λ q a small has w by r m is. r.least m (sym (programming.programmed_wants gs numbers q a m (by q refl)) ∙ is))
    (λ q a w by r. least_by (verified q a h) n _ (least_core gs _ n (leaving.core_after QueryShort gs numbers tt) r.least)
    (second_query q a h)) (λ q a w by r m has.
    let was = withdrawing.withdrawn_wants gs numbers q m (by q refl) has in
    let from : value_of n ≤ m = r.least m was.0 in
    let other : m ≡ value_of n → ⊥ = λ e. was.1 (e ∙ ap value_of (sym w.searched)) in
    omega (arith, from, other)) s c v is v seek at

-- ---------------------------------------------------------------- how many gear are behind

behind_by : (t : Stage) (behind : ℕ) (hs : List Gear) (l : ℕ) → count_by is_wanted hs ≡ suc behind → IsNotLeft t → IsBehind Visiting t behind hs l
behind_by (stage.Withdrawn q a) behind hs l count never = absurd (never q a refl)
behind_by _ behind hs l count never = count

visit_behind : (s : Stage) (k : Kept) (n : SearchAddress) (gs : List Gear) (numbers : List ℕ) (left l behind : ℕ) (c : Command) (h : Answer) → left ≡ suc l
    → VisitsAt s k n gs left → Sends Visiting n k s c → Seeks s gs → IsBehind Visiting s behind gs left
    → IsBehind Visiting (next_stage s c h) behind (row_after Everyone c 0 gs numbers) l
visit_behind s k n gs numbers left l behind c h less v is seek count =
    visit_by (λ t d. VisitsAt t k n gs left → Seeks t gs → IsBehind Visiting t behind gs left
    → IsBehind Visiting (next_stage t d h) behind (row_after Everyone d 0 gs numbers) l) n k gs left
    (λ w by b. leaving.core_count_wanted gs _ (leaving.core_after (SearchHigh n.high) gs numbers tt) ∙ b)
    (λ high w by b. leaving.core_count_wanted gs _ (leaving.core_after (SearchMiddle n.middle) gs numbers tt) ∙ b)
    (λ high middle w by b. leaving.core_count_wanted gs _ (leaving.core_after (SearchLow n.low) gs numbers tt) ∙ b)
    (λ r w by b. behind_by (queried r h) behind _ l (leaving.core_count_wanted gs _ (leaving.core_after QueryShort gs numbers tt) ∙ b)
    (first_query r h)) (λ r a small has w by b. programming.programmed_count gs numbers r a (by r refl) ∙ b)
    (λ r a w by b. behind_by (verified r a h) behind _ l
    (leaving.core_count_wanted gs _ (leaving.core_after QueryShort gs numbers tt) ∙ b) (second_query r a h)) (λ r a w by b. (
      (let fewer : count_by is_wanted (row_after Everyone Withdraw 0 gs numbers) < count_by is_wanted gs =
          withdrawing.withdrawn_count gs numbers r (by r refl) (subst (λ m. wants gs m ≡ true) (ap value_of (sym w.searched)) w.visited.wanted) in
          omega (arith, fewer, b)),
      (let more : suc w.more ≡ suc behind = sym w.visited.count ∙ b in
          let enough : 7 + search_frames w.more ≤ left + 6 = w.frames in omega (arith, less, more, enough)),
    )) s c v is v seek count

pub behind_sent : (p : Purpose) (s : Stage) (k : Kept) (x : Ascent) (n : SearchAddress) (gs : List Gear) (numbers : List ℕ) (left l behind : ℕ) (c : Command)
    (h : Answer) → IsHunt p → left ≡ suc l → HuntAt false p s k x n gs left → Sends p n k s c → Seeks s gs → IsBehind p s behind gs left
    → IsBehind p (next_stage s c h) behind (row_after Everyone c 0 gs numbers) l
behind_sent Hunting s k x n gs numbers left l behind c h hunt less at is seek count = count
behind_sent Visiting s k x n gs numbers left l behind c h hunt less at is seek count = visit_behind s k n gs numbers left l behind c h less at.0 is seek count
behind_sent _ s k x n gs numbers left l behind c h hunt less at is seek count = absurd hunt

-- and more frames are left than it is behind
deep : (k : Kept) (n : SearchAddress) (more left behind sent : ℕ) → sent ≤ 4 → suc more ≡ suc behind → VisitFrames k n more (left + sent) → 5 * behind < left
deep k n more left behind sent few same (inl e) = let enough : 7 + search_frames more ≤ left + sent = e.1 in omega (arith, few, same, enough)
deep k n more left behind sent few same (inr e) = let enough : 11 + search_frames more ≤ left + sent = e in omega (arith, few, same, enough)

visit_deep : (s : Stage) (k : Kept) (n : SearchAddress) (gs : List Gear) (left behind : ℕ) → VisitsAt s k n gs left → IsBehind Visiting s behind gs left
    → 5 * behind < left
visit_deep stage.Free k n gs left behind v count = deep k n v.more left behind 0 (omega arith) (sym v.visited.count ∙ count) v.frames
visit_deep (stage.HighSent high) k n gs left behind v count = deep k n v.more left behind 1 (omega arith) (sym v.visited.count ∙ count) v.frames
visit_deep (stage.MiddleSent high middle) k n gs left behind v count = deep k n v.more left behind 2 (omega arith) (sym v.visited.count ∙ count) v.frames
visit_deep (stage.NumberSent r) k n gs left behind v count = deep k n v.more left behind 3 (omega arith) (sym v.visited.count ∙ count) v.frames
visit_deep (stage.Unnamed r) k n gs left behind v count = deep k n v.more left behind 4 (omega arith) (sym v.visited.count ∙ count) v.frames
visit_deep (stage.Programmed r a) k n gs left behind v count =
    let more : suc v.more ≡ suc behind = sym v.visited.count ∙ count in
    let enough : 7 + search_frames v.more ≤ left + 5 = v.frames in
    omega (arith, more, enough)
visit_deep (stage.Confirmed r a) k n gs left behind v count =
    let more : suc v.more ≡ suc behind = sym v.visited.count ∙ count in
    let enough : 7 + search_frames v.more ≤ left + 6 = v.frames in
    omega (arith, more, enough)
visit_deep (stage.Withdrawn r a) k n gs left behind v count = let enough : search_frames behind ≤ left = count.1 in omega (arith, enough)
visit_deep _ k n gs left behind v count = absurd v.stage_is

pub hunt_deep : (p : Purpose) (s : Stage) (k : Kept) (x : Ascent) (n : SearchAddress) (gs : List Gear) (left l behind : ℕ) → IsHunt p → left ≡ suc l
    → HuntAt false p s k x n gs left → IsBehind p s behind gs left → 5 * behind < left
hunt_deep Hunting s k x n gs left l behind hunt less at count = omega (arith, less, count)
hunt_deep Visiting s k x n gs left l behind hunt less at count = visit_deep s k n gs left behind at.0 count
hunt_deep _ s k x n gs left l behind hunt less at count = absurd hunt

-- A FRAME OF A ROLL CALL IS SENT, or one after which gear draw, and one frame less is left.

but_of : (c : Command) (gs : List Gear) (numbers : List ℕ) (h : Answer) → IsTaken c gs numbers h → AreNumbered gs → IsTakenBut c gs numbers h
but_of c gs numbers h t numbered = record { heard = λ other. t.heard; enough = t.enough; below = t.below; numbered = numbered }

-- ---------------------------------------------------------------- the roll call

roll_least : (silent : Bool) (drawn lost : ℕ) → 9 ≤ roll_frames silent drawn lost
roll_least silent drawn lost = go (drawn + lost) refl where
  ends : (b : Bool) → 9 ≤ (if b then 9 else 17)
  ends true = omega arith
  ends false = omega arith

  go : (n : ℕ) → drawn + lost ≡ n → 9 ≤ roll_frames silent drawn lost
  go zero is = let last = ends silent in rw (roll_none silent drawn lost is) last
  go (suc n) is = rw (roll_some silent drawn lost (omega (arith, is))) (omega arith)

abbrev CalledTo : Stage → Kept → Shorts → Course → Begun → List Gear → List ℕ → ℕ → Command → Answer → Type 0
CalledTo s k heard c start gs numbers left d h = (l : ℕ) × (left ≡ suc l) × Calls (next_stage s d h) k heard c start (row_after Everyone d 0 gs numbers) l

calls_sent : (s : Stage) (k : Kept) (heard : Shorts) (c : Course) (start : Begun) (gs : List Gear) (numbers : List ℕ) (left : ℕ) (d : Command) (h : Answer)
    → Calls s k heard c start gs left → Sends Calling c.number k s d → IsTaken d gs numbers h → IsAtHand k gs → Seeks s gs
    → CalledTo s k heard c start gs numbers left d h
calls_sent s k heard c start gs numbers left d h v is t told seek = (
  less.0,
  less.1,
  record {
    opened_is = v.opened_is;
    roll = to.roll;
    quiet = λ silent. bare_after d gs numbers to.leaves ∙ v.quiet silent;
    first = λ some. v.first (subst (λ n. 0 < n) (lost_after d gs numbers to.leaves) some);
    clear = v.clear;
    settled = v.settled;
    tabled = tabled_left (unseen start.gear) k.enrolled gs numbers d to.leaves v.tabled;
    frames = subst (λ n. roll_frames c.tally.is_silent n (count_by is_lost (row_after Everyone d 0 gs numbers)) ≤ less.0 + call_sent (next_stage s d h))
        (sym (drew_after d gs numbers to.leaves)) (subst
        (λ n. roll_frames c.tally.is_silent (count_by is_bare (those_drawn gs)) n ≤ less.0 + call_sent (next_stage s d h))
        (sym (lost_after d gs numbers to.leaves)) (subst (λ n. roll ≤ less.0 + n) (sym to.one) less.2));
  },
) where
  to : RollSent s c.number gs numbers d h
  to = roll_sent s c.number k gs numbers d h v.roll is (but_of d gs numbers h t told.numbered) seek

  roll : ℕ
  roll = roll_frames c.tally.is_silent (count_by is_bare (those_drawn gs)) (count_by is_lost gs)

  less : (l : ℕ) × (left ≡ suc l) × (roll ≤ l + (call_sent s + 1))
  less =
      let most = roll_least c.tally.is_silent (count_by is_bare (those_drawn gs)) (count_by is_lost gs) in
      let few = to.few in
      one_less roll left (call_sent s) v.frames (omega (arith, most, few))

-- ---------------------------------------------------------------- gear draw

abbrev DrawnTo : Stage → Kept → Shorts → Course → Begun → List Gear → List ℕ → ℕ → Command → Answer → Type 0
DrawnTo s k heard c start gs numbers left d h = (l : ℕ) × (left ≡ suc l) × Draws (next_stage s d h) k heard c start (row_after Everyone d 0 gs numbers) l

draws_less : (rest bare left : ℕ) → suc rest + 106 * bare + 26 ≤ left → (l : ℕ) × (left ≡ suc l) × (rest + 106 * bare + 26 ≤ l)
draws_less rest bare zero enough = absurd (omega (arith, enough))
draws_less rest bare (suc l) enough = (l, refl, omega (arith, enough))

draws_sent : (s : Stage) (k : Kept) (heard : Shorts) (c : Course) (start : Begun) (gs : List Gear) (numbers : List ℕ) (left : ℕ) (d : Command) (h : Answer)
    → Draws s k heard c start gs left → Sends Drawing c.number k s d → IsTaken d gs numbers h → IsAtHand k gs → DrawnTo s k heard c start gs numbers left d h
draws_sent s k heard c start gs numbers left d h v is t told = (
  less.0,
  less.1,
  record {
    opened_is = v.opened_is;
    draw = to.draw;
    loud = v.loud;
    somebody = subst (λ n. 0 < n) (sym same) v.somebody;
    clear = v.clear;
    settled = v.settled;
    tabled = draws_tabled (unseen start.gear) k.enrolled gs numbers d to.does v.tabled;
    frames = subst (λ n. draw_left (next_stage s d h) + 106 * n + 26 ≤ less.0) (sym same) less.2;
  },
) where
  to : DrawSent Drawing s c.number gs numbers d h
  to = draw_sent s c.number k gs numbers d h v.draw is (but_of d gs numbers h t told.numbered)

  same : count_by is_bare (row_after Everyone d 0 gs numbers) ≡ count_by is_bare gs
  same = leaving.count_bare_after d gs numbers (draws_short d gs to.does)

  less : (l : ℕ) × (left ≡ suc l) × (draw_left (next_stage s d h) + 106 * count_by is_bare gs + 26 ≤ l)
  less = draws_less (draw_left (next_stage s d h)) (count_by is_bare gs) left (subst (λ n. n + 106 * count_by is_bare gs + 26 ≤ left) (to.one refl) v.frames)

-- A FRAME OF A SURVEY IS SENT, and one frame less is left.

-- ---------------------------------------------------------------- a question

silence_again : (n : ℕ) → n ≤ 2 → (asked_after_silence n ≤ 2) × (silent_left (asked_after_silence n) + 1 ≤ 3 - n)
silence_again zero few = (omega arith, omega arith)
silence_again (suc zero) few = (omega arith, omega arith)
silence_again (suc (suc n)) few =
    let past : nat_lt (suc (suc n)) 2 ≡ false = grind (arith, nat_tests) in
    rw past (omega arith, omega (arith, few))

few_asked : (a asked : ℕ) (gs : List Gear) → AskCount stage.Free a asked gs → asked ≤ 2
few_asked a asked gs (inl none) = omega (arith, none)
few_asked a asked gs (inr nobody) = nobody.1

spend : (base need now wake left : ℕ) → base + need + wake ≤ left → now + 1 ≤ need → (l : ℕ) × (left ≡ suc l) × (base + now + wake ≤ l)
spend base need now wake zero enough less = absurd (omega (arith, enough, less))
spend base need now wake (suc l) enough less = (l, refl, omega (arith, enough, less))

-- what the next question takes, and what is left
abbrev SpentTo : ℕ → Stage → ℕ → List Gear → List Gear → ℕ → Command → Answer → Type 0
SpentTo a s asked gs hs left c h =
    (l : ℕ) × (left ≡ suc l) × AskCount (next_stage s c h) a (asked_at (next_stage s c h) h asked) hs
    × (3 * (63 - a) + asked_left (next_stage s c h) (asked_at (next_stage s c h) h asked) + survey_frames gs ≤ l)

first_spent : (a asked : ℕ) (gs hs : List Gear) (left : ℕ) (h : Answer) → AskCount stage.Free a asked gs → SameCore gs hs
    → AskedAt (stage.HighAsked a (byte_heard h)) a hs → 3 * (63 - a) + (3 - asked) + survey_frames gs ≤ left
    → SpentTo a stage.Free asked gs hs left (RandomByte a High) h
first_spent a asked gs hs left (Byte v) (inr nobody) same told enough = absurd (nobody.0 told.1.0 (holds_back gs hs told.1.0 a same told.1.1))
first_spent a asked gs hs left (Byte v) (inl none) same told enough =
    let less = spend (3 * (63 - a)) (3 - asked) 2 (survey_frames gs) left enough (omega (arith, none)) in (less.0, less.1, tt, less.2)
first_spent a asked gs hs left Silence count same told enough =
    let again = silence_again asked (few_asked a asked gs count) in
    let less = spend (3 * (63 - a)) (3 - asked) (silent_left (asked_after_silence asked)) (survey_frames gs) left enough again.1 in
    (less.0, less.1, again.0, less.2)
first_spent a asked gs hs left Damaged count same told enough =
    let few = few_asked a asked gs count in
    let less = spend (3 * (63 - a)) (3 - asked) 0 (survey_frames gs) left enough (omega (arith, few)) in (less.0, less.1, omega arith, less.2)

counts_spent : (a : ℕ) (s : Stage) (k : Kept) (marks : Shorts) (asked from : ℕ) (n : SearchAddress) (start : Begun) (gs hs : List Gear) (left : ℕ) (c : Command)
    (h : Answer) → Counts a s k marks asked from start gs left → Sends (Asking a) n k s c → SameCore gs hs → AskedAt (next_stage s c h) a hs
    → SpentTo a s asked gs hs left c h
counts_spent a stage.Free k marks asked from n start gs hs left c h v is same told =
    subst (λ d. AskedAt (next_stage stage.Free d h) a hs → SpentTo a stage.Free asked gs hs left d h) (sym is)
    (λ now. first_spent a asked gs hs left h v.count same now v.frames) told
counts_spent a (stage.HighAsked b (Some u)) k marks asked from n start gs hs left c h v is same told =
    let less = spend (3 * (63 - a)) 2 1 (survey_frames gs) left v.frames (omega arith) in
    subst (λ d. SpentTo a (stage.HighAsked b (Some u)) asked gs hs left d h) (some_is (RandomByte b Middle) c is)
    (rw (middle_next b (Some u) h) (less.0, less.1, tt, less.2))
counts_spent a (stage.HighAsked b None) k marks asked from n start gs hs left c h v is same told = absurd (cc)
counts_spent a (stage.MiddleAsked b (Some x)) k marks asked from n start gs hs left c h v is same told =
    let less = spend (3 * (63 - a)) 1 0 (survey_frames gs) left v.frames (omega arith) in
    subst (λ d. SpentTo a (stage.MiddleAsked b (Some x)) asked gs hs left d h) (some_is (RandomByte b Low) c is)
    (rw (low_next b (Some x) h) (less.0, less.1, count (number_heard (Some x) h), less.2)) where
      count : (o : Option ℕ) → AskCount (stage.Spelled b o) a 0 hs
      count None = tt
      count (Some m) = refl
counts_spent a (stage.Spelled b (Some m)) k marks asked from n start gs hs left c h v is same told = absurd (cc)
counts_spent a _ k marks asked from n start gs hs left c h v is same told = absurd v.ask.asked

abbrev CountedTo : ℕ → Stage → Kept → Shorts → ℕ → ℕ → Begun → List Gear → List ℕ → ℕ → Command → Answer → Type 0
CountedTo a s k marks asked from start gs numbers left c h =
    (l : ℕ) × (left ≡ suc l) × Counts a (next_stage s c h) k (marked_at (next_stage s c h) h marks) (asked_at (next_stage s c h) h asked) from start
    (row_after Everyone c 0 gs numbers) l

counts_sent : (a : ℕ) (s : Stage) (k : Kept) (marks : Shorts) (asked from : ℕ) (n : SearchAddress) (start : Begun) (gs : List Gear) (numbers : List ℕ)
    (left : ℕ) (c : Command) (h : Answer) → Counts a s k marks asked from start gs left → Sends (Asking a) n k s c → IsAtHand k gs
    → h ≡ heard_of (answers_of Everyone c 0 gs) → CountedTo a s k marks asked from start gs numbers left c h
counts_sent a s k marks asked from n start gs numbers left c h v is told heard =
    let to = asked_sent a s k marks n gs numbers c h v.ask is told (λ other. heard) in
    let less = counts_spent a s k marks asked from n start gs (row_after Everyone c 0 gs numbers) left c h v is to.1 to.0.asked in (
      less.0,
      less.1,
      record {
        ask = to.0;
        from_is = v.from_is;
        settled = v.settled;
        same = core_then start.gear gs (row_after Everyone c 0 gs numbers) v.same to.1;
        count = less.2;
        tabled = below_on a start.gear k.enrolled gs (row_after Everyone c 0 gs numbers) to.1 v.tabled;
        frames = subst (λ m. 3 * (63 - a) + asked_left (next_stage s c h) (asked_at (next_stage s c h) h asked) + (106 * m + 66) ≤ less.0)
            (sym (leaving.core_count_bare gs (row_after Everyone c 0 gs numbers) to.1)) less.3;
      },
    )

-- ---------------------------------------------------------------- a search, or the opening

visited_below : (n r : SearchAddress) (number : ℕ) → n ≡ r → n ≡ sought number → number < MASK24 → value_of r < MASK24
visited_below n r number same is small = subst (λ m. m < MASK24) (sym (ap value_of (sym same ∙ is) ∙ value_sought number)) small

visiting_sought : (s : Stage) (k : Kept) (n : SearchAddress) (gs hs : List Gear) (left : ℕ) (c : Command) → VisitsAt s k n hs left → Sends Visiting n k s c
    → Seeks s gs → IsSoughtBy gs c
visiting_sought s k n gs hs left c v is seek =
    visit_by (λ t d. VisitsAt t k n hs left → Seeks t gs → IsSoughtBy gs d) n k hs left (λ w by. tt) (λ high w by. tt) (λ high middle w by. tt)
    (λ r w by. (r, by r refl, visited_below n r w.visited.number w.searched w.visited.number_is w.visited.drawn))
    (λ r a small has w by. (r, by r refl, visited_below n r w.visited.number w.searched w.visited.number_is w.visited.drawn))
    (λ r a w by. (r, by r refl, visited_below n r w.visited.number (sym w.searched) w.visited.number_is w.visited.drawn)) (λ r a w by. tt) s c v is v seek

seeks_drawn : (s : Stage) (gs : List Gear) → Seeks s gs → Seeks s (those_drawn gs)
seeks_drawn s gs seek r at = seek_drawn gs r (seek r at)

-- what the gear that drew took, and answered
drawn_one_none : (b d : Bool) (k : ℕ) (numbers : List ℕ) (more : List (ℕ × ℕ)) → d ≡ false → drawn_one (b && d) k numbers more ≡ more
drawn_one_none true d k numbers more none = rw none refl
drawn_one_none false d k numbers more none = refl

none_drawn : (c : Command) (k : ℕ) (hs : List Gear) (numbers : List ℕ) (x : ℕ × ℕ) → IsSearching c → Has (drawn_of Everyone c k hs numbers) x → ⊥
none_drawn c k [] numbers x is has = has
none_drawn c k (g ∷ hs) numbers x is has =
    none_drawn c (k + 1) hs (left_after (takes Everyone k g && draws_a_number c g) numbers) x is
    (subst (λ ds. Has ds x) (drawn_one_none (takes Everyone k g) (draws_a_number c g) k numbers
    (drawn_of Everyone c (k + 1) hs (left_after (takes Everyone k g && draws_a_number c g) numbers)) (no_draw c g is)) has)

taken_drawn : (c : Command) (gs : List Gear) (numbers : List ℕ) (h : Answer) → IsSoughtBy gs c → IsTaken c gs numbers h → DrewApart gs
    → IsTaken c (those_drawn gs) numbers h
taken_drawn c gs numbers h by t apart = record {
  heard = t.heard ∙ sym (ap heard_of (answers_drawn c 0 gs (still_of gs c by)));
  enough = rw (needs_none Everyone c 0 (those_drawn gs) (not_randomise c (searching_of gs c by))) (omega arith);
  below = λ x has. absurd (none_drawn c 0 (those_drawn gs) numbers x (searching_of gs c by) has);
  apart = apart_drawn gs apart;
}

-- the frame is one of a search
hunted_by : (p : Purpose) (s : Stage) (k : Kept) (x : Ascent) (n : SearchAddress) (gs : List Gear) (left : ℕ) (c : Command) → IsHunt p
    → HuntAt false p s k x n (those_drawn gs) left → Sends p n k s c → Seeks s gs → IsSoughtBy gs c
hunted_by Hunting s k x n gs left c hunt at is seek = rising_sought s k x n gs (those_drawn gs) left c at is seek
hunted_by Visiting s k x n gs left c hunt at is seek = visiting_sought s k n gs (those_drawn gs) left c at.0 is seek
hunted_by _ s k x n gs left c hunt at is seek = absurd hunt

abbrev HuntedTo : Purpose → Stage → Kept → Shorts → Course → Begun → List Gear → List ℕ → ℕ → Command → Answer → Type 0
HuntedTo p s k heard c start gs numbers left d h =
    (l : ℕ) × (left ≡ suc l) × Hunts true p (next_stage s d h) k heard c start (row_after Everyone d 0 gs numbers) l

spend_one : (rest some after left behind l : ℕ) → rest ≡ suc l → 5 * behind < rest → rest + some + after ≤ left + 5 * behind
    → (m : ℕ) × (left ≡ suc m) × (l + some + after ≤ m + 5 * behind)
spend_one rest some after zero behind l is deep enough = absurd (omega (arith, is, deep, enough))
spend_one rest some after (suc m) behind l is deep enough = (m, refl, omega (arith, is, enough))

-- ---------------------------------------------------------------- of whichever of them

hunt_sent : (p : Purpose) (s : Stage) (k : Kept) (x : Ascent) (n : SearchAddress) (gs : List Gear) (numbers : List ℕ) (left : ℕ) (c : Command) (h : Answer)
    → IsHunt p → HuntAt false p s k x n gs left → Sends p n k s c → IsTaken c gs numbers h → Seeks s gs
    → (l : ℕ) × (left ≡ suc l) × HuntAt true p (next_stage s c h) k x n (row_after Everyone c 0 gs numbers) l
hunt_sent Hunting s k x n gs numbers left c h hunt at is taken seek = rises_sent s k x n gs numbers left c h at is taken seek
hunt_sent Visiting s k x n gs numbers left c h hunt at is taken seek =
    let sent = at_sent Visiting s k true at_first n gs numbers left c h (refl, at.0) is taken seek in
    (sent.0, sent.1, (sent.2.1, record { is = at.1.is; reached = at.1.reached; least = least_sent s k x n gs numbers left c h at.0 is seek at.1 }))
hunt_sent _ s k x n gs numbers left c h hunt at is taken seek = absurd hunt

hunt_tabled : (before : List Gear) (p : Purpose) (s : Stage) (k : Kept) (x : Ascent) (n : SearchAddress) (gs : List Gear) (numbers : List ℕ) (left rest : ℕ)
    (c : Command) (h : Answer) → IsHunt p → HuntAt false p s k x n gs left → Sends p n k s c → Seeks s gs
    → HuntAt true p (next_stage s c h) k x n (row_after Everyone c 0 gs numbers) rest → AreTabled before (to_come s n k.enrolled) gs
    → IsTabledTo before s n k.enrolled gs numbers c h
hunt_tabled before Hunting s k x n gs numbers left rest c h hunt at is seek next tabled =
    rising_tabled before s k x n gs numbers left rest c h at is next tabled
hunt_tabled before Visiting s k x n gs numbers left rest c h hunt at is seek next tabled =
    at_tabled before Visiting s k true _ at_first n gs numbers left rest c h (refl, at.0) is seek (refl, next.0) tabled
hunt_tabled before _ s k x n gs numbers left rest c h hunt at is seek next tabled = absurd hunt

-- the low byte that it sends is one
visiting_low : (s : Stage) (k : Kept) (n : SearchAddress) (gs : List Gear) (left : ℕ) (c : Command) → VisitsAt s k n gs left → Sends Visiting n k s c
    → IsByteLow c
visiting_low s k n gs left c v is =
    visit_by (λ t d. VisitsAt t k n gs left → IsByteLow d) n k gs left (λ w. tt) (λ high w. tt)
    (λ high middle w. low_byte n w.visited.number w.visited.number_is) (λ r w. tt) (λ r a small has w. tt) (λ r a w. tt) (λ r a w. tt) s c v is v

hunt_low : (p : Purpose) (s : Stage) (k : Kept) (x : Ascent) (n : SearchAddress) (gs : List Gear) (left : ℕ) (c : Command) → IsHunt p
    → HuntAt false p s k x n gs left → Sends p n k s c → IsByteLow c
hunt_low Hunting s k x n gs left c hunt at is = rising_one IsByteLow s k x n gs left c tt (low_byte n (asked_next x) at.number) tt tt at is
hunt_low Visiting s k x n gs left c hunt at is = visiting_low s k n gs left c at.0 is
hunt_low _ s k x n gs left c hunt at is = absurd hunt

-- some gear is without short address still
hunt_called : (p : Purpose) (s : Stage) (k : Kept) (x : Ascent) (n : SearchAddress) (gs : List Gear) (numbers : List ℕ) (left : ℕ) (c : Command) → IsHunt p
    → HuntAt false p s k x n (those_drawn gs) left → Sends p n k s c → IsCalledFor p x gs → IsCalledFor p x (row_after Everyone c 0 gs numbers)
hunt_called Hunting s k x n gs numbers left c hunt at is called =
    λ none. subst (λ m. 0 < m) (sym (leaving.count_bare_after c gs numbers (rising_one LeavesShort s k x n (those_drawn gs) left c tt tt tt tt at is)))
    (called none)
hunt_called Visiting s k x n gs numbers left c hunt at is called = tt
hunt_called _ s k x n gs numbers left c hunt at is called = absurd hunt

-- and the same frames follow
hunt_after : (p : Purpose) (s : Stage) (k : Kept) (x : Ascent) (n : SearchAddress) (gs : List Gear) (numbers : List ℕ) (left : ℕ) (c : Command) → IsHunt p
    → HuntAt false p s k x n (those_drawn gs) left → Sends p n k s c → IsSoughtBy gs c
    → frames_after p x (row_after Everyone c 0 gs numbers) ≡ frames_after p x gs
hunt_after Hunting s k x n gs numbers left c hunt at is by =
    ap (λ m. hunted_after (x.found + m) (count_by is_lost (row_after Everyone c 0 gs numbers)))
    (ap (count_by is_wanted) (sym (row_drawn c 0 gs numbers (searching_of gs c by) (still_of gs c by)))
    ∙ leaving.core_count_wanted (those_drawn gs) (row_after Everyone c 0 (those_drawn gs) numbers)
    (leaving.core_after c (those_drawn gs) numbers (rising_one LeavesCore s k x n (those_drawn gs) left c tt tt tt tt at is)))
    ∙ ap (hunted_after (x.found + count_by is_wanted (those_drawn gs))) (lost_same c gs numbers (searching_of gs c by) (still_of gs c by))
hunt_after Visiting s k x n gs numbers left c hunt at is by = ap called_after (lost_same c gs numbers (searching_of gs c by) (still_of gs c by))
hunt_after _ s k x n gs numbers left c hunt at is by = absurd hunt

hunts_sent : (p : Purpose) (s : Stage) (k : Kept) (heard : Shorts) (c : Course) (start : Begun) (gs : List Gear) (numbers : List ℕ) (left : ℕ) (d : Command)
    (h : Answer) → IsHunt p → Hunts false p s k heard c start gs left → Sends p c.number k s d → IsTaken d gs numbers h → IsAtHand k gs → Seeks s gs
    → HuntedTo p s k heard c start gs numbers left d h
hunts_sent p s k heard c start gs numbers left d h hunt v is t told seek = (
  one.0,
  one.1,
  record {
    hunted = record {
      opened_is = v.hunted.opened_is;
      loud = v.hunted.loud;
      first = λ some. v.hunted.first (subst (λ m. 0 < m) (lost_same d gs numbers (searching_of gs d by) (still_of gs d by)) some);
      low = low_after d gs numbers (hunt_low p s k c.ascent c.number (those_drawn gs) v.rest d hunt v.at is) v.hunted.low;
    };
    called = hunt_called p s k c.ascent c.number gs numbers v.rest d hunt v.at is v.called;
    clear = v.clear;
    settled = v.settled;
    rest = sent.0;
    at = subst (λ hs. HuntAt true p (next_stage s d h) k c.ascent c.number hs sent.0) row sent.2;
    tabled = subst (λ hs. AreTabled (unseen start.gear) (to_come (next_stage s d h) c.number k.enrolled) hs) row
        (hunt_tabled (unseen start.gear) p s k c.ascent c.number (those_drawn gs) numbers v.rest sent.0 d h hunt v.at is
        (seeks_drawn s gs seek) sent.2 v.tabled);
    behind = v.behind;
    behind_is =
        subst (λ hs. IsBehind p (next_stage s d h) v.behind hs sent.0) row
        (behind_sent p s k c.ascent c.number (those_drawn gs) numbers v.rest sent.0 v.behind d h hunt sent.1 v.at is (seeks_drawn s gs seek) v.behind_is);
    frames = subst (λ m. sent.0 + surplus p + m ≤ one.0 + 5 * v.behind) (sym (hunt_after p s k c.ascent c.number gs numbers v.rest d hunt v.at is by)) one.2;
  },
) where
  by : IsSoughtBy gs d
  by = hunted_by p s k c.ascent c.number gs v.rest d hunt v.at is seek

  sent : (l : ℕ) × (v.rest ≡ suc l) × HuntAt true p (next_stage s d h) k c.ascent c.number (row_after Everyone d 0 (those_drawn gs) numbers) l
  sent = hunt_sent p s k c.ascent c.number (those_drawn gs) numbers v.rest d h hunt v.at is (taken_drawn d gs numbers h by t told.apart) (seeks_drawn s gs seek)

  row : row_after Everyone d 0 (those_drawn gs) numbers ≡ those_drawn (row_after Everyone d 0 gs numbers)
  row = row_drawn d 0 gs numbers (searching_of gs d by) (still_of gs d by)

  one : (m : ℕ) × (left ≡ suc m) × (sent.0 + surplus p + frames_after p c.ascent gs ≤ m + 5 * v.behind)
  one =
      spend_one v.rest (surplus p) (frames_after p c.ascent gs) left v.behind sent.0 sent.1
      (hunt_deep p s k c.ascent c.number (those_drawn gs) v.rest sent.0 v.behind hunt sent.1 v.at v.behind_is) v.frames

-- ---------------------------------------------------------------- the close

ends_still : (e : End) (k : Kept) (heard : Shorts) (gs : List Gear) (numbers : List ℕ) → SurveyEnds e k heard gs
    → SurveyEnds e k heard (row_after Everyone Terminate 0 gs numbers)
ends_still AllFound k heard gs numbers all = all_left Terminate gs numbers tt all
ends_still BlockFull k heard gs numbers well = (subst (λ n. 0 < n) (sym (leaving.count_bare_after Terminate gs numbers tt)) well.0, well.1)
ends_still GaveUp k heard gs numbers well = well

abbrev ClosedTo : End → Stage → Kept → Shorts → Begun → List Gear → List ℕ → ℕ → Command → Answer → Type 0
ClosedTo e s k heard start gs numbers left c h =
    (l : ℕ) × (left ≡ suc l) × SurveyCloses e (next_stage s c h) k heard start (row_after Everyone c 0 gs numbers) l

closes_sent : (e : End) (s : Stage) (k : Kept) (heard : Shorts) (n : SearchAddress) (start : Begun) (gs : List Gear) (numbers : List ℕ) (left : ℕ) (c : Command)
    (h : Answer) → SurveyCloses e s k heard start gs left → Sends (Closing e) n k s c → ClosedTo e s k heard start gs numbers left c h
closes_sent e stage.Free k heard n start gs numbers left c h v is =
    subst (λ d. ClosedTo e stage.Free k heard start gs numbers left d h) (sym is) go where
      go : ClosedTo e stage.Free k heard start gs numbers left Terminate h
      go =
          let less = one_less 1 left 0 v.frames (omega arith) in (
            less.0,
            less.1,
            record {
              stage_is = tt;
              well = ends_still e k heard gs numbers v.well;
              settled = v.settled;
              tabled = tabled_left (unseen start.gear) k.enrolled gs numbers Terminate tt v.tabled;
              frames = less.2;
            },
          )
closes_sent e stage.Terminated k heard n start gs numbers left c h v is = absurd (cc)
closes_sent e _ k heard n start gs numbers left c h v is = absurd v.stage_is

-- ---------------------------------------------------------------- of whatever transaction

abbrev pub SurveySent : Purpose → Stage → Kept → Shorts → ℕ → Course → Begun → List Gear → List ℕ → ℕ → Command → Answer → Type 0
SurveySent p s k heard asked c start gs numbers left d h =
    (l : ℕ) × (left ≡ suc l) × SurveyAt true p (next_stage s d h) k (heard_after p (next_stage s d h) h heard)
    (asked_after p (next_stage s d h) h asked) c start (row_after Everyone d 0 gs numbers) l

pub survey_sent : (p : Purpose) (s : Stage) (k : Kept) (heard : Shorts) (asked : ℕ) (c : Course) (start : Begun) (gs : List Gear) (numbers : List ℕ) (left : ℕ)
    (d : Command) (h : Answer) → SurveyAt false p s k heard asked c start gs left → Sends p c.number k s d → IsTaken d gs numbers h → IsAtHand k gs → Seeks s gs
    → SurveySent p s k heard asked c start gs numbers left d h
survey_sent (Asking a) s k heard asked c start gs numbers left d h at is t told seek =
    let sent = counts_sent a s k heard asked c.from c.number start gs numbers left d h at.1 is told t.heard in (sent.0, sent.1, (at.0, sent.2))
survey_sent Calling s k heard asked c start gs numbers left d h at is t told seek = calls_sent s k heard c start gs numbers left d h at is t told seek
survey_sent Hunting s k heard asked c start gs numbers left d h at is t told seek =
    hunts_sent Hunting s k heard c start gs numbers left d h tt at is t told seek
survey_sent Visiting s k heard asked c start gs numbers left d h at is t told seek =
    hunts_sent Visiting s k heard c start gs numbers left d h tt at is t told seek
survey_sent Drawing s k heard asked c start gs numbers left d h at is t told seek = draws_sent s k heard c start gs numbers left d h at is t told
survey_sent Opening s k heard asked c start gs numbers left d h at is t told seek = absurd at
survey_sent (Closing e) s k heard asked c start gs numbers left d h at is t told seek = closes_sent e s k heard c.number start gs numbers left d h at is
survey_sent Probing s k heard asked c start gs numbers left d h at is t told seek = absurd at
survey_sent PassingOver s k heard asked c start gs numbers left d h at is t told seek = absurd at
survey_sent (Resolving a) s k heard asked c start gs numbers left d h at is t told seek = absurd at
