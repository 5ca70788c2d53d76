use Rattle.dali_progress.proofs.Below.{◌≡◌, ℕ, ◌<◌, inl, inr, true, false, List, refl, sym, subst, ◌∙◌, length, ◌⊎◌, Bool, Some, None, ◌==◌, if◌then◌else◌}
use Rattle.dali_progress.proofs.Below.{MASK24, value_of, Answer, Silence, Byte, Damaged, SearchAddress, Command, Terminate, Program, Gear, row_after, Everyone}
use Rattle.dali_progress.proofs.Below.{Kept, Assignment, Has, HasAddress, InBlock, next_stage, End, AllFound, BlockFull, GaveUp, Stage, Course, silent_after}
use Rattle.dali_progress.proofs.Below.{heard_after, marked_at, has_short, with_short, without_short, Sends, Purpose, Opening, Probing, Visiting, Resolving}
use Rattle.dali_progress.proofs.Below.{Closing, Hunting, Asking, Calling, Drawing, PassingOver, Shorts, Tally, gear_of, LeavesShort, SameCore, after_at}
use Rattle.dali_progress.proofs.Below.{same_number, number_same, AreServedBut}
use Rattle.dali_script.specs.declared.stage.Stage.TheVariants as stage
use Rattle.dali_progress.proofs.Misheard.Gear as gear
use Rattle.dali_progress.proofs.{Accounted.with_has, Both.{has_address, IsDry, is_unnamed, names_sent}, Frames.{Seeks, short_left}, Misheard.Gear.HasDrawn}
use Rattle.dali_progress.proofs.{Misheard.Gear.{HaveDrawn, each_after, IsKnown, AreKnown, each_core}, Misheard.Sent.{Taken, counted_on, hunting_sent}}
use Rattle.dali_progress.proofs.{Misheard.Sent.{but_taken, truth}, Misheard.Stands.{Asks, Calls, Draws, EndsBy, Closes, At, IsCounted, IsCountedFor, Census}}
use Rattle.dali_progress.proofs.{Misheard.Stands.{KnownAt, IsSpent, IsTabled, AreTabledBelow, IsCensus}, Misheard.Visited.{visiting_sent, passing_sent}}
use Rattle.dali_progress.proofs.{Stands.sends_of, Survey.Drawn.AreNumbered, Survey.Queried.{IsAtHand, Holds}, Survey.Stands.AreTaken, Survey.Woken.names_left}
use Rattle.dali_progress.proofs.{Survey.Woken.{all_left, leaves_short}, Surveying.{RollSent, DrawSent, IsDraws, roll_sent, draw_sent, open_sent, quiet_roll}}
use Rattle.dali_progress.proofs.{Surveying.{quiet_draw, AskedTo, asked_sent, quiet_asked, DrawsBy, AskedAt, with_other, without_other}, Tables.LeavesNames}

-- A FRAME OF A ROLL CALL IS SENT, or one after which gear draw, or one of the census or the close; and of whatever transaction.

-- ---------------------------------------------------------------- gear keep their numbers and short addresses

random_left : (d : Command) (gs : List Gear) (numbers : List ℕ) → LeavesNames d → (k : ℕ) → k < length gs
    → (gear_of (row_after Everyone d 0 gs numbers) k).random ≡ (gear_of gs k).random
random_left d gs numbers leaves k there = after_at d (λ y z. z.random ≡ y.random) (λ y off. refl) (λ y x on. (names_left d y x leaves).2) gs numbers k there

drawn_left : (d : Command) (gs : List Gear) (numbers : List ℕ) → LeavesNames d → HaveDrawn gs → HaveDrawn (row_after Everyone d 0 gs numbers)
drawn_left d gs numbers leaves =
    each_after d HasDrawn HasDrawn (λ k y x was none. (let same = names_left d y x leaves in
    subst (λ n. n < MASK24) (sym same.2) (was (sym same.1 ∙ none)))) gs numbers

served_left : (g : ℕ) (d : Command) (gs : List Gear) (numbers : List ℕ) → LeavesShort d → AreServedBut g gs → AreServedBut g (row_after Everyone d 0 gs numbers)
served_left g d gs numbers leaves all k in_row other on = short_left d gs numbers k leaves in_row on (λ there. all k there other)

-- ---------------------------------------------------------------- the roll call

abbrev pub CalledTo : ℕ → Stage → Course → ℕ → List Gear → List ℕ → Command → Answer → Type 0
CalledTo g s c silent gs numbers d h = Calls g (next_stage s d h) c (silent_after (next_stage s d h) c.opened silent) (row_after Everyone d 0 gs numbers)

roll_of : (g : ℕ) (s : Stage) (k : Kept) (c : Course) (silent : ℕ) (gs : List Gear) (numbers : List ℕ) (d : Command) (h : Answer) → Calls g s c silent gs
    → Sends k c.number Calling s d → Taken g d gs numbers h → Seeks s gs → RollSent s c.number gs numbers d h
roll_of g s k c silent gs numbers d h v is t seek =
    roll_sent s c.number k gs numbers d h v.roll (sends_of Calling c.number k s d is) (but_taken g d gs numbers h t) seek

calls_sent : (g : ℕ) (s : Stage) (k : Kept) (c : Course) (silent : ℕ) (gs : List Gear) (numbers : List ℕ) (d : Command) (h : Answer) → Calls g s c silent gs
    → g < length gs → RollSent s c.number gs numbers d h → CalledTo g s c silent gs numbers d h
calls_sent g s k c silent gs numbers d h v there to = record {
  opened_is = v.opened_is;
  counted =
      subst (λ n. IsCounted g c.tally n 0 (row_after Everyone d 0 gs numbers))
      (sym (quiet_roll (next_stage s d h) c.number (row_after Everyone d 0 gs numbers) c.opened silent to.roll))
      (counted_on g c.tally silent 0 gs (row_after Everyone d 0 gs numbers) v.counted (random_left d gs numbers to.leaves g there)
      (drawn_left d gs numbers to.leaves));
  roll = to.roll;
}

-- ---------------------------------------------------------------- gear draw

abbrev pub DrawnTo : Purpose → Stage → Course → ℕ → List Gear → List ℕ → Command → Answer → Type 0
DrawnTo p s c silent gs numbers d h = Draws p (next_stage s d h) c (silent_after (next_stage s d h) c.opened silent) (row_after Everyone d 0 gs numbers)

draw_of : (g : ℕ) (s : Stage) (k : Kept) (c : Course) (silent : ℕ) (gs : List Gear) (numbers : List ℕ) (d : Command) (h : Answer) → Draws Drawing s c silent gs
    → Sends k c.number Drawing s d → Taken g d gs numbers h → DrawSent Drawing s c.number gs numbers d h
draw_of g s k c silent gs numbers d h v is t = draw_sent s c.number k gs numbers d h v.draw (sends_of Drawing c.number k s d is) (but_taken g d gs numbers h t)

open_of : (g : ℕ) (s : Stage) (k : Kept) (c : Course) (silent : ℕ) (gs : List Gear) (numbers : List ℕ) (d : Command) (h : Answer) → Draws Opening s c silent gs
    → Sends k c.number Opening s d → Taken g d gs numbers h → DrawSent Opening s c.number gs numbers d h
open_of g s k c silent gs numbers d h v is t = open_sent s c.number k gs numbers d h v.draw (sends_of Opening c.number k s d is) (but_taken g d gs numbers h t)

draws_sent : (p : Purpose) (s : Stage) (c : Course) (silent : ℕ) (gs : List Gear) (numbers : List ℕ) (d : Command) (h : Answer) → IsDraws p
    → Draws p s c silent gs → DrawSent p s c.number gs numbers d h → DrawnTo p s c silent gs numbers d h
draws_sent p s c silent gs numbers d h is v to = record {
  opened_is = v.opened_is;
  counted =
      subst (λ n. IsCountedFor c.tally n) (sym (quiet_draw p (next_stage s d h) c.number (row_after Everyone d 0 gs numbers) c.opened silent is to.draw))
      v.counted;
  draw = to.draw;
}

-- ---------------------------------------------------------------- the close

ends_still : (g : ℕ) (e : End) (k : Kept) (heard : Shorts) (gs : List Gear) (numbers : List ℕ) → EndsBy g e k heard gs
    → EndsBy g e k heard (row_after Everyone Terminate 0 gs numbers)
ends_still g AllFound k heard gs numbers all = all_left Terminate gs numbers tt all
ends_still g BlockFull k heard gs numbers well = well
ends_still g GaveUp k heard gs numbers (inl served) = inl (served_left g Terminate gs numbers tt served)
ends_still g GaveUp k heard gs numbers (inr well) = inr well

closes_sent : (g : ℕ) (e : End) (s : Stage) (k : Kept) (heard : Shorts) (n : SearchAddress) (gs : List Gear) (numbers : List ℕ) (d : Command) (h : Answer)
    → Closes g e s k heard gs → Sends k n (Closing e) s d → Closes g e (next_stage s d h) k heard (row_after Everyone d 0 gs numbers)
closes_sent g e stage.Free k heard n gs numbers d h v is =
    subst (λ q. Closes g e (next_stage stage.Free q h) k heard (row_after Everyone q 0 gs numbers)) (sym is.0)
    (record { stage_is = tt; well = ends_still g e k heard gs numbers v.well })
closes_sent g e stage.Terminated k heard n gs numbers d h v is = absurd (let never = is.0 in cc)
closes_sent g e _ k heard n gs numbers d h v is = absurd v.stage_is

-- ---------------------------------------------------------------- the census

asks_of : (g a : ℕ) (s : Stage) (k : Kept) (heard : Shorts) (c : Course) (gs : List Gear) (numbers : List ℕ) (d : Command) (h : Answer)
    → Census a s k heard c gs → Sends k c.number (Asking a) s d → Taken g d gs numbers h → IsAtHand k gs → AskedTo a s k heard gs numbers d h
asks_of g a s k heard c gs numbers d h v is t hand =
    asked_sent a s k heard c.number gs numbers d h v.ask (sends_of (Asking a) c.number k s d is) hand (truth g d gs numbers h t)

asks_sent : (g a : ℕ) (s : Stage) (k : Kept) (heard : Shorts) (c : Course) (silent : ℕ) (gs : List Gear) (numbers : List ℕ) (d : Command) (h : Answer)
    → Asks g c silent gs → g < length gs → AskedTo a s k heard gs numbers d h
    → Asks g c (silent_after (next_stage s d h) c.opened silent) (row_after Everyone d 0 gs numbers)
asks_sent g a s k heard c silent gs numbers d h v there to = record {
  unopened = v.unopened;
  counted =
      subst (λ n. IsCounted g c.tally n 0 (row_after Everyone d 0 gs numbers))
      (sym (quiet_asked a (next_stage s d h) (row_after Everyone d 0 gs numbers) c.opened silent to.0.asked))
      (counted_on g c.tally silent 0 gs (row_after Everyone d 0 gs numbers) v.counted
      (gear.random_core gs (row_after Everyone d 0 gs numbers) g to.1 there) (gear.drawn_core gs (row_after Everyone d 0 gs numbers) to.1));
}

-- ---------------------------------------------------------------- of whatever transaction

abbrev pub SentTo : ℕ → Purpose → Stage → Kept → Shorts → Course → ℕ → List Gear → List ℕ → Command → Answer → Type 0
SentTo g p s k heard c silent gs numbers d h =
    At true g p (next_stage s d h) k (heard_after p (next_stage s d h) h heard) c (silent_after (next_stage s d h) c.opened silent)
    (row_after Everyone d 0 gs numbers)

pub at_sent : (g : ℕ) (p : Purpose) (s : Stage) (k : Kept) (heard : Shorts) (c : Course) (silent : ℕ) (gs : List Gear) (numbers : List ℕ) (d : Command)
    (h : Answer) → At false g p s k heard c silent gs → KnownAt g p s k heard c gs → Sends k c.number p s d → Taken g d gs numbers h → IsAtHand k gs
    → Seeks s gs → SentTo g p s k heard c silent gs numbers d h
at_sent g (Asking a) s k heard c silent gs numbers d h at known is t told seek =
    asks_sent g a s k heard c silent gs numbers d h at t.there (asks_of g a s k heard c gs numbers d h known is t told)
at_sent g Calling s k heard c silent gs numbers d h at known is t told seek =
    calls_sent g s k c silent gs numbers d h at t.there (roll_of g s k c silent gs numbers d h at is t seek)
at_sent g Hunting s k heard c silent gs numbers d h at known is t told seek = hunting_sent g s k c silent gs numbers d h at is t seek
at_sent g Visiting s k heard c silent gs numbers d h at known is t told seek = visiting_sent g s k c silent gs numbers d h at is t seek
at_sent g PassingOver s k heard c silent gs numbers d h at known is t told seek = passing_sent g s k c silent gs numbers d h at is t seek
at_sent g Drawing s k heard c silent gs numbers d h at known is t told seek =
    draws_sent Drawing s c silent gs numbers d h tt at (draw_of g s k c silent gs numbers d h at is t)
at_sent g Opening s k heard c silent gs numbers d h at known is t told seek =
    draws_sent Opening s c silent gs numbers d h tt at (open_of g s k c silent gs numbers d h at is t)
at_sent g (Closing e) s k heard c silent gs numbers d h at known is t told seek = closes_sent g e s k heard c.number gs numbers d h at is
at_sent g Probing s k heard c silent gs numbers d h at known is t told seek = absurd at
at_sent g (Resolving a) s k heard c silent gs numbers d h at known is t told seek = absurd at

-- WHO IS KNOWN, once a frame is sent.

-- ---------------------------------------------------------------- what a frame does to gear

-- it leaves numbers and short addresses, or gear draw; or it gives an address that is reserved
abbrev pub Does : Kept → Stage → List Gear → Command → Type 0
Does k s gs d = DrawsBy d gs ⊎ ((r : SearchAddress) × (a : ℕ) × (s ≡ stage.Unnamed r) × (d ≡ Program (Some a)) × Has k.reserved (a, value_of r))

does_by : (p : Purpose) (n : SearchAddress) (s : Stage) (k : Kept) (gs : List Gear) (d : Command) → IsDry p → Sends k n p s d → Does k s gs d
does_by p n s k gs d dry is = go (is_unnamed s) where
  given : (r : SearchAddress) → s ≡ stage.Unnamed r → Sends k n p (stage.Unnamed r) d → Does k s gs d
  given r at (visits, same, (a, small, may, gives)) = inr (r, a, at, gives, may.reserved_for)

  go : ((r : SearchAddress) × (s ≡ stage.Unnamed r)) ⊎ ((r : SearchAddress) → s ≡ stage.Unnamed r → ⊥) → Does k s gs d
  go (inl (r, at)) = given r at (subst (λ q. Sends k n p q d) at is)
  go (inr other) = inl (inl (names_sent p n k s d dry other (sends_of p n k s d is)))

known_after : (k : Kept) (s : Stage) (gs : List Gear) (numbers : List ℕ) (d : Command) → Does k s gs d → Seeks s gs → AreKnown k.reserved k.enrolled gs
    → AreKnown k.reserved k.enrolled (row_after Everyone d 0 gs numbers)
known_after k s gs numbers d (inl (inl names)) seek known =
    each_after d (IsKnown k.reserved k.enrolled) (IsKnown k.reserved k.enrolled) (λ i y x was a small short drew. (let same = names_left d y x names in
    subst (λ n. Has k.enrolled (a, n) ⊎ Has k.reserved (a, n)) (sym same.2) (was a small (sym same.1 ∙ short) (subst (λ n. n < MASK24) same.2 drew))))
    gs numbers known
known_after k s gs numbers d (inl (inr (draws, inl all))) seek known =
    subst (λ e. AreKnown k.reserved k.enrolled (row_after Everyone e 0 gs numbers)) (sym draws) (gear.known_once k.reserved k.enrolled gs numbers all known)
known_after k s gs numbers d (inl (inr (draws, inr all))) seek known =
    subst (λ e. AreKnown k.reserved k.enrolled (row_after Everyone e 0 gs numbers)) (sym draws) (gear.known_twice k.reserved k.enrolled gs numbers all known)
known_after k s gs numbers d (inr (r, a, at, gives, has)) seek known =
    subst (λ e. AreKnown k.reserved k.enrolled (row_after Everyone e 0 gs numbers)) (sym gives)
    (gear.known_programmed k.reserved k.enrolled gs numbers r a (subst (λ q. Seeks q gs) at seek r refl) has known)

-- ---------------------------------------------------------------- marks

apart_of : (a b : ℕ) → (a == b) ≡ false → a ≡ b → ⊥
apart_of a b other e = let never : true ≡ false = sym (number_same a b e) ∙ other in cc

same_small : (a b : ℕ) → b ≡ a → a < 64 → b < 64
same_small a b same small = subst (λ n. n < 64) (sym same) small

-- if no address of the block is left
taken_with : (k : Kept) (heard : Shorts) (b : ℕ) → b < 64 → AreTaken k heard → AreTaken k (with_short heard b)
taken_with k heard b small taken a within = by (taken a within) where
  by : HasAddress k.reserved a ⊎ (HasAddress k.enrolled a ⊎ (has_short heard a ≡ true))
      → HasAddress k.reserved a ⊎ (HasAddress k.enrolled a ⊎ (has_short (with_short heard b) a ≡ true))
  by (inl has) = inl has
  by (inr (inl has)) = inr (inl has)
  by (inr (inr marked)) = inr (inr (more (a == b) refl)) where
    more : (t : Bool) → (a == b) ≡ t → has_short (with_short heard b) a ≡ true
    more true is = let at : a ≡ b = same_number a b is in with_has heard b a (sym at) (subst (λ n. n < 64) (sym at) small)
    more false other = with_other heard b a small (apart_of a b other) ∙ marked

-- the gear that told its number is known
taken_without : (k : Kept) (heard : Shorts) (b n i : ℕ) (gs : List Gear) → ((c : ℕ) → InBlock k.block c → c < 64) → b < 64 → Holds gs i b
    → (gear_of gs i).random ≡ n → n < MASK24 → AreKnown k.reserved k.enrolled gs → AreTaken k heard → AreTaken k (without_short heard b)
taken_without k heard b n i gs block small holds random drew known taken a within = by (taken a within) where
  here : Has k.enrolled (b, n) ⊎ Has k.reserved (b, n) → HasAddress k.reserved b ⊎ (HasAddress k.enrolled b ⊎ (has_short (without_short heard b) b ≡ true))
  here (inl has) = inr (inl (has_address k.enrolled b n has))
  here (inr has) = inl (has_address k.reserved b n has)

  by : HasAddress k.reserved a ⊎ (HasAddress k.enrolled a ⊎ (has_short heard a ≡ true))
      → HasAddress k.reserved a ⊎ (HasAddress k.enrolled a ⊎ (has_short (without_short heard b) a ≡ true))
  by (inl has) = inl has
  by (inr (inl has)) = inr (inl has)
  by (inr (inr marked)) = at (a == b) refl where
    at : (t : Bool) → (a == b) ≡ t → HasAddress k.reserved a ⊎ (HasAddress k.enrolled a ⊎ (has_short (without_short heard b) a ≡ true))
    at true is =
        subst (λ c. HasAddress k.reserved c ⊎ (HasAddress k.enrolled c ⊎ (has_short (without_short heard b) c ≡ true))) (sym (same_number a b is))
        (here (subst (λ m. Has k.enrolled (b, m) ⊎ Has k.reserved (b, m)) random
        (known i holds.there holds.on b small holds.short (subst (λ m. m < MASK24) (sym random) drew))))
    at false other = inr (inr (without_other heard b a small (block a within) (apart_of a b other) ∙ marked))

-- ---------------------------------------------------------------- the census

tabled_core : (f : ℕ) (enrolled : List Assignment) (gs hs : List Gear) → SameCore gs hs → AreTabledBelow f enrolled gs → AreTabledBelow f enrolled hs
tabled_core f enrolled =
    each_core (IsTabled f enrolled) (IsTabled f enrolled) (λ k y z same was a low short drew.
    subst (λ n. Has enrolled (a, n)) (sym same.same_random) (was a low (sym same.same_short ∙ short) (subst (λ n. n < MASK24) same.same_random drew)))

census_core : (f : ℕ) (y : Tally) (k : Kept) (heard : Shorts) (gs hs : List Gear) → SameCore gs hs → IsCensus f y k heard gs → IsCensus f y k heard hs
census_core f y k heard gs hs same (inl first) = inl (first.0, tabled_core f k.enrolled gs hs same first.1)
census_core f y k heard gs hs same (inr later) = inr (gear.known_core k.reserved k.enrolled gs hs same later.0, later.1)

census_with : (f b : ℕ) (y : Tally) (k : Kept) (heard : Shorts) (gs : List Gear) → b < 64 → IsCensus f y k heard gs → IsCensus f y k (with_short heard b) gs
census_with f b y k heard gs small (inl first) = inl first
census_with f b y k heard gs small (inr later) = inr (later.0, taken_with k heard b small later.1)

census_told : (f b n i : ℕ) (y : Tally) (k : Kept) (heard : Shorts) (gs : List Gear) → ((c : ℕ) → InBlock k.block c → c < 64) → b < 64 → Holds gs i b
    → (gear_of gs i).random ≡ n → (n ≡ MASK24) ⊎ (n < MASK24) → IsCensus f y k heard gs
    → IsCensus f y k (if n == MASK24 then with_short heard b else without_short heard b) gs
census_told f b n i y k heard gs block small holds random numbered (inl first) = inl first
census_told f b n i y k heard gs block small holds random numbered (inr later) = go (n == MASK24) refl where
  go : (t : Bool) → (n == MASK24) ≡ t → IsCensus f y k (if t then with_short heard b else without_short heard b) gs
  go true mask = inr (later.0, taken_with k heard b small later.1)
  go false drew = inr (later.0, taken_without k heard b n i gs block small holds random (less numbered) later.0 later.1) where
    less : (n ≡ MASK24) ⊎ (n < MASK24) → n < MASK24
    less (inl mask) = absurd (let never : true ≡ false = sym (number_same n MASK24 mask) ∙ drew in cc)
    less (inr small) = small

-- what is marked once an answer was heard
census_marked : (a : ℕ) (t : Stage) (y : Tally) (k : Kept) (heard : Shorts) (h : Answer) (gs : List Gear) → a < 64 → AskedAt t a gs
    → ((b : ℕ) → InBlock k.block b → b < 64) → AreNumbered gs → IsCensus a y k heard gs → IsCensus a y k (marked_at t h heard) gs
census_marked a (stage.HighAsked b None) y k heard Silence gs small asked block numbered v = v
census_marked a (stage.HighAsked b None) y k heard (Byte u) gs small asked block numbered v = census_with a b y k heard gs (same_small a b asked.0 small) v
census_marked a (stage.HighAsked b None) y k heard Damaged gs small asked block numbered v = census_with a b y k heard gs (same_small a b asked.0 small) v
census_marked a (stage.HighAsked b (Some u)) y k heard h gs small asked block numbered v = census_with a b y k heard gs (same_small a b asked.0 small) v
census_marked a (stage.MiddleAsked b None) y k heard h gs small asked block numbered v = absurd asked
census_marked a (stage.MiddleAsked b (Some x)) y k heard h gs small asked block numbered v = census_with a b y k heard gs (same_small a b asked.0 small) v
census_marked a (stage.Spelled b None) y k heard h gs small asked block numbered v = absurd asked
census_marked a (stage.Spelled b (Some n)) y k heard h gs small asked block numbered v =
    census_told a b n asked.1.0 y k heard gs block (same_small a b asked.0 small) (subst (λ c. Holds gs asked.1.0 c) (sym asked.0) asked.1.1) (sym asked.1.2)
    (subst (λ m. (m ≡ MASK24) ⊎ (m < MASK24)) (sym asked.1.2) (numbered asked.1.0 asked.1.1.there)) v
census_marked a stage.Free y k heard h gs small asked block numbered v = v
census_marked a _ y k heard h gs small asked block numbered v = absurd asked

numbered_core : (gs hs : List Gear) → SameCore gs hs → AreNumbered gs → AreNumbered hs
numbered_core gs hs same numbered i there =
    let was : i < length gs = subst (λ n. i < n) same.same_length there in
    subst (λ m. (m ≡ MASK24) ⊎ (m < MASK24)) (sym (same.each i was).same_random) (numbered i was)

census_sent : (a : ℕ) (s : Stage) (k : Kept) (heard : Shorts) (c : Course) (gs : List Gear) (numbers : List ℕ) (d : Command) (h : Answer)
    → Census a s k heard c gs → IsAtHand k gs → AskedTo a s k heard gs numbers d h
    → Census a (next_stage s d h) k (marked_at (next_stage s d h) h heard) c (row_after Everyone d 0 gs numbers)
census_sent a s k heard c gs numbers d h v hand to = record {
  ask = to.0;
  from_is = v.from_is;
  census = census_marked a (next_stage s d h) c.tally k heard h (row_after Everyone d 0 gs numbers) v.ask.small to.0.asked hand.block
      (numbered_core gs (row_after Everyone d 0 gs numbers) to.1 hand.numbered)
      (census_core a c.tally k heard gs (row_after Everyone d 0 gs numbers) to.1 v.census);
}

-- ---------------------------------------------------------------- of whatever transaction

spent_left : (g : ℕ) (y : Tally) (k : Kept) (heard : Shorts) (d : Command) (gs : List Gear) (numbers : List ℕ) → LeavesNames d → IsSpent g y k heard gs
    → IsSpent g y k heard (row_after Everyone d 0 gs numbers)
spent_left g y k heard d gs numbers names (inl served) = inl (λ passed drew. served_left g d gs numbers (leaves_short d names) (served passed drew))
spent_left g y k heard d gs numbers names (inr filled) = inr filled

pub known_sent : (g : ℕ) (p : Purpose) (s : Stage) (k : Kept) (heard : Shorts) (c : Course) (silent : ℕ) (gs : List Gear) (numbers : List ℕ) (d : Command)
    (h : Answer) → At false g p s k heard c silent gs → KnownAt g p s k heard c gs → Sends k c.number p s d → Taken g d gs numbers h → IsAtHand k gs
    → Seeks s gs → KnownAt g p (next_stage s d h) k (heard_after p (next_stage s d h) h heard) c (row_after Everyone d 0 gs numbers)
known_sent g (Asking a) s k heard c silent gs numbers d h at known is t told seek =
    census_sent a s k heard c gs numbers d h known told (asks_of g a s k heard c gs numbers d h known is t told)
known_sent g Calling s k heard c silent gs numbers d h at known is t told seek =
    let leaves = (roll_of g s k c silent gs numbers d h at is t seek).leaves in
    ((known_after k s gs numbers d (inl (inl leaves)) seek known.0.0, known.0.1), spent_left g c.tally k heard d gs numbers leaves known.1)
known_sent g Drawing s k heard c silent gs numbers d h at known is t told seek =
    (known_after k s gs numbers d (inl (draw_of g s k c silent gs numbers d h at is t).does) seek known.0, known.1)
known_sent g Opening s k heard c silent gs numbers d h at known is t told seek =
    (known_after k s gs numbers d (inl (open_of g s k c silent gs numbers d h at is t).does) seek known.0, known.1)
known_sent g Hunting s k heard c silent gs numbers d h at known is t told seek =
    (known_after k s gs numbers d (does_by Hunting c.number s k gs d tt is) seek known.0, known.1)
known_sent g Visiting s k heard c silent gs numbers d h at known is t told seek =
    (known_after k s gs numbers d (does_by Visiting c.number s k gs d tt is) seek known.0, known.1)
known_sent g PassingOver s k heard c silent gs numbers d h at known is t told seek =
    (known_after k s gs numbers d (does_by PassingOver c.number s k gs d tt is) seek known.0, known.1)
known_sent g (Closing e) s k heard c silent gs numbers d h at known is t told seek =
    (known_after k s gs numbers d (does_by (Closing e) c.number s k gs d tt is) seek known.0, known.1)
known_sent g Probing s k heard c silent gs numbers d h at known is t told seek = absurd at
known_sent g (Resolving a) s k heard c silent gs numbers d h at known is t told seek = absurd at
