use Rattle.dali_progress.proofs.Below.{◌≡◌, ℕ, ◌<◌, ◌⊎◌, inl, inr, Bool, true, false, List, refl, sym, ap, subst, ◌∙◌, arith, Some, None, w64, ◌+◌, ◌-◌, ◌≤◌}
use Rattle.dali_progress.proofs.Below.{suc, length, Option, ◌==◌, if◌then◌else◌, nat_tests, bit_at_set_other, bit_at_clear_same, bit_at_clear_other, count_by}
use Rattle.dali_progress.proofs.Below.{unwrap_or, number_of, high_of, middle_of, low_of, MASK24, value_of, Answer, Silence, Byte, Damaged, SearchAddress}
use Rattle.dali_progress.proofs.Below.{Command, QueryShort, RandomByte, Terminate, Initialise, Randomise, Compare, SearchHigh, SearchMiddle, SearchLow, Part}
use Rattle.dali_progress.proofs.Below.{High, Middle, Low, Unaddressed, Gear, byte_at, row_after, answers_of, heard_of, draws_needed, drawn_of, Everyone}
use Rattle.dali_progress.proofs.Below.{Assignment, Kept, Has, CALLING, next_stage, Stage, has_map, middle_next, low_next, is_yes, call_turn, sought, turn_of}
use Rattle.dali_progress.proofs.Below.{marked_at, silent_after, has_short, with_short, without_short, Purpose, Asking, Calling, Drawing, Opening, Shorts}
use Rattle.dali_progress.proofs.Below.{HasShort, gear_of, is_bare, OfPowered, SameCore, LeavesShort, SeekHigh, SeekMiddle, AreOpening, number_same, same_number}
use Rattle.dali_progress.proofs.{Below.AreTabled, Stands.{some_is, Sends}, Frames.{Seeks, value_sought}, Survey.{Drawn.AreNumbered, Queried.{Holds, OneGear}}}
use Rattle.dali_progress.proofs.Survey.{Queried.{one_gear, Nobody, HasAnswered, asked_gear, holds_on, holds_back, IsAtHand}, Woken.{AreLow, IsByteLow}}
use Rattle.dali_progress.proofs.Survey.Woken.{bare_after, undrawn_after, undrawn_once, stays_initialised, all_short, called_answer, low_after, leaves_short}
use Rattle.dali_progress.proofs.{Survey.Woken.{low_sent, nobody_searched}, Tables.{LeavesNames, tabled_left, StandsStill}}
use Rattle.dali_script.specs.declared.stage.Stage.TheVariants as stage
use Rattle.dali_events.proofs.Search.Leaving as leaving
use Rattle.dali_events.proofs.Search.Opened as opening
use Rattle.dali_progress.proofs.Tables as tables

-- A SHORT ADDRESS IS ASKED for its random address, byte by byte: who told what was heard so far, and what is marked.

-- the gear that told what was heard so far
abbrev pub Tells : List Gear → ℕ → (ℕ → Type 0) → Type 0
Tells gs a P = (g : ℕ) × Holds gs g a × P (gear_of gs g).random

-- what is reserved is not marked, but the one that is asked, while some gear tells a number there
abbrev pub IsClear : Kept → Shorts → Type 0
IsClear k heard = (c q : ℕ) → Has k.reserved (c, q) → has_short heard c ≡ false

abbrev pub IsClearBut : Kept → Shorts → ℕ → Type 0
IsClearBut k heard a = (c q : ℕ) → Has k.reserved (c, q) → (c ≡ a → ⊥) → has_short heard c ≡ false

abbrev pub IsClearAt : Stage → ℕ → Kept → Shorts → Type 0
IsClearAt (stage.HighAsked b (Some v)) a k heard = IsClearBut k heard a
IsClearAt (stage.MiddleAsked b x) a k heard = IsClearBut k heard a
IsClearAt _ a k heard = IsClear k heard

-- the gear that told what was heard so far of the short address that is asked, or none
abbrev pub AskedAt : Stage → ℕ → List Gear → Type 0
AskedAt stage.Free a gs = Unit {0}
AskedAt (stage.HighAsked b None) a gs = (b ≡ a) × Nobody gs a
AskedAt (stage.HighAsked b (Some v)) a gs = (b ≡ a) × Tells gs a (λ r. v ≡ high_of r)
AskedAt (stage.MiddleAsked b (Some x)) a gs = (b ≡ a) × Tells gs a (λ r. (x.0 ≡ high_of r) × (x.1 ≡ middle_of r))
AskedAt (stage.Spelled b (Some n)) a gs = (b ≡ a) × Tells gs a (λ r. n ≡ r)
AskedAt _ a gs = ⊥

pub record IsAskedOf (a : ℕ) (s : Stage) (k : Kept) (heard : Shorts) (gs : List Gear) : Type 0 where
  pub small : a < 64
  pub asked : AskedAt s a gs
  pub clear : IsClearAt s a k heard

-- no search ends in it
quiet_by : (P : Stage → Type 0) → ((r : SearchAddress) → P (stage.Unanswered r) → ⊥)
    → ((r : SearchAddress) (o : Option ℕ) → P (stage.Inconclusive r o) → ⊥) → ((r : SearchAddress) (a : ℕ) → P (stage.Withdrawn r a) → ⊥)
    → (s : Stage) (opened : Bool) (silent : ℕ) → P s → silent_after s opened silent ≡ silent
quiet_by P one two three (stage.Unanswered r) opened silent at = absurd (one r at)
quiet_by P one two three (stage.Inconclusive r o) opened silent at = absurd (two r o at)
quiet_by P one two three (stage.Withdrawn r a) opened silent at = absurd (three r a at)
quiet_by P one two three _ opened silent at = refl

pub quiet_asked : (a : ℕ) (s : Stage) (gs : List Gear) (opened : Bool) (silent : ℕ) → AskedAt s a gs → silent_after s opened silent ≡ silent
quiet_asked a s gs opened silent asked = quiet_by (λ t. AskedAt t a gs) (λ r no. no) (λ r o no. no) (λ r b no. no) s opened silent asked

-- ---------------------------------------------------------------- marks

pub with_other : (s : Shorts) (b c : ℕ) → b < 64 → (c ≡ b → ⊥) → has_short (with_short s b) c ≡ has_short s c
with_other s b c small apart = ap (λ n. n == 1) (bit_at_set_other w64 s.bits b small c apart)

pub without_same : (s : Shorts) (b c : ℕ) → b < 64 → c ≡ b → has_short (without_short s b) c ≡ false
without_same s b c small same = subst (λ n. has_short (without_short s b) n ≡ false) (sym same) (ap (λ n. n == 1) (bit_at_clear_same w64 s.bits b small))

pub without_other : (s : Shorts) (b c : ℕ) → b < 64 → c < 64 → (c ≡ b → ⊥) → has_short (without_short s b) c ≡ has_short s c
without_other s b c small within apart = ap (λ n. n == 1) (bit_at_clear_other w64 s.bits b small c within apart)

pub clear_with : (k : Kept) (heard : Shorts) (b a : ℕ) → b ≡ a → a < 64 → IsClearBut k heard a → IsClearBut k (with_short heard b) a
clear_with k heard b a same small clear c q has apart =
    with_other heard b c (subst (λ n. n < 64) (sym same) small) (λ e. apart (e ∙ same)) ∙ clear c q has apart

-- ---------------------------------------------------------------- a question

-- what was heard of the one gear, or of none
pub heard_high : (a : ℕ) (part : Part) (gs : List Gear) (h : Answer) → OneGear gs → h ≡ heard_of (answers_of Everyone (RandomByte a part) 0 gs)
    → ((g : ℕ) × Holds gs g a × (h ≡ Byte (byte_at part (gear_of gs g).random))) ⊎ (Nobody gs a × (h ≡ Silence))
heard_high a part gs h one heard = go (asked_gear gs a part one) where
  go : HasAnswered gs a part → ((g : ℕ) × Holds gs g a × (h ≡ Byte (byte_at part (gear_of gs g).random))) ⊎ (Nobody gs a × (h ≡ Silence))
  go (inl (g, holds, answers)) = inl (g, holds, heard ∙ ap heard_of answers)
  go (inr (none, answers)) = inr (none, heard ∙ ap heard_of answers)

-- the gear that told, in the row afterwards
pub tells_on : (gs hs : List Gear) (a g : ℕ) (P : ℕ → Type 0) → SameCore gs hs → Holds gs g a → P (gear_of gs g).random → Tells hs a P
tells_on gs hs a g P same holds told = (g, holds_on gs hs g a same holds, subst P (sym (same.each g holds.there).same_random) told)

pub nobody_on : (gs hs : List Gear) (a : ℕ) → SameCore gs hs → Nobody gs a → Nobody hs a
nobody_on gs hs a same none g holds = none g (holds_back gs hs g a same holds)

-- a number was told: the mark goes, or it is FFFFFF, and the address is not reserved
pub told_clear : (a b n : ℕ) (k : Kept) (marks : Shorts) (gs : List Gear) (g : ℕ) → b ≡ a → a < 64 → IsAtHand k gs → Holds gs g a → n ≡ (gear_of gs g).random
    → IsClearBut k marks a → IsClear k (if n == MASK24 then with_short marks b else without_short marks b)
told_clear a b n k marks gs g same small told holds number clear c q has = go (n == MASK24) refl (c == a) refl where
  within : b < 64
  within = subst (λ m. m < 64) (sym same) small

  low : c < 64
  low = told.kept.reserved.short c (has_map (λ (x : Assignment). x.0) k.reserved (c, q) has)

  below : q < MASK24
  below = told.kept.reserved_drawn q (has_map (λ (x : Assignment). x.1) k.reserved (c, q) has)

  apart : (c == a) ≡ false → c ≡ a → ⊥
  apart other e = let at : (c == a) ≡ true = number_same c a e in let never : true ≡ false = sym at ∙ other in cc

  go : (t : Bool) → (n == MASK24) ≡ t → (u : Bool) → (c == a) ≡ u → has_short (if t then with_short marks b else without_short marks b) c ≡ false
  go false drew true at = without_same marks b c within (same_number c a at ∙ sym same)
  go false drew false other = without_other marks b c within low (λ e. apart other (e ∙ same)) ∙ clear c q has (apart other)
  go true mask false other = with_other marks b c within (λ e. apart other (e ∙ same)) ∙ clear c q has (apart other)
  go true mask true at =
      let random : (gear_of gs g).random ≡ q = told.owned c q g has holds.there (holds.short ∙ ap (λ m. Some m) (sym (same_number c a at))) in
      absurd (let top : n ≡ MASK24 = same_number n MASK24 mask in omega (arith, below, random, number, top))

abbrev pub AskedWith : ℕ → Stage → Kept → Shorts → List Gear → List ℕ → Command → Answer → Type 0
AskedWith a s k marks gs numbers c h = IsAskedOf a (next_stage s c h) k (marked_at (next_stage s c h) h marks) (row_after Everyone c 0 gs numbers)

first_asked : (a : ℕ) (k : Kept) (marks : Shorts) (gs : List Gear) (numbers : List ℕ) (h : Answer) → IsAskedOf a stage.Free k marks gs → OneGear gs
    → h ≡ heard_of (answers_of Everyone (RandomByte a High) 0 gs) → AskedWith a stage.Free k marks gs numbers (RandomByte a High) h
first_asked a k marks gs numbers h v one said = go (heard_high a High gs h one said) where
  same : SameCore gs (row_after Everyone (RandomByte a High) 0 gs numbers)
  same = leaving.core_after (RandomByte a High) gs numbers tt

  go : ((g : ℕ) × Holds gs g a × (h ≡ Byte (high_of (gear_of gs g).random))) ⊎ (Nobody gs a × (h ≡ Silence))
      → AskedWith a stage.Free k marks gs numbers (RandomByte a High) h
  go (inl (g, holds, byte)) = subst (λ b. AskedWith a stage.Free k marks gs numbers (RandomByte a High) b) (sym byte) (record {
    small = v.small;
    asked = (refl, tells_on gs _ a g (λ r. high_of (gear_of gs g).random ≡ high_of r) same holds refl);
    clear = clear_with k marks a a refl v.small (λ c q has apart. v.clear c q has);
  })
  go (inr (none, silent)) =
      subst (λ b. AskedWith a stage.Free k marks gs numbers (RandomByte a High) b) (sym silent)
      (record { small = v.small; asked = (refl, nobody_on gs _ a same none); clear = v.clear })

second_asked : (a b u : ℕ) (k : Kept) (marks : Shorts) (gs : List Gear) (numbers : List ℕ) (h : Answer) → IsAskedOf a (stage.HighAsked b (Some u)) k marks gs
    → OneGear gs → h ≡ heard_of (answers_of Everyone (RandomByte b Middle) 0 gs)
    → AskedWith a (stage.HighAsked b (Some u)) k marks gs numbers (RandomByte b Middle) h
second_asked a b u k marks gs numbers h v one said =
    go (heard_high a Middle gs h one (subst (λ d. h ≡ heard_of (answers_of Everyone (RandomByte d Middle) 0 gs)) v.asked.0 said)) where
      go : ((g : ℕ) × Holds gs g a × (h ≡ Byte (middle_of (gear_of gs g).random))) ⊎ (Nobody gs a × (h ≡ Silence))
          → AskedWith a (stage.HighAsked b (Some u)) k marks gs numbers (RandomByte b Middle) h
      go (inr (none, silent)) = absurd (none v.asked.1.0 v.asked.1.1)
      go (inl (g, holds, byte)) =
          let at : g ≡ v.asked.1.0 = one g v.asked.1.0 a holds v.asked.1.1 in
          let high : u ≡ high_of (gear_of gs g).random = v.asked.1.2 ∙ ap (λ i. high_of (gear_of gs i).random) (sym at) in
          let there : next_stage (stage.HighAsked b (Some u)) (RandomByte b Middle) h ≡ stage.MiddleAsked b (Some (u, middle_of (gear_of gs g).random)) =
          rw byte (middle_next b (Some u) (Byte (middle_of (gear_of gs g).random))) in
          rw there (record {
            small = v.small;
            asked = (
              v.asked.0,
              tells_on gs _ a g (λ r. (u ≡ high_of r) × (middle_of (gear_of gs g).random ≡ middle_of r))
                  (leaving.core_after (RandomByte b Middle) gs numbers tt) holds (high, refl),
            );
            clear = clear_with k marks b a v.asked.0 v.small v.clear;
          })

-- a number is its three bytes
whole_number : (r high middle low : ℕ) → high_of r ≡ high → middle_of r ≡ middle → low_of r ≡ low → r ≡ number_of high middle low
whole_number r high middle low one two three = omega arith

third_asked : (a b : ℕ) (x : ℕ × ℕ) (k : Kept) (marks : Shorts) (gs : List Gear) (numbers : List ℕ) (h : Answer)
    → IsAskedOf a (stage.MiddleAsked b (Some x)) k marks gs → IsAtHand k gs → h ≡ heard_of (answers_of Everyone (RandomByte b Low) 0 gs)
    → AskedWith a (stage.MiddleAsked b (Some x)) k marks gs numbers (RandomByte b Low) h
third_asked a b x k marks gs numbers h v hand said =
    go (heard_high a Low gs h (one_gear gs hand.one) (subst (λ d. h ≡ heard_of (answers_of Everyone (RandomByte d Low) 0 gs)) v.asked.0 said)) where
      go : ((g : ℕ) × Holds gs g a × (h ≡ Byte (low_of (gear_of gs g).random))) ⊎ (Nobody gs a × (h ≡ Silence))
          → AskedWith a (stage.MiddleAsked b (Some x)) k marks gs numbers (RandomByte b Low) h
      go (inr (none, silent)) = absurd (none v.asked.1.0 v.asked.1.1)
      go (inl (g, holds, byte)) =
          let at : g ≡ v.asked.1.0 = one_gear gs hand.one g v.asked.1.0 a holds v.asked.1.1 in
          let high : x.0 ≡ high_of (gear_of gs g).random = v.asked.1.2.0 ∙ ap (λ i. high_of (gear_of gs i).random) (sym at) in
          let middle : x.1 ≡ middle_of (gear_of gs g).random = v.asked.1.2.1 ∙ ap (λ i. middle_of (gear_of gs i).random) (sym at) in
          let number : number_of x.0 x.1 (low_of (gear_of gs g).random) ≡ (gear_of gs g).random =
          sym (whole_number (gear_of gs g).random x.0 x.1 (low_of (gear_of gs g).random) (sym high) (sym middle) refl) in
          let there : next_stage (stage.MiddleAsked b (Some x)) (RandomByte b Low) h ≡ stage.Spelled b (Some (gear_of gs g).random) =
          rw byte (low_next b (Some x) (Byte (low_of (gear_of gs g).random)) ∙ ap (λ n. stage.Spelled b (Some n)) number) in
          rw there (record {
            small = v.small;
            asked = (v.asked.0, tells_on gs _ a g (λ r. (gear_of gs g).random ≡ r) (leaving.core_after (RandomByte b Low) gs numbers tt) holds refl);
            clear = told_clear a b (gear_of gs g).random k marks gs g v.asked.0 v.small hand holds refl v.clear;
          })

-- and gear stay as they are, but for what they seek
abbrev pub AskedTo : ℕ → Stage → Kept → Shorts → List Gear → List ℕ → Command → Answer → Type 0
AskedTo a s k marks gs numbers c h = AskedWith a s k marks gs numbers c h × SameCore gs (row_after Everyone c 0 gs numbers)

pub asked_sent : (a : ℕ) (s : Stage) (k : Kept) (marks : Shorts) (n : SearchAddress) (gs : List Gear) (numbers : List ℕ) (c : Command) (h : Answer)
    → IsAskedOf a s k marks gs → Sends (Asking a) n k s c → IsAtHand k gs → ((c ≡ QueryShort → ⊥) → h ≡ heard_of (answers_of Everyone c 0 gs))
    → AskedTo a s k marks gs numbers c h
asked_sent a stage.Free k marks n gs numbers c h v is hand said =
    subst (λ d. ((d ≡ QueryShort → ⊥) → h ≡ heard_of (answers_of Everyone d 0 gs)) → AskedTo a stage.Free k marks gs numbers d h) (sym is) (λ now. (
      first_asked a k marks gs numbers h v (one_gear gs hand.one) (now (λ e. (let never : RandomByte a High ≡ QueryShort = e in cc))),
      leaving.core_after (RandomByte a High) gs numbers tt,
    )) said
asked_sent a (stage.HighAsked b (Some u)) k marks n gs numbers c h v is hand said =
    subst (λ d. ((d ≡ QueryShort → ⊥) → h ≡ heard_of (answers_of Everyone d 0 gs)) → AskedTo a (stage.HighAsked b (Some u)) k marks gs numbers d h)
    (some_is (RandomByte b Middle) c is) (λ now. (
      second_asked a b u k marks gs numbers h v (one_gear gs hand.one) (now (λ e. (let never : RandomByte b Middle ≡ QueryShort = e in cc))),
      leaving.core_after (RandomByte b Middle) gs numbers tt,
    )) said
asked_sent a (stage.HighAsked b None) k marks n gs numbers c h v is hand said = absurd (cc)
asked_sent a (stage.MiddleAsked b (Some x)) k marks n gs numbers c h v is hand said =
    subst (λ d. ((d ≡ QueryShort → ⊥) → h ≡ heard_of (answers_of Everyone d 0 gs)) → AskedTo a (stage.MiddleAsked b (Some x)) k marks gs numbers d h)
    (some_is (RandomByte b Low) c is) (λ now. (
      third_asked a b x k marks gs numbers h v hand (now (λ e. (let never : RandomByte b Low ≡ QueryShort = e in cc))),
      leaving.core_after (RandomByte b Low) gs numbers tt,
    )) said
asked_sent a (stage.MiddleAsked b None) k marks n gs numbers c h v is hand said = absurd v.asked
asked_sent a (stage.Spelled b (Some m)) k marks n gs numbers c h v is hand said = absurd (cc)
asked_sent a _ k marks n gs numbers c h v is hand said = absurd v.asked

-- A ROLL CALL, and what follows it: gear draw. What is true of gear and of what was heard, whichever gear is misheard at QUERY SHORT
-- ADDRESS, which is sent in neither.

-- from INITIALISE on, what is true of each gear before it draws
abbrev pub woken_at : Stage → Stage
woken_at (stage.WokenHigh high) = stage.Initialised
woken_at (stage.WokenLow high low) = stage.Initialised
woken_at (stage.WokenMiddle high middle) = stage.Initialised
woken_at stage.DrawFree = stage.Initialised
woken_at (stage.Hunted r last left) = stage.Initialised
woken_at s = s

-- ---------------------------------------------------------------- the roll call

-- no gear answers only if none is without short address
abbrev pub IsCalledBy : Answer → ℕ → List Gear → Type 0
IsCalledBy h left gs = ((is_yes h ≡ false) × (count_by is_bare gs ≡ 0) × (left < 2)) ⊎ ((is_yes h ≡ true) × (0 < count_by is_bare gs) × (left ≡ 1))

abbrev pub CallStage : Stage → SearchAddress → List Gear → Type 0
CallStage stage.Free n gs = Unit {0}
CallStage stage.Terminated n gs = Unit {0}
CallStage stage.InitialisedOnce n gs = Unit {0}
CallStage stage.Initialised n gs = Unit {0}
CallStage (stage.WokenHigh high) n gs = n.high ≡ high
CallStage (stage.WokenLow high low) n gs = (n.high ≡ high) × (n.low ≡ low)
CallStage (stage.Hunted r None left) n gs = (r ≡ n) × (left ≡ 2)
CallStage (stage.Hunted r (Some h) left) n gs = (r ≡ n) × IsCalledBy h left gs
CallStage _ n gs = ⊥

-- once the low byte was sent
abbrev pub IsLowAt : Stage → List Gear → Type 0
IsLowAt (stage.WokenLow high low) gs = AreLow gs
IsLowAt (stage.Hunted r last left) gs = AreLow gs
IsLowAt _ gs = Unit {0}

-- so many of its frames were sent
abbrev pub call_sent : Stage → ℕ
call_sent stage.Terminated = 1
call_sent stage.InitialisedOnce = 2
call_sent stage.Initialised = 3
call_sent (stage.WokenHigh high) = 4
call_sent (stage.WokenLow high low) = 5
call_sent (stage.Hunted r last left) = 8 - left
call_sent _ = 0

pub record IsRollCall (s : Stage) (n : SearchAddress) (gs : List Gear) : Type 0 where
  pub number : n ≡ sought MASK24
  pub stage_is : CallStage s n gs
  pub gear : AreOpening (woken_at s) gs
  pub low : IsLowAt s gs

-- no search ends in it
pub quiet_roll : (s : Stage) (n : SearchAddress) (gs : List Gear) (opened : Bool) (silent : ℕ) → IsRollCall s n gs → silent_after s opened silent ≡ silent
quiet_roll s n gs opened silent v = quiet_by (λ t. CallStage t n gs) (λ r no. no) (λ r o no. no) (λ r b no. no) s opened silent v.stage_is

pub called_short : (h : Answer) (left : ℕ) (gs : List Gear) → IsCalledBy h left gs → is_yes h ≡ false → OfPowered gs HasShort
called_short h left gs (inl none) silent = all_short gs none.1
called_short h left gs (inr some) silent = absurd (let both : true ≡ false = sym some.0 ∙ silent in cc)

pub roll_first : (gs : List Gear) → IsRollCall stage.Free (sought MASK24) gs
roll_first gs = record { number = refl; stage_is = tt; gear = λ k in_row on. tt; low = tt }

-- ---------------------------------------------------------------- gear draw

-- at an opening whichever number they have; else only if no gear is to be searched, since none has drawn
abbrev pub DrawStage : Purpose → Stage → SearchAddress → List Gear → Type 0
DrawStage p stage.Free n gs = Unit {0}
DrawStage p stage.Terminated n gs = Unit {0}
DrawStage p stage.InitialisedOnce n gs = Unit {0}
DrawStage p stage.Initialised n gs = Unit {0}
DrawStage Drawing (stage.WokenHigh high) n gs = (n.high ≡ high) × SeekHigh gs high
DrawStage Drawing (stage.WokenMiddle high middle) n gs = (n.high ≡ high) × (n.middle ≡ middle) × SeekMiddle gs high middle
DrawStage Drawing stage.DrawFree n gs = Unit {0}
DrawStage p stage.RandomisedOnce n gs = Unit {0}
DrawStage p stage.Opened n gs = Unit {0}
DrawStage p _ n gs = ⊥

-- so many frames of it are still to be sent
abbrev pub draw_left : Stage → ℕ
draw_left stage.Free = 8
draw_left stage.Terminated = 7
draw_left stage.InitialisedOnce = 6
draw_left stage.Initialised = 5
draw_left (stage.WokenHigh high) = 4
draw_left (stage.WokenMiddle high middle) = 3
draw_left stage.DrawFree = 2
draw_left stage.RandomisedOnce = 1
draw_left _ = 0

-- gear with power and without short address have no number yet
abbrev pub NoneDrawn : List Gear → Type 0
NoneDrawn gs = OfPowered gs (λ g. g.short ≡ None → g.random ≡ MASK24)

abbrev pub IsDrawnBy : Purpose → Stage → SearchAddress → List Gear → Type 0
IsDrawnBy Drawing stage.DrawFree n gs = NoneDrawn gs
IsDrawnBy Drawing stage.RandomisedOnce n gs = NoneDrawn gs
IsDrawnBy Drawing stage.Opened n gs = Unit {0}
IsDrawnBy Drawing s n gs = NoneDrawn gs × (n ≡ sought 0xFFFEFE)
IsDrawnBy p s n gs = Unit {0}

abbrev pub IsDraws : Purpose → Type 0
IsDraws Opening = Unit {0}
IsDraws Drawing = Unit {0}
IsDraws _ = ⊥

pub record IsDraw (p : Purpose) (s : Stage) (n : SearchAddress) (gs : List Gear) : Type 0 where
  pub stage_is : DrawStage p s n gs
  pub drawn : IsDrawnBy p s n gs
  pub gear : AreOpening (woken_at s) gs
  pub low : AreLow gs

pub quiet_draw : (p : Purpose) (s : Stage) (n : SearchAddress) (gs : List Gear) (opened : Bool) (silent : ℕ) → IsDraws p → IsDraw p s n gs
    → silent_after s opened silent ≡ silent
quiet_draw Opening s n gs opened silent is v = quiet_by (λ t. DrawStage Opening t n gs) (λ r no. no) (λ r o no. no) (λ r b no. no) s opened silent v.stage_is
quiet_draw Drawing s n gs opened silent is v = quiet_by (λ t. DrawStage Drawing t n gs) (λ r no. no) (λ r o no. no) (λ r b no. no) s opened silent v.stage_is
quiet_draw _ s n gs opened silent is v = absurd is

-- ---------------------------------------------------------------- what is known when a frame is sent

-- what was heard of it, and the numbers that gear drew
pub record IsTakenBut (c : Command) (gs : List Gear) (numbers : List ℕ) (h : Answer) : Type 0 where
  pub heard : (c ≡ QueryShort → ⊥) → h ≡ heard_of (answers_of Everyone c 0 gs)
  pub enough : draws_needed Everyone c 0 gs ≤ length numbers
  pub below : (x : ℕ × ℕ) → Has (drawn_of Everyone c 0 gs numbers) x → x.1 < MASK24
  pub numbered : AreNumbered gs

-- ---------------------------------------------------------------- when nothing more is sent

-- a roll call is over once no gear answered twice, or some answered
pub roll_over : (s : Stage) (n : SearchAddress) (gs : List Gear) → IsRollCall s n gs → turn_of Calling n s ≡ None → (s ≡ stage.Free → ⊥)
    → (r : SearchAddress) × (h : Answer) × (room : ℕ) × (s ≡ stage.Hunted r (Some h) room) × (call_turn (Some h) room ≡ None)
roll_over stage.Free n gs v over running = absurd (running refl)
roll_over stage.Terminated n gs v over running = absurd (cc)
roll_over stage.InitialisedOnce n gs v over running = absurd (cc)
roll_over stage.Initialised n gs v over running = absurd (cc)
roll_over (stage.WokenHigh high) n gs v over running = absurd (cc)
roll_over (stage.WokenLow high low) n gs v over running = absurd (cc)
roll_over (stage.Hunted r None room) n gs v over running = absurd (cc)
roll_over (stage.Hunted r (Some h) room) n gs v over running = (r, h, room, refl, over)
roll_over _ n gs v over running = absurd v.stage_is

-- and a draw once gear have drawn
pub draw_over : (p : Purpose) (s : Stage) (n : SearchAddress) (gs : List Gear) → IsDraws p → IsDraw p s n gs → turn_of p n s ≡ None → (s ≡ stage.Free → ⊥)
    → s ≡ stage.Opened
draw_over p stage.Free n gs is v over running = absurd (running refl)
draw_over p stage.Opened n gs is v over running = refl
draw_over Opening stage.Terminated n gs is v over running = absurd (cc)
draw_over Opening stage.InitialisedOnce n gs is v over running = absurd (cc)
draw_over Opening stage.Initialised n gs is v over running = absurd (cc)
draw_over Opening stage.RandomisedOnce n gs is v over running = absurd (cc)
draw_over Opening _ n gs is v over running = absurd v.stage_is
draw_over Drawing stage.Terminated n gs is v over running = absurd (cc)
draw_over Drawing stage.InitialisedOnce n gs is v over running = absurd (cc)
draw_over Drawing stage.Initialised n gs is v over running = absurd (cc)
draw_over Drawing (stage.WokenHigh high) n gs is v over running = absurd (cc)
draw_over Drawing (stage.WokenMiddle high middle) n gs is v over running = absurd (cc)
draw_over Drawing stage.DrawFree n gs is v over running = absurd (cc)
draw_over Drawing stage.RandomisedOnce n gs is v over running = absurd (cc)
draw_over Drawing _ n gs is v over running = absurd v.stage_is
draw_over _ s n gs is v over running = absurd is

-- ---------------------------------------------------------------- a frame of a roll call

-- it leaves numbers and short addresses, and is one frame more
pub record RollsTo (s t : Stage) (n : SearchAddress) (d : Command) (hs : List Gear) : Type 0 where
  pub leaves : LeavesNames d
  pub one : call_sent t ≡ call_sent s + 1
  pub few : call_sent s < 8
  pub roll : IsRollCall t n hs

abbrev pub RollSent : Stage → SearchAddress → List Gear → List ℕ → Command → Answer → Type 0
RollSent s n gs numbers d h = RollsTo s (next_stage s d h) n d (row_after Everyone d 0 gs numbers)

roll_on : (s t : Stage) (n : SearchAddress) (gs hs : List Gear) (d : Command) → IsRollCall s n gs → LeavesNames d → CallStage t n hs
    → AreOpening (woken_at t) hs → IsLowAt t hs → call_sent t ≡ call_sent s + 1 → call_sent s < 8 → RollsTo s t n d hs
roll_on s t n gs hs d v leaves stage gear low one few =
    record { leaves = leaves; one = one; few = few; roll = record { number = v.number; stage_is = stage; gear = gear; low = low } }

pub compare_next : (r : SearchAddress) (last : Option Answer) (left : ℕ) (h : Answer) → 0 < left
    → next_stage (stage.Hunted r last left) Compare h ≡ stage.Hunted r (Some h) (left - 1)
compare_next r last left h some =
    ap (λ b. unwrap_or (if b then None else Some (stage.Hunted r (Some h) (left - 1))) stage.Over) (test left some) where
      test : (n : ℕ) → 0 < n → (n == 0) ≡ false
      test n less = grind (arith, nat_tests, less)

-- COMPARE, the first time or once more
compared : (r : SearchAddress) (last : Option Answer) (room : ℕ) (n : SearchAddress) (gs : List Gear) (numbers : List ℕ) (h : Answer)
    → IsRollCall (stage.Hunted r last room) n gs → r ≡ n → 0 < room → room ≤ 2 → (0 < count_by is_bare gs → room ≡ 2) → IsTakenBut Compare gs numbers h
    → Seeks (stage.Hunted r last room) gs → RollSent (stage.Hunted r last room) n gs numbers Compare h
compared r last room n gs numbers h v same some few full t seek =
    rw (compare_next r last room h some) (roll_on (stage.Hunted r last room) (stage.Hunted r (Some h) (room - 1)) n gs
    (row_after Everyone Compare 0 gs numbers) Compare v tt (same, answered) (stays_initialised Compare gs numbers tt gear)
    (low_after Compare gs numbers tt low) (omega (arith, some, few)) (omega (arith, some)))
  where
    gear : AreOpening stage.Initialised gs
    gear = v.gear

    low : AreLow gs
    low = v.low

    top : value_of r ≡ MASK24
    top = ap value_of (same ∙ v.number) ∙ value_sought MASK24

    heard : h ≡ heard_of (answers_of Everyone Compare 0 gs)
    heard = t.heard (λ e. (let never : Compare ≡ QueryShort = e in cc))

    answered : IsCalledBy h (room - 1) (row_after Everyone Compare 0 gs numbers)
    answered = go (called_answer gs r h gear t.numbered (seek r refl) top heard) where
      go : ((is_yes h ≡ false) × (count_by is_bare gs ≡ 0)) ⊎ ((is_yes h ≡ true) × (0 < count_by is_bare gs))
          → IsCalledBy h (room - 1) (row_after Everyone Compare 0 gs numbers)
      go (inl none) = inl (none.0, bare_after Compare gs numbers tt ∙ none.1, omega (arith, few))
      go (inr loud) =
          let two : room ≡ 2 = full loud.1 in
          inr (loud.0, subst (λ m. 0 < m) (sym (bare_after Compare gs numbers tt)) loud.1, omega (arith, two))

again_is : (h : Answer) (left : ℕ) (d : Command) → call_turn (Some h) left ≡ Some d → (h ≡ Silence) × (left ≡ 1) × (d ≡ Compare)
again_is Silence left d is = go (left == 1) refl is where
  go : (b : Bool) → (left == 1) ≡ b → (if b then Some Compare else None) ≡ Some d → (Silence ≡ Silence) × (left ≡ 1) × (d ≡ Compare)
  go true e is = (refl, same_number left 1 e, cc)
  go false e is = absurd (cc)
again_is (Byte v) left d is = absurd (cc)
again_is Damaged left d is = absurd (cc)

pub roll_sent : (s : Stage) (n : SearchAddress) (k : Kept) (gs : List Gear) (numbers : List ℕ) (d : Command) (h : Answer) → IsRollCall s n gs
    → Sends Calling n k s d → IsTakenBut d gs numbers h → Seeks s gs → RollSent s n gs numbers d h
roll_sent stage.Free n k gs numbers d h v is t seek =
    subst (λ e. RollSent stage.Free n gs numbers e h) (sym is)
    (roll_on stage.Free stage.Terminated n gs _ Terminate v tt tt (opening.opening_terminated gs numbers) tt (omega arith) (omega arith))
roll_sent stage.Terminated n k gs numbers d h v is t seek =
    subst (λ e. RollSent stage.Terminated n gs numbers e h) (some_is (Initialise Unaddressed) d is)
    (roll_on stage.Terminated stage.InitialisedOnce n gs _ (Initialise Unaddressed) v tt tt (opening.opening_initialised_once gs numbers v.gear) tt
    (omega arith) (omega arith))
roll_sent stage.InitialisedOnce n k gs numbers d h v is t seek =
    subst (λ e. RollSent stage.InitialisedOnce n gs numbers e h) (some_is (Initialise Unaddressed) d is)
    (roll_on stage.InitialisedOnce stage.Initialised n gs _ (Initialise Unaddressed) v tt tt (opening.opening_initialised gs numbers v.gear) tt
    (omega arith) (omega arith))
roll_sent stage.Initialised n k gs numbers d h v is t seek =
    subst (λ e. RollSent stage.Initialised n gs numbers e h) (some_is (SearchHigh n.high) d is)
    (roll_on stage.Initialised (stage.WokenHigh n.high) n gs _ (SearchHigh n.high) v tt refl (stays_initialised (SearchHigh n.high) gs numbers tt v.gear) tt
    (omega arith) (omega arith))
roll_sent (stage.WokenHigh high) n k gs numbers d h v is t seek =
    subst (λ e. RollSent (stage.WokenHigh high) n gs numbers e h) (some_is (SearchLow n.low) d is)
    (roll_on (stage.WokenHigh high) (stage.WokenLow high n.low) n gs _ (SearchLow n.low) v tt (v.stage_is, refl)
    (stays_initialised (SearchLow n.low) gs numbers tt v.gear)
    (low_sent n.low gs numbers (subst (λ (m : SearchAddress). m.low < 256) (sym v.number) (omega arith)) v.gear) (omega arith) (omega arith))
roll_sent (stage.WokenLow high low) n k gs numbers d h v is t seek =
    subst (λ e. RollSent (stage.WokenLow high low) n gs numbers e h) (some_is (SearchMiddle n.middle) d is)
    (roll_on (stage.WokenLow high low) (stage.Hunted (record { high = high; middle = n.middle; low = low }) None CALLING) n gs _
    (SearchMiddle n.middle) v tt (whole, refl) (stays_initialised (SearchMiddle n.middle) gs numbers tt v.gear)
    (low_after (SearchMiddle n.middle) gs numbers tt v.low) (omega arith) (omega arith))
  where
    whole : record { high = high; middle = n.middle; low = low } ≡ n
    whole =
        ap (λ x. record { high = x; middle = n.middle; low = low }) (sym v.stage_is.0)
        ∙ ap (λ x. record { high = n.high; middle = n.middle; low = x }) (sym v.stage_is.1)
roll_sent (stage.Hunted r None room) n k gs numbers d h v is t seek =
    subst (λ e. IsTakenBut e gs numbers h → RollSent (stage.Hunted r None room) n gs numbers e h) (some_is Compare d is)
    (λ now. compared r None room n gs numbers h v v.stage_is.0 (let two : room ≡ 2 = v.stage_is.1 in omega (arith, two))
    (let two : room ≡ 2 = v.stage_is.1 in omega (arith, two)) (λ some. v.stage_is.1) now seek) t
roll_sent (stage.Hunted r (Some g) room) n k gs numbers d h v is t seek = go (again_is g room d is) v.stage_is.1 where
  go : (g ≡ Silence) × (room ≡ 1) × (d ≡ Compare) → IsCalledBy g room gs → RollSent (stage.Hunted r (Some g) room) n gs numbers d h
  go again (inr said) = absurd (let silent : is_yes g ≡ false = ap is_yes again.0 in let both : true ≡ false = sym said.0 ∙ silent in cc)
  go again (inl none) =
      let one : room ≡ 1 = again.1 in
      let nobody : count_by is_bare gs ≡ 0 = none.1 in
      subst (λ e. IsTakenBut e gs numbers h → RollSent (stage.Hunted r (Some g) room) n gs numbers e h) (sym again.2)
      (λ now. compared r (Some g) room n gs numbers h v v.stage_is.0 (omega (arith, one)) (omega (arith, one))
      (λ some. absurd (omega (arith, some, nobody))) now seek) t
roll_sent _ n k gs numbers d h v is t seek = absurd v.stage_is

-- ---------------------------------------------------------------- a frame of a draw

-- it leaves numbers and short addresses, or gear that have no short address draw
abbrev pub DrawsBy : Command → List Gear → Type 0
DrawsBy d gs = LeavesNames d ⊎ ((d ≡ Randomise) × (AreOpening stage.Initialised gs ⊎ AreOpening stage.RandomisedOnce gs))

pub draws_short : (d : Command) (gs : List Gear) → DrawsBy d gs → LeavesShort d
draws_short d gs (inl leaves) = leaves_short d leaves
draws_short d gs (inr draws) = subst LeavesShort (sym draws.0) tt

pub draws_tabled : (before : List Gear) (xs : List Assignment) (gs : List Gear) (numbers : List ℕ) (d : Command) → DrawsBy d gs → AreTabled before xs gs
    → AreTabled before xs (row_after Everyone d 0 gs numbers)
draws_tabled before xs gs numbers d (inl leaves) tabled = tabled_left before xs gs numbers d leaves tabled
draws_tabled before xs gs numbers d (inr draws) tabled =
    subst (λ e. AreTabled before xs (row_after Everyone e 0 gs numbers)) (sym draws.0) (tables.tabled_drawn before xs gs numbers (still draws.1) tabled) where
      still : AreOpening stage.Initialised gs ⊎ AreOpening stage.RandomisedOnce gs → OfPowered gs StandsStill
      still (inl once) = tables.still_once gs once
      still (inr twice) = tables.still_twice gs twice

-- and if some gear is to be searched it is one frame less
pub record DrawsTo (p : Purpose) (s t : Stage) (n : SearchAddress) (d : Command) (gs hs : List Gear) : Type 0 where
  pub does : DrawsBy d gs
  pub one : p ≡ Drawing → draw_left s ≡ suc (draw_left t)
  pub draw : IsDraw p t n hs

abbrev pub DrawSent : Purpose → Stage → SearchAddress → List Gear → List ℕ → Command → Answer → Type 0
DrawSent p s n gs numbers d h = DrawsTo p s (next_stage s d h) n d gs (row_after Everyone d 0 gs numbers)

draw_on : (p : Purpose) (s t : Stage) (n : SearchAddress) (gs : List Gear) (numbers : List ℕ) (d : Command) → IsDraw p s n gs → DrawsBy d gs → IsByteLow d
    → DrawStage p t n (row_after Everyone d 0 gs numbers) → IsDrawnBy p t n (row_after Everyone d 0 gs numbers)
    → AreOpening (woken_at t) (row_after Everyone d 0 gs numbers) → (p ≡ Drawing → draw_left s ≡ suc (draw_left t))
    → DrawsTo p s t n d gs (row_after Everyone d 0 gs numbers)
draw_on p s t n gs numbers d v does byte stage drawn gear one =
    record { does = does; one = one; draw = record { stage_is = stage; drawn = drawn; gear = gear; low = low_after d gs numbers byte v.low } }

-- an opening that no gear is searched before
pub open_sent : (s : Stage) (n : SearchAddress) (k : Kept) (gs : List Gear) (numbers : List ℕ) (d : Command) (h : Answer) → IsDraw Opening s n gs
    → Sends Opening n k s d → IsTakenBut d gs numbers h → DrawSent Opening s n gs numbers d h
open_sent stage.Free n k gs numbers d h v is t =
    subst (λ e. DrawSent Opening stage.Free n gs numbers e h) (sym is)
    (draw_on Opening stage.Free stage.Terminated n gs numbers Terminate v (inl tt) tt tt tt (opening.opening_terminated gs numbers) (λ e. refl))
open_sent stage.Terminated n k gs numbers d h v is t =
    subst (λ e. DrawSent Opening stage.Terminated n gs numbers e h) (some_is (Initialise Unaddressed) d is)
    (draw_on Opening stage.Terminated stage.InitialisedOnce n gs numbers (Initialise Unaddressed) v (inl tt) tt tt tt
    (opening.opening_initialised_once gs numbers v.gear) (λ e. refl))
open_sent stage.InitialisedOnce n k gs numbers d h v is t =
    subst (λ e. DrawSent Opening stage.InitialisedOnce n gs numbers e h) (some_is (Initialise Unaddressed) d is)
    (draw_on Opening stage.InitialisedOnce stage.Initialised n gs numbers (Initialise Unaddressed) v (inl tt) tt tt tt
    (opening.opening_initialised gs numbers v.gear) (λ e. refl))
open_sent stage.Initialised n k gs numbers d h v is t =
    subst (λ e. DrawSent Opening stage.Initialised n gs numbers e h) (some_is Randomise d is)
    (draw_on Opening stage.Initialised stage.RandomisedOnce n gs numbers Randomise v (inr (refl, inl v.gear)) tt tt tt
    (opening.opening_randomised_once gs numbers v.gear) (λ e. absurd (let never : Opening ≡ Drawing = e in cc)))
open_sent stage.RandomisedOnce n k gs numbers d h v is t =
    subst (λ e. IsTakenBut e gs numbers h → DrawSent Opening stage.RandomisedOnce n gs numbers e h) (some_is Randomise d is)
    (λ now. draw_on Opening stage.RandomisedOnce stage.Opened n gs numbers Randomise v (inr (refl, inr v.gear)) tt tt tt
    (opening.opening_opened gs numbers now.enough now.below v.gear) (λ e. refl)) t
open_sent stage.Opened n k gs numbers d h v is t = absurd (cc)
open_sent _ n k gs numbers d h v is t = absurd v.stage_is

pub draw_sent : (s : Stage) (n : SearchAddress) (k : Kept) (gs : List Gear) (numbers : List ℕ) (d : Command) (h : Answer) → IsDraw Drawing s n gs
    → Sends Drawing n k s d → IsTakenBut d gs numbers h → DrawSent Drawing s n gs numbers d h
draw_sent stage.Free n k gs numbers d h v is t =
    subst (λ e. DrawSent Drawing stage.Free n gs numbers e h) (sym is)
    (draw_on Drawing stage.Free stage.Terminated n gs numbers Terminate v (inl tt) tt tt (undrawn_after Terminate gs numbers tt v.drawn.0, v.drawn.1)
    (opening.opening_terminated gs numbers) (λ e. refl))
draw_sent stage.Terminated n k gs numbers d h v is t =
    subst (λ e. DrawSent Drawing stage.Terminated n gs numbers e h) (some_is (Initialise Unaddressed) d is)
    (draw_on Drawing stage.Terminated stage.InitialisedOnce n gs numbers (Initialise Unaddressed) v (inl tt) tt tt
    (undrawn_after (Initialise Unaddressed) gs numbers tt v.drawn.0, v.drawn.1) (opening.opening_initialised_once gs numbers v.gear) (λ e. refl))
draw_sent stage.InitialisedOnce n k gs numbers d h v is t =
    subst (λ e. DrawSent Drawing stage.InitialisedOnce n gs numbers e h) (some_is (Initialise Unaddressed) d is)
    (draw_on Drawing stage.InitialisedOnce stage.Initialised n gs numbers (Initialise Unaddressed) v (inl tt) tt tt
    (undrawn_after (Initialise Unaddressed) gs numbers tt v.drawn.0, v.drawn.1) (opening.opening_initialised gs numbers v.gear) (λ e. refl))
draw_sent stage.Initialised n k gs numbers d h v is t =
    subst (λ e. DrawSent Drawing stage.Initialised n gs numbers e h) (some_is (SearchHigh n.high) d is)
    (draw_on Drawing stage.Initialised (stage.WokenHigh n.high) n gs numbers (SearchHigh n.high) v (inl tt) tt (refl, leaving.seek_high gs numbers n.high)
    (undrawn_after (SearchHigh n.high) gs numbers tt v.drawn.0, v.drawn.1) (stays_initialised (SearchHigh n.high) gs numbers tt v.gear) (λ e. refl))
draw_sent (stage.WokenHigh high) n k gs numbers d h v is t =
    subst (λ e. DrawSent Drawing (stage.WokenHigh high) n gs numbers e h) (some_is (SearchMiddle n.middle) d is)
    (draw_on Drawing (stage.WokenHigh high) (stage.WokenMiddle high n.middle) n gs numbers (SearchMiddle n.middle) v (inl tt) tt
    (v.stage_is.0, refl, leaving.seek_middle gs numbers high n.middle v.stage_is.1)
    (undrawn_after (SearchMiddle n.middle) gs numbers tt v.drawn.0, v.drawn.1) (stays_initialised (SearchMiddle n.middle) gs numbers tt v.gear) (λ e. refl))
draw_sent (stage.WokenMiddle high middle) n k gs numbers d h v is t =
    subst (λ e. IsTakenBut e gs numbers h → DrawSent Drawing (stage.WokenMiddle high middle) n gs numbers e h) (some_is Compare d is)
    (λ now. go (now.heard (λ e. (let never : Compare ≡ QueryShort = e in cc)) ∙ silent)) t
  where
    small : high < 256
    small = subst (λ m. m < 256) (ap (λ (m : SearchAddress). m.high) (sym v.drawn.1) ∙ v.stage_is.0) (omega arith)

    less : middle < 255
    less = subst (λ m. m < 255) (ap (λ (m : SearchAddress). m.middle) (sym v.drawn.1) ∙ v.stage_is.1) (omega arith)

    silent : heard_of (answers_of Everyone Compare 0 gs) ≡ Silence
    silent = nobody_searched gs high middle v.gear v.drawn.0 v.low v.stage_is.2 small less

    go : h ≡ Silence → DrawSent Drawing (stage.WokenMiddle high middle) n gs numbers Compare h
    go none =
        subst (λ a. DrawSent Drawing (stage.WokenMiddle high middle) n gs numbers Compare a) (sym none)
        (draw_on Drawing (stage.WokenMiddle high middle) stage.DrawFree n gs numbers Compare v (inl tt) tt tt
        (undrawn_after Compare gs numbers tt v.drawn.0) (stays_initialised Compare gs numbers tt v.gear) (λ e. refl))
draw_sent stage.DrawFree n k gs numbers d h v is t =
    subst (λ e. DrawSent Drawing stage.DrawFree n gs numbers e h) (some_is Randomise d is)
    (draw_on Drawing stage.DrawFree stage.RandomisedOnce n gs numbers Randomise v (inr (refl, inl v.gear)) tt tt (undrawn_once gs numbers v.gear v.drawn)
    (opening.opening_randomised_once gs numbers v.gear) (λ e. refl))
draw_sent stage.RandomisedOnce n k gs numbers d h v is t =
    subst (λ e. IsTakenBut e gs numbers h → DrawSent Drawing stage.RandomisedOnce n gs numbers e h) (some_is Randomise d is)
    (λ now. draw_on Drawing stage.RandomisedOnce stage.Opened n gs numbers Randomise v (inr (refl, inr v.gear)) tt tt tt
    (opening.opening_opened gs numbers now.enough now.below v.gear) (λ e. refl)) t
draw_sent stage.Opened n k gs numbers d h v is t = absurd (cc)
draw_sent _ n k gs numbers d h v is t = absurd v.stage_is
