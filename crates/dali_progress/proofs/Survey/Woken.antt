use Rattle.dali_progress.proofs.Below.{◌≡◌, ℕ, ◌+◌, ◌<◌, ◌≤◌, ◌⊎◌, inl, inr, Bool, true, false, zero, suc, List, [], ◌∷◌, refl, sym, ap, subst, ◌∙◌, arith}
use Rattle.dali_progress.proofs.Below.{length, Option, Some, None, ◌&&◌, if◌then◌else◌, count_by, value_of, MASK24, Answer, Silence, Byte, Damaged}
use Rattle.dali_progress.proofs.Below.{SearchAddress, Command, Randomise, Compare, SearchHigh, SearchMiddle, SearchLow, Program, Gear, is_enabled, is_active}
use Rattle.dali_progress.proofs.Below.{gear_taken, answer, search_after, takes, row_after, option_cons, answers_of, heard_of, Everyone, Enabled, is_yes}
use Rattle.dali_progress.proofs.Below.{HasShort, is_bare, is_wanted, wants, gear_of, OfPowered, Seek, IsOpened, NoneNamed, row_length, silent_above}
use Rattle.dali_progress.proofs.{Below.{heard_below, LeavesShort, SeekMiddle, AreOpening, IsOpening, both_pass, count_same, after_at}, Frames.short_left}
use Rattle.dali_progress.proofs.{Frames.short_if, Survey.Drawn.{those_drawn, is_undrawn, is_lost, bare_split, count_first, count_nothing, of_drawn}}
use Rattle.dali_progress.proofs.{Survey.Drawn.{undrawn_random, woken_short, AreNumbered, not_most}, Tables.LeavesNames}
use Rattle.dali_script.specs.declared.stage.Stage.TheVariants as stage
use Rattle.dali_events.proofs.Search.Leaving as leaving
use Rattle.dali_events.proofs.Search.Wanted as wanted

-- GEAR WITHOUT SHORT ADDRESS while the roll is called, and while they draw.

-- ---------------------------------------------------------------- how many they are

-- frames that leave power, short and random addresses
abbrev pub SameNames : Gear → Gear → Type 0
SameNames g h = (h.powered ≡ g.powered) × (h.short ≡ g.short) × (h.random ≡ g.random)

pub names_left : (c : Command) (g : Gear) (x : ℕ) → LeavesNames c → SameNames g (gear_taken c x g)
names_left Randomise g x leaves = absurd leaves
names_left (Program short) g x leaves = absurd leaves
names_left _ g x leaves = (refl, refl, refl)

pub leaves_short : (c : Command) → LeavesNames c → LeavesShort c
leaves_short (Program short) leaves = absurd leaves
leaves_short _ leaves = tt

pub lost_after : (c : Command) (gs : List Gear) (numbers : List ℕ) → LeavesNames c → count_by is_lost (row_after Everyone c 0 gs numbers) ≡ count_by is_lost gs
lost_after c gs numbers leaves =
    count_same is_lost is_lost gs (row_after Everyone c 0 gs numbers) (row_length Everyone c 0 gs numbers)
    (λ k h. by (gear_of gs k) (gear_of (row_after Everyone c 0 gs numbers) k)
    (after_at c SameNames (λ g off. (refl, refl, refl)) (λ g x on. names_left c g x leaves) gs numbers k h)) where
      by : (g h : Gear) → SameNames g h → is_lost h ≡ is_lost g
      by g h same = rw (same.0, same.1, same.2) refl

pub bare_after : (c : Command) (gs : List Gear) (numbers : List ℕ) → LeavesNames c → count_by is_bare (row_after Everyone c 0 gs numbers) ≡ count_by is_bare gs
bare_after c gs numbers leaves = leaving.count_bare_after c gs numbers (leaves_short c leaves)

pub drew_after : (c : Command) (gs : List Gear) (numbers : List ℕ) → LeavesNames c
    → count_by is_bare (those_drawn (row_after Everyone c 0 gs numbers)) ≡ count_by is_bare (those_drawn gs)
drew_after c gs numbers leaves =
    sum (count_by is_bare gs) (count_by is_bare (row_after Everyone c 0 gs numbers)) (count_by is_lost gs)
    (count_by is_lost (row_after Everyone c 0 gs numbers)) (count_by is_bare (those_drawn gs))
    (count_by is_bare (those_drawn (row_after Everyone c 0 gs numbers))) (bare_split gs) (bare_split (row_after Everyone c 0 gs numbers))
    (bare_after c gs numbers leaves) (lost_after c gs numbers leaves) where
      sum : (bare bare_now lost lost_now drew drew_now : ℕ) → bare ≡ drew + lost → bare_now ≡ drew_now + lost_now → bare_now ≡ bare → lost_now ≡ lost
          → drew_now ≡ drew
      sum bare bare_now lost lost_now drew drew_now one two three four = omega (arith, one, two, three, four)

-- one that is counted is there
pub count_there : (p : Gear → Bool) (gs : List Gear) (k : ℕ) → k < length gs → p (gear_of gs k) ≡ true → 0 < count_by p gs
count_there p [] k h is = absurd (omega (arith, h))
count_there p (g ∷ gs) zero h is = rw (count_first p g gs, is) (omega arith)
count_there p (g ∷ gs) (suc k) h is = let rest = count_there p gs k (omega (arith, h)) is in rw (count_first p g gs) (omega (arith, rest))

-- if none is bare, each has a short address
pub all_short : (gs : List Gear) → count_by is_bare gs ≡ 0 → OfPowered gs HasShort
all_short gs none k h on = short_if (gear_of gs k) (λ e. (let some : 0 < count_by is_bare gs =
    count_there is_bare gs k h (wanted.is_bare_by (gear_of gs k) on e) in omega (arith, some, none)))

-- and a frame that gives none leaves it
pub all_left : (d : Command) (gs : List Gear) (numbers : List ℕ) → LeavesShort d → OfPowered gs HasShort
    → OfPowered (row_after Everyone d 0 gs numbers) HasShort
all_left d gs numbers leaves all k in_row on = short_left d gs numbers k leaves in_row on (all k)

-- and the other way round
pub none_bare : (hs : List Gear) → OfPowered hs HasShort → count_by is_bare hs ≡ 0
none_bare hs all = count_nothing is_bare hs (λ k h bare.
    let is = wanted.bare_is (gear_of hs k) bare in
    let short = all k h is.0 in
    (let never : None ≡ Some short.0 = sym is.1 ∙ short.1 in cc))

-- ---------------------------------------------------------------- initialised, and still so

-- a search byte that is sent, or COMPARE
abbrev pub IsQuestion : Command → Type 0
IsQuestion (SearchHigh byte) = Unit {0}
IsQuestion (SearchMiddle byte) = Unit {0}
IsQuestion (SearchLow byte) = Unit {0}
IsQuestion Compare = Unit {0}
IsQuestion _ = ⊥

asks_initialised : (c : Command) (g : Gear) (x : ℕ) → IsQuestion c → IsOpening stage.Initialised g → IsOpening stage.Initialised (gear_taken c x g)
asks_initialised (SearchHigh byte) g x is was = (refl, was.1)
asks_initialised (SearchMiddle byte) g x is was = (refl, was.1)
asks_initialised (SearchLow byte) g x is was = (refl, was.1)
asks_initialised Compare g x is was = (refl, was.1)
asks_initialised _ g x is was = absurd is

pub stays_initialised : (c : Command) (gs : List Gear) (numbers : List ℕ) → IsQuestion c → AreOpening stage.Initialised gs
    → AreOpening stage.Initialised (row_after Everyone c 0 gs numbers)
stays_initialised c gs numbers is all k in_row on =
    let there : k < length gs = subst (λ n. k < n) (row_length Everyone c 0 gs numbers) in_row in
    after_at c (λ g h. (g.powered ≡ true → IsOpening stage.Initialised g) → h.powered ≡ true → IsOpening stage.Initialised h) (λ g off was up. absurd (off up))
    (λ g x up was still. asks_initialised c g x is (was up)) gs numbers k there (all k there) on

-- then gear without short address is wanted, and no other
pub woken_count : (gs : List Gear) → AreOpening stage.Initialised gs → count_by is_wanted gs ≡ count_by is_bare gs
woken_count gs all =
    count_same is_bare is_wanted gs gs refl (λ k h. wanted.same_tests (is_wanted (gear_of gs k)) (is_bare (gear_of gs k)) (named k h) (woken k h)) where
      named : (k : ℕ) → k < length gs → is_wanted (gear_of gs k) ≡ true → is_bare (gear_of gs k) ≡ true
      named k h is =
          let on = wanted.wanted_powered (gear_of gs k) is in
          wanted.is_bare_by (gear_of gs k) on (woken_short (gear_of gs k) (all k h on).1 (wanted.wanted_active (gear_of gs k) is))

      woken : (k : ℕ) → k < length gs → is_bare (gear_of gs k) ≡ true → is_wanted (gear_of gs k) ≡ true
      woken k h is =
          let both = wanted.bare_is (gear_of gs k) is in
          wanted.is_wanted_by (gear_of gs k) both.0 ((all k h both.0).1.0 both.1)

-- ---------------------------------------------------------------- the roll is called

silent_or : (h : Answer) → ((h ≡ Silence) × (is_yes h ≡ false)) ⊎ ((is_yes h ≡ true) × (h ≡ Silence → ⊥))
silent_or Silence = inl (refl, refl)
silent_or (Byte v) = inr (refl, λ e. cc)
silent_or Damaged = inr (refl, λ e. cc)

-- COMPARE under FFFFFF is answered if some gear has no short address
pub called_answer : (gs : List Gear) (r : SearchAddress) (h : Answer) → AreOpening stage.Initialised gs → AreNumbered gs → Seek gs r → value_of r ≡ MASK24
    → h ≡ heard_of (answers_of Everyone Compare 0 gs) → ((is_yes h ≡ false) × (count_by is_bare gs ≡ 0)) ⊎ ((is_yes h ≡ true) × (0 < count_by is_bare gs))
called_answer gs r h all numbered seek top heard = go (silent_or h) where
  count : count_by is_wanted gs ≡ count_by is_bare gs
  count = woken_count gs all

  small : (n : ℕ) → wants gs n ≡ true → n ≤ MASK24
  small n is =
      let there = wanted.wants_at gs n is in
      by (gear_of gs there.0).random (numbered there.0 there.1) there.3 where
        by : (m : ℕ) → (m ≡ MASK24) ⊎ (m < MASK24) → m ≡ n → n ≤ MASK24
        by m (inl mask) same = omega (arith, mask, same)
        by m (inr less) same = omega (arith, less, same)

  go : ((h ≡ Silence) × (is_yes h ≡ false)) ⊎ ((is_yes h ≡ true) × (h ≡ Silence → ⊥))
      → ((is_yes h ≡ false) × (count_by is_bare gs ≡ 0)) ⊎ ((is_yes h ≡ true) × (0 < count_by is_bare gs))
  go (inl silent) = inl (
    silent.1,
    sym count ∙ wanted.count_none gs (λ n is.
        let over : value_of r < n = silent_above gs r seek (sym heard ∙ silent.0) n is in
        let most : n ≤ MASK24 = small n is in
        omega (arith, over, most, top)),
  )
  go (inr loud) =
      let some = heard_below gs r seek (λ e. loud.1 (heard ∙ e)) in
      inr (loud.0, subst (λ n. 0 < n) count (wanted.count_some gs some.0 some.1))

-- ---------------------------------------------------------------- who has drawn is searched

pub drawn_is : (gs : List Gear) → IsOpened gs → IsOpened (those_drawn gs)
drawn_is gs opened = record {
  bare = of_drawn (λ g. g.short ≡ None → g.state ≡ Enabled) gs (λ k h on drew. opened.bare k h on);
  drawn = of_drawn (λ g. is_active g.state ≡ true → g.random < MASK24) gs (λ k h on drew. opened.drawn k h on);
}

pub drawn_none_named : (gs : List Gear) → NoneNamed gs → NoneNamed (those_drawn gs)
drawn_none_named gs named = of_drawn (λ g. g.state ≡ Enabled → g.short ≡ None) gs (λ k h on drew. named k h on)

-- once they have drawn, none is without a number
pub opened_lost : (gs : List Gear) → AreOpening stage.Opened gs → count_by is_lost gs ≡ 0
opened_lost gs all = count_nothing is_lost gs (λ k h lost.
    let both = both_pass (gear_of gs k).powered (is_undrawn (gear_of gs k)) lost in
    let none = undrawn_random (gear_of gs k) both.1 in
    let less : (gear_of gs k).random < MASK24 = (all k h both.0).0 none.1 in
    let mask : (gear_of gs k).random ≡ MASK24 = none.0 in
    omega (arith, less, mask))

-- ---------------------------------------------------------------- no gear is to be searched

-- the low byte that was sent last is one
abbrev pub AreLow : List Gear → Type 0
AreLow gs = OfPowered gs (λ g. g.short ≡ None → g.search.low < 256)

abbrev pub IsByteLow : Command → Type 0
IsByteLow (SearchLow byte) = byte < 256
IsByteLow (Program None) = ⊥
IsByteLow _ = Unit {0}

kept_none : (given : Bool) (a : ℕ) (o : Option ℕ) → (if given then Some a else o) ≡ None → o ≡ None
kept_none true a o e = absurd (cc)
kept_none false a o e = e

low_taken : (c : Command) (g : Gear) (x : ℕ) → IsByteLow c → (g.short ≡ None → g.search.low < 256) → (gear_taken c x g).short ≡ None
    → (gear_taken c x g).search.low < 256
low_taken (SearchLow byte) g x is was none = go (is_active g.state) where
  go : (b : Bool) → (if b then record g.search { low = byte } else g.search).low < 256
  go true = is
  go false = was none
low_taken (SearchHigh byte) g x is was none = go (is_active g.state) where
  go : (b : Bool) → (if b then record g.search { high = byte } else g.search).low < 256
  go true = was none
  go false = was none
low_taken (SearchMiddle byte) g x is was none = go (is_active g.state) where
  go : (b : Bool) → (if b then record g.search { middle = byte } else g.search).low < 256
  go true = was none
  go false = was none
low_taken (Program None) g x is was none = absurd is
low_taken (Program (Some a)) g x is was none = was (kept_none _ a g.short none)
low_taken _ g x is was none = was none

pub low_after : (c : Command) (gs : List Gear) (numbers : List ℕ) → IsByteLow c → AreLow gs → AreLow (row_after Everyone c 0 gs numbers)
low_after c gs numbers is all k in_row on =
    let there : k < length gs = subst (λ n. k < n) (row_length Everyone c 0 gs numbers) in_row in
    after_at c (λ g h. (g.powered ≡ true → g.short ≡ None → g.search.low < 256) → h.powered ≡ true → h.short ≡ None → h.search.low < 256)
    (λ g off was up. absurd (off up)) (λ g x up was still. low_taken c g x is (was up)) gs numbers k there (all k there) on

-- all that are initialised take it
pub low_sent : (byte : ℕ) (gs : List Gear) (numbers : List ℕ) → byte < 256 → AreOpening stage.Initialised gs
    → AreLow (row_after Everyone (SearchLow byte) 0 gs numbers)
low_sent byte gs numbers small all k in_row on =
    let there : k < length gs = subst (λ n. k < n) (row_length Everyone (SearchLow byte) 0 gs numbers) in_row in
    after_at (SearchLow byte) (λ g h. (g.powered ≡ true → IsOpening stage.Initialised g) → h.powered ≡ true → h.short ≡ None → h.search.low < 256)
    (λ g off was up. absurd (off up)) (λ g x up was still none. by g (was up) none) gs numbers k there (all k there) on where
      by : (g : Gear) → IsOpening stage.Initialised g → g.short ≡ None → (search_after (SearchLow byte) g).low < 256
      by g was none = let enabled : g.state ≡ Enabled = was.1.0 none in rw enabled small

-- so no gear answers under FFFExx that never drew
silent_one : (g : Gear) (high middle : ℕ) → IsOpening stage.Initialised g → (g.short ≡ None → g.random ≡ MASK24) → (g.short ≡ None → g.search.low < 256)
    → (is_active g.state ≡ true → (g.search.high ≡ high) × (g.search.middle ≡ middle)) → high < 256 → middle < 255 → answer Compare g ≡ None
silent_one g high middle was mask low seek small less = go (is_enabled g.state) refl where
  go : (b : Bool) → is_enabled g.state ≡ b → answer Compare g ≡ None
  go false e = rw e refl
  go true e =
      let active : is_active g.state ≡ true = enabled_active e in
      let none : g.short ≡ None = woken_short g was.1 active in
      let top : g.random ≡ MASK24 = mask none in
      let byte : g.search.low < 256 = low none in
      let one : g.search.high ≡ high = (seek active).0 in
      let two : g.search.middle ≡ middle = (seek active).1 in
      let under : value_of g.search < g.random = omega (arith, top, byte, one, two, small, less) in
      rw (e, not_most g.random (value_of g.search) under) refl
    where
      enabled_active : is_enabled g.state ≡ true → is_active g.state ≡ true
      enabled_active e = let is : g.state ≡ Enabled = wanted.enabled_is g.state e in rw is refl

no_answers : (c : Command) (k : ℕ) (gs : List Gear) → ((i : ℕ) → i < length gs → (gear_of gs i).powered ≡ true → answer c (gear_of gs i) ≡ None)
    → answers_of Everyone c k gs ≡ []
no_answers c k [] none = refl
no_answers c k (g ∷ gs) none =
    ap (λ bytes. option_cons (if takes Everyone k g then answer c g else None) bytes) (no_answers c (k + 1) gs (λ i h on. none (suc i) (omega (arith, h)) on))
    ∙ ap (λ o. option_cons o []) (go g.powered refl)
  where
    go : (b : Bool) → g.powered ≡ b → (if takes Everyone k g then answer c g else None) ≡ None
    go true on = ap (λ p. if p && true then answer c g else None) on ∙ none 0 (omega arith) on
    go false off = ap (λ p. if p && true then answer c g else None) off

pub nobody_searched : (gs : List Gear) (high middle : ℕ) → AreOpening stage.Initialised gs → OfPowered gs (λ g. g.short ≡ None → g.random ≡ MASK24) → AreLow gs
    → SeekMiddle gs high middle → high < 256 → middle < 255 → heard_of (answers_of Everyone Compare 0 gs) ≡ Silence
nobody_searched gs high middle all mask low seek small less =
    ap heard_of (no_answers Compare 0 gs (λ i h on. silent_one (gear_of gs i) high middle (all i h on) (mask i h on) (low i h on) (seek i h on) small less))

-- gear keep their names, so who never drew has not yet
pub undrawn_after : (c : Command) (gs : List Gear) (numbers : List ℕ) → LeavesNames c → OfPowered gs (λ g. g.short ≡ None → g.random ≡ MASK24)
    → OfPowered (row_after Everyone c 0 gs numbers) (λ g. g.short ≡ None → g.random ≡ MASK24)
undrawn_after c gs numbers leaves all k in_row on none =
    let there : k < length gs = subst (λ n. k < n) (row_length Everyone c 0 gs numbers) in_row in
    let same = after_at c SameNames (λ g off. (refl, refl, refl)) (λ g x up. names_left c g x leaves) gs numbers k there in
    same.2 ∙ all k there (sym same.0 ∙ on) (sym same.1 ∙ none)

-- nor after a first RANDOMISE
pub undrawn_once : (gs : List Gear) (numbers : List ℕ) → AreOpening stage.Initialised gs → OfPowered gs (λ g. g.short ≡ None → g.random ≡ MASK24)
    → OfPowered (row_after Everyone Randomise 0 gs numbers) (λ g. g.short ≡ None → g.random ≡ MASK24)
undrawn_once gs numbers gear all k in_row on none =
    let there : k < length gs = subst (λ n. k < n) (row_length Everyone Randomise 0 gs numbers) in_row in
    let same =
    after_at Randomise (λ g h. (g.powered ≡ true → g.half ≡ None) → SameNames g h) (λ g off was. (refl, refl, refl))
    (λ g x up was. (refl, refl, rw (was up) refl)) gs numbers k there (λ up. (gear k there up).0) in
    same.2 ∙ all k there (sym same.0 ∙ on) (sym same.1 ∙ none)
