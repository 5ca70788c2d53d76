use Rattle.std.{proofs.Common.{◌≡◌, ℕ, ◌<◌, true, List, refl, sym, subst, ◌∙◌, length}, specs.List.count_by}
use Rattle.dali_frame.specs.Random.{MASK24}
use Rattle.dali_special.specs.declared.command.Command.{Command, TheVariants.{Terminate, Initialise, Randomise, Withdraw, Program, SearchHigh, SearchMiddle}}
use Rattle.dali_gear.specs.{Gear.{Gear, is_active, gear_taken}, Row.row_after, declared.row.Reach.TheVariants.Everyone}
use Rattle.dali_events.{specs.Wanted.{is_wanted, wants, is_bare, gear_of, OfPowered, IsOpened, NoneNamed, NoneNamedBut}, proofs.Invariant.Takes.row_length}
use Rattle.dali_events.proofs.Search.Wanted.{Enabling, Drawing, Unnamed, UnnamedBut, count_same, powered_over, wants_same, after_at}

-- GEAR BY GEAR THE SAME but for the search address and the half pair
pub record SameGear (g h : Gear) : Type 0 where
  pub same_powered : h.powered ≡ g.powered
  pub same_state : h.state ≡ g.state
  pub same_random : h.random ≡ g.random
  pub same_short : h.short ≡ g.short

pub record SameCore (gs hs : List Gear) : Type 0 where
  pub same_length : length hs ≡ length gs
  pub each : (k : ℕ) → k < length gs → SameGear (gear_of gs k) (gear_of hs k)

pub core_wanted : (g h : Gear) → SameGear g h → is_wanted h ≡ is_wanted g
core_wanted g h same = rw (same.same_powered, same.same_state) refl

pub core_bare : (g h : Gear) → SameGear g h → is_bare h ≡ is_bare g
core_bare g h same = rw (same.same_powered, same.same_short) refl

pub core_wants : (gs hs : List Gear) (n : ℕ) → SameCore gs hs → wants hs n ≡ wants gs n
core_wants gs hs n same =
    wants_same gs hs n same.same_length (λ k h. core_wanted (gear_of gs k) (gear_of hs k) (same.each k h)) (λ k h. (same.each k h).same_random)

pub core_count_wanted : (gs hs : List Gear) → SameCore gs hs → count_by is_wanted hs ≡ count_by is_wanted gs
core_count_wanted gs hs same = count_same is_wanted is_wanted gs hs same.same_length (λ k h. core_wanted (gear_of gs k) (gear_of hs k) (same.each k h))

pub core_count_bare : (gs hs : List Gear) → SameCore gs hs → count_by is_bare hs ≡ count_by is_bare gs
core_count_bare gs hs same = count_same is_bare is_bare gs hs same.same_length (λ k h. core_bare (gear_of gs k) (gear_of hs k) (same.each k h))

pub core_opened : (gs hs : List Gear) → SameCore gs hs → IsOpened gs → IsOpened hs
core_opened gs hs same opened = record {
  bare = powered_over Enabling Enabling gs hs same.same_length (λ k h. (same.each k h).same_powered)
      (λ k h on was none. (same.each k h).same_state ∙ was (sym (same.each k h).same_short ∙ none)) opened.bare;
  drawn = powered_over Drawing Drawing gs hs same.same_length (λ k h. (same.each k h).same_powered)
      (λ k h on was active. subst (λ n. n < MASK24) (sym (same.each k h).same_random) (was (subst (λ s. is_active s ≡ true) (same.each k h).same_state active)))
      opened.drawn;
}

pub core_none_named : (gs hs : List Gear) → SameCore gs hs → NoneNamed gs → NoneNamed hs
core_none_named gs hs same named =
    powered_over Unnamed Unnamed gs hs same.same_length (λ k h. (same.each k h).same_powered)
    (λ k h on was enabled. (same.each k h).same_short ∙ was (sym (same.each k h).same_state ∙ enabled)) named

pub core_none_named_but : (gs hs : List Gear) (n : ℕ) → SameCore gs hs → NoneNamedBut gs n → NoneNamedBut hs n
core_none_named_but gs hs n same named =
    powered_over (UnnamedBut n) (UnnamedBut n) gs hs same.same_length (λ k h. (same.each k h).same_powered)
    (λ k h on was enabled other. (same.each k h).same_short ∙ was (sym (same.each k h).same_state ∙ enabled) (λ e. other ((same.each k h).same_random ∙ e)))
    named

-- FRAMES THAT LEAVE all but search addresses and half pairs
abbrev pub LeavesCore : Command → Type 0
LeavesCore Terminate = ⊥
LeavesCore (Initialise target) = ⊥
LeavesCore Randomise = ⊥
LeavesCore Withdraw = ⊥
LeavesCore (Program short) = ⊥
LeavesCore _ = Unit {0}

same_self : (g : Gear) → SameGear g g
same_self g = record { same_powered = refl; same_state = refl; same_random = refl; same_short = refl }

core_taken : (c : Command) (g : Gear) (x : ℕ) → LeavesCore c → SameGear g (gear_taken c x g)
core_taken Terminate g x leaves = absurd leaves
core_taken (Initialise target) g x leaves = absurd leaves
core_taken Randomise g x leaves = absurd leaves
core_taken Withdraw g x leaves = absurd leaves
core_taken (Program short) g x leaves = absurd leaves
core_taken _ g x leaves = record { same_powered = refl; same_state = refl; same_random = refl; same_short = refl }

pub core_after : (c : Command) (gs : List Gear) (left : List ℕ) → LeavesCore c → SameCore gs (row_after Everyone c 0 gs left)
core_after c gs left leaves = record {
  same_length = row_length Everyone c 0 gs left;
  each = after_at c SameGear (λ g off. same_self g) (λ g x on. core_taken c g x leaves) gs left;
}

-- FRAMES THAT LEAVE power and short addresses
abbrev pub LeavesShort : Command → Type 0
LeavesShort (Program short) = ⊥
LeavesShort _ = Unit {0}

abbrev SameShort : Gear → Gear → Type 0
SameShort g h = (h.powered ≡ g.powered) × (h.short ≡ g.short)

short_left : (c : Command) (g : Gear) (x : ℕ) → LeavesShort c → SameShort g (gear_taken c x g)
short_left (Program short) g x leaves = absurd leaves
short_left _ g x leaves = (refl, refl)

pub short_after_all : (c : Command) (gs : List Gear) (left : List ℕ) → LeavesShort c → (k : ℕ) → k < length gs
    → ((gear_of (row_after Everyone c 0 gs left) k).powered ≡ (gear_of gs k).powered)
    × ((gear_of (row_after Everyone c 0 gs left) k).short ≡ (gear_of gs k).short)
short_after_all c gs left leaves = after_at c SameShort (λ g off. (refl, refl)) (λ g x on. short_left c g x leaves) gs left

pub count_bare_after : (c : Command) (gs : List Gear) (left : List ℕ) → LeavesShort c → count_by is_bare (row_after Everyone c 0 gs left) ≡ count_by is_bare gs
count_bare_after c gs left leaves =
    count_same is_bare is_bare gs (row_after Everyone c 0 gs left) (row_length Everyone c 0 gs left)
    (λ k h. bare_by (gear_of gs k) (gear_of (row_after Everyone c 0 gs left) k) (short_after_all c gs left leaves k h)) where
      bare_by : (g h : Gear) → SameShort g h → is_bare h ≡ is_bare g
      bare_by g h same = rw (same.0, same.1) refl

-- THE THREE FRAMES of a search address
abbrev pub SeekHigh : List Gear → ℕ → Type 0
SeekHigh gs high = OfPowered gs (λ g. is_active g.state ≡ true → g.search.high ≡ high)

abbrev pub SeekMiddle : List Gear → ℕ → ℕ → Type 0
SeekMiddle gs high middle = OfPowered gs (λ g. is_active g.state ≡ true → (g.search.high ≡ high) × (g.search.middle ≡ middle))

pub seek_high : (gs : List Gear) (left : List ℕ) (high : ℕ) → SeekHigh (row_after Everyone (SearchHigh high) 0 gs left) high
seek_high gs left high k in_row =
    after_at (SearchHigh high) (λ g h. h.powered ≡ true → is_active h.state ≡ true → h.search.high ≡ high)
    (λ g off on. absurd (off on)) (λ g x up on active. rw active refl) gs left k (subst (λ n. k < n) (row_length Everyone (SearchHigh high) 0 gs left) in_row)

pub seek_middle : (gs : List Gear) (left : List ℕ) (high middle : ℕ) → SeekHigh gs high
    → SeekMiddle (row_after Everyone (SearchMiddle middle) 0 gs left) high middle
seek_middle gs left high middle seek k in_row on active =
    let there : k < length gs = subst (λ n. k < n) (row_length Everyone (SearchMiddle middle) 0 gs left) in_row in
    after_at (SearchMiddle middle) (λ g h. (g.powered ≡ true → is_active g.state ≡ true → g.search.high ≡ high) → h.powered ≡ true → is_active h.state ≡ true
    → (h.search.high ≡ high) × (h.search.middle ≡ middle))
    (λ g off was on. absurd (off on)) (λ g x up was on active. rw active (was up active, refl)) gs left k there (seek k there) on active
