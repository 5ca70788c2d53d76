use Rattle.dali_progress.proofs.Below.{◌≡◌, ℕ, ◌<◌, ◌≤◌, ◌⊎◌, inl, inr, true, List, ◌++◌, refl, sym, subst, ◌∙◌, length, Option, Some, None, count_by, Answer}
use Rattle.dali_progress.proofs.Below.{Forward, command_of, Command, Gear, row_after, drawn_of, stored_of, Everyone, Assignment, Has, InBlock, Block, Allowed}
use Rattle.dali_progress.proofs.Below.{block_at, IsRun, gear_of, is_bare, World, controller_at, Change, Given, Holds, holds_after, sent_changes, after_at}
use Rattle.dali_progress.proofs.{Below.{count_at_most, is_bare_by, bare_is, SiteState, world, records_now}, Both.has_address, Logged.kept_now}
use Rattle.dali_events.specs.declared.event.Event.TheVariants as event

-- WHO IS GIVEN A SHORT ADDRESS by one controller: gear with power that have none, and each an address of the controller's
-- block. All others keep theirs.

pub record Gives (b : Block) (gs hs : List Gear) : Type 0 where
  pub count : length hs ≡ length gs
  pub power : (k : ℕ) → k < length gs → (gear_of hs k).powered ≡ (gear_of gs k).powered
  pub short : (k a : ℕ) → k < length gs → (gear_of gs k).short ≡ Some a → (gear_of hs k).short ≡ Some a
  pub number : (k a : ℕ) → k < length gs → (gear_of gs k).short ≡ Some a → (gear_of hs k).random ≡ (gear_of gs k).random
  pub given : (k a : ℕ) → k < length gs → (gear_of hs k).short ≡ Some a
      → ((gear_of gs k).short ≡ Some a) ⊎ (((gear_of gs k).powered ≡ true) × ((gear_of gs k).short ≡ None) × InBlock b a)

pub gives_self : (b : Block) (gs : List Gear) → Gives b gs gs
gives_self b gs = record { count = refl; power = λ k h. refl; short = λ k a h is. is; number = λ k a h is. refl; given = λ k a h is. inl is }

-- one after the other
pub gives_then : (b : Block) (fs gs hs : List Gear) → Gives b fs gs → Gives b gs hs → Gives b fs hs
gives_then b fs gs hs one two = record {
  count = two.count ∙ one.count;
  power = λ k h. two.power k (there k h) ∙ one.power k h;
  short = λ k a h is. two.short k a (there k h) (one.short k a h is);
  number = λ k a h is. two.number k a (there k h) (one.short k a h is) ∙ one.number k a h is;
  given = λ k a h is. go k a h (two.given k a (there k h) is);
} where
  there : (k : ℕ) → k < length fs → k < length gs
  there k h = subst (λ n. k < n) (sym one.count) h

  bare : (k : ℕ) → k < length fs → (gear_of gs k).short ≡ None → (gear_of fs k).short ≡ None
  bare k h none = by (gear_of fs k).short refl where
    by : (o : Option ℕ) → (gear_of fs k).short ≡ o → o ≡ None
    by None is = refl
    by (Some a) is = absurd (let both : None ≡ Some a = sym none ∙ one.short k a h is in cc)

  go : (k a : ℕ) → k < length fs → ((gear_of gs k).short ≡ Some a) ⊎ (((gear_of gs k).powered ≡ true) × ((gear_of gs k).short ≡ None) × InBlock b a)
      → ((gear_of fs k).short ≡ Some a) ⊎ (((gear_of fs k).powered ≡ true) × ((gear_of fs k).short ≡ None) × InBlock b a)
  go k a h (inl is) = one.given k a h is
  go k a h (inr new) = inr (sym (one.power k h) ∙ new.0, bare k h new.1, new.2)

-- who has none had none
pub bare_before : (b : Block) (gs hs : List Gear) → Gives b gs hs → (k : ℕ) → k < length gs → is_bare (gear_of hs k) ≡ true → is_bare (gear_of gs k) ≡ true
bare_before b gs hs gives k there none =
    let is = bare_is (gear_of hs k) none in
    is_bare_by (gear_of gs k) (sym (gives.power k there) ∙ is.0) (was (gear_of gs k).short refl is.1)
  where
    was : (o : Option ℕ) → (gear_of gs k).short ≡ o → (gear_of hs k).short ≡ None → (gear_of gs k).short ≡ None
    was None is now = is
    was (Some a) is now = absurd (let both : Some a ≡ None = sym (gives.short k a there is) ∙ now in cc)

pub bare_fewer : (b : Block) (gs hs : List Gear) → Gives b gs hs → count_by is_bare hs ≤ count_by is_bare gs
bare_fewer b gs hs gives = count_at_most is_bare is_bare gs hs gives.count (bare_before b gs hs gives)

-- ---------------------------------------------------------------- a frame

-- gear without power stay as they are
abbrev StaysDark : Gear → Gear → Type 0
StaysDark g h = (g.powered ≡ true) ⊎ (h.short ≡ g.short)

stays_dark : (c : Command) (gs : List Gear) (numbers : List ℕ) (k : ℕ) → k < length gs
    → StaysDark (gear_of gs k) (gear_of (row_after Everyone c 0 gs numbers) k)
stays_dark c gs numbers k h = after_at c StaysDark (λ g off. inr refl) (λ g x on. inl on) gs numbers k h

-- the address that one is given is reserved, so it is one of the block
abbrev OfBlock : Block → Assignment → Type 0
OfBlock b x = InBlock b x.0

changed : (s : SiteState) (c : ℕ) (f : Forward) (h : Answer) → IsRun s.plan s.queue s.log → Allowed (world s) (event.Sent c f h)
    → Change (OfBlock (block_at s.plan c)) (world s).gear (world s).drawn (world s).gifts (row_after Everyone (command_of f) 0 (world s).gear (world s).left)
    ((world s).drawn ++ drawn_of Everyone (command_of f) 0 (world s).gear (world s).left)
    ((world s).gifts ++ stored_of Everyone (command_of f) 0 (world s).gear)
changed s c f h run here =
    let w : World = world s in
    let known : Holds s.plan w = holds_after s.plan s.queue s.log run in
    sent_changes (OfBlock (block_at s.plan c)) s.plan run.plan w known c f here.up here.may
    (λ a r has. subst (λ b. InBlock b a) ((records_now s.plan s.queue s.log run).block c here.up.known)
    ((kept_now s c run here.up).within a (has_address (controller_at w c).records.reserved a r has))) h here

pub frame_gives : (s : SiteState) (c : ℕ) (f : Forward) (h : Answer) → IsRun s.plan s.queue s.log → Allowed (world s) (event.Sent c f h)
    → Gives (block_at s.plan c) (world s).gear (row_after Everyone (command_of f) 0 (world s).gear (world s).left)
frame_gives s c f h run here =
    let ch = changed s c f h run here in
    record {
      count = ch.count;
      power = λ k there. after_at (command_of f) (λ g x. x.powered ≡ g.powered) (λ g off. refl) (λ g x on. refl) gs (world s).left k there;
      short = ch.stays_short;
      number = ch.stays_random;
      given = λ k a there is. go ch.new k a (stays_dark (command_of f) gs (world s).left k there) is (ch.from k a there is) (ch.given k a);
    }
  where
    gs : List Gear
    gs = (world s).gear

    hs : List Gear
    hs = row_after Everyone (command_of f) 0 gs (world s).left

    go : (new : List (ℕ × ℕ)) (k a : ℕ) → StaysDark (gear_of gs k) (gear_of hs k) → (gear_of hs k).short ≡ Some a
        → ((gear_of gs k).short ≡ Some a) ⊎ Has new (k, a) → (Has new (k, a) → Given (OfBlock (block_at s.plan c)) gs (world s).drawn hs k a)
        → ((gear_of gs k).short ≡ Some a) ⊎ (((gear_of gs k).powered ≡ true) × ((gear_of gs k).short ≡ None) × InBlock (block_at s.plan c) a)
    go new k a dark is (inl had) given = inl had
    go new k a (inr same) is (inr has) given = inl (sym same ∙ is)
    go new k a (inl on) is (inr has) given = let g = given has in inr (on, g.before, g.reserved)
