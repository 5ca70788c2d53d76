use Rattle.std.proofs.Common.{◌≡◌, ◌≢◌, ℕ, ◌+◌, ◌<◌, ◌≤◌, Bool, true, false, zero, suc, List, [], ◌∷◌, refl, sym, subst, ◌∙◌, arith, length, Option, None}
use Rattle.std.proofs.{Common.{◌&&◌, ◌||◌, ◌==◌, not, is_some, if◌then◌else◌}, lemmas.{Bool.Decides.nat_tests, List.{Folds.list_any_at, Sums.sum_by-cons}}}
use Rattle.std.specs.List.{list_any, count_by}
use Rattle.dali_frame.specs.Random.{MASK24}
use Rattle.dali_special.specs.declared.command.Command.{Command}
use Rattle.dali_gear.specs.{Gear.{Gear, fresh, is_enabled, is_active, gear_taken}, Row.{takes, row_after, drawn_of}, declared.row.Reach.TheVariants.Everyone}
use Rattle.dali_gear.specs.declared.state.InitialisationState.{InitialisationState, TheVariants.{Enabled}}
use Rattle.dali_events.{specs.Wanted.{is_wanted, wants, is_bare, gear_of, OfPowered, IsOpened, NoneNamed}, proofs.Invariant.Sending.powered_takes}
use Rattle.dali_events.proofs.Invariant.{Sending.takes_powered, Takes.{Moved, stays, goes, moves_at}}

-- TESTS THAT PASS TOGETHER
pub both_pass : (a b : Bool) → (a && b) ≡ true → (a ≡ true) × (b ≡ true)
both_pass true b e = (refl, e)
both_pass false b e = absurd (cc)

pub same_number : (m n : ℕ) → (m == n) ≡ true → m ≡ n
same_number m n e = grind (arith, nat_tests)

pub number_same : (m n : ℕ) → m ≡ n → (m == n) ≡ true
number_same m n e = grind (arith, nat_tests)

-- WHO IS WANTED
pub wanted_powered : (g : Gear) → is_wanted g ≡ true → g.powered ≡ true
wanted_powered g e = (both_pass g.powered (is_enabled g.state) e).0

pub enabled_is : (s : InitialisationState) → is_enabled s ≡ true → s ≡ Enabled
enabled_is Enabled e = refl
enabled_is _ e = absurd (cc)

pub wanted_enabled : (g : Gear) → is_wanted g ≡ true → g.state ≡ Enabled
wanted_enabled g e = enabled_is g.state (both_pass g.powered (is_enabled g.state) e).1

pub wanted_active : (g : Gear) → is_wanted g ≡ true → is_active g.state ≡ true
wanted_active g e = rw (wanted_enabled g e) refl

pub is_wanted_by : (g : Gear) → g.powered ≡ true → g.state ≡ Enabled → is_wanted g ≡ true
is_wanted_by g on enabled = rw (on, enabled) refl

-- a number that is wanted has a gear, and the other way round
pub at_any : (test : Gear → Bool) (gs : List Gear) → list_any test gs ≡ true → (k : ℕ) × (k < length gs) × (test (gear_of gs k) ≡ true)
at_any test [] e = absurd (cc)
at_any test (g ∷ gs) e = go (test g) refl e (at_any test gs) where
  go : (b : Bool) → test g ≡ b → (b || list_any test gs) ≡ true → (list_any test gs ≡ true → (k : ℕ) × (k < length gs) × (test (gear_of gs k) ≡ true))
      → (k : ℕ) × (k < length (g ∷ gs)) × (test (gear_of (g ∷ gs) k) ≡ true)
  go true is e later = (0, omega arith, is)
  go false is e later = let there = later e in let inside : there.0 < length gs = there.1 in (suc there.0, omega arith, there.2)

pub wants_by : (gs : List Gear) (n k : ℕ) → k < length gs → is_wanted (gear_of gs k) ≡ true → (gear_of gs k).random ≡ n → wants gs n ≡ true
wants_by gs n k h wanted random = list_any_at (λ g. is_wanted g && (g.random == n)) gs k fresh h (rw (wanted, number_same (gear_of gs k).random n random) refl)

pub wants_at : (gs : List Gear) (n : ℕ) → wants gs n ≡ true → (k : ℕ) × (k < length gs) × (is_wanted (gear_of gs k) ≡ true) × ((gear_of gs k).random ≡ n)
wants_at gs n e =
    let there = at_any (λ g. is_wanted g && (g.random == n)) gs e in
    let both = both_pass (is_wanted (gear_of gs there.0)) ((gear_of gs there.0).random == n) there.2 in
    (there.0, there.1, both.0, same_number (gear_of gs there.0).random n both.1)

-- WHO IS BARE
pub bare_is : (g : Gear) → is_bare g ≡ true → (g.powered ≡ true) × (g.short ≡ None)
bare_is g e = go g.powered g.short refl refl e where
  go : (b : Bool) (o : Option ℕ) → g.powered ≡ b → g.short ≡ o → (b && not (is_some o)) ≡ true → (g.powered ≡ true) × (g.short ≡ None)
  go true None on short e = (on, short)
  go _ _ on short e = absurd (cc)

pub is_bare_by : (g : Gear) → g.powered ≡ true → g.short ≡ None → is_bare g ≡ true
is_bare_by g on none = rw (on, none) refl

-- COUNTS OF TWO LISTS, gear by gear
count_first : (p : Gear → Bool) (g : Gear) (gs : List Gear) → count_by p (g ∷ gs) ≡ (if p g then 1 else 0) + count_by p gs
count_first p g gs = sum_by-cons (λ x. if p x then 1 else 0) g gs

pub count_same : (p q : Gear → Bool) (gs hs : List Gear) → length hs ≡ length gs → ((k : ℕ) → k < length gs → q (gear_of hs k) ≡ p (gear_of gs k))
    → count_by q hs ≡ count_by p gs
count_same p q [] [] e same = refl
count_same p q (g ∷ gs) (h ∷ hs) e same =
    let here : q h ≡ p g = same 0 (omega arith) in
    let rest : count_by q hs ≡ count_by p gs = count_same p q gs hs (omega arith) (λ k in_row. same (suc k) (omega arith)) in
    rw (count_first q h hs, count_first p g gs, here, rest) refl
count_same p q _ _ e same = absurd (omega arith)

one_at_most : (a b : Bool) (m n : ℕ) → (a ≡ true → b ≡ true) → m ≤ n → (if a then 1 else 0) + m ≤ (if b then 1 else 0) + n
one_at_most true false m n pass h = absurd (let there : false ≡ true = pass refl in cc)
one_at_most _ _ m n pass h = omega arith

pub count_at_most : (p q : Gear → Bool) (gs hs : List Gear) → length hs ≡ length gs
    → ((k : ℕ) → k < length gs → q (gear_of hs k) ≡ true → p (gear_of gs k) ≡ true) → count_by q hs ≤ count_by p gs
count_at_most p q [] [] e pass = omega arith
count_at_most p q (g ∷ gs) (h ∷ hs) e pass =
    rw (count_first q h hs, count_first p g gs)
    (one_at_most (q h) (p g) (count_by q hs) (count_by p gs) (pass 0 (omega arith))
    (count_at_most p q gs hs (omega arith) (λ k in_row. pass (suc k) (omega arith))))
count_at_most p q _ _ e pass = absurd (omega arith)

one_less : (a b : Bool) (m n : ℕ) → (a ≡ true → b ≡ true) → m < n → (if a then 1 else 0) + m < (if b then 1 else 0) + n
one_less true false m n pass h = absurd (let there : false ≡ true = pass refl in cc)
one_less _ _ m n pass h = omega arith

pub count_less : (p q : Gear → Bool) (gs hs : List Gear) (i : ℕ) → length hs ≡ length gs
    → ((k : ℕ) → k < length gs → q (gear_of hs k) ≡ true → p (gear_of gs k) ≡ true)
    → i < length gs → p (gear_of gs i) ≡ true → q (gear_of hs i) ≡ false → count_by q hs < count_by p gs
count_less p q (g ∷ gs) (h ∷ hs) zero e pass in_row was now =
    let rest : count_by q hs ≤ count_by p gs = count_at_most p q gs hs (omega arith) (λ k in_row. pass (suc k) (omega arith)) in
    rw (count_first q h hs, count_first p g gs, was, now) (omega (arith, rest))
count_less p q (g ∷ gs) (h ∷ hs) (suc i) e pass in_row was now =
    rw (count_first q h hs, count_first p g gs)
    (one_less (q h) (p g) (count_by q hs) (count_by p gs) (pass 0 (omega arith))
    (count_less p q gs hs i (omega arith) (λ k in_row. pass (suc k) (omega arith)) (omega arith) was now))
count_less p q _ _ i e pass h was now = absurd (omega arith)

-- two tests that pass alike
pub same_tests : (a b : Bool) → (a ≡ true → b ≡ true) → (b ≡ true → a ≡ true) → a ≡ b
same_tests true b there back = sym (there refl)
same_tests false true there back = back refl
same_tests false false there back = refl

-- what is said of each powered gear
abbrev pub Enabling : Gear → Type 0
Enabling g = g.short ≡ None → g.state ≡ Enabled

abbrev pub Drawing : Gear → Type 0
Drawing g = is_active g.state ≡ true → g.random < MASK24

abbrev pub Unnamed : Gear → Type 0
Unnamed g = g.state ≡ Enabled → g.short ≡ None

abbrev pub UnnamedBut : ℕ → Gear → Type 0
UnnamedBut n g = g.state ≡ Enabled → g.random ≢ n → g.short ≡ None

-- what goes over from one list to another
pub powered_over : (P Q : Gear → Type 0) (gs hs : List Gear) → length hs ≡ length gs
    → ((k : ℕ) → k < length gs → (gear_of hs k).powered ≡ (gear_of gs k).powered)
    → ((k : ℕ) → k < length gs → (gear_of gs k).powered ≡ true → P (gear_of gs k) → Q (gear_of hs k)) → OfPowered gs P → OfPowered hs Q
powered_over P Q gs hs e powered step all k h on =
    let there : k < length gs = subst (λ n. k < n) e h in
    let was : (gear_of gs k).powered ≡ true = sym (powered k there) ∙ on in
    step k there was (all k there was)

-- numbers that stay wanted
pub wants_over : (gs hs : List Gear) (n : ℕ) → length hs ≡ length gs
    → ((k : ℕ) → k < length gs → is_wanted (gear_of hs k) ≡ true → is_wanted (gear_of gs k) ≡ true)
    → ((k : ℕ) → k < length gs → (gear_of hs k).random ≡ (gear_of gs k).random) → wants hs n ≡ true → wants gs n ≡ true
wants_over gs hs n e wanted random wants =
    let there = wants_at hs n wants in
    let inside : there.0 < length gs = subst (λ m. there.0 < m) e there.1 in
    wants_by gs n there.0 inside (wanted there.0 inside there.2) (sym (random there.0 inside) ∙ there.3)

pub wants_same : (gs hs : List Gear) (n : ℕ) → length hs ≡ length gs → ((k : ℕ) → k < length gs → is_wanted (gear_of hs k) ≡ is_wanted (gear_of gs k))
    → ((k : ℕ) → k < length gs → (gear_of hs k).random ≡ (gear_of gs k).random) → wants hs n ≡ wants gs n
wants_same gs hs n e wanted random =
    same_tests (wants hs n) (wants gs n) (wants_over gs hs n e (λ k h w. sym (wanted k h) ∙ w) random)
    (wants_over hs gs n (sym e) (λ k h w. wanted k (back k h) ∙ w) (λ k h. sym (random k (back k h)))) where
      back : (k : ℕ) → k < length hs → k < length gs
      back k h = subst (λ m. k < m) e h

-- WHAT IS WANTED OF GEAR THAT WERE OPENED: only numbers below FFFFFF
pub wanted_below : (gs : List Gear) (n : ℕ) → IsOpened gs → wants gs n ≡ true → n < MASK24
wanted_below gs n opened wants =
    let there = wants_at gs n wants in
    subst (λ m. m < MASK24) there.3 (opened.drawn there.0 there.1 (wanted_powered (gear_of gs there.0) there.2) (wanted_active (gear_of gs there.0) there.2))

-- all that are bare, and no other where none is named
bare_wanted : (g : Gear) → (g.powered ≡ true → Enabling g) → is_bare g ≡ true → is_wanted g ≡ true
bare_wanted g enabling bare = let is = bare_is g bare in is_wanted_by g is.0 (enabling is.0 is.1)

wanted_bare : (g : Gear) → (g.powered ≡ true → Unnamed g) → is_wanted g ≡ true → is_bare g ≡ true
wanted_bare g unnamed wanted = let on = wanted_powered g wanted in is_bare_by g on (unnamed on (wanted_enabled g wanted))

pub wanted_count : (gs : List Gear) → IsOpened gs → NoneNamed gs → count_by is_wanted gs ≡ count_by is_bare gs
wanted_count gs opened named =
    count_same is_bare is_wanted gs gs refl (λ k h. same_tests (is_wanted (gear_of gs k)) (is_bare (gear_of gs k)) (wanted_bare (gear_of gs k) (named k h))
    (bare_wanted (gear_of gs k) (opened.bare k h)))

-- none are wanted where no number is
pub count_none : (gs : List Gear) → ((n : ℕ) → wants gs n ≡ true → ⊥) → count_by is_wanted gs ≡ 0
count_none gs none = go gs (λ k h wanted. none (gear_of gs k).random (wants_by gs (gear_of gs k).random k h wanted refl)) where
  go : (hs : List Gear) → ((k : ℕ) → k < length hs → is_wanted (gear_of hs k) ≡ true → ⊥) → count_by is_wanted hs ≡ 0
  go [] no_one = refl
  go (h ∷ hs) no_one =
      let here : is_wanted h ≡ false = same_tests (is_wanted h) false (λ e. absurd (no_one 0 (omega arith) e)) (λ e. absurd (cc)) in
      let rest : count_by is_wanted hs ≡ 0 = go hs (λ k in_row e. no_one (suc k) (omega arith) e) in
      rw (count_first is_wanted h hs, here, rest) refl

-- and some where one is
pub count_some : (gs : List Gear) (n : ℕ) → wants gs n ≡ true → 0 < count_by is_wanted gs
count_some gs n wants = let there = wants_at gs n wants in go gs there.0 there.1 there.2 where
  go : (hs : List Gear) (k : ℕ) → k < length hs → is_wanted (gear_of hs k) ≡ true → 0 < count_by is_wanted hs
  go [] k h e = absurd (omega arith)
  go (h ∷ hs) zero in_row e = rw (count_first is_wanted h hs, e) (omega arith)
  go (h ∷ hs) (suc k) in_row e = let rest : 0 < count_by is_wanted hs = go hs k (omega arith) e in rw (count_first is_wanted h hs) (omega (arith, rest))

-- WHAT A FRAME DOES TO EACH GEAR, if it does so to each that has power
moved_by : (c : Command) (P : Gear → Gear → Type 0) → ((g : Gear) → (g.powered ≡ true → ⊥) → P g g)
    → ((g : Gear) (x : ℕ) → g.powered ≡ true → P g (gear_taken c x g))
    → (ds : List (ℕ × ℕ)) (k : ℕ) (g h : Gear) → Moved Everyone c ds k g h → P g h
moved_by c P off on ds k g _ (stays e) = off g (λ up. absurd (let there : takes Everyone k g ≡ true = powered_takes k g up in cc))
moved_by c P off on ds k g _ (goes x e drew) = on g x (takes_powered Everyone k g e)

pub after_at : (c : Command) (P : Gear → Gear → Type 0) → ((g : Gear) → (g.powered ≡ true → ⊥) → P g g)
    → ((g : Gear) (x : ℕ) → g.powered ≡ true → P g (gear_taken c x g))
    → (gs : List Gear) (left : List ℕ) (k : ℕ) → k < length gs → P (gear_of gs k) (gear_of (row_after Everyone c 0 gs left) k)
after_at c P off on gs left k h =
    moved_by c P off on (drawn_of Everyone c 0 gs left) k (gear_of gs k) (gear_of (row_after Everyone c 0 gs left) k) (moves_at Everyone c gs left k h)
