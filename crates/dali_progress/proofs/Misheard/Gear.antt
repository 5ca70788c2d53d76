use Rattle.dali_progress.proofs.Below.{◌≡◌, ℕ, ◌<◌, ◌⊎◌, inl, inr, Bool, true, false, List, refl, sym, ap, subst, ◌∙◌, arith, length, Some, None, ◌&&◌, ◌==◌}
use Rattle.dali_progress.proofs.Below.{is_some, if◌then◌else◌, value_of, MASK24, Byte, SearchAddress, program_data, Command, QueryShort, Randomise, Withdraw}
use Rattle.dali_progress.proofs.Below.{Program, Gear, draws_a_number, is_second, is_active, is_found, gear_taken, answer_to, row_after, answers_of, heard_of}
use Rattle.dali_progress.proofs.Below.{Everyone, InitialisationState, Disabled, Enabled, Withdrawn, Assignment, Has, HasShort, gear_of, is_wanted, Seek}
use Rattle.dali_progress.proofs.Below.{found_random, row_length, random_found, one_answers, queried_short, queried_none, SameGear, SameCore, AreOpening}
use Rattle.dali_progress.proofs.Below.{after_program, Programs, programs_at, same_number, number_same, after_at, wanted_powered, wanted_active, after_withdraw}
use Rattle.dali_progress.proofs.{Below.{Withdraws, withdraws_at}, Stands.HaveShort, Survey.Drawn.DrewApart, Later.some_same}
use Rattle.dali_script.specs.declared.stage.Stage.TheVariants as stage

-- WHAT IS TRUE OF GEAR IF ONE IS MISHEARD: of each gear with power, by its number in the row.

abbrev pub Each : List Gear → (ℕ → Gear → Type 0) → Type 0
Each gs P = (k : ℕ) → k < length gs → (gear_of gs k).powered ≡ true → P k (gear_of gs k)

pub each_after : (c : Command) (P Q : ℕ → Gear → Type 0) → ((k : ℕ) (y : Gear) (x : ℕ) → P k y → Q k (gear_taken c x y)) → (gs : List Gear) (numbers : List ℕ)
    → Each gs P → Each (row_after Everyone c 0 gs numbers) Q
each_after c P Q step gs numbers all k in_row on =
    let there : k < length gs = subst (λ n. k < n) (row_length Everyone c 0 gs numbers) in_row in
    after_at c (λ g h. (g.powered ≡ true → P k g) → h.powered ≡ true → Q k h) (λ g off was up. absurd (off up))
    (λ g x up was still. step k g x (was up)) gs numbers k there (all k there) on

pub each_core : (P Q : ℕ → Gear → Type 0) → ((k : ℕ) (y z : Gear) → SameGear y z → P k y → Q k z) → (gs hs : List Gear) → SameCore gs hs → Each gs P → Each hs Q
each_core P Q step gs hs same all k in_row on =
    let there : k < length gs = subst (λ n. k < n) same.same_length in_row in
    let one = same.each k there in
    step k (gear_of gs k) (gear_of hs k) one (all k there (sym one.same_powered ∙ on))

-- ---------------------------------------------------------------- who is to be found

-- Each without short address that drew a number is ENABLED; but gear g once a search has found some gear.
abbrev pub IsSought : ℕ → ℕ → ℕ → Gear → Type 0
IsSought g found k y = (k ≡ g → found ≡ 0) → y.short ≡ None → y.random < MASK24 → y.state ≡ Enabled

abbrev pub AreSought : ℕ → ℕ → List Gear → Type 0
AreSought g found gs = Each gs (IsSought g found)

-- each but gear g that is ENABLED has no short address; but with this number, perhaps
abbrev pub IsBareBut : ℕ → ℕ → ℕ → Gear → Type 0
IsBareBut g v k y = (k ≡ g → ⊥) → y.state ≡ Enabled → (y.random ≡ v → ⊥) → y.short ≡ None

abbrev pub AreBareBut : ℕ → ℕ → List Gear → Type 0
AreBareBut g v gs = Each gs (IsBareBut g v)

abbrev pub IsBareOne : ℕ → ℕ → Gear → Type 0
IsBareOne g k y = (k ≡ g → ⊥) → y.state ≡ Enabled → y.short ≡ None

abbrev pub AreBare : ℕ → List Gear → Type 0
AreBare g gs = Each gs (IsBareOne g)

-- each but gear g that is ENABLED and has this number has a short address
abbrev pub IsNamedBut : ℕ → ℕ → ℕ → Gear → Type 0
IsNamedBut g v k y = (k ≡ g → ⊥) → y.state ≡ Enabled → y.random ≡ v → HasShort y

abbrev pub AreNamedBut : ℕ → ℕ → List Gear → Type 0
AreNamedBut g v gs = Each gs (IsNamedBut g v)

-- each without short address has drawn a number
abbrev pub HasDrawn : ℕ → Gear → Type 0
HasDrawn k y = y.short ≡ None → y.random < MASK24

abbrev pub HaveDrawn : List Gear → Type 0
HaveDrawn gs = Each gs HasDrawn

-- each that has a short address and a number is in the table, or the address is reserved for it
abbrev pub IsKnown : List Assignment → List Assignment → ℕ → Gear → Type 0
IsKnown reserved enrolled k y = (a : ℕ) → a < 64 → y.short ≡ Some a → y.random < MASK24 → Has enrolled (a, y.random) ⊎ Has reserved (a, y.random)

abbrev pub AreKnown : List Assignment → List Assignment → List Gear → Type 0
AreKnown reserved enrolled gs = Each gs (IsKnown reserved enrolled)

-- one with power that has this number has this short address
abbrev pub HasOne : ℕ → ℕ → List Gear → Type 0
HasOne v a gs = (k : ℕ) × (k < length gs) × ((gear_of gs k).powered ≡ true) × ((gear_of gs k).short ≡ Some a) × ((gear_of gs k).random ≡ v)

-- ---------------------------------------------------------------- frames that leave all but search addresses

pub sought_core : (g found : ℕ) (gs hs : List Gear) → SameCore gs hs → AreSought g found gs → AreSought g found hs
sought_core g found =
    each_core (IsSought g found) (IsSought g found) (λ k y z same was but none small. same.same_state
    ∙ was but (sym same.same_short ∙ none) (subst (λ n. n < MASK24) same.same_random small))

pub bare_core : (g : ℕ) (gs hs : List Gear) → SameCore gs hs → AreBare g gs → AreBare g hs
bare_core g = each_core (IsBareOne g) (IsBareOne g) (λ k y z same was other enabled. same.same_short ∙ was other (sym same.same_state ∙ enabled))

pub bare_but_core : (g v : ℕ) (gs hs : List Gear) → SameCore gs hs → AreBareBut g v gs → AreBareBut g v hs
bare_but_core g v =
    each_core (IsBareBut g v) (IsBareBut g v) (λ k y z same was other enabled apart. same.same_short
    ∙ was other (sym same.same_state ∙ enabled) (λ e. apart (same.same_random ∙ e)))

pub drawn_core : (gs hs : List Gear) → SameCore gs hs → HaveDrawn gs → HaveDrawn hs
drawn_core = each_core HasDrawn HasDrawn (λ k y z same was none. subst (λ n. n < MASK24) (sym same.same_random) (was (sym same.same_short ∙ none)))

pub known_core : (reserved enrolled : List Assignment) (gs hs : List Gear) → SameCore gs hs → AreKnown reserved enrolled gs → AreKnown reserved enrolled hs
known_core reserved enrolled =
    each_core (IsKnown reserved enrolled) (IsKnown reserved enrolled) (λ k y z same was a small short drew.
    subst (λ r. Has enrolled (a, r) ⊎ Has reserved (a, r)) (sym same.same_random)
    (was a small (sym same.same_short ∙ short) (subst (λ n. n < MASK24) same.same_random drew)))

pub one_core : (v a : ℕ) (gs hs : List Gear) → SameCore gs hs → HasOne v a gs → HasOne v a hs
one_core v a gs hs same one =
    let each = same.each one.0 one.1 in
    (one.0, subst (λ n. one.0 < n) (sym same.same_length) one.1, each.same_powered ∙ one.2, each.same_short ∙ one.3, each.same_random ∙ one.4)

-- ---------------------------------------------------------------- an address is programmed

bare_before : (gs : List Gear) (numbers : List ℕ) (r : SearchAddress) (a : ℕ) → Seek gs r → (k : ℕ) → k < length gs
    → (gear_of (after_program a gs numbers) k).short ≡ None → (gear_of gs k).short ≡ None
bare_before gs numbers r a seek k there none =
    let p = programs_at gs numbers r a seek k there in
    sym (p.others (λ on active random. (let never : None ≡ Some a = sym none ∙ p.programmed on active random in cc))) ∙ none

pub sought_programmed : (g found : ℕ) (gs : List Gear) (numbers : List ℕ) (r : SearchAddress) (a : ℕ) → Seek gs r → AreSought g found gs
    → AreSought g found (after_program a gs numbers)
sought_programmed g found gs numbers r a seek all k in_row on but none small =
    let there : k < length gs = subst (λ n. k < n) (row_length Everyone (Program (Some a)) 0 gs numbers) in_row in
    let p = programs_at gs numbers r a seek k there in
    p.same_state ∙ all k there (sym p.same_powered ∙ on) but (bare_before gs numbers r a seek k there none) (subst (λ n. n < MASK24) p.same_random small)

pub bare_programmed : (g : ℕ) (gs : List Gear) (numbers : List ℕ) (r : SearchAddress) (a : ℕ) → Seek gs r → AreBare g gs
    → AreBareBut g (value_of r) (after_program a gs numbers)
bare_programmed g gs numbers r a seek all k in_row on other enabled apart =
    let there : k < length gs = subst (λ n. k < n) (row_length Everyone (Program (Some a)) 0 gs numbers) in_row in
    let p = programs_at gs numbers r a seek k there in
    p.others (λ up active random. apart (p.same_random ∙ random)) ∙ all k there (sym p.same_powered ∙ on) other (sym p.same_state ∙ enabled)

pub drawn_programmed : (gs : List Gear) (numbers : List ℕ) (r : SearchAddress) (a : ℕ) → Seek gs r → HaveDrawn gs → HaveDrawn (after_program a gs numbers)
drawn_programmed gs numbers r a seek all k in_row on none =
    let there : k < length gs = subst (λ n. k < n) (row_length Everyone (Program (Some a)) 0 gs numbers) in_row in
    let p = programs_at gs numbers r a seek k there in
    subst (λ n. n < MASK24) (sym p.same_random) (all k there (sym p.same_powered ∙ on) (bare_before gs numbers r a seek k there none))

pub known_programmed : (reserved enrolled : List Assignment) (gs : List Gear) (numbers : List ℕ) (r : SearchAddress) (a : ℕ) → Seek gs r
    → Has reserved (a, value_of r) → AreKnown reserved enrolled gs → AreKnown reserved enrolled (after_program a gs numbers)
known_programmed reserved enrolled gs numbers r a seek has all k in_row on b small short drew =
    go (is_active (gear_of gs k).state) refl ((gear_of gs k).random == value_of r) refl where
      there : k < length gs
      there = subst (λ n. k < n) (row_length Everyone (Program (Some a)) 0 gs numbers) in_row

      p : Programs (value_of r) a (gear_of gs k) (gear_of (after_program a gs numbers) k)
      p = programs_at gs numbers r a seek k there

      up : (gear_of gs k).powered ≡ true
      up = sym p.same_powered ∙ on

      before : (gear_of (after_program a gs numbers) k).short ≡ (gear_of gs k).short
          → Has enrolled (b, (gear_of (after_program a gs numbers) k).random) ⊎ Has reserved (b, (gear_of (after_program a gs numbers) k).random)
      before same =
          subst (λ n. Has enrolled (b, n) ⊎ Has reserved (b, n)) (sym p.same_random)
          (all k there up b small (sym same ∙ short) (subst (λ n. n < MASK24) p.same_random drew))

      go : (c : Bool) → is_active (gear_of gs k).state ≡ c → (d : Bool) → ((gear_of gs k).random == value_of r) ≡ d
          → Has enrolled (b, (gear_of (after_program a gs numbers) k).random) ⊎ Has reserved (b, (gear_of (after_program a gs numbers) k).random)
      go true active true same =
          let random : (gear_of gs k).random ≡ value_of r = same_number (gear_of gs k).random (value_of r) same in
          let given : Some b ≡ Some a = sym short ∙ p.programmed up active random in
          inr (subst (λ n. Has reserved (n, (gear_of (after_program a gs numbers) k).random)) (some_same a b (sym given))
          (subst (λ n. Has reserved (a, n)) (sym (p.same_random ∙ random)) has))
      go true active false other =
          before (p.others (λ on active random. (let never : true ≡ false = sym (number_same (gear_of gs k).random (value_of r) random) ∙ other in cc)))
      go false resting d same = before (p.others (λ on active random. (let never : true ≡ false = sym active ∙ resting in cc)))

-- gear that draw have no short address
known_drawn : (reserved enrolled : List Assignment) (gs : List Gear) (numbers : List ℕ)
    → Each gs (λ k y. (a : ℕ) → y.short ≡ Some a → draws_a_number Randomise y ≡ false) → AreKnown reserved enrolled gs
    → AreKnown reserved enrolled (row_after Everyone Randomise 0 gs numbers)
known_drawn reserved enrolled gs numbers still all =
    each_after Randomise (λ k y. ((a : ℕ) → y.short ≡ Some a → draws_a_number Randomise y ≡ false) × IsKnown reserved enrolled k y) (IsKnown reserved enrolled)
    (λ k y x was a small short drew. (let same : (gear_taken Randomise x y).random ≡ y.random = ap (λ b. if b then x else y.random) (was.0 a short) in
    subst (λ n. Has enrolled (a, n) ⊎ Has reserved (a, n)) (sym same) (was.1 a small short (subst (λ n. n < MASK24) same drew))))
    gs numbers (λ k there on. (still k there on, all k there on))

pub known_once : (reserved enrolled : List Assignment) (gs : List Gear) (numbers : List ℕ) → AreOpening stage.Initialised gs → AreKnown reserved enrolled gs
    → AreKnown reserved enrolled (row_after Everyone Randomise 0 gs numbers)
known_once reserved enrolled gs numbers all = known_drawn reserved enrolled gs numbers (λ k there on a short. (let half = (all k there on).0 in rw half refl))

pub known_twice : (reserved enrolled : List Assignment) (gs : List Gear) (numbers : List ℕ) → AreOpening stage.RandomisedOnce gs → AreKnown reserved enrolled gs
    → AreKnown reserved enrolled (row_after Everyone Randomise 0 gs numbers)
known_twice reserved enrolled gs numbers all =
    known_drawn reserved enrolled gs numbers (λ k there on a short. still (gear_of gs k) ((all k there on).1.1 a short)) where
      still : (y : Gear) → y.state ≡ Disabled → draws_a_number Randomise y ≡ false
      still y is = rw is (none (is_second Randomise y.half)) where
        none : (b : Bool) → (b && false) ≡ false
        none true = refl
        none false = refl

pub known_more : (reserved enrolled more more_enrolled : List Assignment) (gs : List Gear) → ((x : Assignment) → Has reserved x → Has more x)
    → ((x : Assignment) → Has enrolled x → Has more_enrolled x) → AreKnown reserved enrolled gs → AreKnown more more_enrolled gs
known_more reserved enrolled more more_enrolled gs one two all k there on a small short drew = go (all k there on a small short drew) where
  go : Has enrolled (a, (gear_of gs k).random) ⊎ Has reserved (a, (gear_of gs k).random)
      → Has more_enrolled (a, (gear_of gs k).random) ⊎ Has more (a, (gear_of gs k).random)
  go (inl has) = inl (two (a, (gear_of gs k).random) has)
  go (inr has) = inr (one (a, (gear_of gs k).random) has)

-- ---------------------------------------------------------------- who was found is withdrawn

pub one_withdrawn : (v a : ℕ) (gs : List Gear) (numbers : List ℕ) (r : SearchAddress) → Seek gs r → HasOne v a gs → HasOne v a (after_withdraw gs numbers)
one_withdrawn v a gs numbers r seek one =
    let w = withdraws_at gs numbers r seek one.0 one.1 in
    (one.0, subst (λ n. one.0 < n) (sym (row_length Everyone Withdraw 0 gs numbers)) one.1, w.same_powered ∙ one.2, w.same_short ∙ one.3, w.same_random ∙ one.4)

pub have_named : (g v a : ℕ) (gs : List Gear) → HaveShort gs v a → AreNamedBut g v gs
have_named g v a gs all k there on other enabled random = (a, all k there on (rw enabled refl) random)

-- gear g alone has this number
pub own_named : (g v : ℕ) (gs : List Gear) → DrewApart gs → g < length gs → v < MASK24 → (gear_of gs g).random ≡ v → AreNamedBut g v gs
own_named g v gs apart in_row small is k there on other enabled random =
    absurd (other (apart k g there in_row (subst (λ n. n < MASK24) (sym random) small) (random ∙ sym is)))

pub own_bare : (g v : ℕ) (gs : List Gear) → DrewApart gs → g < length gs → v < MASK24 → (gear_of gs g).random ≡ v → AreBareBut g v gs → AreBare g gs
own_bare g v gs apart in_row small is all k there on other enabled =
    all k there on other enabled (λ random. other (apart k g there in_row (subst (λ n. n < MASK24) (sym random) small) (random ∙ sym is)))

pub bare_weaker : (g v : ℕ) (gs : List Gear) → AreBare g gs → AreBareBut g v gs
bare_weaker g v gs all k there on other enabled apart = all k there on other enabled

pub sought_withdrawn : (g found : ℕ) (gs : List Gear) (numbers : List ℕ) (r : SearchAddress) → Seek gs r → AreNamedBut g (value_of r) gs → AreSought g found gs
    → AreSought g 1 (after_withdraw gs numbers)
sought_withdrawn g found gs numbers r seek named all k in_row on but none small =
    let there : k < length gs = subst (λ n. k < n) (row_length Everyone Withdraw 0 gs numbers) in_row in
    let w = withdraws_at gs numbers r seek k there in
    let bare : (gear_of gs k).short ≡ None = sym w.same_short ∙ none in
    w.others (λ up enabled random. (let short = named k there up other enabled random in let never : None ≡ Some short.0 = sym bare ∙ short.1 in cc))
    ∙ all k there (sym w.same_powered ∙ on) (λ e. absurd (other e)) bare (subst (λ n. n < MASK24) w.same_random small)
  where
    other : k ≡ g → ⊥
    other e = let one : 1 ≡ 0 = but e in omega (arith, one)

pub still_enabled : (n : ℕ) (y z : Gear) → Withdraws n y z → y.powered ≡ true → z.state ≡ Enabled → (y.state ≡ Enabled) × (y.random ≡ n → ⊥)
still_enabled n y z w on enabled = go y.state refl where
  go : (s : InitialisationState) → y.state ≡ s → (y.state ≡ Enabled) × (y.random ≡ n → ⊥)
  go Enabled is = (is, λ random. (let gone : z.state ≡ Withdrawn = w.withdrawn on is random in let never : Enabled ≡ Withdrawn = sym enabled ∙ gone in cc))
  go Disabled is =
      absurd (let same : z.state ≡ y.state = w.others (λ up e random. (let never : Disabled ≡ Enabled = sym is ∙ e in cc)) in
      let never : Enabled ≡ Disabled = sym enabled ∙ same ∙ is in cc)
  go Withdrawn is =
      absurd (let same : z.state ≡ y.state = w.others (λ up e random. (let never : Withdrawn ≡ Enabled = sym is ∙ e in cc)) in
      let never : Enabled ≡ Withdrawn = sym enabled ∙ same ∙ is in cc)

pub bare_withdrawn : (g : ℕ) (gs : List Gear) (numbers : List ℕ) (r : SearchAddress) → Seek gs r → AreBareBut g (value_of r) gs
    → AreBare g (after_withdraw gs numbers)
bare_withdrawn g gs numbers r seek all k in_row on other enabled =
    let there : k < length gs = subst (λ n. k < n) (row_length Everyone Withdraw 0 gs numbers) in_row in
    let w = withdraws_at gs numbers r seek k there in
    let up : (gear_of gs k).powered ≡ true = sym w.same_powered ∙ on in
    let was = still_enabled (value_of r) (gear_of gs k) (gear_of (after_withdraw gs numbers) k) w up enabled in
    w.same_short ∙ all k there up other was.0 was.1

pub drawn_withdrawn : (gs : List Gear) (numbers : List ℕ) → HaveDrawn gs → HaveDrawn (after_withdraw gs numbers)
drawn_withdrawn gs numbers = each_after Withdraw HasDrawn HasDrawn (λ k y x was none. was none) gs numbers

-- ---------------------------------------------------------------- gear keep their numbers

pub random_core : (gs hs : List Gear) (k : ℕ) → SameCore gs hs → k < length gs → (gear_of hs k).random ≡ (gear_of gs k).random
random_core gs hs k same there = (same.each k there).same_random

pub random_programmed : (gs : List Gear) (numbers : List ℕ) (a k : ℕ) → k < length gs → (gear_of (after_program a gs numbers) k).random ≡ (gear_of gs k).random
random_programmed gs numbers a k there = after_at (Program (Some a)) (λ y z. z.random ≡ y.random) (λ y off. refl) (λ y x on. refl) gs numbers k there

pub random_withdrawn : (gs : List Gear) (numbers : List ℕ) (k : ℕ) → k < length gs → (gear_of (after_withdraw gs numbers) k).random ≡ (gear_of gs k).random
random_withdrawn gs numbers k there = after_at Withdraw (λ y z. z.random ≡ y.random) (λ y off. refl) (λ y x on. refl) gs numbers k there

-- ---------------------------------------------------------------- QUERY SHORT ADDRESS

-- the one gear that has the number answers
pub query_is : (gs : List Gear) (r : SearchAddress) (k : ℕ) → Seek gs r → DrewApart gs → value_of r < MASK24 → k < length gs → is_wanted (gear_of gs k) ≡ true
    → (gear_of gs k).random ≡ value_of r → heard_of (answers_of Everyone QueryShort 0 gs) ≡ Byte (program_data (gear_of gs k).short)
query_is gs r k seek apart small there wanted random =
    ap heard_of (one_answers QueryShort 0 gs k (program_data (gear_of gs k).short) there
    (queried_short (gear_of gs k) on active (random_found (gear_of gs k) r (seek k there on active) random))
    (λ j in_row other. queried_none (gear_of gs j) (λ up awake found.
    let same : (gear_of gs j).random ≡ value_of r = found_random (gear_of gs j) r (seek j in_row up awake) found in
    other (apart j k in_row there (subst (λ n. n < MASK24) (sym same) small) (same ∙ sym random))))) where
      on : (gear_of gs k).powered ≡ true
      on = wanted_powered (gear_of gs k) wanted

      active : is_active (gear_of gs k).state ≡ true
      active = wanted_active (gear_of gs k) wanted

-- who answers has the number that is sought
pub who_answers : (gs : List Gear) (r : SearchAddress) (k : ℕ) → Seek gs r → k < length gs → is_some (answer_to QueryShort (gear_of gs k)) ≡ true
    → (gear_of gs k).random ≡ value_of r
who_answers gs r k seek there some = go (gear_of gs k).powered (is_active (gear_of gs k).state) (is_found (gear_of gs k)) refl refl refl where
  none : ((gear_of gs k).powered ≡ true → is_active (gear_of gs k).state ≡ true → is_found (gear_of gs k) ≡ true → ⊥) → ⊥
  none other = let never : false ≡ true = sym (ap is_some (queried_none (gear_of gs k) other)) ∙ some in cc

  go : (a b c : Bool) → (gear_of gs k).powered ≡ a → is_active (gear_of gs k).state ≡ b → is_found (gear_of gs k) ≡ c → (gear_of gs k).random ≡ value_of r
  go true true true on active found = found_random (gear_of gs k) r (seek k there on active) found
  go false b c on active found = absurd (none (λ up awake is. (let never : true ≡ false = sym up ∙ on in cc)))
  go true false c on active found = absurd (none (λ up awake is. (let never : true ≡ false = sym awake ∙ active in cc)))
  go true true false on active found = absurd (none (λ up awake is. (let never : true ≡ false = sym is ∙ found in cc)))
