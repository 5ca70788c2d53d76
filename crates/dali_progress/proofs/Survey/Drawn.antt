use Rattle.dali_progress.proofs.Below.{◌≡◌, ℕ, ◌+◌, ◌<◌, ◌⊎◌, inl, inr, Bool, true, false, zero, suc, List, [], ◌∷◌, refl, sym, ap, subst, ◌∙◌, arith, length}
use Rattle.dali_progress.proofs.Below.{Option, Some, None, ◌==◌, ◌&&◌, not, is_some, nat_le, if◌then◌else◌, nat_tests, sum_by-cons, count_by, value_of, MASK24}
use Rattle.dali_progress.proofs.Below.{SearchAddress, Command, Randomise, Compare, Withdraw, SearchHigh, SearchMiddle, SearchLow, Program, QueryShort, Gear}
use Rattle.dali_progress.proofs.Below.{fresh, is_enabled, is_active, is_found, draws_a_number, gear_taken, answer, short_after, takes, next_draw, one_after}
use Rattle.dali_progress.proofs.Below.{left_after, row_after, option_cons, answers_of, Everyone, Disabled, Enabled, Assignment, Has, same_member, AreDrawn}
use Rattle.dali_progress.proofs.Below.{is_bare, gear_of, OfPowered, Seek, AreApart, IsOpened, NoneNamed, World, row_length, AreOpening, OpenedBy, both_pass}
use Rattle.dali_progress.proofs.Below.{same_number, number_same, count_same, after_at, AreTabled}
use Rattle.dali_script.specs.declared.stage.Stage.TheVariants as stage

-- A HUNT sees the gear that drew a number. Gear without short address whose number is FFFFFF are left out of the row,
-- as gear without power would be; so what is known of a search after an opening is known of this one.
abbrev pub is_undrawn : Gear → Bool
is_undrawn g = (g.random == MASK24) && not (is_some g.short)

abbrev pub dark : Gear
dark = record fresh { powered = false }

abbrev pub drop_one : Bool → Gear → Gear
drop_one true g = dark
drop_one false g = g

abbrev pub those_drawn : List Gear → List Gear
those_drawn [] = []
those_drawn (g ∷ gs) = drop_one (is_undrawn g) g ∷ those_drawn gs

-- ---------------------------------------------------------------- gear by gear

pub drawn_length : (gs : List Gear) → length (those_drawn gs) ≡ length gs
drawn_length [] = refl
drawn_length (g ∷ gs) = let rest = drawn_length gs in omega (arith, rest)

drawn_at : (gs : List Gear) (k : ℕ) → k < length gs → gear_of (those_drawn gs) k ≡ drop_one (is_undrawn (gear_of gs k)) (gear_of gs k)
drawn_at [] k h = absurd (omega arith)
drawn_at (g ∷ gs) zero h = refl
drawn_at (g ∷ gs) (suc k) h = drawn_at gs k (omega arith)

there_in : (gs : List Gear) (k : ℕ) → k < length (those_drawn gs) → k < length gs
there_in gs k h = subst (λ n. k < n) (drawn_length gs) h

pub kept_at : (gs : List Gear) (k : ℕ) → k < length gs → is_undrawn (gear_of gs k) ≡ false → gear_of (those_drawn gs) k ≡ gear_of gs k
kept_at gs k h is = drawn_at gs k h ∙ ap (λ b. drop_one b (gear_of gs k)) is

dark_at : (gs : List Gear) (k : ℕ) → k < length gs → is_undrawn (gear_of gs k) ≡ true → gear_of (those_drawn gs) k ≡ dark
dark_at gs k h is = drawn_at gs k h ∙ ap (λ b. drop_one b (gear_of gs k)) is

-- one that has power there is the same
pub record IsSeen (gs : List Gear) (k : ℕ) : Type 0 where
  pub there : k < length gs
  pub drew : is_undrawn (gear_of gs k) ≡ false
  pub same : gear_of (those_drawn gs) k ≡ gear_of gs k

pub who_seen : (gs : List Gear) (k : ℕ) → k < length (those_drawn gs) → (gear_of (those_drawn gs) k).powered ≡ true → IsSeen gs k
who_seen gs k h on = go (is_undrawn (gear_of gs k)) refl where
  there : k < length gs
  there = there_in gs k h

  go : (b : Bool) → is_undrawn (gear_of gs k) ≡ b → IsSeen gs k
  go true is = absurd (let off : false ≡ true = sym (ap (λ (g : Gear). g.powered) (dark_at gs k there is)) ∙ on in cc)
  go false is = record { there = there; drew = is; same = kept_at gs k there is }

pub of_drawn : (P : Gear → Type 0) (gs : List Gear) → OfPowered gs (λ g. is_undrawn g ≡ false → P g) → OfPowered (those_drawn gs) P
of_drawn P gs all k h on =
    let seen = who_seen gs k h on in
    subst P (sym seen.same) (all k seen.there (sym (ap (λ (g : Gear). g.powered) seen.same) ∙ on) seen.drew)

pub seek_drawn : (gs : List Gear) (r : SearchAddress) → Seek gs r → Seek (those_drawn gs) r
seek_drawn gs r seek = of_drawn (λ g. is_active g.state ≡ true → g.search ≡ r) gs (λ k h on drew. seek k h on)

-- ---------------------------------------------------------------- a frame of a search

-- the frames of probes and visits
abbrev pub IsSearching : Command → Type 0
IsSearching (SearchHigh byte) = Unit {0}
IsSearching (SearchMiddle byte) = Unit {0}
IsSearching (SearchLow byte) = Unit {0}
IsSearching Compare = Unit {0}
IsSearching QueryShort = Unit {0}
IsSearching Withdraw = Unit {0}
IsSearching (Program (Some a)) = Unit {0}
IsSearching _ = ⊥

-- one that is left out neither answers nor stores an address
abbrev pub Still : Command → Gear → Type 0
Still c g = is_undrawn g ≡ true → g.powered ≡ true → (short_after c g ≡ None) × (answer c g ≡ None)

given_undrawn : (g : Gear) (o : Option ℕ) (b : Bool) → is_undrawn g ≡ b → (b ≡ true → o ≡ None) → (b ≡ false → (g.random == MASK24) ≡ true → is_some o ≡ true)
    → ((g.random == MASK24) && not (is_some o)) ≡ b
given_undrawn g o true is none some = let both = both_pass (g.random == MASK24) (not (is_some g.short)) is in rw (both.0, none refl) refl
given_undrawn g o false is none some = go (g.random == MASK24) refl where
  go : (m : Bool) → (g.random == MASK24) ≡ m → (m && not (is_some o)) ≡ false
  go true mask = rw (some refl mask) refl
  go false mask = refl

-- an address is stored if there was none, or one is kept
stored : (g : Gear) (a : ℕ) (b : Bool) → is_undrawn g ≡ false → (g.random == MASK24) ≡ true → is_some (if b then Some a else g.short) ≡ true
stored g a true is mask = refl
stored g a false is mask = go (is_some g.short) refl is where
  go : (m : Bool) → is_some g.short ≡ m → ((g.random == MASK24) && not (is_some g.short)) ≡ false → is_some g.short ≡ true
  go true some e = some
  go false some e =
      absurd (let all : ((g.random == MASK24) && not (is_some g.short)) ≡ true = rw (mask, some) refl in let never : true ≡ false = sym all ∙ e in cc)

undrawn_taken : (c : Command) (g : Gear) (x : ℕ) → IsSearching c → Still c g → g.powered ≡ true → is_undrawn (gear_taken c x g) ≡ is_undrawn g
undrawn_taken (Program (Some a)) g x is still on =
    given_undrawn g (short_after (Program (Some a)) g) (is_undrawn g) refl (λ e. (still e on).0) (λ e mask. stored g a (is_active g.state && is_found g) e mask)
undrawn_taken (Program None) g x is still on = absurd is
undrawn_taken (SearchHigh byte) g x is still on = refl
undrawn_taken (SearchMiddle byte) g x is still on = refl
undrawn_taken (SearchLow byte) g x is still on = refl
undrawn_taken Compare g x is still on = refl
undrawn_taken QueryShort g x is still on = refl
undrawn_taken Withdraw g x is still on = refl
undrawn_taken _ g x is still on = absurd is

pub no_draw : (c : Command) (g : Gear) → IsSearching c → draws_a_number c g ≡ false
no_draw Randomise g is = absurd is
no_draw _ g is = refl

pub not_randomise : (c : Command) → IsSearching c → c ≡ Randomise → ⊥
not_randomise c is e = subst IsSearching e is

-- the first gear of a row
one_on : (c : Command) (k : ℕ) (g : Gear) (numbers : List ℕ) → g.powered ≡ true
    → one_after (takes Everyone k g) c numbers g ≡ gear_taken c (next_draw g numbers) g
one_on c k g numbers on = ap (λ p. one_after (p && true) c numbers g) on

one_off : (c : Command) (k : ℕ) (g : Gear) (numbers : List ℕ) → g.powered ≡ false → one_after (takes Everyone k g) c numbers g ≡ g
one_off c k g numbers off = ap (λ p. one_after (p && true) c numbers g) off

one_drawn : (c : Command) (k : ℕ) (g : Gear) (numbers : List ℕ) → IsSearching c → Still c g
    → one_after (takes Everyone k (drop_one (is_undrawn g) g)) c numbers (drop_one (is_undrawn g) g)
    ≡ drop_one (is_undrawn (one_after (takes Everyone k g) c numbers g)) (one_after (takes Everyone k g) c numbers g)
one_drawn c k g numbers is still = go g.powered refl (is_undrawn g) refl where
  go : (p : Bool) → g.powered ≡ p → (b : Bool) → is_undrawn g ≡ b
      → one_after (takes Everyone k (drop_one b g)) c numbers (drop_one b g) ≡ drop_one (is_undrawn (one_after (takes Everyone k g) c numbers g))
      (one_after (takes Everyone k g) c numbers g)
  go true on true undrawn =
      subst (λ (n : Gear). dark ≡ drop_one (is_undrawn n) n) (sym (one_on c k g numbers on))
      (sym (ap (λ b. drop_one b (gear_taken c (next_draw g numbers) g)) (undrawn_taken c g (next_draw g numbers) is still on ∙ undrawn)))
  go true on false drew =
      subst (λ (n : Gear). n ≡ drop_one (is_undrawn n) n) (sym (one_on c k g numbers on))
      (sym (ap (λ b. drop_one b (gear_taken c (next_draw g numbers) g)) (undrawn_taken c g (next_draw g numbers) is still on ∙ drew)))
  go false off true undrawn = subst (λ (n : Gear). dark ≡ drop_one (is_undrawn n) n) (sym (one_off c k g numbers off)) (sym (ap (λ b. drop_one b g) undrawn))
  go false off false drew = subst (λ (n : Gear). n ≡ drop_one (is_undrawn n) n) (sym (one_off c k g numbers off)) (sym (ap (λ b. drop_one b g) drew))

left_over : (b d : Bool) (numbers : List ℕ) → d ≡ false → left_after (b && d) numbers ≡ numbers
left_over true d numbers none = rw none refl
left_over false d numbers none = refl

pub row_drawn : (c : Command) (k : ℕ) (gs : List Gear) (numbers : List ℕ) → IsSearching c → ((i : ℕ) → i < length gs → Still c (gear_of gs i))
    → row_after Everyone c k (those_drawn gs) numbers ≡ those_drawn (row_after Everyone c k gs numbers)
row_drawn c k [] numbers is still = refl
row_drawn c k (g ∷ gs) numbers is still =
    let first = one_drawn c k g numbers is (still 0 (omega arith)) in
    let one : left_after (takes Everyone k g && draws_a_number c g) numbers ≡ numbers =
    left_over (takes Everyone k g) (draws_a_number c g) numbers (no_draw c g is) in
    let other : left_after (takes Everyone k (drop_one (is_undrawn g) g) && draws_a_number c (drop_one (is_undrawn g) g)) numbers ≡ numbers =
    left_over (takes Everyone k (drop_one (is_undrawn g) g)) (draws_a_number c (drop_one (is_undrawn g) g)) numbers
    (no_draw c (drop_one (is_undrawn g) g) is) in
    let rest = row_drawn c (k + 1) gs numbers is (λ i h. still (suc i) (omega arith)) in
    ap (λ ns. one_after (takes Everyone k (drop_one (is_undrawn g) g)) c numbers (drop_one (is_undrawn g) g) ∷ row_after Everyone c (k + 1) (those_drawn gs) ns)
    other ∙ ap (λ hs. one_after (takes Everyone k (drop_one (is_undrawn g) g)) c numbers (drop_one (is_undrawn g) g) ∷ hs) rest
    ∙ ap (λ h. h ∷ those_drawn (row_after Everyone c (k + 1) gs numbers)) first
    ∙ sym (ap (λ ns. those_drawn (one_after (takes Everyone k g) c numbers g ∷ row_after Everyone c (k + 1) gs ns)) one)

pub answers_drawn : (c : Command) (k : ℕ) (gs : List Gear) → ((i : ℕ) → i < length gs → Still c (gear_of gs i))
    → answers_of Everyone c k (those_drawn gs) ≡ answers_of Everyone c k gs
answers_drawn c k [] still = refl
answers_drawn c k (g ∷ gs) still =
    ap (λ bytes. option_cons (if takes Everyone k (drop_one (is_undrawn g) g) then answer c (drop_one (is_undrawn g) g) else None) bytes)
    (answers_drawn c (k + 1) gs (λ i h. still (suc i) (omega arith))) ∙ ap (λ o. option_cons o (answers_of Everyone c (k + 1) gs))
    (go (is_undrawn g) refl) where
      go : (b : Bool) → is_undrawn g ≡ b
          → (if takes Everyone k (drop_one b g) then answer c (drop_one b g) else None) ≡ (if takes Everyone k g then answer c g else None)
      go false drew = refl
      go true undrawn = by g.powered refl where
        by : (p : Bool) → g.powered ≡ p → None ≡ (if takes Everyone k g then answer c g else None)
        by true on = sym (ap (λ q. if q && true then answer c g else None) on ∙ (still 0 (omega arith) undrawn on).1)
        by false off = sym (ap (λ q. if q && true then answer c g else None) off)

-- ---------------------------------------------------------------- which frames are so

pub none_of : (o : Option ℕ) → not (is_some o) ≡ true → o ≡ None
none_of None e = refl
none_of (Some a) e = absurd (cc)

pub undrawn_random : (g : Gear) → is_undrawn g ≡ true → (g.random ≡ MASK24) × (g.short ≡ None)
undrawn_random g is = let both = both_pass (g.random == MASK24) (not (is_some g.short)) is in (same_number g.random MASK24 both.0, none_of g.short both.1)

-- none that is left out is found under a number below FFFFFF
unfound : (g : Gear) (r : SearchAddress) → g.random ≡ MASK24 → g.search ≡ r → value_of r < MASK24 → is_found g ≡ false
unfound g r random search small =
    let apart : g.random ≡ value_of g.search → ⊥ =
    λ e. (let same : value_of g.search ≡ value_of r = ap value_of search in omega (arith, random, same, small, e)) in
    test g.random (value_of g.search) apart
  where
    test : (m n : ℕ) → (m ≡ n → ⊥) → (m == n) ≡ false
    test m n other = grind (arith, nat_tests, other)

pub not_most : (m n : ℕ) → n < m → nat_le m n ≡ false
not_most m n less = grind (arith, nat_tests, less)

above : (g : Gear) (r : SearchAddress) → g.random ≡ MASK24 → g.search ≡ r → value_of r < MASK24 → nat_le g.random (value_of g.search) ≡ false
above g r random search small =
    let less : value_of g.search < g.random = (let same : value_of g.search ≡ value_of r = ap value_of search in omega (arith, random, same, small)) in
    not_most g.random (value_of g.search) less

active_enabled : (g : Gear) → is_enabled g.state ≡ true → is_active g.state ≡ true
active_enabled g e = go g.state e where
  go : (s : _) → is_enabled s ≡ true → is_active s ≡ true
  go Disabled e = absurd (cc)
  go _ e = refl

abbrev Seeking : Gear → SearchAddress → Type 0
Seeking g r = g.powered ≡ true → is_active g.state ≡ true → g.search ≡ r

still_compare : (g : Gear) (r : SearchAddress) → Seeking g r → value_of r < MASK24 → Still Compare g
still_compare g r seek small is on = (none.1, go (is_enabled g.state) refl) where
  none : (g.random ≡ MASK24) × (g.short ≡ None)
  none = undrawn_random g is

  go : (b : Bool) → is_enabled g.state ≡ b → answer Compare g ≡ None
  go true enabled = rw (enabled, above g r none.0 (seek on (active_enabled g enabled)) small) refl
  go false off = rw off refl

still_query : (g : Gear) (r : SearchAddress) → Seeking g r → value_of r < MASK24 → Still QueryShort g
still_query g r seek small is on = (none.1, go (is_active g.state) refl) where
  none : (g.random ≡ MASK24) × (g.short ≡ None)
  none = undrawn_random g is

  go : (b : Bool) → is_active g.state ≡ b → answer QueryShort g ≡ None
  go true active = rw (active, unfound g r none.0 (seek on active) small) refl
  go false off = rw off refl

still_program : (g : Gear) (r : SearchAddress) (a : ℕ) → Seeking g r → value_of r < MASK24 → Still (Program (Some a)) g
still_program g r a seek small is on = (go (is_active g.state) refl, refl) where
  none : (g.random ≡ MASK24) × (g.short ≡ None)
  none = undrawn_random g is

  go : (b : Bool) → is_active g.state ≡ b → short_after (Program (Some a)) g ≡ None
  go true active = rw (active, unfound g r none.0 (seek on active) small) none.1
  go false off = rw off none.1

-- the number that is searched, if the frame asks for it
abbrev pub IsSoughtBy : List Gear → Command → Type 0
IsSoughtBy gs Compare = (r : SearchAddress) × Seek gs r × (value_of r < MASK24)
IsSoughtBy gs QueryShort = (r : SearchAddress) × Seek gs r × (value_of r < MASK24)
IsSoughtBy gs (Program (Some a)) = (r : SearchAddress) × Seek gs r × (value_of r < MASK24)
IsSoughtBy gs c = IsSearching c

pub searching_of : (gs : List Gear) (c : Command) → IsSoughtBy gs c → IsSearching c
searching_of gs Compare is = tt
searching_of gs QueryShort is = tt
searching_of gs (Program (Some a)) is = tt
searching_of gs _ is = is

pub still_of : (gs : List Gear) (c : Command) → IsSoughtBy gs c → (i : ℕ) → i < length gs → Still c (gear_of gs i)
still_of gs Compare is i h = still_compare (gear_of gs i) is.0 (is.1 i h) is.2
still_of gs QueryShort is i h = still_query (gear_of gs i) is.0 (is.1 i h) is.2
still_of gs (Program (Some a)) is i h = still_program (gear_of gs i) is.0 a (is.1 i h) is.2
still_of gs (Program None) is i h = absurd is
still_of gs (SearchHigh byte) is i h = λ undrawn on. ((undrawn_random (gear_of gs i) undrawn).1, refl)
still_of gs (SearchMiddle byte) is i h = λ undrawn on. ((undrawn_random (gear_of gs i) undrawn).1, refl)
still_of gs (SearchLow byte) is i h = λ undrawn on. ((undrawn_random (gear_of gs i) undrawn).1, refl)
still_of gs Withdraw is i h = λ undrawn on. ((undrawn_random (gear_of gs i) undrawn).1, refl)
still_of gs _ is i h = absurd is

-- ---------------------------------------------------------------- how many they are

abbrev pub is_lost : Gear → Bool
is_lost g = g.powered && is_undrawn g

pub count_first : (p : Gear → Bool) (g : Gear) (gs : List Gear) → count_by p (g ∷ gs) ≡ (if p g then 1 else 0) + count_by p gs
count_first p g gs = sum_by-cons (λ x. if p x then 1 else 0) g gs

bare_left : (b : Bool) (g : Gear) → is_bare (drop_one b g) ≡ (not b && is_bare g)
bare_left true g = refl
bare_left false g = refl

three : (p m s : Bool) → (if p && not s then 1 else 0) ≡ (if not (m && not s) && (p && not s) then 1 else 0) + (if p && (m && not s) then 1 else 0)
three true true true = omega arith
three true true false = omega arith
three true false true = omega arith
three true false false = omega arith
three false true true = omega arith
three false true false = omega arith
three false false true = omega arith
three false false false = omega arith

one_bare : (g : Gear) → (if is_bare g then 1 else 0) ≡ (if is_bare (drop_one (is_undrawn g) g) then 1 else 0) + (if is_lost g then 1 else 0)
one_bare g =
    three g.powered (g.random == MASK24) (is_some g.short) ∙ sym (ap (λ b. (if b then 1 else 0) + (if is_lost g then 1 else 0)) (bare_left (is_undrawn g) g))

pub bare_split : (gs : List Gear) → count_by is_bare gs ≡ count_by is_bare (those_drawn gs) + count_by is_lost gs
bare_split [] = refl
bare_split (g ∷ gs) =
    let one = one_bare g in
    let rest = bare_split gs in
    rw (count_first is_bare g gs, count_first is_bare (drop_one (is_undrawn g) g) (those_drawn gs), count_first is_lost g gs) (omega (arith, one, rest))

pub count_nothing : (p : Gear → Bool) (gs : List Gear) → ((k : ℕ) → k < length gs → p (gear_of gs k) ≡ true → ⊥) → count_by p gs ≡ 0
count_nothing p [] none = refl
count_nothing p (g ∷ gs) none =
    let rest = count_nothing p gs (λ k h is. none (suc k) (omega arith) is) in
    rw (count_first p g gs, here (p g) refl, rest) refl
  where
    here : (b : Bool) → p g ≡ b → p g ≡ false
    here false is = is
    here true is = absurd (none 0 (omega arith) is)

lost_taken : (c : Command) (g : Gear) (x : ℕ) → IsSearching c → Still c g → g.powered ≡ true → is_lost (gear_taken c x g) ≡ is_lost g
lost_taken c g x is still on = ap (λ b. g.powered && b) (undrawn_taken c g x is still on)

pub lost_same : (c : Command) (gs : List Gear) (numbers : List ℕ) → IsSearching c → ((i : ℕ) → i < length gs → Still c (gear_of gs i))
    → count_by is_lost (row_after Everyone c 0 gs numbers) ≡ count_by is_lost gs
lost_same c gs numbers is still =
    count_same is_lost is_lost gs (row_after Everyone c 0 gs numbers) (row_length Everyone c 0 gs numbers)
    (λ k h. after_at c (λ g h. Still c g → is_lost h ≡ is_lost g) (λ g off s. refl) (λ g x on s. lost_taken c g x is s on) gs numbers k h (still k h))

-- ---------------------------------------------------------------- the start of such a search, and its end

-- each random address is FFFFFF, or below it
abbrev pub AreNumbered : List Gear → Type 0
AreNumbered gs = (k : ℕ) → k < length gs → ((gear_of gs k).random ≡ MASK24) ⊎ ((gear_of gs k).random < MASK24)

pub numbered_of : (w : World) → AreDrawn w → AreNumbered w.gear
numbered_of w drawn k h = go (drawn.random k h) where
  go : ((gear_of w.gear k).random ≡ MASK24) ⊎ Has w.drawn (k, (gear_of w.gear k).random)
      → ((gear_of w.gear k).random ≡ MASK24) ⊎ ((gear_of w.gear k).random < MASK24)
  go (inl none) = inl none
  go (inr has) = inr (drawn.below k (gear_of w.gear k).random has)

-- no two have drawn one number
abbrev pub DrewApart : List Gear → Type 0
DrewApart gs = (j k : ℕ) → j < length gs → k < length gs → (gear_of gs j).random < MASK24 → (gear_of gs j).random ≡ (gear_of gs k).random → j ≡ k

pub drew_apart : (w : World) → AreDrawn w → DrewApart w.gear
drew_apart w drawn j k h i small same =
    ap (λ draw. draw.0) (same_member (λ draw. draw.1) w.drawn (j, (gear_of w.gear j).random) (k, (gear_of w.gear k).random) drawn.once (drew j h small)
    (drew k i (subst (λ n. n < MASK24) same small)) same) where
      drew : (g : ℕ) → g < length w.gear → (gear_of w.gear g).random < MASK24 → Has w.drawn (g, (gear_of w.gear g).random)
      drew g there below = go (drawn.random g there) where
        go : ((gear_of w.gear g).random ≡ MASK24) ⊎ Has w.drawn (g, (gear_of w.gear g).random) → Has w.drawn (g, (gear_of w.gear g).random)
        go (inl none) = absurd (omega (arith, none, below))
        go (inr has) = has

-- so gear that drew are apart
pub apart_drawn : (gs : List Gear) → DrewApart gs → IsOpened (those_drawn gs) → AreApart (those_drawn gs)
apart_drawn gs apart opened j k h i on up live awake same =
    let one = who_seen gs j h on in
    let two = who_seen gs k i up in
    let random : (gear_of (those_drawn gs) j).random ≡ (gear_of gs j).random = ap (λ (x : Gear). x.random) one.same in
    apart j k one.there two.there (subst (λ n. n < MASK24) random (opened.drawn j h on live)) (sym random ∙ same ∙ ap (λ (x : Gear). x.random) two.same)

pub woken_short : (g : Gear) → OpenedBy g → is_active g.state ≡ true → g.short ≡ None
woken_short g opened active = go g.short refl where
  go : (o : Option ℕ) → g.short ≡ o → g.short ≡ None
  go None e = e
  go (Some a) e =
      absurd (let disabled : g.state ≡ Disabled = opened.1 a e in let off : is_active g.state ≡ false = rw disabled refl in
      let never : true ≡ false = sym active ∙ off in cc)

woken_drawn : (g : Gear) → OpenedBy g → (g.random ≡ MASK24) ⊎ (g.random < MASK24) → is_undrawn g ≡ false → is_active g.state ≡ true → g.random < MASK24
woken_drawn g opened (inr small) drew active = small
woken_drawn g opened (inl mask) drew active =
    absurd (let none : g.short ≡ None = woken_short g opened active in
    let test : (g.random == MASK24) ≡ true = number_same g.random MASK24 mask in
    let undrawn : is_undrawn g ≡ true = rw (test, none) refl in
    let never : true ≡ false = sym undrawn ∙ drew in cc)

pub woken_opened : (gs : List Gear) → AreNumbered gs → AreOpening stage.Initialised gs → IsOpened (those_drawn gs)
woken_opened gs numbered all = record {
  bare = of_drawn (λ g. g.short ≡ None → g.state ≡ Enabled) gs (λ k h on drew none. (all k h on).1.0 none);
  drawn = of_drawn (λ g. is_active g.state ≡ true → g.random < MASK24) gs
      (λ k h on drew active. woken_drawn (gear_of gs k) (all k h on).1 (numbered k h) drew active);
}

pub woken_none_named : (gs : List Gear) → AreOpening stage.Initialised gs → NoneNamed (those_drawn gs)
woken_none_named gs all =
    of_drawn (λ g. g.state ≡ Enabled → g.short ≡ None) gs (λ k h on drew enabled. woken_short (gear_of gs k) (all k h on).1 (rw enabled refl))

-- the table, with all gear and with those that drew
pub tabled_drawn : (before : List Gear) (xs : List Assignment) (gs : List Gear) → AreTabled before xs gs → AreTabled before xs (those_drawn gs)
tabled_drawn before xs gs tabled k a h short = go (is_undrawn (gear_of gs k)) refl where
  there : k < length gs
  there = there_in gs k h

  go : (b : Bool) → is_undrawn (gear_of gs k) ≡ b → ((gear_of before k).short ≡ Some a) ⊎ Has xs (a, (gear_of (those_drawn gs) k).random)
  go true is = absurd (let none : None ≡ Some a = sym (ap (λ (g : Gear). g.short) (dark_at gs k there is)) ∙ short in cc)
  go false is =
      let same = kept_at gs k there is in
      subst (λ (g : Gear). ((gear_of before k).short ≡ Some a) ⊎ Has xs (a, g.random)) (sym same)
      (tabled k a there (sym (ap (λ (g : Gear). g.short) same) ∙ short))

pub drawn_tabled : (before : List Gear) (xs : List Assignment) (gs : List Gear) → AreTabled before xs (those_drawn gs) → AreTabled before xs gs
drawn_tabled before xs gs tabled k a h short = go (is_undrawn (gear_of gs k)) refl where
  go : (b : Bool) → is_undrawn (gear_of gs k) ≡ b → ((gear_of before k).short ≡ Some a) ⊎ Has xs (a, (gear_of gs k).random)
  go true is = absurd (let none : None ≡ Some a = sym (undrawn_random (gear_of gs k) is).1 ∙ short in cc)
  go false is =
      let same = kept_at gs k h is in
      subst (λ (g : Gear). ((gear_of before k).short ≡ Some a) ⊎ Has xs (a, g.random)) same
      (tabled k a (subst (λ n. k < n) (sym (drawn_length gs)) h) (ap (λ (g : Gear). g.short) same ∙ short))
