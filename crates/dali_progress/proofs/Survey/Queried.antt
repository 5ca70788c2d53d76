use Rattle.dali_progress.proofs.Below.{◌≡◌, ℕ, ◌+◌, ◌<◌, ◌≤◌, ◌⊎◌, inl, inr, Bool, true, false, zero, suc, List, [], ◌∷◌, refl, sym, ap, subst, ◌∙◌, arith}
use Rattle.dali_progress.proofs.Below.{length, Option, Some, None, ◌==◌, ◌&&◌, not, nat_lt, nat_tests, list_any_at, list_any, MASK24, RandomByte, Part, Gear}
use Rattle.dali_progress.proofs.Below.{fresh, byte_at, answer_to, answers_of, Everyone, Assignment, Has, Kept, IsKept, InBlock, gear_of, none_answer}
use Rattle.dali_progress.proofs.{Below.{one_answers, SameGear, SameCore, both_pass, same_number, number_same, at_any, AreTabled}, Survey.Drawn.AreNumbered}
use Rattle.{dali_progress.proofs.Survey.Drawn.DrewApart, dali_gear.specs.Gear.has_short}

-- A SHORT ADDRESS IS ASKED FOR ITS RANDOM ADDRESS, of gear no two of which have one short address.

-- a gear with power that has the address
pub record Holds (gs : List Gear) (g a : ℕ) : Type 0 where
  pub there : g < length gs
  pub on : (gear_of gs g).powered ≡ true
  pub short : (gear_of gs g).short ≡ Some a

abbrev pub OneGear : List Gear → Type 0
OneGear gs = (g h a : ℕ) → Holds gs g a → Holds gs h a → g ≡ h

-- and whether they have power or not
abbrev pub OneShort : List Gear → Type 0
OneShort gs = (g h a : ℕ) → g < length gs → h < length gs → (gear_of gs g).short ≡ Some a → (gear_of gs h).short ≡ Some a → g ≡ h

pub one_gear : (gs : List Gear) → OneShort gs → OneGear gs
one_gear gs one g h a first second = one g h a first.there second.there first.short second.short

-- each entry of the table is true
abbrev pub IsTrue : List Assignment → List Gear → Type 0
IsTrue xs gs = (a r : ℕ) → Has xs (a, r) → (g : ℕ) × (g < length gs) × ((gear_of gs g).short ≡ Some a) × ((gear_of gs g).random ≡ r)

-- the gear that has an address that is reserved has the number that it is reserved for
abbrev pub AreOwned : List Assignment → List Gear → Type 0
AreOwned reserved gs = (a r g : ℕ) → Has reserved (a, r) → g < length gs → (gear_of gs g).short ≡ Some a → (gear_of gs g).random ≡ r

-- what is known of the records and of the gear, whichever gear is misheard
pub record IsAtHand (k : Kept) (gs : List Gear) : Type 0 where
  pub kept : IsKept k
  pub block : (a : ℕ) → InBlock k.block a → a < 64
  pub numbered : AreNumbered gs
  pub apart : DrewApart gs
  pub one : OneShort gs
  pub holds : IsTrue k.enrolled gs
  pub owned : AreOwned k.reserved gs

abbrev pub Nobody : List Gear → ℕ → Type 0
Nobody gs a = (g : ℕ) → Holds gs g a → ⊥

-- whether it is the one
abbrev is_asked_of : ℕ → Gear → Bool
is_asked_of a g = g.powered && has_short a g.short

has_it : (a : ℕ) (o : Option ℕ) → has_short a o ≡ true → o ≡ Some a
has_it a None e = absurd (cc)
has_it a (Some b) e = ap (λ n. Some n) (sym (same_number a b e))

it_has : (a : ℕ) (o : Option ℕ) → o ≡ Some a → has_short a o ≡ true
it_has a o e = rw e (number_same a a refl)

replies : (a : ℕ) (part : Part) (g : Gear) → is_asked_of a g ≡ true → answer_to (RandomByte a part) g ≡ Some (byte_at part g.random)
replies a part g is = let both = both_pass g.powered (has_short a g.short) is in rw (both.0, both.1) refl

is_silent : (a : ℕ) (part : Part) (g : Gear) → is_asked_of a g ≡ false → answer_to (RandomByte a part) g ≡ None
is_silent a part g is = go g.powered refl (has_short a g.short) refl where
  go : (p : Bool) → g.powered ≡ p → (b : Bool) → has_short a g.short ≡ b → answer_to (RandomByte a part) g ≡ None
  go true on true has = absurd (let all : is_asked_of a g ≡ true = rw (on, has) refl in let never : true ≡ false = sym all ∙ is in cc)
  go true on false has = rw (on, has) refl
  go false off b has = rw off refl

holds_of : (gs : List Gear) (a g : ℕ) → g < length gs → is_asked_of a (gear_of gs g) ≡ true → Holds gs g a
holds_of gs a g h is =
    let both = both_pass (gear_of gs g).powered (has_short a (gear_of gs g).short) is in
    record { there = h; on = both.0; short = has_it a (gear_of gs g).short both.1 }

asked_by : (gs : List Gear) (a g : ℕ) → Holds gs g a → is_asked_of a (gear_of gs g) ≡ true
asked_by gs a g holds = rw (holds.on, it_has a (gear_of gs g).short holds.short) refl

abbrev pub HasAnswered : List Gear → ℕ → Part → Type 0
HasAnswered gs a part =
    ((g : ℕ) × Holds gs g a × (answers_of Everyone (RandomByte a part) 0 gs ≡ byte_at part (gear_of gs g).random ∷ []))
    ⊎ (Nobody gs a × (answers_of Everyone (RandomByte a part) 0 gs ≡ []))

pub asked_gear : (gs : List Gear) (a : ℕ) (part : Part) → OneGear gs → HasAnswered gs a part
asked_gear gs a part one = go (list_any (λ g. is_asked_of a g) gs) refl where
  unasked : list_any (λ g. is_asked_of a g) gs ≡ false → (g : ℕ) → g < length gs → is_asked_of a (gear_of gs g) ≡ false
  unasked none g h = by (is_asked_of a (gear_of gs g)) refl where
    by : (b : Bool) → is_asked_of a (gear_of gs g) ≡ b → is_asked_of a (gear_of gs g) ≡ false
    by false is = is
    by true is = absurd (let some : list_any (λ g. is_asked_of a g) gs ≡ true = list_any_at (λ g. is_asked_of a g) gs g fresh h is in
        let never : true ≡ false = sym some ∙ none in cc)

  go : (b : Bool) → list_any (λ g. is_asked_of a g) gs ≡ b → HasAnswered gs a part
  go true is =
      let there = at_any (λ g. is_asked_of a g) gs is in
      let holds : Holds gs there.0 a = holds_of gs a there.0 there.1 there.2 in
      inl (
        there.0,
        holds,
        one_answers (RandomByte a part) 0 gs there.0 (byte_at part (gear_of gs there.0).random) there.1 (replies a part (gear_of gs there.0) there.2)
            (λ j h other. is_silent a part (gear_of gs j) (alone there.0 holds j h other)),
      ) where
        alone : (g : ℕ) → Holds gs g a → (j : ℕ) → j < length gs → (j ≡ g → ⊥) → is_asked_of a (gear_of gs j) ≡ false
        alone g holds j h other = by (is_asked_of a (gear_of gs j)) refl where
          by : (b : Bool) → is_asked_of a (gear_of gs j) ≡ b → is_asked_of a (gear_of gs j) ≡ false
          by false is = is
          by true is = absurd (other (one j g a (holds_of gs a j h is) holds))
  go false is = inr (
    λ g holds. (let asked : is_asked_of a (gear_of gs g) ≡ true = asked_by gs a g holds in
        let unasked_so : is_asked_of a (gear_of gs g) ≡ false = unasked is g holds.there in let never : true ≡ false = sym asked ∙ unasked_so in cc),
    none_answer (RandomByte a part) 0 gs (λ i h. is_silent a part (gear_of gs i) (unasked is i h)),
  )

-- ---------------------------------------------------------------- gear that are the same but for what they seek

pub core_then : (ks bs cs : List Gear) → SameCore ks bs → SameCore bs cs → SameCore ks cs
core_then ks bs cs one two = record {
  same_length = two.same_length ∙ one.same_length;
  each = λ k h. both (gear_of ks k) (gear_of bs k) (gear_of cs k) (one.each k h) (two.each k (subst (λ n. k < n) (sym one.same_length) h));
} where
  both : (f g h : Gear) → SameGear f g → SameGear g h → SameGear f h
  both f g h one two = record {
    same_powered = two.same_powered ∙ one.same_powered;
    same_state = two.same_state ∙ one.same_state;
    same_random = two.same_random ∙ one.same_random;
    same_short = two.same_short ∙ one.same_short;
  }

pub core_self : (gs : List Gear) → SameCore gs gs
core_self gs = record { same_length = refl; each = λ k h. record { same_powered = refl; same_state = refl; same_random = refl; same_short = refl } }

pub holds_on : (gs hs : List Gear) (g a : ℕ) → SameCore gs hs → Holds gs g a → Holds hs g a
holds_on gs hs g a same holds = record {
  there = subst (λ n. g < n) (sym same.same_length) holds.there;
  on = (same.each g holds.there).same_powered ∙ holds.on;
  short = (same.each g holds.there).same_short ∙ holds.short;
}

pub holds_back : (gs hs : List Gear) (g a : ℕ) → SameCore gs hs → Holds hs g a → Holds gs g a
holds_back gs hs g a same holds =
    let there : g < length gs = subst (λ n. g < n) same.same_length holds.there in
    record { there = there; on = sym (same.each g there).same_powered ∙ holds.on; short = sym (same.each g there).same_short ∙ holds.short }

-- ---------------------------------------------------------------- who is not to be seen

-- A gear that a survey does not see: it has no power, or no number that gear draw. One with an address above 63 is none
-- that it sees, either.
abbrev pub IsPassed : Gear → ℕ → Type 0
IsPassed g a = (g.powered ≡ false) ⊎ ((g.random ≡ MASK24) ⊎ (64 ≤ a))

abbrev below : Option ℕ → Bool
below None = true
below (Some a) = nat_lt a 64

abbrev is_seen : Gear → Bool
is_seen g = g.powered && (not (g.random == MASK24) && below g.short)

abbrev leave_one : Bool → Gear → Gear
leave_one true g = fresh
leave_one false g = g

-- the others, as they were
abbrev pub unseen : List Gear → List Gear
unseen [] = []
unseen (g ∷ gs) = leave_one (is_seen g) g ∷ unseen gs

passed_by : (g : Gear) (a : ℕ) → g.short ≡ Some a → is_seen g ≡ false → IsPassed g a
passed_by g a short is = go g.powered refl (g.random == MASK24) refl (nat_lt a 64) refl where
  go : (p : Bool) → g.powered ≡ p → (m : Bool) → (g.random == MASK24) ≡ m → (b : Bool) → nat_lt a 64 ≡ b → IsPassed g a
  go false off m mask b small = inl off
  go true on true mask b small = inr (inl (same_number g.random MASK24 mask))
  go true on false mask false large = inr (inr (test a large)) where
    test : (n : ℕ) → nat_lt n 64 ≡ false → 64 ≤ n
    test n large = grind (arith, nat_tests, large)
  go true on false mask true small = absurd (let all : is_seen g ≡ true = rw (on, mask, short, small) refl in let never : true ≡ false = sym all ∙ is in cc)

seen_not : (g : Gear) (a : ℕ) → g.short ≡ Some a → is_seen g ≡ true → IsPassed g a → ⊥
seen_not g a short is passed = go (both_pass g.powered (not (g.random == MASK24) && below g.short) is) where
  go : (g.powered ≡ true) × ((not (g.random == MASK24) && below g.short) ≡ true) → ⊥
  go one = by (both_pass (not (g.random == MASK24)) (below g.short) one.1) passed where
    by : (not (g.random == MASK24) ≡ true) × (below g.short ≡ true) → IsPassed g a → ⊥
    by two (inl off) = let never : true ≡ false = sym one.0 ∙ off in cc
    by two (inr (inl mask)) =
        let test : (g.random == MASK24) ≡ true = number_same g.random MASK24 mask in
        let never : not true ≡ true = ap not (sym test) ∙ two.0 in cc
    by two (inr (inr large)) =
        let small : nat_lt a 64 ≡ true = ap below (sym short) ∙ two.1 in
        less a small large
      where
        less : (n : ℕ) → nat_lt n 64 ≡ true → 64 ≤ n → ⊥
        less n small large = grind (arith, nat_tests, small, large)

pub unseen_had : (gs : List Gear) (k a : ℕ) → k < length gs → (gear_of gs k).short ≡ Some a → IsPassed (gear_of gs k) a → (gear_of (unseen gs) k).short ≡ Some a
unseen_had [] k a h short passed = absurd (omega arith)
unseen_had (g ∷ gs) (suc k) a h short passed = unseen_had gs k a (omega arith) short passed
unseen_had (g ∷ gs) zero a h short passed = go (is_seen g) refl where
  go : (b : Bool) → is_seen g ≡ b → (leave_one (is_seen g) g).short ≡ Some a
  go true is = absurd (seen_not g a short is passed)
  go false is = rw is short

pub unseen_was : (gs : List Gear) (k a : ℕ) → (gear_of (unseen gs) k).short ≡ Some a → ((gear_of gs k).short ≡ Some a) × IsPassed (gear_of gs k) a
unseen_was [] zero a short = absurd (let none : None ≡ Some a = short in cc)
unseen_was [] (suc k) a short = absurd (let none : None ≡ Some a = short in cc)
unseen_was (g ∷ gs) (suc k) a short = unseen_was gs k a short
unseen_was (g ∷ gs) zero a short = go (is_seen g) refl where
  go : (b : Bool) → is_seen g ≡ b → (g.short ≡ Some a) × IsPassed g a
  go true is = absurd (let none : None ≡ Some a = ap (λ b. (leave_one b g).short) (sym is) ∙ short in cc)
  go false is = let same : g.short ≡ Some a = ap (λ b. (leave_one b g).short) (sym is) ∙ short in (same, passed_by g a same is)

-- ---------------------------------------------------------------- the table, as far as the census is

-- it names each gear that has a short address below this one
abbrev pub TabledBelow : ℕ → List Gear → List Assignment → List Gear → Type 0
TabledBelow f start xs gs =
    (g a : ℕ) → g < length gs → (gear_of gs g).short ≡ Some a → a < f → ((gear_of (unseen start) g).short ≡ Some a) ⊎ Has xs (a, (gear_of gs g).random)

passed_before : (start gs : List Gear) (g a : ℕ) → SameCore start gs → g < length gs → (gear_of gs g).short ≡ Some a → IsPassed (gear_of gs g) a
    → (gear_of (unseen start) g).short ≡ Some a
passed_before start gs g a same h short passed =
    let there : g < length start = subst (λ n. g < n) same.same_length h in
    let each : SameGear (gear_of start g) (gear_of gs g) = same.each g there in
    unseen_had start g a there (sym each.same_short ∙ short) (go each passed)
  where
    go : SameGear (gear_of start g) (gear_of gs g) → IsPassed (gear_of gs g) a → IsPassed (gear_of start g) a
    go each (inl off) = inl (sym each.same_powered ∙ off)
    go each (inr (inl mask)) = inr (inl (sym each.same_random ∙ mask))
    go each (inr (inr large)) = inr (inr large)

-- and this one, if the gear that has it is in the table, or drew no number
pub below_next : (b : ℕ) (start : List Gear) (xs ys : List Assignment) (gs : List Gear) → SameCore start gs → TabledBelow b start xs gs
    → ((x : Assignment) → Has xs x → Has ys x) → ((g : ℕ) → Holds gs g b → ((gear_of gs g).random ≡ MASK24) ⊎ Has ys (b, (gear_of gs g).random))
    → TabledBelow (b + 1) start ys gs
below_next b start xs ys gs same tabled more here g a h short less = go (nat_lt a b) refl where
  go : (t : Bool) → nat_lt a b ≡ t → ((gear_of (unseen start) g).short ≡ Some a) ⊎ Has ys (a, (gear_of gs g).random)
  go true under = by (tabled g a h short (let low : a < b = grind (arith, nat_tests, under) in low)) where
    by : ((gear_of (unseen start) g).short ≡ Some a) ⊎ Has xs (a, (gear_of gs g).random)
        → ((gear_of (unseen start) g).short ≡ Some a) ⊎ Has ys (a, (gear_of gs g).random)
    by (inl had) = inl had
    by (inr has) = inr (more (a, (gear_of gs g).random) has)
  go false over = at (let past : b ≤ a = grind (arith, nat_tests, over) in omega (arith, past, less)) (gear_of gs g).powered refl where
    at : a ≡ b → (p : Bool) → (gear_of gs g).powered ≡ p → ((gear_of (unseen start) g).short ≡ Some a) ⊎ Has ys (a, (gear_of gs g).random)
    at is false off = inl (passed_before start gs g a same h short (inl off))
    at is true on = by (here g (record { there = h; on = on; short = short ∙ ap (λ n. Some n) is })) where
      by : ((gear_of gs g).random ≡ MASK24) ⊎ Has ys (b, (gear_of gs g).random)
          → ((gear_of (unseen start) g).short ≡ Some a) ⊎ Has ys (a, (gear_of gs g).random)
      by (inl mask) = inl (passed_before start gs g a same h short (inr (inl mask)))
      by (inr has) = inr (subst (λ n. Has ys (n, (gear_of gs g).random)) (sym is) has)

-- those that the table names need not be asked
pub below_named : (f d : ℕ) (start : List Gear) (xs : List Assignment) (gs : List Gear) → OneShort gs → IsTrue xs gs → TabledBelow f start xs gs
    → ((c : ℕ) → f ≤ c → c < d → (r : ℕ) × Has xs (c, r)) → TabledBelow d start xs gs
below_named f d start xs gs one holds tabled named g a h short less = go (nat_lt a f) refl where
  go : (t : Bool) → nat_lt a f ≡ t → ((gear_of (unseen start) g).short ≡ Some a) ⊎ Has xs (a, (gear_of gs g).random)
  go true under = tabled g a h short (let low : a < f = grind (arith, nat_tests, under) in low)
  go false over =
      let past : f ≤ a = grind (arith, nat_tests, over) in
      let entry = named a past less in
      let there = holds a entry.0 entry.1 in
      let same : there.0 ≡ g = one there.0 g a there.1 h there.2 short in
      inr (subst (λ r. Has xs (a, r)) (sym there.3 ∙ ap (λ i. (gear_of gs i).random) same) entry.1)

pub below_none : (start : List Gear) (xs : List Assignment) (gs : List Gear) → TabledBelow 0 start xs gs
below_none start xs gs g a h short less = absurd (omega (arith, less))

pub below_all : (start : List Gear) (xs : List Assignment) (gs : List Gear) → SameCore start gs → TabledBelow 64 start xs gs → AreTabled (unseen start) xs gs
below_all start xs gs same tabled g a h short = go (nat_lt a 64) refl where
  go : (t : Bool) → nat_lt a 64 ≡ t → ((gear_of (unseen start) g).short ≡ Some a) ⊎ Has xs (a, (gear_of gs g).random)
  go true small = tabled g a h short (let low : a < 64 = grind (arith, nat_tests, small) in low)
  go false large = inl (passed_before start gs g a same h short (inr (inr (let past : 64 ≤ a = grind (arith, nat_tests, large) in past))))

pub below_on : (b : ℕ) (start : List Gear) (xs : List Assignment) (gs hs : List Gear) → SameCore gs hs → TabledBelow b start xs gs → TabledBelow b start xs hs
below_on b start xs gs hs same tabled g a h short less =
    let there : g < length gs = subst (λ n. g < n) same.same_length h in
    subst (λ r. ((gear_of (unseen start) g).short ≡ Some a) ⊎ Has xs (a, r)) (sym (same.each g there).same_random)
    (tabled g a there (sym (same.each g there).same_short ∙ short) less)
