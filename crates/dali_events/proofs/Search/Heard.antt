use Rattle.std.proofs.Common.{◌≡◌, ℕ, ◌+◌, ◌<◌, ◌≤◌, ◌⊎◌, inl, inr, Bool, true, false, zero, suc, List, [], ◌∷◌, refl, sym, ap, subst, ◌∙◌, arith, length, Some}
use Rattle.std.proofs.{Common.{None, ◌&&◌, ◌==◌, nat_le, if◌then◌else◌}, lemmas.Bool.Decides.nat_tests}
use Rattle.dali_frame.specs.{Random.{value_of, MASK24}, declared.{frames.Answer.TheVariants.{Silence, Byte}, numbers.SearchAddress.SearchAddress}}
use Rattle.dali_special.specs.{Command.program_data, declared.command.{Command.{Command, TheVariants.{Compare, QueryShort, RandomByte}}, Part.Part}}
use Rattle.dali_gear.specs.{Gear.{Gear, YES, is_enabled, is_active, is_found, byte_at, answer, answer_to}, Row.{option_cons, answers_of, heard_of}}
use Rattle.dali_gear.specs.declared.{row.Reach.TheVariants.Everyone, state.InitialisationState.TheVariants.Enabled}
use Rattle.dali_script.{specs.Records.Has, proofs.Members.same_member}
use Rattle.dali_events.specs.{Runs.AreDrawn, Searching.EachPowered, Wanted.{is_wanted, wants, gear_of, OfPowered, Seek, AreApart, IsOpened}, World.World}
use Rattle.dali_events.{specs.World.gear_at, proofs.Invariant.{Answers.{answered, answers_have}, Known.found_random, Sending.{powered_takes, takes_powered}}}
use Rattle.dali_events.proofs.Search.Wanted.{number_same, enabled_is, wanted_powered, wanted_enabled, wanted_active, is_wanted_by, wants_by, wants_at}

-- COMPARE: who has a random address above the search address is silent, and no other
compared_yes : (g : Gear) → g.state ≡ Enabled → g.random ≤ value_of g.search → answer Compare g ≡ Some YES
compared_yes g enabled below = rw (enabled, test g.random (value_of g.search) below) refl where
  test : (m n : ℕ) → m ≤ n → nat_le m n ≡ true
  test m n h = grind (arith, nat_tests)

yes_compared : (g : Gear) (v : ℕ) → answer Compare g ≡ Some v → (g.state ≡ Enabled) × (g.random ≤ value_of g.search)
yes_compared g v e = go (is_enabled g.state) (nat_le g.random (value_of g.search)) refl refl e where
  test : (m n : ℕ) → nat_le m n ≡ true → m ≤ n
  test m n h = grind (arith, nat_tests)

  go : (a b : Bool) → is_enabled g.state ≡ a → nat_le g.random (value_of g.search) ≡ b → (if a && b then Some YES else None) ≡ Some v
      → (g.state ≡ Enabled) × (g.random ≤ value_of g.search)
  go true true enabled below e = (enabled_is g.state enabled, test g.random (value_of g.search) below)
  go _ _ enabled below e = absurd (cc)

silent_none : (bytes : List ℕ) → heard_of bytes ≡ Silence → bytes ≡ []
silent_none [] e = refl
silent_none (byte ∷ []) e = absurd (cc)
silent_none (byte ∷ more ∷ rest) e = absurd (cc)

loud_some : (bytes : List ℕ) → (heard_of bytes ≡ Silence → ⊥) → (v : ℕ) × Has bytes v
loud_some [] e = absurd (e refl)
loud_some (byte ∷ bytes) e = (byte, inl refl)

pub silent_above : (gs : List Gear) (r : SearchAddress) → Seek gs r → heard_of (answers_of Everyone Compare 0 gs) ≡ Silence → (n : ℕ) → wants gs n ≡ true
    → value_of r < n
silent_above gs r seek silent n e = go (nat_le n (value_of r)) refl where
  go : (b : Bool) → nat_le n (value_of r) ≡ b → value_of r < n
  go false above = test n (value_of r) above where
    test : (m n : ℕ) → nat_le m n ≡ false → n < m
    test m n h = grind (arith, nat_tests)
  go true below =
      let there = wants_at gs n e in
      let on : (gear_of gs there.0).powered ≡ true = wanted_powered (gear_of gs there.0) there.2 in
      let search : (gear_of gs there.0).search ≡ r = seek there.0 there.1 on (wanted_active (gear_of gs there.0) there.2) in
      let least : (gear_of gs there.0).random ≤ value_of (gear_of gs there.0).search =
      subst (λ s. (gear_of gs there.0).random ≤ value_of s) (sym search) (subst (λ m. m ≤ value_of r) (sym there.3) (test n (value_of r) below)) in
      let replies = compared_yes (gear_of gs there.0) (wanted_enabled (gear_of gs there.0) there.2) least in
      let has : Has (answers_of Everyone Compare 0 gs) YES =
      answers_have Everyone Compare gs there.0 YES there.1 (powered_takes there.0 (gear_of gs there.0) on) replies in
      absurd (subst (λ bytes. Has bytes YES) (silent_none (answers_of Everyone Compare 0 gs) silent) has) where
        test : (m n : ℕ) → nat_le m n ≡ true → m ≤ n
        test m n h = grind (arith, nat_tests)

pub heard_below : (gs : List Gear) (r : SearchAddress) → Seek gs r → (heard_of (answers_of Everyone Compare 0 gs) ≡ Silence → ⊥)
    → (n : ℕ) × (wants gs n ≡ true) × (n ≤ value_of r)
heard_below gs r seek loud =
    let some = loud_some (answers_of Everyone Compare 0 gs) loud in
    let there = answered Everyone Compare gs some.0 some.1 in
    let on : (gear_of gs there.0).powered ≡ true = takes_powered Everyone there.0 (gear_of gs there.0) there.2 in
    let compared = yes_compared (gear_of gs there.0) some.0 there.3 in
    let wanted : is_wanted (gear_of gs there.0) ≡ true = is_wanted_by (gear_of gs there.0) on compared.0 in
    let search : (gear_of gs there.0).search ≡ r = seek there.0 there.1 on (wanted_active (gear_of gs there.0) wanted) in (
      (gear_of gs there.0).random,
      wants_by gs (gear_of gs there.0).random there.0 there.1 wanted refl,
      subst (λ s. (gear_of gs there.0).random ≤ value_of s) search compared.1,
    )

-- ONE GEAR ANSWERS, and no other
answers_first : (c : Command) (k : ℕ) (g : Gear) (gs : List Gear)
    → answers_of Everyone c k (g ∷ gs) ≡ option_cons (answer_to c g) (answers_of Everyone c (k + 1) gs)
answers_first c k g gs = ap (λ o. option_cons o (answers_of Everyone c (k + 1) gs)) (go g.powered) where
  go : (on : Bool) → (if on && true then answer c g else None) ≡ (if on then answer c g else None)
  go true = refl
  go false = refl

pub none_answer : (c : Command) (k : ℕ) (gs : List Gear) → ((i : ℕ) → i < length gs → answer_to c (gear_of gs i) ≡ None) → answers_of Everyone c k gs ≡ []
none_answer c k [] none = refl
none_answer c k (g ∷ gs) none =
    let here : answer_to c g ≡ None = none 0 (omega arith) in
    answers_first c k g gs ∙ ap (λ o. option_cons o (answers_of Everyone c (k + 1) gs)) here ∙ none_answer c (k + 1) gs (λ i h. none (suc i) (omega arith))

pub one_answers : (c : Command) (k : ℕ) (gs : List Gear) (i v : ℕ) → i < length gs → answer_to c (gear_of gs i) ≡ Some v
    → ((j : ℕ) → j < length gs → (j ≡ i → ⊥) → answer_to c (gear_of gs j) ≡ None) → answers_of Everyone c k gs ≡ v ∷ []
one_answers c k [] i v h e none = absurd (omega arith)
one_answers c k (g ∷ gs) zero v h e none =
    answers_first c k g gs ∙ ap (λ o. option_cons o (answers_of Everyone c (k + 1) gs)) e
    ∙ ap (λ bytes. v ∷ bytes) (none_answer c (k + 1) gs (λ j in_row. none (suc j) (omega arith) (λ same. omega arith)))
one_answers c k (g ∷ gs) (suc i) v h e none =
    let here : answer_to c g ≡ None = none 0 (omega arith) (λ same. omega arith) in
    answers_first c k g gs ∙ ap (λ o. option_cons o (answers_of Everyone c (k + 1) gs)) here
    ∙ one_answers c (k + 1) gs i v (omega arith) e (λ j in_row other. none (suc j) (omega arith) (λ same. other (omega arith)))

-- QUERY SHORT ADDRESS
pub random_found : (g : Gear) (r : SearchAddress) → g.search ≡ r → g.random ≡ value_of r → is_found g ≡ true
random_found g r search random = number_same g.random (value_of g.search) (random ∙ ap value_of (sym search))

pub queried_short : (g : Gear) → g.powered ≡ true → is_active g.state ≡ true → is_found g ≡ true → answer_to QueryShort g ≡ Some (program_data g.short)
queried_short g on active found = rw (on, active, found) refl

pub queried_none : (g : Gear) → (g.powered ≡ true → is_active g.state ≡ true → is_found g ≡ true → ⊥) → answer_to QueryShort g ≡ None
queried_none g other = go g.powered (is_active g.state) (is_found g) refl refl refl where
  go : (a b c : Bool) → g.powered ≡ a → is_active g.state ≡ b → is_found g ≡ c → answer_to QueryShort g ≡ None
  go false b c on active found = rw on refl
  go true false c on active found = rw (on, active) refl
  go true true false on active found = rw (on, active, found) refl
  go true true true on active found = absurd (other on active found)

pub query_answers : (gs : List Gear) (r : SearchAddress) (k : ℕ) → Seek gs r → AreApart gs → k < length gs → (gear_of gs k).powered ≡ true
    → is_active (gear_of gs k).state ≡ true
    → (gear_of gs k).random ≡ value_of r → answers_of Everyone QueryShort 0 gs ≡ program_data (gear_of gs k).short ∷ []
query_answers gs r k seek apart h on active random =
    one_answers QueryShort 0 gs k (program_data (gear_of gs k).short) h
    (queried_short (gear_of gs k) on active (random_found (gear_of gs k) r (seek k h on active) random))
    (λ j in_row other. queried_none (gear_of gs j) (λ up awake found.
    other (apart j k in_row h up on awake active (found_random (gear_of gs j) r (seek j in_row up awake) found ∙ sym random))))

pub query_heard : (gs : List Gear) (r : SearchAddress) (k : ℕ) → Seek gs r → AreApart gs → k < length gs → is_wanted (gear_of gs k) ≡ true
    → (gear_of gs k).random ≡ value_of r
    → heard_of (answers_of Everyone QueryShort 0 gs) ≡ Byte (program_data (gear_of gs k).short)
query_heard gs r k seek apart h wanted random =
    ap heard_of (query_answers gs r k seek apart h (wanted_powered (gear_of gs k) wanted) (wanted_active (gear_of gs k) wanted) random)

-- gear that have drawn are apart
pub drawn_apart : (w : World) → AreDrawn w → OfPowered w.gear (λ g. is_active g.state ≡ true → g.random < MASK24) → AreApart w.gear
drawn_apart w drawn below j k h i on up live awake same =
    let first : Has w.drawn (j, (gear_of w.gear j).random) = drew j h on live in
    let second : Has w.drawn (k, (gear_of w.gear k).random) = drew k i up awake in
    ap (λ draw. draw.0) (same_member (λ draw. draw.1) w.drawn (j, (gear_of w.gear j).random) (k, (gear_of w.gear k).random) drawn.once first second same) where
      drew : (g : ℕ) → g < length w.gear → (gear_of w.gear g).powered ≡ true → is_active (gear_of w.gear g).state ≡ true
          → Has w.drawn (g, (gear_of w.gear g).random)
      drew g there on active = go (drawn.random g there) where
        go : ((gear_of w.gear g).random ≡ MASK24) ⊎ Has w.drawn (g, (gear_of w.gear g).random) → Has w.drawn (g, (gear_of w.gear g).random)
        go (inl none) = absurd (let small : (gear_of w.gear g).random < MASK24 = below g there on active in omega (arith, none))
        go (inr has) = has

pub opened_apart : (w : World) → AreDrawn w → IsOpened w.gear → AreApart w.gear
opened_apart w drawn opened = drawn_apart w drawn opened.drawn

-- WHERE NOBODY ANSWERS A QUERY OF A RANDOM ADDRESS nobody with power has the short address
same_short : (a : ℕ) → (a == a) ≡ true
same_short a = grind (arith, nat_tests)

pub nobody_answers : (w : World) (a : ℕ) (part : Part) → answers_of Everyone (RandomByte a part) 0 w.gear ≡ [] → EachPowered w (λ g. g.short ≡ Some a → ⊥)
nobody_answers w a part none g there on short =
    let tells : answer (RandomByte a part) (gear_at w g) ≡ Some (byte_at part (gear_at w g).random) = rw (short, same_short a) refl in
    subst (λ xs. Has xs (byte_at part (gear_at w g).random)) none
    (answers_have Everyone (RandomByte a part) w.gear g (byte_at part (gear_at w g).random) there (powered_takes g (gear_at w g) on) tells)
