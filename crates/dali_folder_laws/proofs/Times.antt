use Rattle.std.proofs.Common.{◌≡◌, ℕ, ◌+◌, ◌-◌, ◌*◌, ◌/◌, ◌%◌, ◌<◌, ◌≤◌, ◌⊎◌, inl, inr, Bool, true, false, Option, Some, None, refl, subst, sym, arith}
use Rattle.std.specs.Prelude.{◌==◌, nat_lt, if◌then◌else◌}
use Rattle.std.proofs.lemmas.Bool.Decides.{nat_tests}
use Rattle.std.proofs.lemmas.Option.{same_Some}
use Rattle.dali_replacement.specs.declared.swap.Lies.{Lies}
use Rattle.dali_replacement.specs.declared.swap.Step.{Step}
use Rattle.dali_replacement.specs.declared.swap.Step.TheVariants.{Announce, SetAside, Place, Forget}
use Rattle.dali_replacement.specs.Swap.{lies_at, step_after, file_of}

-- WHAT LIES THERE OF ITS FILE when a step is due
abbrev pub IsReady : Step → Lies → Type 0
IsReady (Announce i) lies = Unit {0}
IsReady (SetAside i) lies = (lies.at ≡ true) × (lies.new ≡ true)
IsReady (Place i) lies = lies.new ≡ true
IsReady (Forget i) lies = Unit {0}

chosen : (a b c d : Bool) (n m : ℕ) → nat_lt m n ≡ a → nat_lt m (3 * n) ≡ b → ((m - n) % 2 == 0) ≡ d → (s : Step)
    → (if a then Some (Announce m) else if b then Some (if d then SetAside ((m - n) / 2) else Place ((m - n) / 2)) else if c then Some
    (Forget (m - 3 * n)) else None) ≡ Some s
    → IsReady s (lies_at n m (file_of s))
chosen true b c d n m isA isB isD s is = subst (λ t. IsReady t (lies_at n m (file_of t))) (same_Some _ _ is) tt
chosen false true c true n m isA isB isD s is =
    let k = (m - n) / 2 in
    let here : m ≡ n + 2 * k = grind (arith, nat_tests) in
    subst (λ t. IsReady t (lies_at n m (file_of t))) (same_Some _ _ is) (grind (arith, nat_tests), grind (arith, nat_tests))
chosen false true c false n m isA isB isD s is =
    let k = (m - n) / 2 in
    let here : m ≡ n + 2 * k + 1 = grind (arith, nat_tests) in
    subst (λ t. IsReady t (lies_at n m (file_of t))) (same_Some _ _ is) (grind (arith, nat_tests))
chosen false false true d n m isA isB isD s is = subst (λ t. IsReady t (lies_at n m (file_of t))) (same_Some _ _ is) tt
chosen false false false d n m isA isB isD s is = absurd (cc)

pub ready : (n m : ℕ) (s : Step) → step_after n m ≡ Some s → IsReady s (lies_at n m (file_of s))
ready n m s is = chosen (nat_lt m n) (nat_lt m (3 * n)) (nat_lt m (4 * n)) ((m - n) % 2 == 0) n m refl refl refl s is

-- a step is due at each moment but the last one, and leads to none behind it
some : (a b c d : Bool) (n m : ℕ) → nat_lt m n ≡ a → nat_lt m (3 * n) ≡ b → nat_lt m (4 * n) ≡ c → (s : Step)
    → (if a then Some (Announce m) else if b then Some (if d then SetAside ((m - n) / 2) else Place ((m - n) / 2)) else if c then Some
    (Forget (m - 3 * n)) else None) ≡ Some s
    → m < 4 * n
some true b c d n m isA isB isC s is = grind (arith, nat_tests)
some false true c d n m isA isB isC s is = grind (arith, nat_tests)
some false false true d n m isA isB isC s is = grind (arith, nat_tests)
some false false false d n m isA isB isC s is = absurd (cc)

pub not_last : (n m : ℕ) (s : Step) → step_after n m ≡ Some s → m < 4 * n
not_last n m s is = some (nat_lt m n) (nat_lt m (3 * n)) (nat_lt m (4 * n)) ((m - n) % 2 == 0) n m refl refl refl s is

none : (a b c d : Bool) (n m : ℕ) → nat_lt m (4 * n) ≡ c
    → ◌≡◌ {A = Option Step} (if a then Some (Announce m) else if b then Some (if d then SetAside ((m - n) / 2) else Place ((m - n) / 2)) else if c then Some
    (Forget (m - 3 * n)) else None) None
    → 4 * n ≤ m
none true b c d n m isC is = absurd (cc)
none false true c d n m isC is = absurd (cc)
none false false true d n m isC is = absurd (cc)
none false false false d n m isC is = grind (arith, nat_tests)

pub last : (n m : ℕ) → step_after n m ≡ None → 4 * n ≤ m
last n m is = none (nat_lt m n) (nat_lt m (3 * n)) (nat_lt m (4 * n)) ((m - n) % 2 == 0) n m refl is

-- WHAT LIES THERE TELLS THE MOMENT
abbrev pub IsLikewise : ℕ → ℕ → ℕ → Type 0
IsLikewise n m l =
    (i : ℕ) → i < n → ((lies_at n l i).journal ≡ (lies_at n m i).journal) × ((lies_at n l i).new ≡ (lies_at n m i).new)
    × ((lies_at n l i).at ≡ (lies_at n m i).at) × ((lies_at n l i).kept ≡ (lies_at n m i).kept)

early : (n m l : ℕ) → m < n → m < l → (lies_at n l m).journal ≡ (lies_at n m m).journal → (lies_at n l m).new ≡ (lies_at n m m).new → ⊥
early n m l before later journal new = grind (arith, nat_tests)

moving : (n m l i : ℕ) → (m ≡ n + 2 * i) ⊎ (m ≡ n + 2 * i + 1) → m < l → (lies_at n l i).new ≡ (lies_at n m i).new
    → (lies_at n l i).kept ≡ (lies_at n m i).kept → (lies_at n l i).at ≡ (lies_at n m i).at → ⊥
moving n m l i (inl is) later new kept at = grind (arith, nat_tests)
moving n m l i (inr is) later new kept at = grind (arith, nat_tests)

late : (n m l i : ℕ) → m ≡ 3 * n + i → i < n → m < l → (lies_at n l i).journal ≡ (lies_at n m i).journal → ⊥
late n m l i is inside later journal = grind (arith, nat_tests)

half : (n m : ℕ) → n ≤ m → (m ≡ n + 2 * ((m - n) / 2)) ⊎ (m ≡ n + 2 * ((m - n) / 2) + 1)
half n m over = grind (arith, over)

-- at a later moment something else lies there
pub later : (n m l : ℕ) → m < 4 * n → m < l → IsLikewise n m l → ⊥
later n m l inside after same = go (nat_lt m n) (nat_lt m (3 * n)) refl refl
  where
    go : (a b : Bool) → nat_lt m n ≡ a → nat_lt m (3 * n) ≡ b → ⊥
    go true b isA isB =
        let at : m < n = grind (arith, nat_tests) in
        let is = same m at in
        early n m l at after is.0 is.1
    go false true isA isB =
        let at : (m - n) / 2 < n = grind (arith, nat_tests) in
        let over : n ≤ m = grind (arith, nat_tests) in
        let is = same ((m - n) / 2) at in
        moving n m l ((m - n) / 2) (half n m over) after is.1 is.3 is.2
    go false false isA isB =
        let over : 3 * n ≤ m = grind (arith, nat_tests) in
        let here : m ≡ 3 * n + (m - 3 * n) = omega (arith, over) in
        let at : m - 3 * n < n = omega (arith, over, inside) in
        late n m l (m - 3 * n) here at after (same (m - 3 * n) at).0

-- so two moments at which the same lies there are the same, or both are at the end
pub unique : (n m l : ℕ) → m ≤ 4 * n → IsLikewise n m l → (l ≡ m) ⊎ ((m ≡ 4 * n) × (4 * n < l))
unique n m l inside same = go (nat_lt m l) (nat_lt l m) refl refl
  where
    back : IsLikewise n l m
    back = λ i at. (sym (same i at).0, sym (same i at).1, sym (same i at).2, sym (same i at).3)

    go : (a b : Bool) → nat_lt m l ≡ a → nat_lt l m ≡ b → (l ≡ m) ⊎ ((m ≡ 4 * n) × (4 * n < l))
    go true b isA isB = more (nat_lt m (4 * n)) refl
      where
        more : (c : Bool) → nat_lt m (4 * n) ≡ c → (l ≡ m) ⊎ ((m ≡ 4 * n) × (4 * n < l))
        more true isC = absurd (later n m l (grind (arith, nat_tests)) (grind (arith, nat_tests)) same)
        more false isC = inr (grind (arith, nat_tests), grind (arith, nat_tests))
    go false true isA isB = absurd (later n l m (grind (arith, nat_tests)) (grind (arith, nat_tests)) back)
    go false false isA isB = inl (grind (arith, nat_tests))
