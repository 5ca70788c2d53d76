use Rattle.std.proofs.Common.{◌≡◌, ◌==◌, ◌+◌, ◌*◌, ◌%◌, ◌^◌, ◌<◌, ◌≤◌, ℕ, Bool, true, false, List, [], ◌∷◌, ◌++◌, All, length, nat_eq, nat_lt, refl, arith}
use Rattle.std.proofs.Common.{zero, suc, if◌then◌else◌}
use Rattle.std.proofs.{Math.Nat.mod-lt, lemmas.Bool.Decides.nat_tests, lemmas.List.length-append, lemmas.List.Elements.All-cons}
use Rattle.std.specs.List.{list_any, AllByRecursion, IsDistinct}
use Rattle.rand_core.specs.Pcg32Seed.{pcg32_seed}
use Rattle.rand_pcg.specs.{Lcg.Lcg, Pcg.pcg32, Pcg.pcg32_of_seed}
use Rattle.dali_frame.specs.Random.{MASK24}
use Rattle.dali_events.specs.Plan.{refusal_of}
use Rattle.dali_threads.specs.Drawn.{AreDrawn, StandOnce, with_number, drawn_on, numbers_of}

-- the numbers of a set stand once
none_same : (x : ℕ) (xs : List ℕ) → AllByRecursion (λ y. nat_eq x y ≡ false) xs → list_any (λ y. x == y) xs ≡ false
none_same x [] all = refl
none_same x (y ∷ ys) all = rw (all.0, none_same x ys all.1) refl

pub stand_once : (xs : List ℕ) → IsDistinct nat_eq xs → StandOnce xs
unfolding IsDistinct
stand_once [] distinct = refl
stand_once (x ∷ xs) distinct = rw (none_same x xs distinct.0, stand_once xs distinct.1) refl

-- none of them is too large for a plan
pub none_large : (xs : List ℕ) → All (λ r. r < MASK24) xs → list_any (λ draw. nat_lt 0xFFFFFE draw) xs ≡ false
none_large [] below = refl
none_large (x ∷ xs) below =
    let small : nat_lt 0xFFFFFE x ≡ false = (let first : x < MASK24 = below 0 x (omega arith) in grind (arith, nat_tests)) in
    rw (small, none_large xs (λ k d inside. below (suc k) d (omega arith))) refl

-- so a plan is refused with them only if it is refused without them
pub refused_without : (gear : ℕ) (blocks : List (ℕ × ℕ)) (most : ℕ) (numbers : List ℕ) → AreDrawn most numbers → StandOnce numbers
    → refusal_of gear blocks numbers ≡ refusal_of gear blocks []
refused_without gear blocks most numbers drawn once = rw (none_large numbers drawn.below, once) refl

-- ---------------------------------------------------------------- the numbers of a seed

-- so far they are random addresses, at most so many
abbrev AreSoFar : ℕ → List ℕ → Type 0
AreSoFar most xs = AllByRecursion (λ r. r < MASK24) xs × (length xs ≤ most)

either : (P : List ℕ → Type 0) (b : Bool) (xs ys : List ℕ) → (b ≡ true → P xs) → (b ≡ false → P ys) → P (if b then xs else ys)
either P true xs ys if_so if_not = if_so refl
either P false xs ys if_so if_not = if_not refl

all_more : (xs : List ℕ) (r : ℕ) → AllByRecursion (λ x. x < MASK24) xs → r < MASK24 → AllByRecursion (λ x. x < MASK24) (xs ++ r ∷ [])
all_more [] r all below = (below, tt)
all_more (x ∷ xs) r all below = (all.0, all_more xs r all.1 below)

one_more : (most : ℕ) (xs : List ℕ) (r : ℕ) → AreSoFar most xs → nat_eq (length xs) most ≡ false → r < 2 ^ 24 → AreSoFar most (with_number xs r)
one_more most xs r are room small =
    either (AreSoFar most) (nat_eq r MASK24) xs (if list_any (λ x. nat_eq r x) xs then xs else xs ++ r ∷ []) (λ mask. are)
    (λ plain. either (AreSoFar most) (list_any (λ x. nat_eq r x) xs) xs (xs ++ r ∷ []) (λ there. are)
    (λ new. (
      all_more xs r are.0 (grind (arith, nat_tests, plain, small)),
      (let few : length xs ≤ most = are.1 in
          let more : length (xs ++ r ∷ []) ≡ length xs + 1 = length-append xs (r ∷ []) in
          rw more (grind (arith, nat_tests, room, few))),
    )))

pub drawn_so_far : (words most : ℕ) (g : Lcg) (xs : List ℕ) → AreSoFar most xs → AreSoFar most (drawn_on words most g xs)
drawn_so_far zero most g xs are = are
drawn_so_far (suc words) most g xs are =
    either (AreSoFar most) (nat_eq (length xs) most) xs (drawn_on words most (pcg32 g).1 (with_number xs ((pcg32 g).0 % 2 ^ 24))) (λ full. are)
    (λ room. drawn_so_far words most (pcg32 g).1 (with_number xs ((pcg32 g).0 % 2 ^ 24))
    (one_more most xs ((pcg32 g).0 % 2 ^ 24) are room (mod-lt (pcg32 g).0 (omega arith))))

by_index : (P : ℕ → Type 0) (xs : List ℕ) → AllByRecursion P xs → All P xs
by_index P [] all = λ k d inside. absurd (omega arith)
by_index P (x ∷ xs) all = All-cons P x xs all.0 (by_index P xs all.1)

-- all numbers of a seed may be drawn
pub are_drawn : (seed most : ℕ) (xs : List ℕ) → xs ≡ numbers_of seed most → AreDrawn most xs
are_drawn seed most xs is =
    let are : AreSoFar most (numbers_of seed most) =
    drawn_so_far (4 * most + 64) most (pcg32_of_seed (pcg32_seed 16 seed)) [] (tt, omega arith) in
    rw is (record { below = by_index (λ r. r < MASK24) (numbers_of seed most) are.0; count = are.1 })

-- one word more
pub drawn_one : (left rest most : ℕ) (g : Lcg) (xs : List ℕ) → left ≡ suc rest → nat_eq (length xs) most ≡ false
    → drawn_on left most g xs ≡ drawn_on rest most (pcg32 g).1 (with_number xs ((pcg32 g).0 % 2 ^ 24))
drawn_one left rest most g xs is room = rw (is, room) refl
