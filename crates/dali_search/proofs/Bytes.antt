use Rattle.std.proofs.Common.{◌≡◌, ℕ, zero, suc, ◌+◌, ◌-◌, ◌*◌, ◌/◌, ◌%◌, ◌^◌, ◌<◌, ◌≤◌, Bool, true, false, refl, sym, ap, subst, ◌∙◌, arith, ◌==◌, not, nat_le}
use Rattle.std.proofs.Common.{if◌then◌else◌}
use Rattle.std.proofs.{Math.Nat.div-div-eq-div-mul, Math.Nat.pow-succ', lemmas.Bool.Decides.nat_tests, lemmas.Nat.pow-add}
use Rattle.dali_search.specs.{Ascending.with_ones, Ascending.apart_below, Ascending.one_if, Questions.bytes_apart, Questions.IsOnes, Questions.AgreeAbove}
use Rattle.dali_search.proofs.Blocks.{ones_are, apart_none, halves}

-- Two numbers that agree above some bit, and of which both have ones below another: in how many bytes they differ.

-- ---------------------------------------------------------------- ones

pub ones_less : (j k n : ℕ) → j ≤ k → IsOnes j (with_ones k n)
unfolding with_ones
ones_less zero k n few = refl
ones_less (suc j) zero n few = absurd (omega (arith, few))
ones_less (suc j) (suc k) n few =
    let half : (2 * with_ones k (n / 2) + 1) / 2 ≡ with_ones k (n / 2) = omega arith in
    let less : with_ones j (with_ones k (n / 2)) ≡ with_ones k (n / 2) = ones_less j k (n / 2) (omega (arith, few)) in
    rw (half, less) refl

pub ones_fewer : (j k n : ℕ) → j ≤ k → IsOnes k n → IsOnes j n
ones_fewer j k n few ones = ap (with_ones j) (sym ones) ∙ ones_less j k n few ∙ ones

-- what has ones is odd, and its half has them too
half_ones : (k n : ℕ) → IsOnes (suc k) n → (n ≡ 2 * (n / 2) + 1) × IsOnes k (n / 2)
unfolding with_ones
half_ones k n ones =
    let is : 2 * with_ones k (n / 2) + 1 ≡ n = ones in
    let half : n / 2 ≡ with_ones k (n / 2) = omega (arith, is) in
    (omega (arith, is), sym half)

-- ---------------------------------------------------------------- above

pub above_more : (i d n m : ℕ) → AgreeAbove i n m → AgreeAbove (i + d) n m
above_more i d n m agree =
    rw (pow-add 2 i d, ← div-div-eq-div-mul n (2 ^ i) (2 ^ d), ← div-div-eq-div-mul m (2 ^ i) (2 ^ d), agree) refl

pub above_from : (i k n m : ℕ) → i ≤ k → AgreeAbove i n m → AgreeAbove k n m
above_from i k n m less agree = let is : i + (k - i) ≡ k = omega (arith, less) in subst (λ j. AgreeAbove j n m) is (above_more i (k - i) n m agree)

above_half : (k n m : ℕ) → AgreeAbove k (n / 2) (m / 2) → AgreeAbove (suc k) n m
above_half k n m agree = rw (pow-succ' 2 k, ← div-div-eq-div-mul n 2 (2 ^ k), ← div-div-eq-div-mul m 2 (2 ^ k)) agree

pub above_ones : (k n : ℕ) → AgreeAbove k (with_ones k n) n
unfolding with_ones
above_ones zero n = refl
above_ones (suc k) n =
    let half : (2 * with_ones k (n / 2) + 1) / 2 ≡ with_ones k (n / 2) = omega arith in
    above_half k (2 * with_ones k (n / 2) + 1) n (rw half (above_ones k (n / 2)))

pub above_apart : (most n m : ℕ) → n < 2 ^ most → m < 2 ^ most → AgreeAbove (apart_below most n m) n m
unfolding apart_below
above_apart zero n m small fits = let one : n ≡ m = omega (arith, small, fits) in rw one refl
above_apart (suc most) n m small fits =
    go (n == m) refl (above_apart most (n / 2) (m / 2) (let twice : 2 ^ suc most ≡ 2 * 2 ^ most = pow-succ' 2 most in omega (arith, small, twice))
    (let twice : 2 ^ suc most ≡ 2 * 2 ^ most = pow-succ' 2 most in omega (arith, fits, twice))) where
      go : (b : Bool) → (n == m) ≡ b → AgreeAbove (apart_below most (n / 2) (m / 2)) (n / 2) (m / 2)
          → AgreeAbove (if b then 0 else apart_below most (n / 2) (m / 2) + 1) n m
      go true is half = let same : n ≡ m = grind (arith, nat_tests) in rw same refl
      go false is half =
          let next : suc (apart_below most (n / 2) (m / 2)) ≡ apart_below most (n / 2) (m / 2) + 1 = omega arith in
          subst (λ k. AgreeAbove k n m) next (above_half (apart_below most (n / 2) (m / 2)) n m half)

pub apart_of_ones : (most k n : ℕ) → apart_below most n (with_ones k n) ≤ k
unfolding apart_below with_ones
apart_of_ones most zero n = rw (apart_none most n) (omega arith)
apart_of_ones zero (suc k) n = omega arith
apart_of_ones (suc most) (suc k) n =
    let half : (2 * with_ones k (n / 2) + 1) / 2 ≡ with_ones k (n / 2) = omega arith in
    let less : apart_below most (n / 2) (with_ones k (n / 2)) ≤ k = apart_of_ones most k (n / 2) in
    rw half (go (n == 2 * with_ones k (n / 2) + 1) less) where
      go : (b : Bool) → apart_below most (n / 2) (with_ones k (n / 2)) ≤ k
          → (if b then 0 else apart_below most (n / 2) (with_ones k (n / 2)) + 1) ≤ suc k
      go true less = omega arith
      go false less = omega (arith, less)

-- ---------------------------------------------------------------- after a no

-- below a number with ones one bit fewer is left
pub no_leaves : (most low high : ℕ) → low < high → high < 2 ^ most → IsOnes (apart_below most low high) high
    → apart_below most (with_ones (apart_below most low high - 1) low + 1) high ≡ apart_below most low high - 1
unfolding apart_below with_ones
no_leaves zero low high less small ones = absurd (omega (arith, less, small))
no_leaves (suc most) low high less small ones = go (low == high) refl ones (λ below fits ones. no_leaves most (low / 2) (high / 2) below fits ones) where
  Half : Type 0
  Half = low / 2 < high / 2 → high / 2 < 2 ^ most → IsOnes (apart_below most (low / 2) (high / 2)) (high / 2)
      → apart_below most (with_ones (apart_below most (low / 2) (high / 2) - 1) (low / 2) + 1) (high / 2) ≡ apart_below most (low / 2) (high / 2) - 1

  twice : 2 ^ suc most ≡ 2 * 2 ^ most
  twice = pow-succ' 2 most

  Left : ℕ → Type 0
  Left k = apart_below (suc most) (with_ones (k - 1) low + 1) high ≡ k - 1

  even : (w : ℕ) → high ≡ 2 * (high / 2) + 1 → (b : Bool) → (2 * with_ones w (low / 2) + 1 + 1 == high) ≡ b
      → apart_below most ((2 * with_ones w (low / 2) + 1 + 1) / 2) (high / 2) ≡ w
      → (if b then 0 else apart_below most ((2 * with_ones w (low / 2) + 1 + 1) / 2) (high / 2) + 1) ≡ suc w
  even w odd true is under = let same : 2 * with_ones w (low / 2) + 1 + 1 ≡ high = grind (arith, nat_tests) in absurd (omega (arith, same, odd))
  even w odd false is under = omega (arith, under)

  at_half : (b : Bool) → (low / 2 == high / 2) ≡ b → IsOnes (apart_below most (low / 2) (high / 2) + 1) high → Half
      → Left (apart_below most (low / 2) (high / 2) + 1)
  at_half true is ones below =
      let same : low / 2 ≡ high / 2 = grind (arith, nat_tests) in
      let none : apart_below most (low / 2) (high / 2) ≡ 0 = ap (λ h. apart_below most (low / 2) h) (sym same) ∙ apart_none most (low / 2) in
      let next : low + 1 ≡ high = omega (arith, same, less) in
      rw (none, next, apart_none (suc most) high) refl
  at_half false is ones below =
      let less_half : low / 2 < high / 2 = grind (arith, nat_tests) in
      let half = halves most (low / 2) (high / 2) less_half (omega (arith, small, twice)) in
      bits (apart_below most (low / 2) (high / 2)) half.some ones
      (below less_half (omega (arith, small, twice)))
    where
      bits : (w : ℕ) → 0 < w → IsOnes (w + 1) high
          → (IsOnes w (high / 2) → apart_below most (with_ones (w - 1) (low / 2) + 1) (high / 2) ≡ w - 1)
          → Left (w + 1)
      bits zero some ones left = absurd (omega (arith, some))
      bits (suc w) some ones left =
          let odd = half_ones (suc w) high (subst (λ k. IsOnes k high) (let is : suc w + 1 ≡ suc (suc w) = omega arith in is) ones) in
          let same : suc w - 1 ≡ w = omega arith in
          let under : apart_below most (with_ones w (low / 2) + 1) (high / 2) ≡ w =
          subst (λ k. apart_below most (with_ones k (low / 2) + 1) (high / 2) ≡ k) same (left odd.1) in
          let last : suc w + 1 - 1 ≡ suc w = omega arith in
          let half : (2 * with_ones w (low / 2) + 1 + 1) / 2 ≡ with_ones w (low / 2) + 1 = omega arith in
          subst (λ k. apart_below (suc most) (with_ones k low + 1) high ≡ k) (sym last)
          (even w odd.0 (2 * with_ones w (low / 2) + 1 + 1 == high) refl (rw half under))

  go : (b : Bool) → (low == high) ≡ b → IsOnes (if b then 0 else apart_below most (low / 2) (high / 2) + 1) high → Half
      → Left (if b then 0 else apart_below most (low / 2) (high / 2) + 1)
  go true is ones below = let same : low ≡ high = grind (arith, nat_tests) in absurd (omega (arith, same, less))
  go false is ones below = at_half (low / 2 == high / 2) refl ones below

-- ---------------------------------------------------------------- bytes

one_most : (b : Bool) → one_if b ≤ 1
one_most true = omega arith
one_most false = omega arith

none_apart : (n m : ℕ) → n ≡ m → one_if (not (n == m)) ≡ 0
none_apart n m same = ap (λ b. one_if (not b)) (let test : (n == m) ≡ true = grind (arith, nat_tests) in test)

pub three_most : (n m : ℕ) → bytes_apart n m ≤ 3
unfolding bytes_apart
three_most n m =
    let high : one_if (not (n / 0x10000 == m / 0x10000)) ≤ 1 = one_most _ in
    let middle : one_if (not (n / 0x100 % 0x100 == m / 0x100 % 0x100)) ≤ 1 = one_most _ in
    let low : one_if (not (n % 0x100 == m % 0x100)) ≤ 1 = one_most _ in
    omega (arith, high, middle, low)

pub same_bytes : (n : ℕ) → bytes_apart n n ≡ 0
unfolding bytes_apart
same_bytes n =
    let high : one_if (not (n / 0x10000 == n / 0x10000)) ≡ 0 = none_apart _ _ refl in
    let middle : one_if (not (n / 0x100 % 0x100 == n / 0x100 % 0x100)) ≡ 0 = none_apart _ _ refl in
    let low : one_if (not (n % 0x100 == n % 0x100)) ≡ 0 = none_apart _ _ refl in
    omega (arith, high, middle, low)

-- by which bytes are the same
same_high : (n m : ℕ) → n / 0x10000 ≡ m / 0x10000 → bytes_apart n m ≤ 2
unfolding bytes_apart
same_high n m same =
    let high : one_if (not (n / 0x10000 == m / 0x10000)) ≡ 0 = none_apart _ _ same in
    let middle : one_if (not (n / 0x100 % 0x100 == m / 0x100 % 0x100)) ≤ 1 = one_most _ in
    let low : one_if (not (n % 0x100 == m % 0x100)) ≤ 1 = one_most _ in
    omega (arith, high, middle, low)

same_middle : (n m : ℕ) → n / 0x100 % 0x100 ≡ m / 0x100 % 0x100 → bytes_apart n m ≤ 2
unfolding bytes_apart
same_middle n m same =
    let high : one_if (not (n / 0x10000 == m / 0x10000)) ≤ 1 = one_most _ in
    let middle : one_if (not (n / 0x100 % 0x100 == m / 0x100 % 0x100)) ≡ 0 = none_apart _ _ same in
    let low : one_if (not (n % 0x100 == m % 0x100)) ≤ 1 = one_most _ in
    omega (arith, high, middle, low)

same_low : (n m : ℕ) → n % 0x100 ≡ m % 0x100 → bytes_apart n m ≤ 2
unfolding bytes_apart
same_low n m same =
    let high : one_if (not (n / 0x10000 == m / 0x10000)) ≤ 1 = one_most _ in
    let middle : one_if (not (n / 0x100 % 0x100 == m / 0x100 % 0x100)) ≤ 1 = one_most _ in
    let low : one_if (not (n % 0x100 == m % 0x100)) ≡ 0 = none_apart _ _ same in
    omega (arith, high, middle, low)

same_upper : (n m : ℕ) → n / 0x10000 ≡ m / 0x10000 → n / 0x100 % 0x100 ≡ m / 0x100 % 0x100 → bytes_apart n m ≤ 1
unfolding bytes_apart
same_upper n m one two =
    let high : one_if (not (n / 0x10000 == m / 0x10000)) ≡ 0 = none_apart _ _ one in
    let middle : one_if (not (n / 0x100 % 0x100 == m / 0x100 % 0x100)) ≡ 0 = none_apart _ _ two in
    let low : one_if (not (n % 0x100 == m % 0x100)) ≤ 1 = one_most _ in
    omega (arith, high, middle, low)

same_outer : (n m : ℕ) → n / 0x10000 ≡ m / 0x10000 → n % 0x100 ≡ m % 0x100 → bytes_apart n m ≤ 1
unfolding bytes_apart
same_outer n m one two =
    let high : one_if (not (n / 0x10000 == m / 0x10000)) ≡ 0 = none_apart _ _ one in
    let middle : one_if (not (n / 0x100 % 0x100 == m / 0x100 % 0x100)) ≤ 1 = one_most _ in
    let low : one_if (not (n % 0x100 == m % 0x100)) ≡ 0 = none_apart _ _ two in
    omega (arith, high, middle, low)

same_lower : (n m : ℕ) → n / 0x100 % 0x100 ≡ m / 0x100 % 0x100 → n % 0x100 ≡ m % 0x100 → bytes_apart n m ≤ 1
unfolding bytes_apart
same_lower n m one two =
    let high : one_if (not (n / 0x10000 == m / 0x10000)) ≤ 1 = one_most _ in
    let middle : one_if (not (n / 0x100 % 0x100 == m / 0x100 % 0x100)) ≡ 0 = none_apart _ _ one in
    let low : one_if (not (n % 0x100 == m % 0x100)) ≡ 0 = none_apart _ _ two in
    omega (arith, high, middle, low)

-- what ones and agreement say of bytes
ones_low : (j n : ℕ) → 8 ≤ j → IsOnes j n → n % 0x100 ≡ 0xFF
ones_low j n enough ones =
    let is : n / 2 ^ 8 * 2 ^ 8 + (2 ^ 8 - 1) ≡ n = sym (ones_are 8 n) ∙ ones_fewer 8 j n enough ones in
    let at : n / 0x100 * 0x100 + 0xFF ≡ n = is in
    omega (arith, at)

ones_middle : (j n : ℕ) → 16 ≤ j → IsOnes j n → n / 0x100 % 0x100 ≡ 0xFF
ones_middle j n enough ones =
    let is : n / 2 ^ 16 * 2 ^ 16 + (2 ^ 16 - 1) ≡ n = sym (ones_are 16 n) ∙ ones_fewer 16 j n enough ones in
    let at : n / 0x10000 * 0x10000 + 0xFFFF ≡ n = is in
    omega (arith, at)

above_high : (i n m : ℕ) → i ≤ 16 → AgreeAbove i n m → n / 0x10000 ≡ m / 0x10000
above_high i n m few agree = above_from i 16 n m few agree

above_middle : (i n m : ℕ) → i ≤ 8 → AgreeAbove i n m → n / 0x100 % 0x100 ≡ m / 0x100 % 0x100
above_middle i n m few agree = let same : n / 0x100 ≡ m / 0x100 = above_from i 8 n m few agree in ap (λ x. x % 0x100) same

-- ONE BIT APART, or two neighbours: mostly one byte, and else two
pub near_one : (i j n m : ℕ) → i ≤ j + 1 → AgreeAbove i n m → IsOnes j n → IsOnes j m → bytes_apart n m ≤ 1
near_one i j n m near agree one two = go (nat_le i 8) refl where
  high_too : (b : Bool) → nat_le i 16 ≡ b → 8 < i → bytes_apart n m ≤ 1
  high_too true few many =
      let most : i ≤ 16 = grind (arith, nat_tests) in
      let enough : 8 ≤ j = omega (arith, near, many) in
      same_outer n m (above_high i n m most agree) (ones_low j n enough one ∙ sym (ones_low j m enough two))
  high_too false few many =
      let more : 16 < i = grind (arith, nat_tests) in
      let enough : 16 ≤ j = omega (arith, near, more) in
      same_lower n m (ones_middle j n enough one ∙ sym (ones_middle j m enough two))
      (ones_low j n (omega (arith, enough)) one ∙ sym (ones_low j m (omega (arith, enough)) two))

  go : (b : Bool) → nat_le i 8 ≡ b → bytes_apart n m ≤ 1
  go true few =
      let most : i ≤ 8 = grind (arith, nat_tests) in
      same_upper n m (above_high i n m (omega (arith, most)) agree) (above_middle i n m most agree)
  go false few = high_too (nat_le i 16) refl (let more : 8 < i = grind (arith, nat_tests) in more)

pub near_two : (i j n m : ℕ) → i ≤ j + 2 → AgreeAbove i n m → IsOnes j n → IsOnes j m
    → (bytes_apart n m ≤ 2) × ((i ≡ 9 → ⊥) → (i ≡ 17 → ⊥) → bytes_apart n m ≤ 1)
near_two i j n m near agree one two = go (nat_le i 8) refl where
  one_byte : bytes_apart n m ≤ 1 → (bytes_apart n m ≤ 2) × ((i ≡ 9 → ⊥) → (i ≡ 17 → ⊥) → bytes_apart n m ≤ 1)
  one_byte most = (omega (arith, most), λ a b. most)

  low_too : (b : Bool) → nat_le 8 j ≡ b → i ≤ 16 → 8 < i → (bytes_apart n m ≤ 2) × ((i ≡ 9 → ⊥) → (i ≡ 17 → ⊥) → bytes_apart n m ≤ 1)
  low_too true is most many =
      let enough : 8 ≤ j = grind (arith, nat_tests) in
      one_byte (same_outer n m (above_high i n m most agree) (ones_low j n enough one ∙ sym (ones_low j m enough two)))
  low_too false is most many =
      let less : j < 8 = grind (arith, nat_tests) in
      (same_high n m (above_high i n m most agree), λ a b. absurd (a (omega (arith, near, less, many))))

  middle_too : (b : Bool) → nat_le 16 j ≡ b → 16 < i → (bytes_apart n m ≤ 2) × ((i ≡ 9 → ⊥) → (i ≡ 17 → ⊥) → bytes_apart n m ≤ 1)
  middle_too true is many =
      let enough : 16 ≤ j = grind (arith, nat_tests) in
      one_byte (same_lower n m (ones_middle j n enough one ∙ sym (ones_middle j m enough two))
      (ones_low j n (omega (arith, enough)) one ∙ sym (ones_low j m (omega (arith, enough)) two)))
  middle_too false is many =
      let less : j < 16 = grind (arith, nat_tests) in
      let enough : 8 ≤ j = omega (arith, near, many) in
      (same_low n m (ones_low j n enough one ∙ sym (ones_low j m enough two)), λ a b. absurd (b (omega (arith, near, less, many))))

  high_too : (b : Bool) → nat_le i 16 ≡ b → 8 < i → (bytes_apart n m ≤ 2) × ((i ≡ 9 → ⊥) → (i ≡ 17 → ⊥) → bytes_apart n m ≤ 1)
  high_too true few many = low_too (nat_le 8 j) refl (let most : i ≤ 16 = grind (arith, nat_tests) in most) many
  high_too false few many = middle_too (nat_le 16 j) refl (let more : 16 < i = grind (arith, nat_tests) in more)

  go : (b : Bool) → nat_le i 8 ≡ b → (bytes_apart n m ≤ 2) × ((i ≡ 9 → ⊥) → (i ≡ 17 → ⊥) → bytes_apart n m ≤ 1)
  go true few =
      let most : i ≤ 8 = grind (arith, nat_tests) in
      one_byte (same_upper n m (above_high i n m (omega (arith, most)) agree) (above_middle i n m most agree))
  go false few = high_too (nat_le i 16) refl (let more : 8 < i = grind (arith, nat_tests) in more)

-- from FFFFFE, which has no one in its lowest bit
pub near_last : (i j n : ℕ) → i ≤ j + 1 → AgreeAbove i 0xFFFFFE n → IsOnes j n → bytes_apart 0xFFFFFE n ≤ 2
near_last i j n near agree ones = go (nat_le i 16) refl where
  go : (b : Bool) → nat_le i 16 ≡ b → bytes_apart 0xFFFFFE n ≤ 2
  go true few = same_high 0xFFFFFE n (above_high i 0xFFFFFE n (let most : i ≤ 16 = grind (arith, nat_tests) in most) agree)
  go false few =
      let more : 16 < i = grind (arith, nat_tests) in
      same_middle 0xFFFFFE n (sym (ones_middle j n (omega (arith, near, more)) ones))
