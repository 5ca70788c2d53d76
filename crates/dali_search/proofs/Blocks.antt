use Rattle.std.proofs.Common.{◌≡◌, ℕ, zero, suc, ◌+◌, ◌-◌, ◌*◌, ◌/◌, ◌^◌, ◌<◌, ◌≤◌, Bool, true, false, refl, sym, ap, subst, ◌∙◌, arith, ◌==◌, if◌then◌else◌}
use Rattle.std.proofs.{Math.Nat.div-div-eq-div-mul, Math.Nat.pow-succ', lemmas.Bool.Decides.nat_tests}
use Rattle.dali_search.specs.Ascending.{with_ones, apart_below}

-- A number with its lowest bits set to one, as arithmetic, and where it lies.

pub ones_are : (k n : ℕ) → with_ones k n ≡ n / 2 ^ k * 2 ^ k + (2 ^ k - 1)
unfolding with_ones
ones_are zero n = omega arith
ones_are (suc k) n =
    let half : with_ones k (n / 2) ≡ n / 2 / 2 ^ k * 2 ^ k + (2 ^ k - 1) = ones_are k (n / 2) in
    let twice : 2 ^ suc k ≡ 2 * 2 ^ k = pow-succ' 2 k in
    let block : n / 2 / 2 ^ k ≡ n / 2 ^ suc k = div-div-eq-div-mul n 2 (2 ^ k) ∙ ap (λ b. n / b) (sym twice) in
    let whole : with_ones k (n / 2) ≡ n / 2 ^ suc k * 2 ^ k + (2 ^ k - 1) = half ∙ ap (λ q. q * 2 ^ k + (2 ^ k - 1)) block in
    doubled (n / 2 ^ suc k) (2 ^ k) (2 ^ suc k) (with_ones k (n / 2)) (positive k) twice whole
  where
    positive : (k : ℕ) → 0 < 2 ^ k
    positive zero = omega arith
    positive (suc k) = let more : 0 < 2 ^ k = positive k in let twice : 2 ^ suc k ≡ 2 * 2 ^ k = pow-succ' 2 k in omega (arith, more, twice)

    doubled : (q size more ones : ℕ) → 0 < size → more ≡ 2 * size → ones ≡ q * size + (size - 1) → 2 * ones + 1 ≡ q * more + (more - 1)
    doubled q size more ones some twice is = rw (twice, is) (omega (arith, some))

pub ones_from : (k n : ℕ) → n ≤ with_ones k n
unfolding with_ones
ones_from zero n = omega arith
ones_from (suc k) n = let half : n / 2 ≤ with_ones k (n / 2) = ones_from k (n / 2) in omega (arith, half)

pub ones_below : (k most n : ℕ) → k ≤ most → n < 2 ^ most → with_ones k n < 2 ^ most
unfolding with_ones
ones_below zero most n few small = small
ones_below (suc k) zero n few small = absurd (omega (arith, few))
ones_below (suc k) (suc most) n few small =
    let twice : 2 ^ suc most ≡ 2 * 2 ^ most = pow-succ' 2 most in
    let half : with_ones k (n / 2) < 2 ^ most = ones_below k most (n / 2) (omega (arith, few)) (omega (arith, small, twice)) in
    omega (arith, half, twice)

-- How many bits two numbers do not share.

pub apart_none : (most n : ℕ) → apart_below most n n ≡ 0
unfolding apart_below
apart_none zero n = refl
apart_none (suc most) n = grind (arith, nat_tests)

pub apart_most : (most n m : ℕ) → apart_below most n m ≤ most
unfolding apart_below
apart_most zero n m = omega arith
apart_most (suc most) n m = go (n == m) (apart_most most (n / 2) (m / 2)) where
  go : (b : Bool) → apart_below most (n / 2) (m / 2) ≤ most → (if b then 0 else apart_below most (n / 2) (m / 2) + 1) ≤ suc most
  go true half = omega arith
  go false half = omega (arith, half)

-- THE LOWER HALF. Of two numbers, the lesser one with all but one of the bits that they do not share set to one lies
-- between them; and it is nearer to each of them, and the next number too.
pub record Halves (most low high : ℕ) (bits asked : ℕ) : Type 0 where
  pub some : 0 < bits
  pub from : low ≤ asked
  pub below : asked < high
  pub yes : apart_below most low asked < bits
  pub no : apart_below most (asked + 1) high < bits

pub halves : (most low high : ℕ) → low < high → high < 2 ^ most
    → Halves most low high (apart_below most low high) (with_ones (apart_below most low high - 1) low)
unfolding with_ones apart_below
halves zero low high less small = absurd (omega (arith, less, small))
halves (suc most) low high less small = go (low == high) refl (λ below fits. halves most (low / 2) (high / 2) below fits) where
  Half : Type 0
  Half = low / 2 < high / 2 → high / 2 < 2 ^ most
      → Halves most (low / 2) (high / 2) (apart_below most (low / 2) (high / 2)) (with_ones (apart_below most (low / 2) (high / 2) - 1) (low / 2))

  twice : 2 ^ suc most ≡ 2 * 2 ^ most
  twice = pow-succ' 2 most

  apart_suc : (n m w : ℕ) → (n ≡ m → ⊥) → apart_below most (n / 2) (m / 2) ≡ w → apart_below (suc most) n m ≡ w + 1
  apart_suc n m w differ is = rw (← is) (grind (arith, nat_tests))

  at_most_suc : (n m w : ℕ) → apart_below most (n / 2) (m / 2) < w → apart_below (suc most) n m < w + 1
  at_most_suc n m w few = at (n == m) where
    at : (b : Bool) → (if b then 0 else apart_below most (n / 2) (m / 2) + 1) < w + 1
    at true = omega arith
    at false = omega (arith, few)

  last_bit : low / 2 ≡ high / 2 → Halves (suc most) low high 1 low
  last_bit same =
      let next : low + 1 ≡ high = omega (arith, same, less) in
      record {
        some = omega arith;
        from = omega arith;
        below = less;
        yes = rw (apart_none (suc most) low) (omega arith);
        no = rw (next, apart_none (suc most) high) (omega arith);
      }

  more_bits : (w p : ℕ) → Halves most (low / 2) (high / 2) w p → Halves (suc most) low high (w + 1) (2 * p + 1)
  more_bits w p half = record {
    some = omega arith;
    from = let from : low / 2 ≤ p = half.from in omega (arith, from);
    below = let below : p < high / 2 = half.below in omega (arith, below);
    yes = at_most_suc low (2 * p + 1) w (let same : (2 * p + 1) / 2 ≡ p = omega arith in rw same half.yes);
    no = at_most_suc (2 * p + 1 + 1) high w (let same : (2 * p + 1 + 1) / 2 ≡ p + 1 = omega arith in rw same half.no);
  }

  at_bits : (b : Bool) → (low / 2 == high / 2) ≡ b → Half → Halves (suc most) low high (apart_below most (low / 2) (high / 2) + 1)
      (with_ones (apart_below most (low / 2) (high / 2) + 1 - 1) low)
  at_bits true is half =
      let same : low / 2 ≡ high / 2 = grind (arith, nat_tests) in
      let none : apart_below most (low / 2) (high / 2) ≡ 0 = ap (λ h. apart_below most (low / 2) h) (sym same) ∙ apart_none most (low / 2) in
      rw none (last_bit same)
  at_bits false is half =
      let less_half : low / 2 < high / 2 = grind (arith, nat_tests) in
      found (apart_below most (low / 2) (high / 2)) (half less_half (omega (arith, small, twice)))
    where
      found : (w : ℕ) → Halves most (low / 2) (high / 2) w (with_ones (w - 1) (low / 2)) → Halves (suc most) low high (w + 1) (with_ones (w + 1 - 1) low)
      found zero half = absurd (omega (arith, half.some))
      found (suc w) half =
          let less : suc w - 1 ≡ w = omega arith in
          let same : suc w + 1 - 1 ≡ suc w = omega arith in
          subst (λ k. Halves (suc most) low high (suc w + 1) (with_ones k low)) (sym same)
          (more_bits (suc w) (with_ones w (low / 2)) (subst (λ k. Halves most (low / 2) (high / 2) (suc w) (with_ones k (low / 2))) less half))

  go : (b : Bool) → (low == high) ≡ b → Half
      → Halves (suc most) low high (if b then 0 else apart_below most (low / 2) (high / 2) + 1)
      (with_ones ((if b then 0 else apart_below most (low / 2) (high / 2) + 1) - 1) low)
  go true is half = let same : low ≡ high = grind (arith, nat_tests) in absurd (omega (arith, same, less))
  go false is half = at_bits (low / 2 == high / 2) refl half

-- one turn of the loop that counts them
counted_one : (left bits total one other : ℕ) → bits + apart_below (suc left) one other ≡ total
    → (one ≡ other → bits + apart_below left one other ≡ total) × ((one ≡ other → ⊥) → bits + 1 + apart_below left (one / 2) (other / 2) ≡ total)
unfolding apart_below
counted_one left bits total one other is = (shared, apart_still) where
  shared : one ≡ other → bits + apart_below left one other ≡ total
  shared same =
      let none : apart_below left one other ≡ 0 = ap (λ m. apart_below left one m) (sym same) ∙ apart_none left one in
      grind (arith, nat_tests, none)

  apart_still : (one ≡ other → ⊥) → bits + 1 + apart_below left (one / 2) (other / 2) ≡ total
  apart_still differ = grind (arith, nat_tests)

pub counted : (counter bits total one other : ℕ) → counter < 24 → bits + apart_below (24 - counter) one other ≡ total
    → (one ≡ other → bits + apart_below (24 - (counter + 1)) one other ≡ total)
    × ((one ≡ other → ⊥) → bits + 1 + apart_below (24 - (counter + 1)) (one / 2) (other / 2) ≡ total)
counted counter bits total one other early is =
    let left : 24 - counter ≡ suc (24 - (counter + 1)) = omega (arith, early) in
    counted_one (24 - (counter + 1)) bits total one other (ap (λ n. bits + apart_below n one other) (sym left) ∙ is)

-- and its end
pub counted_all : (counter bits total one other : ℕ) → counter ≤ 24 → 24 ≤ counter
    → bits + apart_below (24 - counter) one other ≡ total → bits ≡ total
unfolding apart_below
counted_all counter bits total one other most over is =
    let none : 24 - counter ≡ 0 = omega (arith, most, over) in
    let sum : bits + 0 ≡ total = ap (λ n. bits + apart_below n one other) (sym none) ∙ is in
    omega (arith, sum)
