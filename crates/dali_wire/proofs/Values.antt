use Rattle.std.proofs.Common.{◌≡◌, ℕ, zero, suc, ◌+◌, ◌-◌, ◌*◌, ◌^◌, ◌<◌, ◌≤◌, Bool, true, false, List, [], ◌∷◌, length, refl, ap, ◌∙◌, arith, nat_le}
use Rattle.std.proofs.Common.{if◌then◌else◌}
use Rattle.std.proofs.{Math.Nat.pow-succ', lemmas.Bool.Decides.nat_tests}
use Rattle.dali_wire.specs.{Grid.value_of, Levels.bits_of}

-- THE NUMBER THAT BITS WRITE, and the bits of a number.

pub below : (m n : ℕ) → nat_le m n ≡ true → m ≤ n
below m n test = grind (arith, nat_tests)

pub above : (m n : ℕ) → nat_le m n ≡ false → n < m
above m n test = grind (arith, nat_tests)

pub is_below : (m n : ℕ) → m ≤ n → nat_le m n ≡ true
is_below m n h = grind (arith, nat_tests)

pub is_above : (m n : ℕ) → n < m → nat_le m n ≡ false
is_above m n h = grind (arith, nat_tests)

pub value_grows : (v : ℕ) (bits : List Bool) → v ≤ value_of v bits
value_grows v [] = omega arith
value_grows v (true ∷ bits) = let e : 2 * v + 1 ≤ value_of (2 * v + 1) bits = value_grows (2 * v + 1) bits in omega arith
value_grows v (false ∷ bits) = let e : 2 * v ≤ value_of (2 * v) bits = value_grows (2 * v) bits in omega arith

at_least : (n v : ℕ) (bits : List Bool) → n ≤ length bits → v * 2 ^ n ≤ value_of v bits
at_least zero v bits h = let e : v ≤ value_of v bits = value_grows v bits in omega arith
at_least (suc n) v [] h = absurd (omega arith)
at_least (suc n) v (true ∷ bits) h =
    let twice : 2 ^ suc n ≡ 2 * 2 ^ n = pow-succ' 2 n in
    let few : n ≤ length bits = omega arith in
    let rest : (2 * v + 1) * 2 ^ n ≤ value_of (2 * v + 1) bits = at_least n (2 * v + 1) bits few in
    rw twice (omega arith)
at_least (suc n) v (false ∷ bits) h =
    let twice : 2 ^ suc n ≡ 2 * 2 ^ n = pow-succ' 2 n in
    let few : n ≤ length bits = omega arith in
    let rest : (2 * v) * 2 ^ n ≤ value_of (2 * v) bits = at_least n (2 * v) bits few in
    rw twice (omega arith)

pub few_bits : (bits : List Bool) → value_of 1 bits < 512 → length bits ≤ 8
few_bits bits h = go (nat_le 9 (length bits)) refl where
  go : (b : Bool) → nat_le 9 (length bits) ≡ b → length bits ≤ 8
  go true test =
      let many : 1 * 2 ^ 9 ≤ value_of 1 bits = at_least 9 1 bits (below 9 (length bits) test) in
      absurd (omega arith)
  go false test = let few : length bits < 9 = above 9 (length bits) test in omega arith

pub length_bits : (n w : ℕ) → length (bits_of n w) ≡ n
unfolding bits_of
length_bits zero w = refl
length_bits (suc n) w = go (nat_le (2 ^ n) w) (length_bits n (w - 2 ^ n)) (length_bits n w) where
  go : (b : Bool) → length (bits_of n (w - 2 ^ n)) ≡ n → length (bits_of n w) ≡ n
      → length (if b then true ∷ bits_of n (w - 2 ^ n) else false ∷ bits_of n w) ≡ suc n
  go true low high = ap suc low
  go false low high = ap suc high

pub value_back : (n v w : ℕ) → w < 2 ^ n → value_of v (bits_of n w) ≡ v * 2 ^ n + w
unfolding bits_of
value_back zero v w h = omega arith
value_back (suc n) v w h = go (nat_le (2 ^ n) w) refl (λ u x small. value_back n u x small) where
  twice : 2 ^ suc n ≡ 2 * 2 ^ n
  twice = pow-succ' 2 n

  go : (b : Bool) → nat_le (2 ^ n) w ≡ b → ((u x : ℕ) → x < 2 ^ n → value_of u (bits_of n x) ≡ u * 2 ^ n + x)
      → value_of v (if b then true ∷ bits_of n (w - 2 ^ n) else false ∷ bits_of n w) ≡ v * 2 ^ suc n + w
  go true test back =
      let least : 2 ^ n ≤ w = below (2 ^ n) w test in
      let small : w - 2 ^ n < 2 ^ n = omega (arith, twice) in
      let rest : value_of (2 * v + 1) (bits_of n (w - 2 ^ n)) ≡ (2 * v + 1) * 2 ^ n + (w - 2 ^ n) = back (2 * v + 1) (w - 2 ^ n) small in
      rw twice (omega (arith, rest, least))
  go false test back =
      let small : w < 2 ^ n = above (2 ^ n) w test in
      let rest : value_of (2 * v) (bits_of n w) ≡ (2 * v) * 2 ^ n + w = back (2 * v) w small in
      rw twice (omega (arith, rest))

-- the start bit comes first
pub start_first : (n w : ℕ) → bits_of (suc n) (2 ^ n + w) ≡ true ∷ bits_of n w
unfolding bits_of
start_first n w =
    let least : 2 ^ n ≤ 2 ^ n + w = omega arith in
    let rest : (2 ^ n + w) - 2 ^ n ≡ w = omega arith in
    rw (is_below (2 ^ n) (2 ^ n + w) least, rest) refl

-- bits write the number of which they are the bits
pub bits_back : (v : ℕ) (bits : List Bool) → (w : ℕ) × (w < 2 ^ length bits) × (value_of v bits ≡ v * 2 ^ length bits + w) × (bits_of (length bits) w ≡ bits)
unfolding bits_of
bits_back v [] = (0, omega arith, omega arith, refl)
bits_back v (true ∷ bits) =
    let rest = bits_back (2 * v + 1) bits in
    let n : ℕ = length bits in
    let w : ℕ = rest.0 in
    let twice : 2 ^ suc n ≡ 2 * 2 ^ n = pow-succ' 2 n in
    let small : w < 2 ^ n = rest.1 in
    let value : value_of (2 * v + 1) bits ≡ (2 * v + 1) * 2 ^ n + w = rest.2 in
    (2 ^ n + w, rw twice (omega arith), rw twice (omega (arith, value)), start_first n w ∙ ap (λ bs. true ∷ bs) rest.3)
bits_back v (false ∷ bits) =
    let rest = bits_back (2 * v) bits in
    let n : ℕ = length bits in
    let w : ℕ = rest.0 in
    let twice : 2 ^ suc n ≡ 2 * 2 ^ n = pow-succ' 2 n in
    let small : w < 2 ^ n = rest.1 in
    let value : value_of (2 * v) bits ≡ (2 * v) * 2 ^ n + w = rest.2 in
    (w, rw twice (omega arith), rw twice (omega (arith, value)), rw (is_above (2 ^ n) w small) (ap (λ bs. false ∷ bs) rest.3))
