use Rattle.std.proofs.Common.{◌≡◌, ℕ, zero, suc, ◌+◌, ◌-◌, ◌*◌, ◌/◌, ◌%◌, ◌^◌, ◌<◌, ◌≤◌, Bool, true, false, not}
use Rattle.std.proofs.Common.{List, ◌∷◌, ◌++◌, refl, sym, ap, ◌∙◌, subst, arith, nat_le, nat_eq, pow-add, pow_pos, slice_index_or}
use Rattle.std.specs.Prelude.{if◌then◌else◌}
use Rattle.std.proofs.lemmas.Bool.Decides.{nat_tests}
use Rattle.std.proofs.lemmas.Nat.{div-mul-add}
use Rattle.std.proofs.Math.Nat.{mul-add-div_right, pow-suc}
use Rattle.dali_frame.specs.declared.frames.Forward.{Forward}
use Rattle.dali_wire.specs.Levels.{bits_of, levels_of, highs}
use Rattle.dali_port.specs.Frames.{level_at}

-- THE LEVEL OF A HALF BIT, by the bit of the number: its first half is low if it is 1, its second one if it is 0.
abbrev pub bit_of : ℕ → ℕ → Bool
bit_of number place = nat_eq (number / 2 ^ place % 2) 1

abbrev pub half_of : Bool → ℕ → Bool
half_of one half = if nat_eq (half % 2) 0 then one else not one

-- the highest bit, and those below it
highest : (n number : ℕ) (b : Bool) → nat_le (2 ^ n) number ≡ b → number < 2 ^ suc n → b ≡ bit_of number n
highest n number true is small =
    let twice : 2 ^ suc n ≡ 2 ^ n * 2 = pow-suc 2 n in
    let rest : number - 2 ^ n < 2 ^ n = grind (arith, nat_tests) in
    let whole : number ≡ 1 * 2 ^ n + (number - 2 ^ n) = grind (arith, nat_tests) in
    let one : number / 2 ^ n ≡ 1 = ap (λ x. x / 2 ^ n) whole ∙ div-mul-add 1 (2 ^ n) (number - 2 ^ n) rest in
    rw one refl
highest n number false is small =
    let rest : number < 2 ^ n = grind (arith, nat_tests) in
    let whole : 0 * 2 ^ n + number ≡ number = omega arith in
    let none : number / 2 ^ n ≡ 0 = ap (λ x. x / 2 ^ n) (sym whole) ∙ div-mul-add 0 (2 ^ n) number rest in
    rw none refl

even_more : (k q : ℕ) → nat_eq ((2 * k + q) % 2) 1 ≡ nat_eq (q % 2) 1
even_more k q = let same : (2 * k + q) % 2 ≡ q % 2 = omega arith in ap (λ x. nat_eq x 1) same

below : (e d rest : ℕ) → bit_of (2 ^ (suc d + e) + rest) e ≡ bit_of rest e
below e d rest =
    let some : 0 < 2 ^ e = pow_pos e in
    let power : 2 ^ (suc d + e) ≡ 2 ^ suc d * 2 ^ e = pow-add 2 (suc d) e in
    let two : 2 ^ suc d ≡ 2 * 2 ^ d = pow-suc 2 d ∙ omega arith in
    let whole : (2 ^ suc d * 2 ^ e + rest) / 2 ^ e ≡ 2 ^ suc d + rest / 2 ^ e = mul-add-div_right some (2 ^ suc d) rest in
    let all : (2 ^ (suc d + e) + rest) / 2 ^ e ≡ 2 * 2 ^ d + rest / 2 ^ e =
    ap (λ x. (x + rest) / 2 ^ e) power ∙ whole ∙ ap (λ x. x + rest / 2 ^ e) two in
    ap (λ x. nat_eq (x % 2) 1) all ∙ even_more (2 ^ d) (rest / 2 ^ e)

below_at : (n e number : ℕ) → e < n → 2 ^ n ≤ number → bit_of (number - 2 ^ n) e ≡ bit_of number e
below_at n e number less more =
    let place : n ≡ suc (n - suc e) + e = omega (arith, less) in
    let whole : 2 ^ n + (number - 2 ^ n) ≡ number = omega (arith, more) in
    let lower : bit_of (2 ^ n + (number - 2 ^ n)) e ≡ bit_of (number - 2 ^ n) e =
    subst (λ k. bit_of (2 ^ k + (number - 2 ^ n)) e ≡ bit_of (number - 2 ^ n) e) (sym place) (below e (n - suc e) (number - 2 ^ n)) in
    sym lower ∙ ap (λ x. bit_of x e) whole

abbrev Lower : ℕ → List Bool → Type 0
Lower n tail =
    (rest half : ℕ) → rest < 2 ^ n → half < 2 * n
    → slice_index_or (levels_of (bits_of n rest) ++ tail) half false ≡ half_of (bit_of rest (n - 1 - half / 2)) half

at_half : (n number half : ℕ) (tail : List Bool) → number < 2 ^ n → half < 2 * n
    → slice_index_or (levels_of (bits_of n number) ++ tail) half false ≡ half_of (bit_of number (n - 1 - half / 2)) half
unfolding bits_of
at_half zero number half tail small inside = absurd (omega (arith, inside))
at_half (suc n) number half tail small inside = go half (nat_le (2 ^ n) number) refl inside (λ rest h. at_half n rest h tail)
  where
    deeper : Lower n tail → (h rest : ℕ) → rest < 2 ^ n → suc (suc h) < 2 * suc n → bit_of rest (n - 1 - h / 2) ≡ bit_of number (n - 1 - h / 2)
        → slice_index_or (levels_of (bits_of n rest) ++ tail) h false ≡ half_of (bit_of number (suc n - 1 - suc (suc h) / 2)) (suc (suc h))
    deeper lower h rest less within same =
        let place : suc n - 1 - suc (suc h) / 2 ≡ n - 1 - h / 2 = omega arith in
        let parity : suc (suc h) % 2 ≡ h % 2 = omega arith in
        let here : slice_index_or (levels_of (bits_of n rest) ++ tail) h false ≡ half_of (bit_of rest (n - 1 - h / 2)) h =
        lower rest h less (omega (arith, within)) in
        here ∙ ap (λ b. half_of b h) same ∙ ap (λ k. half_of (bit_of number k) h) (sym place)
        ∙ ap (λ m. if nat_eq m 0 then bit_of number (suc n - 1 - suc (suc h) / 2) else not (bit_of number (suc n - 1 - suc (suc h) / 2))) (sym parity)

    top : (h : ℕ) → h ≡ 0 → n ≡ suc n - 1 - h
    top h none = omega (arith, none)

    first : (b : Bool) → nat_le (2 ^ n) number ≡ b
        → slice_index_or (levels_of (if b then true ∷ bits_of n (number - 2 ^ n) else false ∷ bits_of n number) ++ tail) 0 false
        ≡ bit_of number (suc n - 1 - 0 / 2)
    first true is = highest n number true is small ∙ ap (λ k. bit_of number k) (top (0 / 2) refl)
    first false is = highest n number false is small ∙ ap (λ k. bit_of number k) (top (0 / 2) refl)

    second : (b : Bool) → nat_le (2 ^ n) number ≡ b
        → slice_index_or (levels_of (if b then true ∷ bits_of n (number - 2 ^ n) else false ∷ bits_of n number) ++ tail) 1 false
        ≡ not (bit_of number (suc n - 1 - 1 / 2))
    second true is = ap (λ b. not b) (highest n number true is small ∙ ap (λ k. bit_of number k) (top (1 / 2) refl))
    second false is = ap (λ b. not b) (highest n number false is small ∙ ap (λ k. bit_of number k) (top (1 / 2) refl))

    go : (half : ℕ) (b : Bool) → nat_le (2 ^ n) number ≡ b → half < 2 * suc n → Lower n tail
        → slice_index_or (levels_of (if b then true ∷ bits_of n (number - 2 ^ n) else false ∷ bits_of n number) ++ tail) half false
        ≡ half_of (bit_of number (suc n - 1 - half / 2)) half
    go zero b is within lower = first b is
    go (suc zero) b is within lower = second b is
    go (suc (suc h)) true is within lower =
        let twice : 2 ^ suc n ≡ 2 ^ n * 2 = pow-suc 2 n in
        let more : 2 ^ n ≤ number = grind (arith, nat_tests) in
        deeper lower h (number - 2 ^ n) (omega (arith, twice, small, more)) within
        (below_at n (n - 1 - h / 2) number (omega (arith, within)) more)
    go (suc (suc h)) false is within lower = deeper lower h number (grind (arith, nat_tests)) within refl

-- beyond the bits the bus is high
all_high : (k half : ℕ) → slice_index_or (highs k) half false ≡ false
all_high zero half = refl
all_high (suc k) zero = refl
all_high (suc k) (suc half) = all_high k half

past : (n number half k : ℕ) → 2 * n ≤ half → slice_index_or (levels_of (bits_of n number) ++ highs k) half false ≡ false
unfolding bits_of
past zero number half k beyond = all_high k half
past (suc n) number zero k beyond = absurd (omega (arith, beyond))
past (suc n) number (suc zero) k beyond = absurd (omega (arith, beyond))
past (suc n) number (suc (suc half)) k beyond =
    go (nat_le (2 ^ n) number) (λ rest. past n rest half k (omega (arith, beyond)))
  where
    go : (b : Bool) → ((rest : ℕ) → slice_index_or (levels_of (bits_of n rest) ++ highs k) half false ≡ false)
        → slice_index_or (levels_of (if b then true ∷ bits_of n (number - 2 ^ n) else false ∷ bits_of n number) ++ highs k) (suc (suc half)) false
        ≡ false
    go true lower = lower (number - 2 ^ n)
    go false lower = lower number

pub within_bits : (f : Forward) (number half : ℕ) → number ≡ 0x10000 + 256 * f.address_byte + f.opcode_byte → number < 2 ^ 17 → half < 34
    → level_at f half ≡ half_of (bit_of number (16 - half / 2)) half
within_bits f number half is small inside =
    ap (λ n. slice_index_or (levels_of (bits_of 17 n) ++ highs 6) half false) (sym is) ∙ at_half 17 number half (highs 6) small inside

pub beyond_bits : (f : Forward) (half : ℕ) → 34 ≤ half → level_at f half ≡ false
beyond_bits f half beyond = past 17 (0x10000 + 256 * f.address_byte + f.opcode_byte) half 6 beyond

pub first_half : (one : Bool) (half : ℕ) → half % 2 ≡ 0 → half_of one half ≡ one
first_half one half is = rw is refl

pub second_half : (one : Bool) (half : ℕ) → (half % 2 ≡ 0 → ⊥) → half_of one half ≡ not one
second_half one half is = let other : half % 2 ≡ 1 = omega (arith, is) in rw other refl
