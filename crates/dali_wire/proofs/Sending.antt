use Rattle.std.proofs.Common.{◌≡◌, ℕ, zero, suc, ◌+◌, ◌-◌, ◌*◌, ◌^◌, ◌<◌, Bool, true, false, List, [], ◌∷◌, ◌++◌, length, refl, sym, ap, ◌∙◌, arith, nat_le}
use Rattle.std.specs.Prelude.{if◌then◌else◌}
use Rattle.dali_wire.specs.Levels.{bits_of, levels_of, second_half, highs, sent_levels, to_send}
use Rattle.std.proofs.lemmas.List.{length-append}
use Rattle.dali_wire.proofs.Values.{length_bits}

-- THE NEXT HALF BIT of a sender: the first half of a bit, and the second.
pub first_half : (w left stop : ℕ) → 0 < left → to_send w left false stop ≡ nat_le (2 ^ (left - 1)) w ∷ to_send w left true stop
unfolding bits_of
first_half w zero stop h = absurd (omega arith)
first_half w (suc n) stop h =
    let before : suc n - 1 ≡ n = omega arith in
    rw before (go (nat_le (2 ^ n) w))
  where
    go : (b : Bool) → levels_of (if b then true ∷ bits_of n (w - 2 ^ n) else false ∷ bits_of n w) ++ highs stop
        ≡ b ∷ (second_half (if b then true ∷ bits_of n (w - 2 ^ n) else false ∷ bits_of n w) ++ highs stop)
    go true = refl
    go false = refl

pub second_of_one : (w left stop : ℕ) → 0 < left → nat_le (2 ^ (left - 1)) w ≡ true
    → to_send w left true stop ≡ false ∷ to_send (w - 2 ^ (left - 1)) (left - 1) false stop
unfolding bits_of
second_of_one w zero stop h test = absurd (omega arith)
second_of_one w (suc n) stop h test =
    let before : suc n - 1 ≡ n = omega arith in
    let one : nat_le (2 ^ n) w ≡ true = rw before at test in
    rw (before, one) refl

pub second_of_zero : (w left stop : ℕ) → 0 < left → nat_le (2 ^ (left - 1)) w ≡ false
    → to_send w left true stop ≡ true ∷ to_send w (left - 1) false stop
unfolding bits_of
second_of_zero w zero stop h test = absurd (omega arith)
second_of_zero w (suc n) stop h test =
    let before : suc n - 1 ≡ n = omega arith in
    let one : nat_le (2 ^ n) w ≡ false = rw before at test in
    rw (before, one) refl

pub bits_over : (w left stop : ℕ) (second : Bool) → left ≡ 0 → to_send w left second stop ≡ highs stop
unfolding bits_of
bits_over w zero stop true none = refl
bits_over w zero stop false none = refl
bits_over w (suc n) stop second none = absurd (omega arith)

pub all_over : (w left stop : ℕ) (second : Bool) → left ≡ 0 → stop ≡ 0 → to_send w left second stop ≡ []
all_over w left stop second none over = bits_over w left stop second none ∙ ap highs over

pub stop_goes_on : (w left stop : ℕ) (second : Bool) → left ≡ 0 → 0 < stop → to_send w left second stop ≡ false ∷ to_send w left second (stop - 1)
stop_goes_on w left zero second none more = absurd (omega arith)
stop_goes_on w left (suc n) second none more =
    let before : suc n - 1 ≡ n = omega arith in
    bits_over w left (suc n) second none ∙ rw before (ap (λ ls. false ∷ ls) (sym (bits_over w left n second none)))

-- how many half bits there are to send
length_levels : (bits : List Bool) → length (levels_of bits) ≡ 2 * length bits
length_levels [] = refl
length_levels (true ∷ bits) = let more = length_levels bits in omega (arith, more)
length_levels (false ∷ bits) = let more = length_levels bits in omega (arith, more)

pub length_sent : (n number : ℕ) → length (sent_levels (bits_of n number)) ≡ 2 * n + 6
length_sent n number =
    let levels = levels_of (bits_of n number) in
    let all : length (levels ++ highs 6) ≡ length levels + 6 = length-append levels (highs 6) in
    let twice : length levels ≡ 2 * length (bits_of n number) = length_levels (bits_of n number) in
    let bits : length (bits_of n number) ≡ n = length_bits n number in
    omega (arith, all, twice, bits)
