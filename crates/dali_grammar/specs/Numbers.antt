use Rattle.std.specs.Prelude.{ℕ, ◌^◌, List, [], ◌∷◌, Bool, false, not, Option, Some, None, ◌==◌}
use Rattle.std.specs.Prelude.{◌&&◌, nat_le, bit_or, bytes_eq, codes, if◌then◌else◌, option_map}
use Rattle.std.specs.Prelude.{option_and_then}
use Rattle.std.specs.Str.{all_ascii_digits}
use Rattle.std.specs.Str.Parse.{digits_value}
use Rattle.dali_frame.specs.Hex.{random_of}
use Rattle.dali_grammar.specs.Lines.{parts_of, two_of}

-- no sign, and no leading zero other than 0 itself
abbrev pub starts_plain : List ℕ → Bool
starts_plain [] = false
starts_plain (first ∷ []) = not (first == 43)
starts_plain (first ∷ second ∷ more) = not (first == 43) && not (first == 48)

-- a decimal number, at most 1,000,000
abbrev pub number_in : List ℕ → Option ℕ
number_in word =
    if (starts_plain word && all_ascii_digits word) && nat_le (digits_value 10 word) 1000000
    then Some (digits_value 10 word)
    else None

-- one that is not larger than another limit
abbrev pub within : ℕ → ℕ → Option ℕ
within most n = if nat_le n most then Some n else None

abbrev pub number_to : ℕ → List ℕ → Option ℕ
number_to most word = option_and_then (within most) (number_in word)

-- a list of words, each of which is read so
abbrev pub each_of : {A : Type 0} → (List ℕ → Option A) → List (List ℕ) → Option (List A)
each_of reads [] = Some []
each_of reads (word ∷ words) =
    option_and_then (λ x. option_map (λ xs. x ∷ xs) (each_of reads words)) (reads word)

-- numbers of 24 bits, each of six hexadecimal digits
abbrev pub randoms_of : List (List ℕ) → Option (List ℕ)
randoms_of words = each_of random_of words

-- `a-b`, the first and the last address of a block
abbrev pub block_of : List ℕ → Option (ℕ × ℕ)
block_of word = two_of (number_to 255) (number_to 255) (parts_of 45 word)

abbrev pub blocks_of : List (List ℕ) → Option (List (ℕ × ℕ))
blocks_of words = each_of block_of words

-- The set of some gear: `-` for none, or their numbers with commas, each at most 127. Gear g is the
-- bit of value 2^g.
abbrev pub set_from : ℕ → List (List ℕ) → Option ℕ
set_from set [] = Some set
set_from set (word ∷ words) =
    option_and_then (λ g. set_from (bit_or set (2 ^ g)) words) (number_to 127 word)

abbrev pub set_of : List ℕ → Option ℕ
set_of word = if bytes_eq word (codes "-") then Some 0 else set_from 0 (parts_of 44 word)
