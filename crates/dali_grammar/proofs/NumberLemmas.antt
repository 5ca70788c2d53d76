use Rattle.std.proofs.Common.{◌≡◌, ◌≢◌, ℕ, ◌^◌, ◌<◌, ◌≤◌, Bool, true, false, List, [], ◌∷◌, length, get_or, Some, None, Result, Ok, Err, refl, ap, arith}
use Rattle.std.proofs.{Common.nat_le, Common.nat_lt, Common.IsUtf8, lemmas.Bool.Decides.nat_tests, lemmas.Fmt.IsAscii-from_digits, lemmas.Str.IsUtf8-from_ascii}
use Rattle.std.proofs.lemmas.Str.Parse.{IsNumeralModel, numerals_by_value, tells_all_ascii_digits, parse_plain}
use Rattle.std.specs.{Result.OkIff, Str.all_ascii_digits, Str.Parse.digits_value, Str.Parse.ParsesUnsigned}
use Rattle.dali_grammar.specs.Numbers.{number_in, starts_plain}

own : IsNumeralModel (λ ds. all_ascii_digits ds ≡ true) (digits_value 10)
own = numerals_by_value (λ ds. all_ascii_digits ds ≡ true) tells_all_ascii_digits

-- a word that begins as a number has no plus in front
no_plus : (word : List ℕ) → starts_plain word ≡ true → get_or word 0 0 ≢ 43
no_plus [] plain = cc
no_plus (first ∷ []) plain = grind (arith, nat_tests)
no_plus (first ∷ second ∷ more) plain = grind (arith, nat_tests)

-- what `parse` gives is the number that the digits write
parses : {E : Type 0} (word : List ℕ) (r : Result ℕ E) → starts_plain word ≡ true → ParsesUnsigned 32 10 word r
    → OkIff r ((all_ascii_digits word ≡ true) × (0 < length word) × (digits_value 10 word < 2 ^ 32)) (digits_value 10 word)
parses word r plain h = parse_plain own 32 word r h (no_plus word plain)

pub number_some : (E : Type 0) (word : List ℕ) (n : ℕ) → starts_plain word ≡ true → ParsesUnsigned {E = E} 32 10 word (Ok n) → n ≤ 1000000
    → Some n ≡ number_in word
number_some E word n plain h small =
    let is = parses {E = E} word (Ok n) plain h in
    let digits : all_ascii_digits word ≡ true = is.0.0 in
    let value : n ≡ digits_value 10 word = is.1 in
    let le : nat_le (digits_value 10 word) 1000000 ≡ true = grind (arith, nat_tests) in
    rw (plain, digits, le) (ap Some value)

pub number_large : (E : Type 0) (word : List ℕ) (n : ℕ) → starts_plain word ≡ true → ParsesUnsigned {E = E} 32 10 word (Ok n) → 1000000 < n
    → None ≡ number_in word
number_large E word n plain h large =
    let is = parses {E = E} word (Ok n) plain h in
    let digits : all_ascii_digits word ≡ true = is.0.0 in
    let value : n ≡ digits_value 10 word = is.1 in
    let le : nat_le (digits_value 10 word) 1000000 ≡ false = grind (arith, nat_tests) in
    rw (plain, digits, le) refl

nonempty : (word : List ℕ) → starts_plain word ≡ true → 0 < length word
nonempty [] plain = cc
nonempty (first ∷ more) plain = omega arith

pub number_err : {E : Type 0} (word : List ℕ) (e : E) → starts_plain word ≡ true → ParsesUnsigned {E = E} 32 10 word (Err e) → None ≡ number_in word
number_err {E = E} word e plain h = go (all_ascii_digits word) refl where
  go : (b : Bool) → all_ascii_digits word ≡ b → None ≡ number_in word
  go false digits = rw (plain, digits) refl
  go true digits =
      let some : 0 < length word = nonempty word plain in
      let large : nat_lt (digits_value 10 word) (2 ^ 32) ≡ false = small (nat_lt (digits_value 10 word) (2 ^ 32)) refl some digits in
      let le : nat_le (digits_value 10 word) 1000000 ≡ false = grind (arith, nat_tests) in
      rw (plain, digits, le) refl
    where
      small : (b : Bool) → nat_lt (digits_value 10 word) (2 ^ 32) ≡ b → 0 < length word → all_ascii_digits word ≡ true
          → nat_lt (digits_value 10 word) (2 ^ 32) ≡ false
      small false is some digits' = is
      small true is some digits' =
          let lt : digits_value 10 word < 2 ^ 32 = grind (arith, nat_tests) in
          absurd (parses {E = E} word (Err e) plain h (digits', some, lt))

pub number_no_text : (word : List ℕ) → starts_plain word ≡ true → (IsUtf8 word → ⊥) → None ≡ number_in word
number_no_text word plain h = go (all_ascii_digits word) refl where
  go : (b : Bool) → all_ascii_digits word ≡ b → None ≡ number_in word
  go false digits = rw (plain, digits) refl
  go true digits = absurd (h (IsUtf8-from_ascii word (IsAscii-from_digits word (own.to word digits))))
