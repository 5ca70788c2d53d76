use Rattle.std.proofs.Common.{◌≡◌, ℕ, ◌^◌, ◌<◌, Bool, true, false, List, [], ◌∷◌, length, Err, refl, sym, arith, nat_lt, IsUtf8}
use Rattle.std.proofs.lemmas.{Bool.Decides.nat_tests, Fmt.IsAscii-from_digits, Str.IsUtf8-from_ascii}
use Rattle.std.proofs.lemmas.Str.Parse.{IsNumeralModel, numerals_by_value, tells_all_ascii_digits, parse_digits}
use Rattle.std.specs.Str.{all_ascii_digits, Parse.digits_value, Parse.ParsesUnsigned}
use Rattle.dali_capture.specs.{Words.is_digits, Words.number_of, declared.fault.Reason.Reason, declared.fault.Reason.TheVariants.TimeTooLarge}
use Rattle.dali_capture.proofs.words.number_in.Goals as goal

own : IsNumeralModel (λ ds. all_ascii_digits ds ≡ true) (digits_value 10)
own = numerals_by_value (λ ds. all_ascii_digits ds ≡ true) tells_all_ascii_digits

-- digits are digits, and there is one
digits : (word : List ℕ) → is_digits word ≡ true → all_ascii_digits word ≡ true
digits [] is = cc
digits (c ∷ cs) is = is

some : (word : List ℕ) → is_digits word ≡ true → 0 < length word
some [] is = cc
some (c ∷ cs) is = omega arith

no_text : (other : Reason) (word : List ℕ) → is_digits word ≡ true → (IsUtf8 word → ⊥) → Err other ≡ number_of other word
no_text other word is h = absurd (h (IsUtf8-from_ascii word (IsAscii-from_digits word (own.to word (digits word is)))))

-- what `parse` refuses of digits is too large
large : {E : Type 0} (other : Reason) (word : List ℕ) (e : E) → is_digits word ≡ true → ParsesUnsigned {E = E} 64 10 word (Err e)
    → Err TimeTooLarge ≡ number_of other word
large {E} other word e is h = go (nat_lt (digits_value 10 word) (2 ^ 64)) refl where
  within : (v : ℕ) → nat_lt v (2 ^ 64) ≡ true → v < 2 ^ 64
  within v h = grind (arith, nat_tests)

  go : (b : Bool) → nat_lt (digits_value 10 word) (2 ^ 64) ≡ b → Err TimeTooLarge ≡ number_of other word
  go false over = rw (is, over) refl
  go true under =
      absurd (parse_digits own {E = E} 64 word (Err e) h (digits word is) (some word is, within (digits_value 10 word) under))

pub returns-in_default : goal.returns-in_default
returns-in_default c =
    no_text c.args.otherwise c.args.word.now (sym c.if-not-is_digits.ensures) c.in_default.ensures.cases.0

pub returns-in-Err : goal.returns-in-Err
returns-in-Err c =
    large c.args.otherwise c.args.word.now c.in-Err.field-0 (sym c.if-not-is_digits.ensures)
    (rw c.in-Ok.ensures.cases.0 at c.in-Err.ensures.value.0)
