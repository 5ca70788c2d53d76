use Rattle.std.proofs.Common.{◌≡◌, ℕ, ◌+◌, ◌-◌, ◌*◌, ◌/◌, ◌%◌, ◌^◌, ◌<◌, min, Bool, true, false, List, [], ◌∷◌, ◌++◌, length, Option, Some, None, Ok, refl}
use Rattle.std.proofs.Common.{arith, append_assoc, append-nil, ◌∙◌, nat_lt, decimal, ◌==◌, ◌&&◌, option_to_list}
use Rattle.std.proofs.lemmas.{Bool.Decides.nat_tests, Fmt.digits_decimal, Fmt.digits_value-decimal, Fmt.decimal_nonempty}
use Rattle.std.proofs.lemmas.Str.Parse.{IsNumeralModel, numerals_by_value, tells_all_ascii_digits}
use Rattle.std.specs.{Char.is_ascii_digit, Fmt.digit_glyph, List.AllByRecursion, Str.all_ascii_digits, Str.Parse.digits_value}
use Rattle.dali_frame.specs.Hex.{digit_of, byte_of}
use Rattle.dali_capture.specs.Captures.{SoFar, is_blank, read_bytes, word_end, word_told, line_end}
use Rattle.dali_capture.specs.{Results.then_ok, Sources.source_word, Sources.source_line_end, Words.is_digits, Words.number_of, Words.after_mark}
use Rattle.dali_capture.specs.declared.{fault.Reason.Reason, item.Item.Item, source.Source.Source}

own : IsNumeralModel (λ ds. all_ascii_digits ds ≡ true) (digits_value 10)
own = numerals_by_value (λ ds. all_ascii_digits ds ≡ true) tells_all_ascii_digits

-- bytes that stand in a word
abbrev pub IsInWord : ℕ → Type 0
IsInWord b = is_blank b ≡ false

-- a line feed is a blank
no_feed : (b : ℕ) → is_blank b ≡ false → (b == 10) ≡ false
no_feed b h = grind (arith, nat_tests)

-- the bytes of a word join it
pub read_word : (wanted : Option (List ℕ)) (inverted : Bool) (r : SoFar) (word rest : List ℕ) → AllByRecursion IsInWord word
    → read_bytes wanted inverted r (word ++ rest) ≡ read_bytes wanted inverted (record r { word = r.word ++ word }) rest
read_word wanted inverted r [] rest h = simp append-nil
read_word wanted inverted r (b ∷ bs) rest h =
    rw (no_feed b h.0, h.0) (read_word wanted inverted (record r { word = r.word ++ (b ∷ []) }) bs rest h.1 ∙ simp append_assoc)

-- a word, and the space or the line feed behind it
module _ (wanted : Option (List ℕ)) (inverted : Bool) (source : Source) (line : ℕ) (items : List Item) where
  pub read_to_space : (word rest : List ℕ) → AllByRecursion IsInWord word
      → read_bytes wanted inverted (record { source = source; line = line; word = []; items = items }) (word ++ (32 ∷ rest))
      ≡ then_ok (word_end wanted inverted (record { source = source; line = line; word = word; items = items }))
      (λ next. read_bytes wanted inverted next rest)
  read_to_space word rest h =
      read_word wanted inverted (record { source = source; line = line; word = []; items = items }) word (32 ∷ rest) h

  pub read_to_feed : (word rest : List ℕ) → AllByRecursion IsInWord word
      → read_bytes wanted inverted (record { source = source; line = line; word = []; items = items }) (word ++ (10 ∷ rest))
      ≡ then_ok (then_ok (word_end wanted inverted (record { source = source; line = line; word = word; items = items })) line_end)
      (λ next. read_bytes wanted inverted next rest)
  read_to_feed word rest h =
      read_word wanted inverted (record { source = source; line = line; word = []; items = items }) word (10 ∷ rest) h

  -- a word that has bytes is told
  pub told_word : (word : List ℕ) → 0 < length word
      → word_end wanted inverted (record { source = source; line = line; word = word; items = items })
      ≡ word_told (record { source = source; line = line; word = word; items = items }) (source_word source wanted inverted word)
  told_word [] some = absurd (omega arith)
  told_word (b ∷ bs) some = refl

  -- what is read behind a word and a space, if the word tells something or nothing
  pub after_told : (next : Source) (told : Option Item) (word rest : List ℕ) → AllByRecursion IsInWord word → 0 < length word
      → source_word source wanted inverted word ≡ Ok (next, told)
      → read_bytes wanted inverted (record { source = source; line = line; word = []; items = items }) (word ++ (32 ∷ rest))
      ≡ read_bytes wanted inverted (record { source = next; line = line; word = []; items = items ++ option_to_list told }) rest
  after_told next told word rest inside some h =
      read_to_space word rest inside ∙ rw (told_word word some, h) refl

  pub after_word : (next : Source) (word rest : List ℕ) → AllByRecursion IsInWord word → 0 < length word
      → source_word source wanted inverted word ≡ Ok (next, None)
      → read_bytes wanted inverted (record { source = source; line = line; word = []; items = items }) (word ++ (32 ∷ rest))
      ≡ read_bytes wanted inverted (record { source = next; line = line; word = []; items = items }) rest
  after_word next word rest inside some h =
      after_told next None word rest inside some h ∙ rw (append-nil items) refl

  -- the same behind the last word of a line
  pub after_line : (next last : Source) (told : Option Item) (word rest : List ℕ) → AllByRecursion IsInWord word → 0 < length word
      → source_word source wanted inverted word ≡ Ok (next, told) → source_line_end next ≡ Ok last
      → read_bytes wanted inverted (record { source = source; line = line; word = []; items = items }) (word ++ (10 ∷ rest))
      ≡ read_bytes wanted inverted
      (record { source = last; line = min (line + 1) (2 ^ 64 - 1); word = []; items = items ++ option_to_list told }) rest
  after_line next last told word rest inside some h ends =
      read_to_feed word rest inside ∙ rw (told_word word some, h, ends) refl

digit_in_word : (d : ℕ) → is_ascii_digit d ≡ true → is_blank d ≡ false
digit_in_word d h = grind (arith, nat_tests)

and_left : (a b : Bool) → (a && b) ≡ true → a ≡ true
and_left true b h = refl
and_left false b h = cc

and_right : (a b : Bool) → (a && b) ≡ true → b ≡ true
and_right true b h = h
and_right false b h = cc

digits_in_word : (ds : List ℕ) → all_ascii_digits ds ≡ true → AllByRecursion IsInWord ds
digits_in_word [] h = tt
digits_in_word (d ∷ ds) h =
    (digit_in_word d (and_left (is_ascii_digit d) (all_ascii_digits ds) h), digits_in_word ds (and_right (is_ascii_digit d) (all_ascii_digits ds) h))

-- the text of a number stands in a word, and is read as that number
pub decimal_in_word : (n : ℕ) → n < 2 ^ 64 → AllByRecursion IsInWord (decimal n)
decimal_in_word n small = digits_in_word (decimal n) (digits_decimal own n small)

are_digits : (word : List ℕ) → all_ascii_digits word ≡ true → 0 < length word → is_digits word ≡ true
are_digits [] all some = absurd (omega arith)
are_digits (c ∷ cs) all some = all

fits : (v : ℕ) → v < 2 ^ 64 → nat_lt v (2 ^ 64) ≡ true
fits v h = grind (arith, nat_tests)

pub decimal_is_number : (other : Reason) (n : ℕ) → n < 2 ^ 64 → number_of other (decimal n) ≡ Ok n
decimal_is_number other n small =
    let digits : is_digits (decimal n) ≡ true = are_digits (decimal n) (digits_decimal own n small) (decimal_nonempty n small) in
    let value : digits_value 10 (decimal n) ≡ n = digits_value-decimal own n small in
    let less : nat_lt n (2 ^ 64) ≡ true = fits n small in
    rw (digits, value, less) refl

no_digit : (d mark : ℕ) → is_ascii_digit d ≡ true → mark < 48 → (d == mark) ≡ false
no_digit d mark h low = grind (arith, nat_tests)

no_mark : (word : List ℕ) (mark : ℕ) → all_ascii_digits word ≡ true → mark < 48 → after_mark mark word ≡ None
no_mark [] mark all low = refl
no_mark (d ∷ ds) mark all low =
    let other : (d == mark) ≡ false = no_digit d mark (and_left (is_ascii_digit d) (all_ascii_digits ds) all) low in
    rw other refl

-- it is no comment and no keyword
pub decimal_has_no_mark : (n mark : ℕ) → n < 2 ^ 64 → mark < 48 → after_mark mark (decimal n) ≡ None
decimal_has_no_mark n mark small low = no_mark (decimal n) mark (digits_decimal own n small) low

-- the digits of a byte
pub glyph_in_word : (d : ℕ) → d < 16 → is_blank (digit_glyph true d) ≡ false
glyph_in_word d small = grind (arith, nat_tests)

pub no_glyph : (d mark : ℕ) → d < 16 → 70 < mark → (digit_glyph true d == mark) ≡ false
no_glyph d mark small large = grind (arith, nat_tests)

pub no_answer : (d : ℕ) → d < 16 → (digit_glyph true d == 60) ≡ false
no_answer d small = grind (arith, nat_tests)

glyph_is_digit : (d : ℕ) → d < 16 → digit_of (digit_glyph true d) ≡ Some d
glyph_is_digit d small = grind (arith, nat_tests)

pub text_is_byte : (n : ℕ) → n < 256 → byte_of (digit_glyph true (n / 16)) (digit_glyph true (n % 16)) ≡ Some n
text_is_byte n small =
    let high : n / 16 < 16 = omega arith in
    let low : n % 16 < 16 = omega arith in
    let whole : 16 * (n / 16) + n % 16 ≡ n = omega arith in
    rw (glyph_is_digit (n / 16) high, glyph_is_digit (n % 16) low, whole) refl
