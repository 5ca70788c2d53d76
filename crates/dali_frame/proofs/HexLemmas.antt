use Rattle.std.proofs.Common.{◌≡◌, ℕ, ◌+◌, ◌*◌, ◌/◌, ◌%◌, ◌^◌, ◌<◌, Bool, true, false, List, [], ◌∷◌, ◌++◌, Option, Some, None, Result, Ok, refl, sym, ap, ◌∙◌}
use Rattle.std.proofs.Common.{arith, map, nat_lt}
use Rattle.std.proofs.lemmas.Bool.Decides.{nat_tests}
use Rattle.std.specs.Prelude.{option_map, option_and_then}
use Rattle.std.specs.Char.{to_ascii_uppercase, digit_value}
use Rattle.std.specs.Fmt.{digit_glyph}
use Rattle.dali_frame.specs.declared.frames.Forward.{Forward}
use Rattle.dali_frame.specs.declared.hex.HexError.{HexError}
use Rattle.dali_frame.specs.Random.{high_of, middle_of, low_of, number_of}
use Rattle.dali_frame.specs.Hex.{digit_of, byte_of, byte_text, joined, forward_of, forward_text, random_of, random_text}

-- a digit in upper case is the glyph of its value
pub digit_is_glyph : (c d : ℕ) → digit_of c ≡ Some d → to_ascii_uppercase c ≡ digit_glyph true d
digit_is_glyph c d e = grind (arith, nat_tests)

pub digit_small : (c d : ℕ) → digit_of c ≡ Some d → d < 16
digit_small c d e = grind (arith, nat_tests)

pub glyph_is_digit : (d : ℕ) → d < 16 → digit_of (digit_glyph true d) ≡ Some d
glyph_is_digit d small = grind (arith, nat_tests)

-- two digits in upper case are the text of the byte that they write
text_of_digits : (a b h l n : ℕ) → digit_of a ≡ Some h → digit_of b ≡ Some l → Some (16 * h + l) ≡ Some n
    → (to_ascii_uppercase a ∷ to_ascii_uppercase b ∷ []) ≡ byte_text n
text_of_digits a b h l n first second is =
    let small : l < 16 = digit_small b l second in
    let number : 16 * h + l ≡ n = cc in
    let high : n / 16 ≡ h = omega arith in
    let low : n % 16 ≡ l = omega arith in
    rw (digit_is_glyph a h first, digit_is_glyph b l second, high, low) refl

pub byte_is_text : (a b n : ℕ) → byte_of a b ≡ Some n → (to_ascii_uppercase a ∷ to_ascii_uppercase b ∷ []) ≡ byte_text n
byte_is_text a b n e = go (digit_of a) (digit_of b) refl refl e where
  go : (o p : Option ℕ) → digit_of a ≡ o → digit_of b ≡ p → option_and_then (λ h. option_map (λ l. 16 * h + l) p) o ≡ Some n
      → (to_ascii_uppercase a ∷ to_ascii_uppercase b ∷ []) ≡ byte_text n
  go None p first second is = cc
  go (Some h) None first second is = cc
  go (Some h) (Some l) first second is = text_of_digits a b h l n first second is

-- a byte is read from its text
pub text_is_byte : (n : ℕ) → n < 256 → byte_of (digit_glyph true (n / 16)) (digit_glyph true (n % 16)) ≡ Some n
text_is_byte n small =
    let high : n / 16 < 16 = omega arith in
    let low : n % 16 < 16 = omega arith in
    let whole : 16 * (n / 16) + n % 16 ≡ n = omega arith in
    rw (glyph_is_digit (n / 16) high, glyph_is_digit (n % 16) low, whole) refl

-- a text that is read as a frame is the frame's text, but for its case
pub frame_is_text : (text : List ℕ) (f : Forward) → forward_of text ≡ Ok f → map to_ascii_uppercase text ≡ forward_text f
frame_is_text [] f e = cc
frame_is_text (a ∷ []) f e = cc
frame_is_text (a ∷ b ∷ []) f e = cc
frame_is_text (a ∷ b ∷ c ∷ []) f e = cc
frame_is_text (a ∷ b ∷ c ∷ d ∷ x ∷ rest) f e = cc
frame_is_text (a ∷ b ∷ c ∷ d ∷ []) f e = go (byte_of a b) (byte_of c d) refl refl e where
  go : (o p : Option ℕ) → byte_of a b ≡ o → byte_of c d ≡ p → joined o p ≡ Ok f
      → map to_ascii_uppercase (a ∷ b ∷ c ∷ d ∷ []) ≡ forward_text f
  go None p first second is = cc
  go (Some h) None first second is = cc
  go (Some h) (Some l) first second is =
      let frame : record { address_byte = h; opcode_byte = l } ≡ f = cc in
      let left : (to_ascii_uppercase a ∷ to_ascii_uppercase b ∷ []) ≡ byte_text h = byte_is_text a b h first in
      let right : (to_ascii_uppercase c ∷ to_ascii_uppercase d ∷ []) ≡ byte_text l = byte_is_text c d l second in
      ap (λ xs. xs ++ (to_ascii_uppercase c ∷ to_ascii_uppercase d ∷ [])) left ∙ ap (λ ys. byte_text h ++ ys) right ∙ ap forward_text frame

-- a text that is read as a number is the number's text, but for its case
random_is_text_of : (a b c d e f h m l r : ℕ) → byte_of a b ≡ Some h → byte_of c d ≡ Some m → byte_of e f ≡ Some l → m < 256 → l < 256
    → Some (number_of h m l) ≡ Some r → map to_ascii_uppercase (a ∷ b ∷ c ∷ d ∷ e ∷ f ∷ []) ≡ random_text r
random_is_text_of a b c d e f h m l r first second third m_small l_small is =
    let number : number_of h m l ≡ r = cc in
    let high : high_of r ≡ h = omega arith in
    let middle : middle_of r ≡ m = omega arith in
    let low : low_of r ≡ l = omega arith in
    ap (λ xs. xs ++ (to_ascii_uppercase c ∷ to_ascii_uppercase d ∷ to_ascii_uppercase e ∷ to_ascii_uppercase f ∷ [])) (byte_is_text a b h first)
    ∙ ap (λ xs. byte_text h ++ (xs ++ (to_ascii_uppercase e ∷ to_ascii_uppercase f ∷ []))) (byte_is_text c d m second)
    ∙ ap (λ xs. byte_text h ++ (byte_text m ++ xs)) (byte_is_text e f l third)
    ∙ rw (high, middle, low) refl

pub byte_small : (a b n : ℕ) → byte_of a b ≡ Some n → n < 256
byte_small a b n e = go (digit_of a) (digit_of b) refl refl e where
  go : (o p : Option ℕ) → digit_of a ≡ o → digit_of b ≡ p → option_and_then (λ h. option_map (λ l. 16 * h + l) p) o ≡ Some n → n < 256
  go None p first second is = absurd (cc)
  go (Some h) None first second is = absurd (cc)
  go (Some h) (Some l) first second is =
      let high : h < 16 = digit_small a h first in
      let low : l < 16 = digit_small b l second in
      let number : 16 * h + l ≡ n = cc in
      omega arith

pub random_is_text : (text : List ℕ) (r : ℕ) → random_of text ≡ Some r → map to_ascii_uppercase text ≡ random_text r
random_is_text [] r e = cc
random_is_text (a ∷ []) r e = cc
random_is_text (a ∷ b ∷ []) r e = cc
random_is_text (a ∷ b ∷ c ∷ []) r e = cc
random_is_text (a ∷ b ∷ c ∷ d ∷ []) r e = cc
random_is_text (a ∷ b ∷ c ∷ d ∷ x ∷ []) r e = cc
random_is_text (a ∷ b ∷ c ∷ d ∷ x ∷ y ∷ z ∷ rest) r e = cc
random_is_text (a ∷ b ∷ c ∷ d ∷ x ∷ y ∷ []) r e = go (byte_of a b) (byte_of c d) (byte_of x y) refl refl refl e where
  go : (o p q : Option ℕ) → byte_of a b ≡ o → byte_of c d ≡ p → byte_of x y ≡ q
      → option_and_then (λ high. option_and_then (λ middle. option_map (λ low. number_of high middle low) q) p) o ≡ Some r
      → map to_ascii_uppercase (a ∷ b ∷ c ∷ d ∷ x ∷ y ∷ []) ≡ random_text r
  go None p q first second third is = cc
  go (Some h) None q first second third is = cc
  go (Some h) (Some m) None first second third is = cc
  go (Some h) (Some m) (Some l) first second third is =
      random_is_text_of a b c d x y h m l r first second third (byte_small c d m second) (byte_small x y l third) is

-- a number of 24 bits is read from its text
pub text_is_random : (r : ℕ) → r < 2 ^ 24 → random_of (random_text r) ≡ Some r
text_is_random r small =
    let high : high_of r < 256 = omega arith in
    let middle : middle_of r < 256 = omega arith in
    let low : low_of r < 256 = omega arith in
    let whole : number_of (high_of r) (middle_of r) (low_of r) ≡ r = omega arith in
    rw (text_is_byte (high_of r) high, text_is_byte (middle_of r) middle, text_is_byte (low_of r) low, whole) refl
