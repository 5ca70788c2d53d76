use Rattle.std.specs.Prelude.{ℕ, ◌+◌, ◌*◌, ◌/◌, ◌%◌, List, [], ◌∷◌, ◌++◌, true, Option, Some, None}
use Rattle.std.specs.Prelude.{Result, Ok, Err, nat_lt, if◌then◌else◌, option_and_then}
use Rattle.std.specs.Option.{option_map}
use Rattle.std.specs.Char.{digit_value}
use Rattle.std.specs.Fmt.{digit_glyph}
use Rattle.dali_frame.specs.declared.frames.Forward.{Forward}
use Rattle.dali_frame.specs.declared.hex.HexError.{HexError}
use Rattle.dali_frame.specs.declared.hex.HexError.TheVariants.{NotFourDigits, NotHex}
use Rattle.dali_frame.specs.Random.{number_of, high_of, middle_of, low_of}

-- the value of a hexadecimal digit, upper or lower case
abbrev pub digit_of : ℕ → Option ℕ
digit_of c = if nat_lt (digit_value c) 16 then Some (digit_value c) else None

-- the byte that two digits write
abbrev pub byte_of : ℕ → ℕ → Option ℕ
byte_of high low =
    option_and_then (λ h. option_map (λ l. 16 * h + l) (digit_of low)) (digit_of high)

-- the frame of two bytes, each of which may be no byte
abbrev pub joined : Option ℕ → Option ℕ → Result Forward HexError
joined (Some address) (Some opcode) = Ok (record { address_byte = address; opcode_byte = opcode })
joined None _ = Err NotHex
joined (Some _) None = Err NotHex

-- the frame that four digits write
abbrev pub forward_of : List ℕ → Result Forward HexError
forward_of (a ∷ b ∷ c ∷ d ∷ []) = joined (byte_of a b) (byte_of c d)
forward_of _ = Err NotFourDigits

-- a byte as two upper-case digits
abbrev pub byte_text : ℕ → List ℕ
byte_text n = digit_glyph true (n / 16) ∷ digit_glyph true (n % 16) ∷ []

-- a frame as four upper-case digits
abbrev pub forward_text : Forward → List ℕ
forward_text f = byte_text f.address_byte ++ byte_text f.opcode_byte

-- the number that six digits write
abbrev pub random_of : List ℕ → Option ℕ
random_of (a ∷ b ∷ c ∷ d ∷ e ∷ f ∷ []) =
    option_and_then
    (λ high. option_and_then
    (λ middle. option_map (λ low. number_of high middle low) (byte_of e f)) (byte_of c d))
    (byte_of a b)
random_of _ = None

-- a number of 24 bits as six upper-case digits
abbrev pub random_text : ℕ → List ℕ
random_text r = byte_text (high_of r) ++ (byte_text (middle_of r) ++ byte_text (low_of r))
