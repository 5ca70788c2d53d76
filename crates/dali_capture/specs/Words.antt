use Rattle.std.specs.Prelude.{ℕ, ◌+◌, ◌*◌, ◌^◌, List, [], ◌∷◌, Bool, false, ◌==◌}
use Rattle.std.specs.Prelude.{nat_lt, Option, Some, None, Result, Ok, Err, if◌then◌else◌}
use Rattle.std.specs.Str.{all_ascii_digits}
use Rattle.std.specs.Str.Parse.{digits_value}
use Rattle.dali_frame.specs.Hex.{byte_of}
use Rattle.dali_capture.specs.declared.fault.Reason.{Reason}
use Rattle.dali_capture.specs.declared.fault.Reason.TheVariants.{TimeTooLarge}

-- A NUMBER is decimal digits, one at least, of a value below 2^64.
abbrev pub is_digits : List ℕ → Bool
is_digits [] = false
is_digits (c ∷ cs) = all_ascii_digits (c ∷ cs)

abbrev pub number_of : Reason → List ℕ → Result ℕ Reason
number_of otherwise word =
    if is_digits word
    then (if nat_lt (digits_value 10 word) (2 ^ 64) then Ok (digits_value 10 word)
    else Err TimeTooLarge)
    else Err otherwise

-- the byte that two hexadecimal digits write
abbrev pub byte_in : List ℕ → Option ℕ
byte_in (high ∷ low ∷ []) = byte_of high low
byte_in _ = None

-- what follows a mark that a word begins with
abbrev pub after_mark : ℕ → List ℕ → Option (List ℕ)
after_mark mark [] = None
after_mark mark (first ∷ rest) = if first == mark then Some rest else None

-- THE CODE OF AN IDENTIFIER of at most seven bytes: the number of a byte 1 and of its bytes, so
-- that no two have one code.
abbrev pub code_after : ℕ → List ℕ → Option ℕ
code_after code [] = Some code
code_after code (byte ∷ bytes) =
    if nat_lt code (2 ^ 56) then code_after (256 * code + byte) bytes else None

abbrev pub code_of : List ℕ → Option ℕ
code_of identifier = code_after 1 identifier

abbrev pub is_code : Option ℕ → Option ℕ → Bool
is_code (Some wire) (Some code) = wire == code
is_code (Some wire) None = false
is_code None code = false
