use Rattle.std.specs.Prelude.{ℕ}
use Rattle.dali_frame.specs.declared.hex.HexError.{HexError}
use Rattle.dali_frame.specs.declared.hex.HexError.TheVariants.{NotFourDigits, NotHex}

abbrev pub refusal_number : HexError → ℕ
refusal_number NotFourDigits = 1
refusal_number NotHex = 2
