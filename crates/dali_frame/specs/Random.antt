use Rattle.std.specs.Prelude.{ℕ, ◌+◌, ◌*◌, ◌/◌, ◌%◌}
use Rattle.dali_frame.specs.declared.numbers.SearchAddress.{SearchAddress}

-- MASK of a 24-bit address: no gear draws the random address FFFFFF (IEC 62386-102:2014, RANDOMISE)
abbrev pub MASK24 : ℕ
MASK24 = 0xFFFFFF

-- the three bytes of a 24-bit address
abbrev pub high_of : ℕ → ℕ
high_of r = r / 65536

abbrev pub middle_of : ℕ → ℕ
middle_of r = r / 256 % 256

abbrev pub low_of : ℕ → ℕ
low_of r = r % 256

-- the 24-bit address of three bytes
abbrev pub number_of : ℕ → ℕ → ℕ → ℕ
number_of high middle low = high * 65536 + middle * 256 + low

-- the number that a search address stands for
abbrev pub value_of : SearchAddress → ℕ
value_of s = number_of s.high s.middle s.low
