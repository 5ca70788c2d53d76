use Rattle.std.specs.Prelude.{ℕ, Option, Some, None, nat_lt, if◌then◌else◌}
use Rattle.dali_frame.specs.declared.numbers.SearchAddress.{SearchAddress}
use Rattle.dali_frame.specs.Random.{number_of}
use Rattle.dali_script.specs.Records.{Assignment}
use Rattle.dali_c.specs.declared.pairs.PlainRandom.{PlainRandom}

-- what the bytes of struct dali_random stand for
abbrev pub random_of : PlainRandom → ℕ
random_of r = number_of r.high r.middle r.low

abbrev pub search_of : PlainRandom → SearchAddress
search_of r = record { high = r.high; middle = r.middle; low = r.low }

-- none if the short address is above 63
abbrev pub read_pair : Assignment → Option Assignment
read_pair p = if nat_lt p.0 64 then Some p else None
