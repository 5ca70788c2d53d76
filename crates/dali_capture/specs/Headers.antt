use Rattle.std.specs.Prelude.{ℕ, ◌*◌, ◌/◌, ◌^◌, List, nat_lt, Option, Some, None, Result, Ok, Err}
use Rattle.std.specs.Prelude.{bytes_eq, codes, if◌then◌else◌, option_and_then}
use Rattle.dali_capture.specs.declared.fault.Reason.{Reason}
use Rattle.dali_capture.specs.declared.fault.Reason.TheVariants.{TimeTooLarge}
use Rattle.dali_capture.specs.declared.header.Unit.{Unit}
use Rattle.dali_capture.specs.declared.header.Unit.TheVariants.{Second, Millisecond, Microsecond}
use Rattle.dali_capture.specs.declared.header.Unit.TheVariants.{Nanosecond, Picosecond, Femtosecond}
use Rattle.dali_capture.specs.declared.header.Timescale.{Timescale}
use Rattle.dali_capture.specs.Results.{then_ok}
use Rattle.dali_capture.specs.Words.{after_mark}

-- THE TIME SCALE of a dump is 1, 10 or 100 of a unit (IEEE 1364-2005, 18.2.3.6).
abbrev pub hundred_or_ten : List ℕ → Option (List ℕ) → ℕ × List ℕ
hundred_or_ten ten None = (10, ten)
hundred_or_ten ten (Some hundred) = (100, hundred)

abbrev pub ten_or_one : List ℕ → Option (List ℕ) → ℕ × List ℕ
ten_or_one one None = (1, one)
ten_or_one one (Some ten) = hundred_or_ten ten (after_mark 48 ten)

abbrev pub scale_in : List ℕ → Option (ℕ × List ℕ)
scale_in word =
    option_and_then (λ one. Some (ten_or_one one (after_mark 48 one))) (after_mark 49 word)

abbrev pub unit_in : List ℕ → Option Unit
unit_in word =
    if bytes_eq word (codes "s") then Some Second
    else if bytes_eq word (codes "ms") then Some Millisecond
    else if bytes_eq word (codes "us") then Some Microsecond
    else if bytes_eq word (codes "ns") then Some Nanosecond
    else if bytes_eq word (codes "ps") then Some Picosecond
    else if bytes_eq word (codes "fs") then Some Femtosecond
    else None

abbrev pub fitting : ℕ → Result ℕ Reason
fitting number = if nat_lt number (2 ^ 64) then Ok number else Err TimeTooLarge

-- so many units in whole µs
abbrev pub micros_in : Unit → ℕ → Result ℕ Reason
micros_in Second n = fitting (n * 1000000)
micros_in Millisecond n = fitting (n * 1000)
micros_in Microsecond n = Ok n
micros_in Nanosecond n = Ok (n / 1000)
micros_in Picosecond n = Ok (n / 1000000)
micros_in Femtosecond n = Ok (n / 1000000000)

-- so many ticks in whole µs
abbrev pub micros_of : Timescale → ℕ → Result ℕ Reason
micros_of scale ticks = then_ok (fitting (ticks * scale.times)) (micros_in scale.unit)
