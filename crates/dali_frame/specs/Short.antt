use Rattle.std.specs.Prelude.{ℕ, ◌+◌, ◌*◌, ◌/◌, ◌%◌, Option, Some, None, ◌==◌, ◌&&◌, nat_lt}
use Rattle.std.specs.Prelude.{if◌then◌else◌}

-- the data byte of a short address a: 0AAAAAA1 (IEC 62386-102:2014, special commands)
abbrev pub code_of : ℕ → ℕ
code_of a = 2 * a + 1

-- the short address whose data byte this is: an odd byte below 128
abbrev pub short_of : ℕ → Option ℕ
short_of byte = if (byte % 2 == 1) && nat_lt byte 128 then Some (byte / 2) else None
