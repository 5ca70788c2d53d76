use Rattle.std.specs.Prelude.{ℕ, ◌==◌, ◌*◌, ◌%◌, ◌^◌, Bool, bit_and, bit_or}
use Rattle.std.specs.Int.{bit_at, bit_not, w64}
use Rattle.dali_controller.specs.declared.shorts.Shorts.{Shorts}

-- a short address stands in a set if its bit is 1
abbrev pub has_short : Shorts → ℕ → Bool
has_short s a = bit_at s.bits a == 1

-- the set with one more
abbrev pub with_short : Shorts → ℕ → Shorts
with_short s a = record { bits = bit_or s.bits (1 * 2 ^ a % 2 ^ 64) }

-- the set without it
abbrev pub without_short : Shorts → ℕ → Shorts
without_short s a = record { bits = bit_and s.bits (bit_not w64 (1 * 2 ^ a % 2 ^ 64)) }
