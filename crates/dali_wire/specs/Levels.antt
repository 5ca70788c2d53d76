use Rattle.std.specs.Prelude.{ℕ, zero, suc, ◌+◌, ◌-◌, ◌*◌, ◌^◌, Bool, true, false, nat_le}
use Rattle.std.specs.Prelude.{List, [], ◌∷◌, ◌++◌, if◌then◌else◌}
use Rattle.dali_frame.specs.declared.frames.Forward.{Forward}

-- THE LEVELS OF A FRAME, half bit by half bit: true while the bus is low.

-- so many bits of a number, the highest one first
unfoldable pub bits_of : ℕ → ℕ → List Bool
bits_of zero number = []
bits_of (suc n) number =
    if nat_le (2 ^ n) number then true ∷ bits_of n (number - 2 ^ n) else false ∷ bits_of n number

-- a bit 1 is low, then high; a bit 0 is high, then low (IEC 62386-101:2014, bit encoding)
abbrev pub levels_of : List Bool → List Bool
levels_of [] = []
levels_of (true ∷ bits) = true ∷ false ∷ levels_of bits
levels_of (false ∷ bits) = false ∷ true ∷ levels_of bits

-- so many half bits high
abbrev pub highs : ℕ → List Bool
highs zero = []
highs (suc n) = false ∷ highs n

-- a start bit, which is 1, and the bits of a forward and of a backward frame
-- (IEC 62386-101:2014, frame structure)
abbrev pub forward_bits : Forward → List Bool
forward_bits f = bits_of 17 (0x10000 + 256 * f.address_byte + f.opcode_byte)

abbrev pub backward_bits : ℕ → List Bool
backward_bits byte = bits_of 9 (0x100 + byte)

-- A stop condition takes 2,450 µs, from memory (IEC 62386-101:2014, transmitter bit timing): six
-- half bits of 416.7 µs.
abbrev pub sent_levels : List Bool → List Bool
sent_levels bits = levels_of bits ++ highs 6

-- what a sender has still to send: the bits, if it stands in one its second half first, and then
-- so many half bits of the stop condition
abbrev pub second_half : List Bool → List Bool
second_half [] = []
second_half (true ∷ bits) = false ∷ levels_of bits
second_half (false ∷ bits) = true ∷ levels_of bits

abbrev pub to_send : ℕ → ℕ → Bool → ℕ → List Bool
to_send number left second stop =
    (if second then second_half (bits_of left number) else levels_of (bits_of left number))
    ++ highs stop
