use Rattle.std.proofs.Common.{◌≡◌, true, false, [], ◌∷◌, ◌++◌, refl}
use Rattle.dali_wire.specs.Levels.{bits_of, levels_of, backward_bits, forward_bits, highs, to_send}
use Rattle.dali_wire.specs.Grid.{bus_of, first_low, value_of}

-- WORKED EXAMPLES

-- the byte 0B: a start bit, 0000, 1011
byte_0B : levels_of (backward_bits 0x0B)
    ≡ (true ∷ false ∷ []) ++ (false ∷ true ∷ false ∷ true ∷ false ∷ true ∷ false ∷ true ∷ [])
    ++ (true ∷ false ∷ false ∷ true ∷ true ∷ false ∷ true ∷ false ∷ [])
unfolding bits_of
byte_0B = refl

-- COMPARE, A9 00, is the number 1 A9 00 of 17 bits
compare_is : value_of 0 (forward_bits (record { address_byte = 0xA9; opcode_byte = 0x00 })) ≡ 0x1A900
unfolding bits_of
compare_is = refl

-- in the middle of the start bit of FF, with four half bits of its stop condition to come
begun_FF : to_send 0x1FF 9 true 4 ≡ false ∷ (levels_of (bits_of 8 0xFF) ++ highs 4)
unfolding bits_of
begun_FF = refl

-- FF and 7F, begun together: low throughout their first bit
together_FF_7F : bus_of 6 ((0, 0xFF) ∷ (0, 0x7F) ∷ []) ≡ true ∷ false ∷ true ∷ true ∷ true ∷ false ∷ []
unfolding bits_of
together_FF_7F = refl

-- two FF, the second a half bit after the first
beside_FF : bus_of 5 ((0, 0xFF) ∷ (1, 0xFF) ∷ []) ≡ true ∷ true ∷ true ∷ true ∷ true ∷ []
unfolding bits_of
beside_FF = refl

first_at_3 : first_low (bus_of 9 ((5, 0x00) ∷ (3, 0x00) ∷ [])) ≡ 3
unfolding bits_of
first_at_3 = refl
