use Rattle.std.specs.Prelude.{◌≡◌, ℕ, ◌≤◌, Bool, true, false, Some, None, List, [], ◌∷◌}
use Rattle.dali_wire.specs.declared.receiver.Reading.{Reading}
use Rattle.dali_wire.specs.declared.receiver.Frame.{Frame}
use Rattle.dali_wire.specs.Reception.{frame_read, ended, reading_after}

-- THE TIMES BETWEEN THE EDGES OF A FRAME, each on its own within the tolerance of a receiver
abbrev pub IsHalf : ℕ → Type 0
IsHalf time = (334 ≤ time) × (time ≤ 500)

abbrev pub IsWhole : ℕ → Type 0
IsWhole time = (667 ≤ time) × (time ≤ 1000)

-- from the edge in the middle of a bit, after which the bus is low or high, to the last edge of the
-- bits that follow
abbrev pub AreTimes : Bool → List Bool → List ℕ → Type 0
AreTimes true [] (rise ∷ []) = IsHalf rise
AreTimes false [] [] = Unit {0}
AreTimes true (true ∷ bits) (rise ∷ times) = IsWhole rise × AreTimes false bits times
AreTimes false (false ∷ bits) (fall ∷ times) = IsWhole fall × AreTimes true bits times
AreTimes false (true ∷ bits) (fall ∷ rise ∷ times) =
    IsHalf fall × IsHalf rise × AreTimes false bits times
AreTimes true (false ∷ bits) (rise ∷ fall ∷ times) =
    IsHalf rise × IsHalf fall × AreTimes true bits times
AreTimes _ _ _ = ⊥

-- what a receiver has read after edges with these times, nothing told before; the last one is to
-- the high of a stop condition
abbrev pub HasRead : Reading → Bool → List ℕ → Frame → Type 0
HasRead reading was [] frame = (frame_read reading ≡ Some frame) × (was ≡ false)
HasRead reading true (time ∷ times) frame =
    (ended reading true time ≡ None)
    × HasRead (reading_after reading true false time) false times frame
HasRead reading false (time ∷ times) frame =
    (ended reading false time ≡ None)
    × HasRead (reading_after reading false true time) true times frame
