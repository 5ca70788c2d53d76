use Rattle.std.specs.Prelude.{◌≡◌, ℕ, suc, ◌+◌, ◌*◌, ◌≤◌, Bool, true, false, Option, Some}
use Rattle.std.specs.Prelude.{None, List, [], ◌∷◌, ◌++◌}
use Rattle.dali_wire.specs.declared.receiver.Reading.{Reading}
use Rattle.dali_wire.specs.declared.receiver.Reading.TheVariants.{Idle}
use Rattle.dali_wire.specs.declared.receiver.Frame.{Frame}
use Rattle.dali_wire.specs.Reception.{ended, reading_after, frame_of}
use Rattle.dali_wire.specs.Levels.{levels_of, backward_bits, highs}

-- A BUS AT THE RESOLUTION OF HALF BITS: its levels, each of t µs, true while it is low. If one
-- differs from the one before, the receiver is told an edge.

-- what the edge tells as a level begins, so long after the last edge
abbrev pub told_before : Reading → Bool → Bool → ℕ → Option Frame
told_before reading true true since = None
told_before reading false false since = None
told_before reading true false since = ended reading true since
told_before reading false true since = ended reading false since

abbrev pub reading_in : Reading → Bool → Bool → ℕ → Reading
reading_in reading true true since = reading
reading_in reading false false since = reading
reading_in reading true false since = reading_after reading true false since
reading_in reading false true since = reading_after reading false true since

-- how long the last edge is over as the level ends
abbrev pub since_edge : ℕ → Bool → Bool → ℕ → ℕ
since_edge t true true since = since + t
since_edge t false false since = since + t
since_edge t true false since = t
since_edge t false true since = t

-- THE RECEIVER TELLS A FRAME when these levels are over, and tells nothing before
abbrev pub Tells : ℕ → Reading → Bool → ℕ → List Bool → Frame → Type 0
Tells t reading was since [] frame = ended reading was since ≡ Some frame
Tells t reading was since (low ∷ levels) frame =
    (told_before reading was low since ≡ None)
    × Tells t (reading_in reading was low since) low (since_edge t was low since) levels frame

-- NOISE on a bus at rest: highs, and after each a low. Nothing is told, and the bus is at rest
-- again
abbrev pub IsPassedOver : Reading → List (ℕ × ℕ) → Type 0
IsPassedOver reading [] = reading ≡ Idle
IsPassedOver reading (noise ∷ more) =
    (ended reading false noise.0 ≡ None)
    × (ended (reading_after reading false true noise.0) true noise.1 ≡ None)
    × IsPassedOver
    (reading_after (reading_after reading false true noise.0) true false noise.1)
    more

-- ONE ANSWER AMONG OTHERS: it begins at a half bit of its own, and the bus is low wherever it is
abbrev pub begun_at : ℕ → List Bool → List Bool
begun_at begin levels = highs begin ++ levels

abbrev pub Within : List Bool → List Bool → Type 0
Within [] bus = Unit {0}
Within (low ∷ levels) [] = Unit {0}
Within (true ∷ levels) (true ∷ bus) = Within levels bus
Within (true ∷ levels) (false ∷ bus) = ⊥
Within (false ∷ levels) (low ∷ bus) = Within levels bus

-- THE BUS OF SEVERAL ANSWERS for so many half bits: low while any of them is. Of each stands where
-- it begins, and its byte.
abbrev pub low_where : List Bool → List Bool → List Bool
low_where [] bus = bus
low_where (low ∷ levels) [] = []
low_where (true ∷ levels) (x ∷ bus) = true ∷ low_where levels bus
low_where (false ∷ levels) (x ∷ bus) = x ∷ low_where levels bus

abbrev pub answer_levels : ℕ × ℕ → List Bool
answer_levels a = begun_at a.0 (levels_of (backward_bits a.1))

abbrev pub bus_of : ℕ → List (ℕ × ℕ) → List Bool
bus_of n [] = highs n
bus_of n (a ∷ answers) = low_where (answer_levels a) (bus_of n answers)

-- where the first low of a bus is
abbrev pub first_low : List Bool → ℕ
first_low [] = 0
first_low (true ∷ bus) = 0
first_low (false ∷ bus) = suc (first_low bus)

-- the number that bits write behind a number
abbrev pub value_of : ℕ → List Bool → ℕ
value_of number [] = number
value_of number (true ∷ bits) = value_of (2 * number + 1) bits
value_of number (false ∷ bits) = value_of (2 * number) bits

-- THE LEVELS OF A FRAME: bits, and then highs alone; the frame is that of the number that the bits
-- write behind this one
pub record IsWritten (number : ℕ) (bus : List Bool) (told : Frame) : Type 0 where
  pub bits : List Bool
  pub rest : ℕ
  pub levels : bus ≡ levels_of bits ++ highs rest
  pub long : 3 ≤ rest
  pub is : told ≡ frame_of (value_of number bits)

-- the same on a bus that was high before
pub record IsHeard (bus : List Bool) (told : Frame) : Type 0 where
  pub lead : ℕ
  pub after : List Bool
  pub levels : bus ≡ highs lead ++ (true ∷ after)
  pub written : IsWritten 0 (true ∷ after) told
