use Rattle.std.specs.Prelude.{ℕ, ◌+◌, ◌-◌, ◌*◌, ◌/◌, ◌%◌, ◌^◌, min, Bool, true, false, ◌&&◌, ◌||◌}
use Rattle.std.specs.Prelude.{nat_lt, nat_le, Option, Some, None, if◌then◌else◌}
use Rattle.std.specs.Option.{option_map}
use Rattle.dali_wire.specs.declared.receiver.Span.{Span}
use Rattle.dali_wire.specs.declared.receiver.Span.TheVariants.{Short, Half, Whole, Wrong}
use Rattle.dali_wire.specs.declared.receiver.Reading.{Reading}
use Rattle.dali_wire.specs.declared.receiver.Reading.TheVariants.{Idle, First, Between, Middle}
use Rattle.dali_wire.specs.declared.receiver.Reading.TheVariants.{Spoilt}
use Rattle.dali_wire.specs.declared.receiver.Frame.{Frame}
use Rattle.dali_wire.specs.declared.receiver.Frame.TheVariants.{Forward, Backward, Device, Damaged}
use Rattle.dali_wire.specs.declared.receiver.Told.{Told}
use Rattle.dali_wire.specs.declared.receiver.Receiver.{Receiver}

-- THE TIMES OF A RECEIVER in whole µs, from memory (IEC 62386-101:2014, receiver bit timing): a
-- half bit takes 333.3 to 500, two half bits take 666.7 to 1,000.
abbrev pub span_of : ℕ → Span
span_of micros =
    if nat_lt micros 334 then Short
    else (if nat_le micros 500 then Half
    else (if nat_lt micros 667 || nat_lt 1000 micros then Wrong else Whole))

-- what the time before an edge was, by the level before and after it; if these are one, an edge
-- between them was missed
abbrev pub span_before : Bool → Bool → ℕ → Span
span_before true true since = Wrong
span_before false false since = Wrong
span_before true false since = span_of since
span_before false true since = span_of since

-- EACH BIT IS TOLD BY THE EDGE IN ITS MIDDLE: 1 if the bus is high after it, 0 if it is low.
-- A number is the bits that were read, the start bit, 1, first; 24 bits may follow it.
abbrev pub with_bit : ℕ → Bool → Reading
with_bit bits low =
    if nat_le 0x1000000 bits then Spoilt else Middle (if low then 2 * bits else 2 * bits + 1)

-- From the middle of a bit the next edge stands between two bits, a half bit later, or in the
-- middle of the next one, two half bits later; from between two bits it stands in the middle of
-- the next one, a half bit later. A first low that is shorter than a half bit is noise.
abbrev pub read_edge : Reading → Bool → Span → Reading
read_edge Idle true span = First
read_edge Idle false span = Idle
read_edge First low Short = Idle
read_edge First low Half = Middle 1
read_edge First low Whole = Spoilt
read_edge First low Wrong = Spoilt
read_edge (Middle bits) low Short = Spoilt
read_edge (Middle bits) low Half = Between bits
read_edge (Middle bits) low Whole = with_bit bits low
read_edge (Middle bits) low Wrong = Spoilt
read_edge (Between bits) low Short = Spoilt
read_edge (Between bits) low Half = with_bit bits low
read_edge (Between bits) low Whole = Spoilt
read_edge (Between bits) low Wrong = Spoilt
read_edge Spoilt low span = Spoilt

-- WHICH FRAME THE BITS ARE: 8, 16 or 24 after the start bit, and no other number of them
-- (IEC 62386-101:2014, frame structure).
abbrev pub frame_of : ℕ → Frame
frame_of bits =
    if nat_le 0x100 bits && nat_lt bits 0x200 then Backward (bits % 256)
    else (if nat_le 0x10000 bits && nat_lt bits 0x20000
    then Forward (record { address_byte = bits / 256 % 256; opcode_byte = bits % 256 })
    else (if nat_le 0x1000000 bits && nat_lt bits 0x2000000 then Device (bits % 0x1000000)
    else Damaged))

abbrev pub frame_read : Reading → Option Frame
frame_read Idle = None
frame_read First = None
frame_read (Between bits) = Some (frame_of bits)
frame_read (Middle bits) = Some (frame_of bits)
frame_read Spoilt = Some Damaged

-- A FRAME ENDS with a stop condition: the bus is high for 2,400 µs, from memory
-- (IEC 62386-101:2014, receiver bit timing). First while it is low, then while it is high.
abbrev pub ended : Reading → Bool → ℕ → Option Frame
ended reading true since = None
ended reading false since = if nat_lt since 2400 then None else frame_read reading

abbrev pub reading_at : Reading → Bool → ℕ → Reading
reading_at reading true since = reading
reading_at reading false since = if nat_lt since 2400 then reading else Idle

-- where an edge stands, by the level before and after it
abbrev pub reading_after : Reading → Bool → Bool → ℕ → Reading
reading_after reading was low since =
    read_edge (reading_at reading was since) low (span_before was low since)

-- what is told, and how long it took
abbrev pub told_of : Receiver → ℕ → Option Told
told_of r since =
    option_map
    (λ frame. record { frame = frame; lasted = r.lasted; since = since })
    (ended r.reading r.is_low since)

abbrev pub longer : Reading → ℕ → ℕ → ℕ
longer Idle lasted since = 0
longer First lasted since = min (lasted + since) (2 ^ 32 - 1)
longer (Between bits) lasted since = min (lasted + since) (2 ^ 32 - 1)
longer (Middle bits) lasted since = min (lasted + since) (2 ^ 32 - 1)
longer Spoilt lasted since = min (lasted + since) (2 ^ 32 - 1)

abbrev pub lasted_after : Receiver → ℕ → ℕ
lasted_after r since = longer (reading_at r.reading r.is_low since) r.lasted since

-- THE RECEIVER after an edge, and so many µs after one
abbrev pub receiver_after : Receiver → Bool → ℕ → Receiver
receiver_after r low since = record {
  reading = reading_after r.reading r.is_low low since;
  is_low = low;
  lasted = lasted_after r since;
}

abbrev pub receiver_at : Receiver → ℕ → Receiver
receiver_at r since = record r { reading = reading_at r.reading r.is_low since }

-- the bus has been high for the time of a stop condition
abbrev pub receiver_at_first : Receiver
receiver_at_first = record { reading = Idle; is_low = false; lasted = 0 }
