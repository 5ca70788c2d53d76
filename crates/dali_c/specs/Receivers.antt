use Rattle.std.specs.Prelude.{◌≡◌, ℕ, ◌-◌, ◌/◌, ◌%◌, ◌==◌, nat_le, Bool, true, false, List, []}
use Rattle.std.specs.Prelude.{◌∷◌, Option, Some, None, if◌then◌else◌}
use Rattle.std.specs.Int.{w32, from_le_bytes}
use Rattle.dali_frame.specs.declared.frames.Answer.{Answer}
use Rattle.dali_script.specs.declared.orders.Input.TheVariants.{Heard}
use Rattle.dali_wire.specs.declared.receiver.Reading.{Reading}
use Rattle.dali_wire.specs.declared.receiver.Reading.TheVariants.{Idle, First, Between, Middle}
use Rattle.dali_wire.specs.declared.receiver.Reading.TheVariants.{Spoilt}
use Rattle.dali_wire.specs.declared.receiver.Frame.{Frame}
use Rattle.dali_wire.specs.declared.receiver.Frame.TheVariants.{Forward, Backward, Device, Damaged}
use Rattle.dali_wire.specs.declared.receiver.Told.{Told}
use Rattle.dali_wire.specs.declared.receiver.Receiver.{Receiver}
use Rattle.dali_wire.specs.declared.window.Window.{Window}
use Rattle.dali_c.specs.Codes.{answer_of, input_of, bool_of}
use Rattle.dali_c.specs.declared.receivers.PlainReceiver.{PlainReceiver}
use Rattle.dali_c.specs.declared.receivers.PlainTold.{PlainTold}
use Rattle.dali_c.specs.declared.receivers.PlainWindow.{PlainWindow}
use Rattle.dali_c.specs.declared.receivers.PlainHeard.{PlainHeard}

-- where the last edge stood, with the bits that were read
abbrev pub reading_of : ℕ → ℕ → Option Reading
reading_of c bits =
    if c == 0 then Some Idle else
    (if c == 1 then Some First else
    (if c == 2 then Some (Between bits) else
    (if c == 3 then Some (Middle bits) else
    (if c == 4 then Some Spoilt else None))))

-- a number in four bytes, the least first
abbrev pub number_of : List ℕ → ℕ
number_of bytes = from_le_bytes w32 bytes

-- WHAT THE BYTES OF struct dali_receiver STAND FOR
abbrev pub receiver_with : PlainReceiver → Option Reading → Option Bool → Option Receiver
receiver_with p (Some reading) (Some low) =
    Some (record { reading = reading; is_low = low; lasted = number_of p.lasted })
receiver_with p _ _ = None

abbrev pub receiver_of : PlainReceiver → Option Receiver
receiver_of p = receiver_with p (reading_of p.reading (number_of p.bits)) (bool_of p.is_low)

-- and those of struct dali_window: what was heard has the code of an input, and 4 more if the
-- window has passed over a pulse
abbrev pub window_with : PlainWindow → Option Receiver → Option Answer → Bool → Option Window
window_with p (Some receiver) (Some heard) pulse = Some (record {
  receiver = receiver;
  elapsed = number_of p.elapsed;
  heard = heard;
  has_pulse = pulse;
})
window_with p _ _ pulse = None

abbrev pub window_of : PlainWindow → Option Window
window_of p =
    if nat_le 4 p.heard
    then window_with p (receiver_of p.receiver) (answer_of (p.heard - 4) p.byte) true
    else window_with p (receiver_of p.receiver) (answer_of p.heard p.byte) false

-- WHAT A RECEIVER TELLS: the kinds of enum dali_frame_kind, and the bytes in the order in which
-- they are sent. A frame for other devices is a number of 24 bits.
abbrev pub IsFrame : PlainTold → Frame → Type 0
IsFrame t (Forward f) = (t.kind ≡ 1) × (t.bytes ≡ f.address_byte ∷ f.opcode_byte ∷ 0 ∷ [])
IsFrame t (Backward byte) = (t.kind ≡ 2) × (t.bytes ≡ byte ∷ 0 ∷ 0 ∷ [])
IsFrame t (Device number) =
    (t.kind ≡ 3) × (t.bytes ≡ number / 0x10000 % 256 ∷ number / 256 % 256 ∷ number % 256 ∷ [])
IsFrame t Damaged = (t.kind ≡ 4) × (t.bytes ≡ 0 ∷ 0 ∷ 0 ∷ [])

abbrev pub IsTold : PlainTold → Option Told → Type 0
IsTold t None = (t.kind ≡ 0) × (t.bytes ≡ 0 ∷ 0 ∷ 0 ∷ []) × (number_of t.lasted ≡ 0)
IsTold t (Some told) = IsFrame t told.frame × (number_of t.lasted ≡ told.lasted)

-- WHAT A WINDOW TELLS, as a machine is told it; nothing before it is over
abbrev pub IsHeard : PlainHeard → Option Answer → Type 0
IsHeard h None = (h.is_over ≡ 0) × (h.input ≡ 0) × (h.byte ≡ 0)
IsHeard h (Some heard) = (h.is_over ≡ 1) × (input_of h.input h.byte ≡ Some (Heard heard))
