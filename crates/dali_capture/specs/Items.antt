use Rattle.std.specs.Prelude.{ℕ, List, ◌++◌, codes, decimal}
use Rattle.dali_frame.specs.Hex.{forward_text, byte_text}
use Rattle.dali_wire.specs.declared.receiver.Frame.{Frame}
use Rattle.dali_wire.specs.declared.receiver.Frame.TheVariants as frame
use Rattle.dali_capture.specs.declared.item.Item.{Item}
use Rattle.dali_capture.specs.declared.item.Heard.{Heard}
use Rattle.dali_capture.specs.declared.item.Heard.TheVariants.{Forward, Backward, Device, Damaged}

-- what a receiver tells, without the bits of a frame for other devices
abbrev pub heard_of : Frame → Heard
heard_of (frame.Forward f) = Forward f
heard_of (frame.Backward byte) = Backward byte
heard_of (frame.Device bits) = Device
heard_of frame.Damaged = Damaged

-- HOW LONG A FRAME TAKES in µs: a start bit and 16, 8 or 24 bits of 833.3 µs each
-- (IEC 62386-101:2014, frame structure). What is damaged counts as a backward frame.
abbrev pub length_of : Heard → ℕ
length_of (Forward f) = 14167
length_of (Backward byte) = 7500
length_of Device = 20833
length_of Damaged = 7500

-- THE LINE OF A LOG that tells an item, without its line feed
abbrev pub heard_text : Heard → List ℕ
heard_text (Forward f) = codes " " ++ forward_text f
heard_text (Backward byte) = codes " < " ++ byte_text byte
heard_text Device = codes " device"
heard_text Damaged = codes " < damaged"

abbrev pub item_text : Item → List ℕ
item_text item = decimal item.at ++ heard_text item.what
