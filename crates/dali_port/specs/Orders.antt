use Rattle.std.specs.Prelude.{Bool, true, false, ◌&&◌, not, ◌==◌, nat_lt}
use Rattle.std.specs.Prelude.{Option, Some, None, if◌then◌else◌}
use Rattle.dali_frame.specs.declared.frames.Forward.{Forward}
use Rattle.dali_frame.specs.declared.frames.Answer.{Answer}
use Rattle.dali_frame.specs.declared.frames.Answer.TheVariants.{Silence, Byte, Damaged}
use Rattle.dali_port.specs.declared.orders.Half.{Half}
use Rattle.dali_port.specs.declared.orders.Half.TheVariants.{Whole, First, Second}
use Rattle.dali_port.specs.declared.orders.Order.{Order}
use Rattle.dali_port.specs.declared.orders.Word.{Word}
use Rattle.dali_port.specs.declared.orders.Word.TheVariants.{Heard, Destroyed}
use Rattle.dali_port.specs.declared.orders.Refusal.{Refusal}
use Rattle.dali_port.specs.declared.orders.Refusal.TheVariants.{NotLater, BeyondSpan}
use Rattle.dali_port.specs.Times.{span_of}

-- A FRAME AND ITS ORDER. Priority 1 is a later frame of the running transaction.
abbrev pub is_later : Order → Bool
is_later order = order.priority == 1

abbrev pub is_second : Half → Bool
is_second Whole = false
is_second First = false
is_second Second = true

abbrev pub is_first : Half → Bool
is_first Whole = false
is_first First = true
is_first Second = false

-- RANDOMISE is A7 00 (IEC 62386-102:2014, special commands)
abbrev pub is_randomise : Forward → Bool
is_randomise f = (f.address_byte == 0xA7) && (f.opcode_byte == 0)

-- why no port takes an order
abbrev pub refusal_of : Order → Option Refusal
refusal_of order =
    if is_second order.half && not (is_later order) then Some NotLater
    else (if nat_lt (span_of order.priority) order.drawn then Some BeyondSpan else None)

-- THE WORD for what was heard after a frame that was sent whole. If no backward frame is awaited,
-- anything that is heard may have disturbed the frame.
abbrev pub heard_word : Bool → Answer → Word
heard_word true heard = Heard heard
heard_word false Silence = Heard Silence
heard_word false (Byte byte) = Destroyed
heard_word false Damaged = Destroyed
