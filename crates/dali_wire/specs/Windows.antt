use Rattle.std.specs.Prelude.{ℕ, ◌+◌, ◌-◌, ◌^◌, min, Bool, true, false, not}
use Rattle.std.specs.Prelude.{◌&&◌, ◌||◌, nat_lt, nat_le}
use Rattle.std.specs.Prelude.{Option, Some, None, if◌then◌else◌}
use Rattle.dali_frame.specs.declared.frames.Answer.{Answer}
use Rattle.dali_frame.specs.declared.frames.Answer.TheVariants.{Silence, Byte, Damaged}
use Rattle.dali_wire.specs.declared.receiver.Reading.{Reading}
use Rattle.dali_wire.specs.declared.receiver.Reading.TheVariants.{Idle, First, Between, Middle}
use Rattle.dali_wire.specs.declared.receiver.Reading.TheVariants.{Spoilt}
use Rattle.dali_wire.specs.declared.receiver.Frame.{Frame}
use Rattle.dali_wire.specs.declared.receiver.Frame.TheVariants.{Backward}
use Rattle.dali_wire.specs.declared.receiver.Told.{Told}
use Rattle.dali_wire.specs.declared.window.Window.{Window}
use Rattle.dali_wire.specs.Reception.{reading_after, told_of, receiver_after, receiver_at}
use Rattle.dali_wire.specs.Reception.{receiver_at_first}

-- A BACKWARD FRAME BEGINS 2,400 to 12,400 µs after the last edge of the forward frame, from memory
-- (IEC 62386-101:2014, receiver frame sequence timing). What else is heard, or too early or too
-- late, is damaged.
abbrev pub answer_in : Frame → ℕ → Answer
answer_in (Backward byte) begun =
    if nat_le 2400 begun && nat_le begun 12400 then Byte byte else Damaged
answer_in _ begun = Damaged

-- what was heard, with one frame more; the second one damages the first
abbrev pub heard_after : Answer → Option Told → ℕ → Answer
heard_after heard None now = heard
heard_after Silence (Some told) now = answer_in told.frame (now - told.since - told.lasted)
heard_after (Byte byte) (Some told) now = Damaged
heard_after Damaged (Some told) now = Damaged

-- how long the forward frame is over
abbrev pub passed : Window → ℕ → ℕ
passed w since = min (w.elapsed + since) (2 ^ 32 - 1)

abbrev pub heard_with : Window → ℕ → Answer
heard_with w since = heard_after w.heard (told_of w.receiver since) (passed w since)

abbrev pub is_idle : Reading → Bool
is_idle Idle = true
is_idle First = false
is_idle (Between bits) = false
is_idle (Middle bits) = false
is_idle Spoilt = false

-- WHAT IS TOLD once no backward frame may begin any more and the bus is at rest. A bus that does
-- not come to rest within 50 ms was damaged.
abbrev pub answer_at : Window → ℕ → Option Answer
answer_at w now =
    if is_idle w.receiver.reading && nat_lt 12400 now then Some w.heard
    else (if nat_lt 50000 now then Some Damaged else None)

-- AN ECHO of the last edge of the forward frame, which a transceiver tells late: the bus is high
-- after it and was not low before, and no backward frame may have begun yet.
abbrev pub is_echo : Window → Bool → ℕ → Bool
is_echo w low since =
    not w.receiver.is_low && not low && nat_lt (passed w since) 2400 && not w.has_pulse

-- A LOW ON A BUS AT REST that the receiver passes over: it is at rest after the edge that ends it,
-- or its first edge was missed.
abbrev pub is_passed_over : Window → Bool → ℕ → Bool
is_passed_over w low since =
    is_idle (reading_after w.receiver.reading w.receiver.is_low low since)
    && not (is_echo w low since)

-- If it is shorter than 100 µs it is a pulse, too short for a low that a control gear sent.
abbrev pub is_pulse : Window → ℕ → Bool
is_pulse w since = w.receiver.is_low && nat_lt since 100

-- what was heard, with such a low or without: the first pulse changes nothing, all else damages it
abbrev pub heard_beside : Bool → Bool → Bool → Answer → Answer
heard_beside false pulse before heard = heard
heard_beside true true false heard = heard
heard_beside true true true heard = Damaged
heard_beside true false before heard = Damaged

-- THE WINDOW after an edge, and so many µs after one
abbrev pub window_after : Window → Bool → ℕ → Window
window_after w low since = record {
  receiver = receiver_after w.receiver low since;
  elapsed = passed w since;
  heard =
      heard_beside (is_passed_over w low since) (is_pulse w since) w.has_pulse (heard_with w since);
  has_pulse = w.has_pulse || is_passed_over w low since;
}

abbrev pub window_at : Window → ℕ → Window
window_at w since = record w { receiver = receiver_at w.receiver since; heard = heard_with w since }

abbrev pub window_at_first : Window
window_at_first = record {
  receiver = receiver_at_first;
  elapsed = 0;
  heard = Silence;
  has_pulse = false;
}

-- what is told so long after the last edge
abbrev pub told_after : Window → ℕ → Option Answer
told_after w since = answer_at (window_at w since) (passed w since)
