use Rattle.std.specs.Prelude.{ℕ, ◌==◌, Bool, not, Option, Some, None}
use Rattle.std.specs.Prelude.{if◌then◌else◌}
use Rattle.dali_frame.specs.declared.frames.Answer.{Answer}
use Rattle.dali_frame.specs.declared.frames.Answer.TheVariants as answer
use Rattle.dali_wire.specs.declared.receiver.Reading.{Reading}
use Rattle.dali_wire.specs.declared.receiver.Reading.TheVariants as reading
use Rattle.dali_wire.specs.declared.receiver.Receiver.{Receiver}
use Rattle.dali_wire.specs.declared.window.Window.{Window}
use Rattle.dali_port.specs.declared.orders.Half.{Half}
use Rattle.dali_port.specs.declared.orders.Half.TheVariants as half
use Rattle.dali_port.specs.declared.orders.Order.{Order}
use Rattle.dali_port.specs.declared.state.Port.{Port as Fields}

-- WHAT A PORT KNOWS OF THE BUS, AND WHERE ITS FRAME IS

-- a frame that is being sent: which half bit is driven and since when, when the bus last had the
-- level that was driven, and when the last edge was driven
pub record Sent : Type 0 where
  pub order : Order
  pub half : ℕ
  pub since : ℕ
  pub agreed : ℕ
  pub driven : ℕ

-- a frame that was sent whole, and what is heard after it: whether a backward frame is awaited, and
-- what the window knows besides its receiver
pub record After : Type 0 where
  pub asks : Bool
  pub elapsed : ℕ
  pub heard : Answer
  pub has_pulse : Bool

-- Where the frame of a port is: there is none; it waits for rest; it is sent, edge by edge, and
-- compared; it is destroyed, and the bus is driven low since then; it was sent whole.
pub data Phase : Type 0 where
  Free : Phase
  Waiting : Order → Phase
  Sending : Sent → Phase
  Breaking : ℕ → Phase
  Listening : After → Phase

-- When the last call was, and the last edge; whether the bus is low since, and whether it was told
-- that it has no power; what reads frames of others; whether the transaction is over; when the
-- first frame of a pair began, if it was the last one; when the last RANDOMISE ended, sent or read,
-- and the second one of a pair of them.
pub record Port : Type 0 where
  pub called : ℕ
  pub edge : ℕ
  pub is_low : Bool
  pub is_powerless : Bool
  pub receiver : Receiver
  pub is_over : Bool
  pub first : Option ℕ
  pub randomise : Option ℕ
  pub draws : Option ℕ
  pub phase : Phase

-- its window
abbrev pub window_of : Port → After → Window
window_of p l = record {
  receiver = p.receiver;
  elapsed = l.elapsed;
  heard = l.heard;
  has_pulse = l.has_pulse;
}

abbrev pub after_window : Bool → Window → After
after_window asks w =
    record { asks = asks; elapsed = w.elapsed; heard = w.heard; has_pulse = w.has_pulse }

-- WHAT THE FIELDS STAND FOR: any values of them are a port. A byte that says yes or no says no if
-- it is 0.
abbrev pub is_so : ℕ → Bool
is_so byte = not (byte == 0)

abbrev pub moment_of : ℕ → ℕ → Option ℕ
moment_of has at = if is_so has then Some at else None

abbrev pub half_of : ℕ → Half
half_of c = if c == 0 then half.Whole else (if c == 1 then half.First else half.Second)

abbrev pub reading_of : ℕ → ℕ → Reading
reading_of c bits =
    if c == 0 then reading.Idle else
    (if c == 1 then reading.First else
    (if c == 2 then reading.Between bits else
    (if c == 3 then reading.Middle bits else reading.Spoilt)))

abbrev pub heard_of : ℕ → ℕ → Answer
heard_of c byte =
    if c == 0 then answer.Silence else (if c == 1 then answer.Byte byte else answer.Damaged)

abbrev pub receiver_of : Fields → Receiver
receiver_of p = record {
  reading = reading_of p.reading p.bits;
  is_low = is_so p.was_low;
  lasted = p.lasted;
}

abbrev pub order_of : Fields → Order
order_of p = record {
  frame = record { address_byte = p.address_byte; opcode_byte = p.opcode_byte };
  priority = p.priority;
  half = half_of p.half;
  asks = is_so p.asks;
  drawn = p.drawn;
}

abbrev pub sent_of : Fields → Sent
sent_of p = record {
  order = order_of p;
  half = p.at_half;
  since = p.since;
  agreed = p.agreed;
  driven = p.driven;
}

abbrev pub after_of : Fields → After
after_of p = record {
  asks = is_so p.asks;
  elapsed = p.elapsed;
  heard = heard_of p.heard p.byte;
  has_pulse = is_so p.has_pulse;
}

abbrev pub phase_of : Fields → Phase
phase_of p =
    if p.phase == 0 then Free else
    (if p.phase == 1 then Waiting (order_of p) else
    (if p.phase == 2 then Sending (sent_of p) else
    (if p.phase == 3 then Breaking p.since else Listening (after_of p))))

abbrev pub seen : Fields → Port
seen p = record {
  called = p.called;
  edge = p.edge;
  is_low = is_so p.is_low;
  is_powerless = is_so p.is_powerless;
  receiver = receiver_of p;
  is_over = is_so p.is_over;
  first = moment_of p.has_first p.first;
  randomise = moment_of p.has_randomise p.randomise;
  draws = moment_of p.has_draws p.draws;
  phase = phase_of p;
}
