use Rattle.std.specs.Prelude.{◌≡◌, ℕ, ◌+◌, ◌-◌, ◌/◌, ◌%◌, ◌^◌, ◌==◌, ◌&&◌, min, nat_lt, nat_le}
use Rattle.std.specs.Prelude.{Bool, true, false, List, [], ◌∷◌, Option, Some, None, option_map}
use Rattle.std.specs.Prelude.{Result, Ok, Err, if◌then◌else◌}
use Rattle.dali_frame.specs.declared.frames.Forward.{Forward}
use Rattle.dali_script.specs.declared.orders.Input.{Input}
use Rattle.dali_script.specs.declared.orders.Input.TheVariants as input
use Rattle.dali_port.specs.declared.orders.Half.{Half}
use Rattle.dali_port.specs.declared.orders.Half.TheVariants.{Whole, First, Second}
use Rattle.dali_port.specs.declared.orders.Order.{Order}
use Rattle.dali_port.specs.declared.orders.Word.{Word}
use Rattle.dali_port.specs.declared.orders.Word.TheVariants.{Heard, Destroyed, Lapsed}
use Rattle.dali_port.specs.declared.orders.Refusal.{Refusal}
use Rattle.dali_port.specs.declared.orders.Refusal.TheVariants.{Backwards, Busy, NotLater}
use Rattle.dali_port.specs.declared.orders.Refusal.TheVariants.{BeyondSpan}
use Rattle.dali_port.specs.declared.state.Port.{Port as Fields}
use Rattle.dali_port.specs.State.{Port, seen}
use Rattle.dali_port.specs.declared.state.Read.{Read}
use Rattle.dali_port.specs.declared.state.Read.TheVariants.{Frame, NoPower}
use Rattle.dali_port.specs.declared.state.Event.{Event}
use Rattle.dali_port.specs.Calls.{drive_of}
use Rattle.dali_c.specs.Codes.{input_of, bool_of}
use Rattle.dali_c.specs.Passes.{is_so}
use Rattle.dali_c.specs.Receivers.{number_of, IsTold}
use Rattle.dali_c.specs.declared.orders.PlainOrder.{PlainOrder}
use Rattle.dali_c.specs.declared.receivers.PlainTold.{PlainTold}
use Rattle.dali_c.specs.declared.port.PlainEvent.{PlainEvent}

-- THE CLOCK of a driver counts µs in 32 bits. A time stands for the one that is less than half a
-- turn away from that of the last call.
abbrev pub ago_of : ℕ → ℕ → ℕ
ago_of called now = (now + 2 ^ 32 - called % 2 ^ 32) % 2 ^ 32

abbrev pub time_at : ℕ → ℕ → ℕ
time_at called now =
    if nat_lt (ago_of called now) (2 ^ 31) then min (called + ago_of called now) (2 ^ 64 - 1)
    else called - (2 ^ 32 - ago_of called now)

-- when a port is to be called again: in any case within a quarter of a turn
abbrev pub ticks_of : ℕ → Option ℕ → ℕ
ticks_of called None = min (called + 2 ^ 30) (2 ^ 64 - 1) % 2 ^ 32
ticks_of called (Some at) = at % 2 ^ 32

-- WHAT IS HANDED IN
abbrev pub half_of : ℕ → Option Half
half_of c =
    if c == 0 then Some Whole else
    (if c == 1 then Some First else
    (if c == 2 then Some Second else None))

abbrev pub order_with : ℕ → Forward → Option Half → Bool → ℕ → Option Order
order_with priority frame None asks drawn = None
order_with priority frame (Some half) asks drawn =
    if nat_le 1 priority && nat_le priority 5 then Some (record {
      frame = frame;
      priority = priority;
      half = half;
      asks = asks;
      drawn = drawn;
    }) else None

abbrev pub order_by : ℕ → Forward → ℕ → ℕ → ℕ → Option Order
order_by priority frame half asks drawn =
    order_with priority frame (half_of half) (is_so asks) drawn

-- what a machine orders, if it is a frame
abbrev pub order_sent : PlainOrder → ℕ → Option Order
order_sent o drawn =
    if o.kind == 1
    then order_by o.priority (record { address_byte = o.address_byte; opcode_byte = o.opcode_byte })
    o.half o.asks drawn
    else None

-- WHAT A CALL TELLS: what the frame came to, as a machine is told it, or 0; and what was read, with
-- the kinds of enum dali_frame_kind
abbrev pub input_for : Word → Input
input_for (Heard heard) = input.Heard heard
input_for Destroyed = input.Destroyed
input_for Lapsed = input.Lapsed

abbrev pub IsWord : ℕ → ℕ → Option Word → Type 0
IsWord code byte None = (code ≡ 0) × (byte ≡ 0)
IsWord code byte (Some word) = input_of code byte ≡ Some (input_for word)

abbrev pub IsRead : PlainTold → Option Read → Type 0
IsRead t None = IsTold t None
IsRead t (Some (Frame told)) = IsTold t (Some told)
IsRead t (Some NoPower) =
    (t.kind ≡ 5) × (t.bytes ≡ 0 ∷ 0 ∷ 0 ∷ []) × (number_of t.lasted ≡ 0)

-- and what to drive then, and when to call again
pub record IsEvent (e : PlainEvent) (told : Event) (p : Port) : Type 0 where
  pub at : e.at ≡ ticks_of p.called (drive_of p).at
  pub is_low : bool_of e.is_low ≡ Some (drive_of p).is_low
  pub next : bool_of e.next ≡ Some (drive_of p).next
  pub word : IsWord e.input e.byte told.word
  pub read : IsRead e.read told.read

-- WHAT A CALL ANSWERS: OK, and the port after it with what it tells; or why it is refused,
-- and nothing is written
abbrev pub refusal_code : Refusal → ℕ
refusal_code Backwards = 10
refusal_code Busy = 11
refusal_code NotLater = 3
refusal_code BeyondSpan = 3

abbrev pub Answers : Fields → Fields → PlainEvent → PlainEvent → ℕ → Port
    → Result Event Refusal → Type 0
Answers old new before event status after (Ok told) =
    (status ≡ 0) × (seen new ≡ after) × IsEvent event told after
Answers old new before event status after (Err refusal) =
    (status ≡ refusal_code refusal) × (new ≡ old) × (event ≡ before)

-- the same of the event alone, at the port after it
abbrev pub Tells : Fields → PlainEvent → PlainEvent → ℕ → Result Event Refusal → Type 0
Tells p before event status (Ok told) = (status ≡ 0) × IsEvent event told (seen p)
Tells p before event status (Err refusal) = (status ≡ refusal_code refusal) × (event ≡ before)
