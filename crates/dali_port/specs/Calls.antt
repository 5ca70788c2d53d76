use Rattle.std.specs.Prelude.{ℕ, ◌-◌, ◌+◌, ◌^◌, min, max, Bool, true, false, ◌&&◌, ◌||◌, not}
use Rattle.std.specs.Prelude.{nat_lt, nat_le, Option, Some, None, is_none, Result, Ok, Err}
use Rattle.std.specs.Prelude.{if◌then◌else◌}
use Rattle.dali_wire.specs.declared.window.Window.{Window}
use Rattle.dali_wire.specs.Windows.{is_idle}
use Rattle.dali_port.specs.declared.orders.Order.{Order}
use Rattle.dali_port.specs.declared.orders.Refusal.{Refusal}
use Rattle.dali_port.specs.declared.orders.Refusal.TheVariants.{Backwards, Busy}
use Rattle.dali_port.specs.declared.orders.Word.{Word}
use Rattle.dali_port.specs.declared.orders.Word.TheVariants.{Lapsed}
use Rattle.dali_port.specs.State.{Phase}
use Rattle.dali_port.specs.State.{Free, Waiting, Sending, Breaking}
use Rattle.dali_port.specs.State.{Listening}
use Rattle.dali_port.specs.State.{Port}
use Rattle.dali_port.specs.declared.state.Event.{Event}
use Rattle.dali_port.specs.declared.state.Drive.{Drive}
use Rattle.dali_port.specs.State.{window_of}
use Rattle.dali_port.specs.Times.{half_bit, frame_time, settling_of, break_time, pair_time}
use Rattle.dali_port.specs.Times.{draw_time, power_time}
use Rattle.dali_port.specs.Orders.{is_later, is_first, is_second, refusal_of}
use Rattle.dali_port.specs.Frames.{begun_at, driven_in, next_in}
use Rattle.dali_port.specs.Ports.{until, event_until, edged, lost, lapsed_word}
use Rattle.dali_port.specs.Ports.{only}

-- EACH CALL of a port: what it tells, and the port after it. A call that does not fit is refused,
-- and changes nothing.

abbrev pub Answered : Type 0
Answered = Result Event Refusal

abbrev pub answered : Result Unit Refusal → Event → Answered
answered (Ok done) event = Ok event
answered (Err refusal) event = Err refusal

-- a time that runs backwards
abbrev pub is_backwards : Port → ℕ → Bool
is_backwards p now = nat_lt now p.called

abbrev pub also : Event → Option Word → Event
also event None = event
also event (Some word) = record event { word = Some word }

-- THE TIMER. A frame begins if the bus is high, and has been at rest for the settling time of its
-- priority and what was drawn; and not within 100 ms after a pair of RANDOMISE.
abbrev pub is_drawn : Option ℕ → ℕ → Bool
is_drawn None now = true
is_drawn (Some draws) now = nat_le draw_time (now - draws)

abbrev pub may_begin : Port → Order → ℕ → Bool
may_begin p order now =
    not p.is_low
    && (nat_le (settling_of order.priority + order.drawn) (now - p.edge) && is_drawn p.draws now)

-- The second frame of a pair lapses if it cannot end within the time of a pair, or if the first one
-- was not the last frame.
abbrev pub is_in_time : Option ℕ → ℕ → Bool
is_in_time None now = false
is_in_time (Some first) now = nat_le (now - first) (pair_time - frame_time)

abbrev pub is_too_late : Port → Order → ℕ → Bool
is_too_late p order now = is_second order.half && not (is_in_time p.first now)

abbrev pub begun : Port → Order → ℕ → Port
begun p order now =
    if is_too_late p order now then record p { is_over = true; phase = Free }
    else record p {
      is_over = false;
      first = if is_first order.half then Some now else None;
      phase = Sending (begun_at order now);
    }

abbrev pub timed_in : Phase → Port → ℕ → Port
timed_in Free p now = p
timed_in (Waiting order) p now = if may_begin p order now then begun p order now else p
timed_in (Sending s) p now = p
timed_in (Breaking since) p now = p
timed_in (Listening l) p now = p

abbrev pub timed_word : Phase → Port → ℕ → Option Word
timed_word Free p now = None
timed_word (Waiting order) p now =
    if may_begin p order now && is_too_late p order now then Some Lapsed else None
timed_word (Sending s) p now = None
timed_word (Breaking since) p now = None
timed_word (Listening l) p now = None

abbrev pub timed : Port → ℕ → Port
timed p now = timed_in p.phase p now

abbrev pub timer_after : Port → ℕ → Port
timer_after p now = if is_backwards p now then p else timed (until p now) now

abbrev pub timer_told : Port → ℕ → Answered
timer_told p now =
    if is_backwards p now then Err Backwards
    else Ok (also (event_until p now) (timed_word (until p now).phase (until p now) now))

-- AN EDGE MAY HAVE BEEN LOST
abbrev pub lost_after : Port → Bool → ℕ → Port
lost_after p low now = if is_backwards p now then p else lost p low now

abbrev pub lost_told : Port → Bool → ℕ → Answered
lost_told p low now =
    if is_backwards p now then Err Backwards else Ok (only (lapsed_word p.phase))

-- AN EDGE; if the bus has its level already, one was lost.
abbrev pub same_level : Bool → Bool → Bool
same_level true low = low
same_level false low = not low

abbrev pub edge_after : Port → Bool → ℕ → Port
edge_after p low now =
    if is_backwards p now then p
    else (if same_level p.is_low low then lost p low now else edged (until p now) low now)

abbrev pub edge_told : Port → Bool → ℕ → Answered
edge_told p low now =
    if is_backwards p now then Err Backwards
    else (if same_level p.is_low low then Ok (only (lapsed_word p.phase))
    else Ok (also (event_until p now) (lapsed_word (until p now).phase)))

-- A FRAME IS HANDED IN. A later frame lapses at once if its transaction is over.
abbrev pub is_free : Phase → Bool
is_free Free = true
is_free (Waiting order) = false
is_free (Sending s) = false
is_free (Breaking since) = false
is_free (Listening l) = false

abbrev pub refused : Port → Order → ℕ → Option Refusal
refused p order now =
    if is_backwards p now then Some Backwards
    else (if is_free p.phase then refusal_of order else Some Busy)

abbrev pub is_gone : Port → Order → Bool
is_gone p order =
    is_later order && (p.is_over || (is_second order.half && is_none p.first))

abbrev pub taken : Port → Order → Port
taken p order =
    if is_gone p order then record p { is_over = true } else record p { phase = Waiting order }

abbrev pub taken_word : Port → Order → Option Word
taken_word p order = if is_gone p order then Some Lapsed else None

abbrev pub send_after_by : Option Refusal → Port → Order → ℕ → Port
send_after_by None p order now = taken (until p now) order
send_after_by (Some refusal) p order now = p

abbrev pub send_after : Port → Order → ℕ → Port
send_after p order now = send_after_by (refused p order now) p order now

abbrev pub send_told_by : Option Refusal → Port → Order → ℕ → Answered
send_told_by None p order now =
    Ok (also (event_until p now) (taken_word (until p now) order))
send_told_by (Some refusal) p order now = Err refusal

abbrev pub send_told : Port → Order → ℕ → Answered
send_told p order now = send_told_by (refused p order now) p order now

-- WHEN TO CALL AGAIN if no edge comes before: when a frame has ended, when the next half bit
-- begins, when a break, a window or the wait for rest is over, and when a bus has no power.
abbrev pub at_most : ℕ → ℕ
at_most time = min time (2 ^ 64 - 1)

abbrev pub draws_until : Option ℕ → ℕ
draws_until None = 0
draws_until (Some draws) = at_most (draws + draw_time)

abbrev pub begins_at : Port → Order → ℕ
begins_at p order =
    max (at_most (p.edge + (settling_of order.priority + order.drawn))) (draws_until p.draws)

abbrev pub rest_due : Port → Option ℕ → Option ℕ
rest_due p begin =
    if p.is_low then (if p.is_powerless && is_none begin then None
    else Some (at_most (p.edge + power_time)))
    else (if is_idle p.receiver.reading then begin else Some (at_most (p.edge + 2400)))

abbrev pub window_left : Window → Bool → ℕ
window_left w low =
    if low then 50001 - w.elapsed
    else (if is_idle w.receiver.reading then 12401 - w.elapsed
    else max (12401 - w.elapsed) 2400)

abbrev pub window_due : Port → Window → ℕ
window_due p w = at_most (p.edge + window_left w p.is_low)

-- WHAT IS DRIVEN: low in a half bit that is low, and in a break; and what from when on.
abbrev pub drive_in : Phase → Port → Drive
drive_in Free p = record { is_low = false; at = rest_due p None; next = false }
drive_in (Waiting order) p =
    record { is_low = false; at = rest_due p (Some (begins_at p order)); next = false }
drive_in (Sending s) p = record {
  is_low = driven_in s;
  at = Some (at_most (s.since + half_bit));
  next = next_in s;
}
drive_in (Breaking since) p =
    record { is_low = true; at = Some (at_most (since + break_time)); next = false }
drive_in (Listening l) p =
    record { is_low = false; at = Some (window_due p (window_of p l)); next = false }

abbrev pub drive_of : Port → Drive
drive_of p = drive_in p.phase p
