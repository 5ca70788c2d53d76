use Rattle.std.specs.Prelude.{ℕ, ◌-◌, ◌^◌, min, Bool, true, false, ◌&&◌, ◌||◌}
use Rattle.std.specs.Prelude.{nat_le, Option, Some, None, if◌then◌else◌}
use Rattle.std.specs.Option.{option_map}
use Rattle.dali_frame.specs.declared.frames.Forward.{Forward}
use Rattle.dali_frame.specs.declared.frames.Answer.{Answer}
use Rattle.dali_frame.specs.declared.frames.Answer.TheVariants as answer
use Rattle.dali_wire.specs.declared.receiver.Reading.TheVariants.{Spoilt}
use Rattle.dali_wire.specs.declared.receiver.Frame.{Frame as Told-frame}
use Rattle.dali_wire.specs.declared.receiver.Frame.TheVariants as read
use Rattle.dali_wire.specs.declared.receiver.Told.{Told}
use Rattle.dali_wire.specs.declared.receiver.Receiver.{Receiver}
use Rattle.dali_wire.specs.declared.window.Window.{Window}
use Rattle.dali_wire.specs.Reception.{told_of, receiver_after, receiver_at, receiver_at_first}
use Rattle.dali_wire.specs.Windows.{passed, window_after, window_at, told_after}
use Rattle.dali_port.specs.declared.orders.Order.{Order}
use Rattle.dali_port.specs.declared.orders.Word.{Word}
use Rattle.dali_port.specs.declared.orders.Word.TheVariants.{Heard, Destroyed, Lapsed}
use Rattle.dali_port.specs.Courses.{Course}
use Rattle.dali_port.specs.Courses as course
use Rattle.dali_port.specs.State.{Sent}
use Rattle.dali_port.specs.State.{After}
use Rattle.dali_port.specs.State.{Phase}
use Rattle.dali_port.specs.State.{Free, Waiting, Sending, Breaking}
use Rattle.dali_port.specs.State.{Listening}
use Rattle.dali_port.specs.State.{Port}
use Rattle.dali_port.specs.declared.state.Read.TheVariants.{Frame, NoPower}
use Rattle.dali_port.specs.declared.state.Event.{Event}
use Rattle.dali_port.specs.Times.{break_time, pair_time, power_time}
use Rattle.dali_port.specs.State.{window_of, after_window}
use Rattle.dali_port.specs.Orders.{is_later, is_randomise, heard_word}
use Rattle.dali_port.specs.Frames.{driven_in, same, sent_until}

-- THE PORT AS A TABLE: what time does in each phase, what an edge does, and what is done if an edge
-- may have been lost.

-- how many µs ago the last edge was, as receivers count them
abbrev pub since_edge : Port → ℕ → ℕ
since_edge p now = min (now - p.edge) (2 ^ 32 - 1)

-- a receiver of which nothing is known but the level of the bus
abbrev pub spoilt : Bool → Receiver
spoilt low = record { reading = Spoilt; is_low = low; lasted = 0 }

-- at power-up the bus may be in the midst of a frame, and no transaction runs
abbrev pub port_at_first : Bool → ℕ → Port
port_at_first low now = record {
  called = now;
  edge = now;
  is_low = low;
  is_powerless = false;
  receiver = spoilt low;
  is_over = true;
  first = None;
  randomise = None;
  draws = None;
  phase = Free;
}

-- A PAIR OF RANDOMISE: two of them, sent or read, with ends at most 100 ms apart. Frames between
-- them do not matter here, so gear draw at no other moments.
abbrev pub follows : Option ℕ → ℕ → Bool
follows None at = false
follows (Some last) at = nat_le (at - last) pair_time

abbrev pub noted : Port → Forward → ℕ → Port
noted p frame at = record p {
  randomise = if is_randomise frame then Some at else p.randomise;
  draws = if is_randomise frame && follows p.randomise at then Some at else p.draws;
}

abbrev pub noted_frame : Port → Told-frame → Port
noted_frame p (read.Forward frame) = noted p frame p.edge
noted_frame p (read.Backward byte) = p
noted_frame p (read.Device number) = p
noted_frame p read.Damaged = p

abbrev pub noted_told : Port → Option Told → Port
noted_told p None = p
noted_told p (Some told) = noted_frame p told.frame

-- WITHOUT A FRAME OF ITS OWN ON THE BUS a port reads the frames of others, each once it has ended.
abbrev pub read_at : Port → ℕ → Port
read_at p now =
    noted_told
    (record p { receiver = receiver_at p.receiver (since_edge p now) })
    (told_of p.receiver (since_edge p now))

-- A bus that is low for 500 ms has no power: a frame that waits lapses, and this is told once.
abbrev pub has_no_power : Port → ℕ → Bool
has_no_power p now = p.is_low && nat_le power_time (now - p.edge)

abbrev pub rested : Port → ℕ → Port
rested p now =
    if has_no_power p now then record p { is_powerless = true; is_over = true; phase = Free }
    else read_at p now

abbrev pub lapsed_in : Phase → Option Word
lapsed_in Free = None
lapsed_in (Waiting order) = Some Lapsed
lapsed_in (Sending s) = None
lapsed_in (Breaking since) = None
lapsed_in (Listening l) = None

abbrev pub rest_event : Port → ℕ → Event
rest_event p now =
    if has_no_power p now then record {
      word = lapsed_in p.phase;
      read = if p.is_powerless then None else Some NoPower;
    } else record {
      word = None;
      read = option_map (λ told. Frame told) (told_of p.receiver (since_edge p now));
    }

-- A FRAME IS DESTROYED: from now on the bus is driven low for the time of a break. Gear may have
-- taken the frame.
abbrev pub broken_at : Port → Forward → ℕ → Port
broken_at p frame now = noted (record p { is_over = true; phase = Breaking now }) frame now

-- IT WAS SENT WHOLE: what is heard from its last edge on
abbrev pub after_at_first : Port → Sent → After
after_at_first p s = record {
  asks = s.order.asks;
  elapsed = min (p.edge - s.driven) (2 ^ 32 - 1);
  heard = answer.Silence;
  has_pulse = false;
}

abbrev pub whole_at : Port → Sent → ℕ → Port
whole_at p s now =
    noted
    (record p { receiver = receiver_at_first; phase = Listening (after_at_first p s) })
    s.order.frame now

abbrev pub on_course : Port → Sent → ℕ → Course → Port
on_course p s now (course.Goes t) = record p { phase = Sending t }
on_course p s now course.Destroyed = broken_at p s.order.frame now
on_course p s now course.Whole = whole_at p s now

-- A BREAK ENDS
abbrev pub is_broken_off : ℕ → ℕ → Bool
is_broken_off since now = nat_le break_time (now - since)

abbrev pub broken_off : Port → ℕ → ℕ → Port
broken_off p since now =
    if is_broken_off since now then record p { receiver = spoilt p.is_low; phase = Free } else p

abbrev pub break_word : ℕ → ℕ → Option Word
break_word since now = if is_broken_off since now then Some Destroyed else None

-- THE WINDOW TELLS what was heard. A frame that was destroyed ends the transaction.
abbrev pub is_destroyed : Word → Bool
is_destroyed (Heard heard) = false
is_destroyed Destroyed = true
is_destroyed Lapsed = false

abbrev pub listened_by : Port → Bool → Window → Option Answer → Port
listened_by p asks w None =
    record p { receiver = w.receiver; phase = Listening (after_window asks w) }
listened_by p asks w (Some heard) = record p {
  receiver = w.receiver;
  is_over = p.is_over || is_destroyed (heard_word asks heard);
  phase = Free;
}

abbrev pub listened : Port → After → ℕ → Port
listened p l now =
    listened_by p l.asks
    (window_at (window_of p l) (since_edge p now))
    (told_after (window_of p l) (since_edge p now))

abbrev pub listened_word : Port → After → ℕ → Option Word
listened_word p l now =
    option_map (λ heard. heard_word l.asks heard) (told_after (window_of p l) (since_edge p now))

-- TIME PASSES, and the bus keeps its level until now.
abbrev pub until_in : Phase → Port → ℕ → Port
until_in Free p now = rested p now
until_in (Waiting order) p now = rested p now
until_in (Sending s) p now = on_course p s now (sent_until s p.is_low now)
until_in (Breaking since) p now = broken_off p since now
until_in (Listening l) p now = listened p l now

abbrev pub until : Port → ℕ → Port
until p now = until_in p.phase (record p { called = now }) now

abbrev pub only : Option Word → Event
only word = record { word = word; read = None }

abbrev pub event_in : Phase → Port → ℕ → Event
event_in Free p now = rest_event p now
event_in (Waiting order) p now = rest_event p now
event_in (Sending s) p now = only None
event_in (Breaking since) p now = only (break_word since now)
event_in (Listening l) p now = only (listened_word p l now)

abbrev pub event_until : Port → ℕ → Event
event_until p now = event_in p.phase p now

-- AN EDGE. While a frame of the port is on the bus, an edge to another level than the one that is
-- driven destroys it: the bus follows what is driven, and never leads. In the window an edge is
-- heard; else it is read, and ends the transaction: a later frame that waits lapses.
abbrev pub lapsed : Phase → Phase
lapsed Free = Free
lapsed (Waiting order) = if is_later order then Free else Waiting order
lapsed (Sending s) = Sending s
lapsed (Breaking since) = Breaking since
lapsed (Listening l) = Listening l

abbrev pub lapsed_word : Phase → Option Word
lapsed_word Free = None
lapsed_word (Waiting order) = if is_later order then Some Lapsed else None
lapsed_word (Sending s) = None
lapsed_word (Breaking since) = None
lapsed_word (Listening l) = None

abbrev pub edge_in : Phase → Port → Bool → ℕ → Port
edge_in Free p low now =
    record p { receiver = receiver_after p.receiver low (since_edge p now); is_over = true }
edge_in (Waiting order) p low now = record p {
  receiver = receiver_after p.receiver low (since_edge p now);
  is_over = true;
  phase = lapsed (Waiting order);
}
edge_in (Sending s) p low now =
    if same (driven_in s) low then p else broken_at p s.order.frame now
edge_in (Breaking since) p low now = p
edge_in (Listening l) p low now = record p {
  receiver = (window_after (window_of p l) low (since_edge p now)).receiver;
  phase =
      Listening (after_window l.asks (window_after (window_of p l) low (since_edge p now)));
}

abbrev pub with_level : Port → Bool → ℕ → Port
with_level p low now = record p {
  called = now;
  edge = now;
  is_low = low;
  is_powerless = p.is_powerless && low;
}

abbrev pub edged : Port → Bool → ℕ → Port
edged p low now = with_level (edge_in p.phase p low now) low now

-- AN EDGE MAY HAVE BEEN LOST: what was read is damaged, a frame that is being sent may be
-- destroyed, and the transaction is over.
abbrev pub lost_window : Window → Bool → ℕ → Window
lost_window w low since = record {
  receiver = spoilt low;
  elapsed = passed w since;
  heard = answer.Damaged;
  has_pulse = true;
}

abbrev pub lost_in : Phase → Port → Bool → ℕ → Port
lost_in Free p low now = record p { receiver = spoilt low }
lost_in (Waiting order) p low now =
    record p { receiver = spoilt low; phase = lapsed (Waiting order) }
lost_in (Sending s) p low now = broken_at p s.order.frame now
lost_in (Breaking since) p low now = p
lost_in (Listening l) p low now = record p {
  receiver = spoilt low;
  phase = Listening (after_window l.asks (lost_window (window_of p l) low (since_edge p now)));
}

abbrev pub lost : Port → Bool → ℕ → Port
lost p low now =
    with_level (record (lost_in p.phase p low now) { is_over = true }) low now
