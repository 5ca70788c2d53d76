use Rattle.std.specs.Prelude.{ℕ, ◌+◌, is_some, Bool, true, false, List, [], ◌∷◌}
use Rattle.std.specs.Prelude.{Option, Some, None, Ok, Err}
use Rattle.std.specs.Prelude.{if◌then◌else◌}
use Rattle.dali_frame.specs.declared.frames.Forward.{Forward}
use Rattle.dali_wire.specs.declared.receiver.Frame.{Frame as Told-frame}
use Rattle.dali_wire.specs.declared.receiver.Frame.TheVariants as read
use Rattle.dali_port.specs.declared.orders.Order.{Order}
use Rattle.dali_port.specs.State.{Phase, Sent}
use Rattle.dali_port.specs.State.{Free, Waiting, Sending, Breaking}
use Rattle.dali_port.specs.State.{Listening}
use Rattle.dali_port.specs.State.{Port}
use Rattle.dali_port.specs.declared.state.Read.{Read}
use Rattle.dali_port.specs.declared.state.Read.TheVariants.{Frame, NoPower}
use Rattle.dali_port.specs.Orders.{is_randomise}
use Rattle.dali_port.specs.Ports.{follows}
use Rattle.dali_port.specs.Calls.{Answered, send_after, send_told, timer_after, timer_told}
use Rattle.dali_port.specs.Calls.{edge_after, edge_told, lost_after, lost_told}
use Rattle.dali_port.specs.Laws.{is_sending, is_busy, TellsOne, HandsIn, Begins}

-- A RUN: calls of a port, one after the other, each with its time
pub data Call : Type 0 where
  Sends : Order → ℕ → Call
  Times : ℕ → Call
  Turns : Bool → ℕ → Call
  Loses : Bool → ℕ → Call

abbrev pub time_of : Call → ℕ
time_of (Sends order now) = now
time_of (Times now) = now
time_of (Turns low now) = now
time_of (Loses low now) = now

abbrev pub after : Port → Call → Port
after p (Sends order now) = send_after p order now
after p (Times now) = timer_after p now
after p (Turns low now) = edge_after p low now
after p (Loses low now) = lost_after p low now

abbrev pub told_by : Port → Call → Answered
told_by p (Sends order now) = send_told p order now
told_by p (Times now) = timer_told p now
told_by p (Turns low now) = edge_told p low now
told_by p (Loses low now) = lost_told p low now

abbrev pub after_all : Port → List Call → Port
after_all p [] = p
after_all p (c ∷ calls) = after_all (after p c) calls

-- ONE WORD FOR EACH FRAME, and the timer alone begins one, call by call
abbrev pub HasOneWord : Port → Call → Type 0
HasOneWord p (Sends order now) = HandsIn p (send_after p order now) (send_told p order now)
HasOneWord p (Times now) = TellsOne p (timer_after p now) (timer_told p now)
HasOneWord p (Turns low now) = TellsOne p (edge_after p low now) (edge_told p low now)
HasOneWord p (Loses low now) = TellsOne p (lost_after p low now) (lost_told p low now)

abbrev pub BeginsBy : Port → Sent → Call → Type 0
BeginsBy p s (Sends order now) = ⊥
BeginsBy p s (Times now) = Begins p s now
BeginsBy p s (Turns low now) = ⊥
BeginsBy p s (Loses low now) = ⊥

-- WHICH FRAME ENDS IN A CALL: one of others that it tells as read, and one of the port that is sent
-- no more, whole or destroyed
abbrev pub forward_in : Told-frame → Option Forward
forward_in (read.Forward frame) = Some frame
forward_in (read.Backward byte) = None
forward_in (read.Device number) = None
forward_in read.Damaged = None

abbrev pub frame_in : Option Read → Option Forward
frame_in None = None
frame_in (Some (Frame told)) = forward_in told.frame
frame_in (Some NoPower) = None

abbrev pub read_in : Answered → Option Forward
read_in (Ok event) = frame_in event.read
read_in (Err refusal) = None

abbrev pub sent_in : Phase → Bool → Option Forward
sent_in Free goes_on = None
sent_in (Waiting order) goes_on = None
sent_in (Sending s) true = None
sent_in (Sending s) false = Some s.order.frame
sent_in (Breaking since) goes_on = None
sent_in (Listening l) goes_on = None

-- WHEN THE LAST RANDOMISE ENDED, and the second one of the last pair of them
abbrev pub Marks : Type 0
Marks = Option ℕ × Option ℕ

abbrev pub marked : Marks → Option Forward → ℕ → Marks
marked m None at = m
marked m (Some frame) at =
    if is_randomise frame then (Some at, if follows m.0 at then Some at else m.1) else m

-- after a call: what others sent ended at the last edge, what the port sent at the call
abbrev pub marks_after : Port → Marks → Call → Marks
marks_after p m c =
    marked (marked m (read_in (told_by p c)) p.edge)
    (sent_in p.phase (is_sending (after p c).phase)) (time_of c)

abbrev pub marks_after_all : Port → Marks → List Call → Marks
marks_after_all p m [] = m
marks_after_all p m (c ∷ calls) = marks_after_all (after p c) (marks_after p m c) calls

-- those that a port knows of
abbrev pub marks_of : Port → Marks
marks_of p = (p.randomise, p.draws)

-- HOW MANY WORDS A RUN TOLD, and how many frames it took
abbrev pub one_if : Bool → ℕ
one_if true = 1
one_if false = 0

abbrev pub word_in : Answered → ℕ
word_in (Ok event) = one_if (is_some event.word)
word_in (Err refusal) = 0

abbrev pub words : Port → List Call → ℕ
words p [] = 0
words p (c ∷ calls) = word_in (told_by p c) + words (after p c) calls

abbrev pub done_in : Answered → ℕ
done_in (Ok event) = 1
done_in (Err refusal) = 0

abbrev pub taken_by : Port → Call → ℕ
taken_by p (Sends order now) = done_in (send_told p order now)
taken_by p (Times now) = 0
taken_by p (Turns low now) = 0
taken_by p (Loses low now) = 0

abbrev pub frames : Port → List Call → ℕ
frames p [] = 0
frames p (c ∷ calls) = taken_by p c + frames (after p c) calls

-- whether one is under way
abbrev pub under_way : Port → ℕ
under_way p = one_if (is_busy p.phase)
