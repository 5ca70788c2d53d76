use Rattle.std.proofs.Common.{◌≡◌, ℕ, ◌+◌, ◌-◌, ◌≤◌, Bool, true, false, not, ◌&&◌, refl, sym, ◌∙◌, ap, subst, if◌then◌else◌, Option, Some, None, nat_le, arith}
use Rattle.std.proofs.lemmas.Bool.Decides.{nat_tests}
use Rattle.dali_frame.specs.declared.frames.Answer.{Answer}
use Rattle.dali_wire.specs.declared.receiver.{Frame.Frame, Told.Told}
use Rattle.dali_wire.specs.declared.receiver.Frame.TheVariants as read
use Rattle.dali_wire.specs.declared.window.Window.{Window}
use Rattle.dali_wire.specs.Reception.{told_of, receiver_at}
use Rattle.dali_wire.specs.Windows.{told_after, window_at}
use Rattle.dali_port.specs.Times.{settling_of}
use Rattle.dali_port.specs.Frames.{begun_at}
use Rattle.dali_port.specs.State.{Port, Phase, Sent, Free, Waiting, Sending, Breaking, Listening, window_of}
use Rattle.dali_port.specs.Ports.{until, until_in, read_at, since_edge, noted_told, noted_frame, has_no_power, is_broken_off, listened_by}
use Rattle.dali_port.specs.Calls.{is_backwards, may_begin, is_drawn, is_too_late, begun, timed_in, timed, timer_after}
use Rattle.dali_port.specs.Orders.{is_first}
use Rattle.dali_port.specs.Laws.{is_sending, Begins}
use Rattle.dali_port.proofs.Begins.{timer_begins}
use Rattle.dali_bus_laws.specs.Pins.{HasBegun}

-- A PORT BEGINS A FRAME AT REST.

told_called : (p : Port) (o : Option Told) → (noted_told p o).called ≡ p.called
told_called p None = refl
told_called p (Some told) = by_frame told.frame where
  by_frame : (f : Frame) → (noted_frame p f).called ≡ p.called
  by_frame (read.Forward frame) = refl
  by_frame (read.Backward byte) = refl
  by_frame (read.Device number) = refl
  by_frame read.Damaged = refl

either : (b : Bool) (q r : Port) (now : ℕ) → q.called ≡ now → r.called ≡ now → (if b then q else r).called ≡ now
either true q r now one other = one
either false q r now one other = other

heard_called : (heard : Option Answer) (p : Port) (asks : Bool) (w : Window) → (listened_by p asks w heard).called ≡ p.called
heard_called None p asks w = refl
heard_called (Some heard) p asks w = refl

read_called : (p : Port) (now : ℕ) → (read_at p now).called ≡ p.called
read_called p now = told_called (record p { receiver = receiver_at p.receiver (since_edge p now) }) (told_of p.receiver (since_edge p now))

until_called : (ph : Phase) (p : Port) (now : ℕ) → is_sending ph ≡ false → (until_in ph (record p { called = now }) now).called ≡ now
until_called Free p now quiet = either (has_no_power p now) _ _ now refl (read_called (record p { called = now }) now)
until_called (Waiting order) p now quiet = either (has_no_power p now) _ _ now refl (read_called (record p { called = now }) now)
until_called (Sending s) p now quiet = absurd (cc)
until_called (Breaking since) p now quiet = either (is_broken_off since now) _ _ now refl refl
until_called (Listening l) p now quiet =
    heard_called (told_after (window_of p l) (since_edge p now)) (record p { called = now }) l.asks (window_at (window_of p l) (since_edge p now))

both_true : (a b c : Bool) → (not a && (b && c)) ≡ true → (a ≡ false) × (b ≡ true)
both_true true b c is = absurd (cc)
both_true false true c is = (refl, refl)
both_true false false c is = absurd (cc)

rest_long : (least drawn at edge called : ℕ) → nat_le (least + drawn) (at - edge) ≡ true → called ≡ at → least ≤ called - edge
rest_long least drawn at edge called is same = grind (arith, nat_tests)

late_begun : (late : Bool) (q : Port) (s : Sent) (now : ℕ) → may_begin q s.order now ≡ true → q.called ≡ now
    → (if late then record q { is_over = true; phase = Free } else record q {
      is_over = false;
      first = if is_first s.order.half then Some now else None;
      phase = Sending (begun_at s.order now);
    }).phase ≡ Sending s
    → HasBegun
    (if late then record q { is_over = true; phase = Free } else record q {
      is_over = false;
      first = if is_first s.order.half then Some now else None;
      phase = Sending (begun_at s.order now);
    }) s.order
late_begun true q s now may at sends = absurd (let off : Free ≡ Sending s = sends in cc)
late_begun false q s now may at sends =
    let both = both_true q.is_low (nat_le (settling_of s.order.priority + s.order.drawn) (now - q.edge)) (is_drawn q.draws now) may in
    record {
      phase = ap (λ n. Sending (begun_at s.order n)) (sym at);
      high = both.0;
      rest = rest_long (settling_of s.order.priority) s.order.drawn now q.edge q.called both.1 at;
    }

waits_begun : (may : Bool) (q : Port) (s : Sent) (now : ℕ) → may ≡ true → may_begin q s.order now ≡ true → q.called ≡ now
    → (if may then begun q s.order now else q).phase ≡ Sending s → HasBegun (if may then begun q s.order now else q) s.order
waits_begun true q s now is may at sends = late_begun (is_too_late q s.order now) q s now may at sends
waits_begun false q s now is may at sends = absurd (cc)

quiet_not : (p : Port) (s : Sent) → is_sending p.phase ≡ false → p.phase ≡ Sending s → true ≡ false
quiet_not p s quiet is = sym (ap (λ ph. is_sending ph) is) ∙ quiet

begins_by : (back : Bool) (p : Port) (now : ℕ) (s : Sent) → is_sending p.phase ≡ false → Begins p s now
    → (if back then p else timed (until p now) now).phase ≡ Sending s → HasBegun (if back then p else timed (until p now) now) s.order
begins_by true p now s quiet b sends = absurd (let off : true ≡ false = quiet_not p s quiet sends in cc)
begins_by false p now s quiet b sends =
    subst (λ ph. (timed_in ph (until p now) now).phase ≡ Sending s → HasBegun (timed_in ph (until p now) now) s.order) (sym b.0)
    (waits_begun (may_begin (until p now) s.order now) (until p now) s now b.1 b.1 (until_called p.phase p now quiet)) sends

pub begins : (p : Port) (now : ℕ) (s : Sent) → is_sending p.phase ≡ false → (timer_after p now).phase ≡ Sending s → HasBegun (timer_after p now) s.order
begins p now s quiet sends = begins_by (is_backwards p now) p now s quiet (timer_begins p now s quiet sends) sends
