use Rattle.std.proofs.Common.{◌≡◌, ℕ, ◌+◌, ◌≤◌, Bool, true, false, ◌&&◌, not, List, [], ◌∷◌, Option, Some, None, refl, sym, ◌∙◌, ap, subst, if◌then◌else◌}
use Rattle.std.proofs.Common.{arith}
use Rattle.std.proofs.lemmas.Bool.Decides.{nat_tests}
use Rattle.dali_frame.specs.declared.frames.Answer.{Answer}
use Rattle.dali_wire.specs.declared.receiver.{Frame.Frame, Told.Told}
use Rattle.dali_wire.specs.declared.receiver.Frame.TheVariants as read
use Rattle.dali_wire.specs.declared.window.Window.{Window}
use Rattle.dali_wire.specs.Reception.{told_of, receiver_at}
use Rattle.dali_wire.specs.Windows.{told_after, window_at}
use Rattle.dali_port.specs.Courses.{Course}
use Rattle.dali_port.specs.Courses as course
use Rattle.dali_port.specs.declared.orders.{Order.Order, Refusal.Refusal}
use Rattle.dali_port.specs.Orders.{is_first, is_second}
use Rattle.dali_port.specs.Frames.{sent_until, same, driven_in, begun_at}
use Rattle.dali_port.specs.State.{Port, Phase, Sent, Free, Waiting, Sending, Breaking, Listening, window_of}
use Rattle.dali_port.specs.Ports.{until, until_in, read_at, since_edge, noted_told, noted_frame, has_no_power, is_broken_off, listened_by, on_course}
use Rattle.dali_port.specs.Ports.{edge_in, edged, lost, lost_in, broken_at}
use Rattle.dali_port.specs.Calls.{is_backwards, timed_in, timed, timer_after, may_begin, is_too_late, is_in_time, begun, same_level, is_gone}
use Rattle.dali_port.specs.Calls.{refused, send_after_by, edge_after, lost_after, send_after}
use Rattle.dali_port.specs.Laws.{is_sending, Begins}
use Rattle.dali_port.specs.Runs.{Call, Sends, Times, Turns, Loses, after, after_all}
use Rattle.dali_port.proofs.Begins.{timer_begins, until_still, edge_quiet, lost_quiet, send_quiet}
use Rattle.dali_bus_laws.specs.Pairs.{is_first_in, first_after, first_after_all}

-- A PAIR IS IN TIME: a port knows when the first frame of a pair began, and begins the second one only if it ends in time.

told_first : (p : Port) (o : Option Told) → (noted_told p o).first ≡ p.first
told_first p None = refl
told_first p (Some told) = by_frame told.frame where
  by_frame : (f : Frame) → (noted_frame p f).first ≡ p.first
  by_frame (read.Forward frame) = refl
  by_frame (read.Backward byte) = refl
  by_frame (read.Device number) = refl
  by_frame read.Damaged = refl

either : (b : Bool) (q r : Port) (first : Option ℕ) → q.first ≡ first → r.first ≡ first → (if b then q else r).first ≡ first
either true q r first one other = one
either false q r first one other = other

heard_first : (heard : Option Answer) (p : Port) (asks : Bool) (w : Window) → (listened_by p asks w heard).first ≡ p.first
heard_first None p asks w = refl
heard_first (Some heard) p asks w = refl

read_first : (p : Port) (now : ℕ) → (read_at p now).first ≡ p.first
read_first p now = told_first (record p { receiver = receiver_at p.receiver (since_edge p now) }) (told_of p.receiver (since_edge p now))

course_first : (c : Course) (p : Port) (s : Sent) (now : ℕ) → (on_course p s now c).first ≡ p.first
course_first (course.Goes t) p s now = refl
course_first course.Destroyed p s now = refl
course_first course.Whole p s now = refl

until_first : (ph : Phase) (p : Port) (now : ℕ) → (until_in ph (record p { called = now }) now).first ≡ p.first
until_first Free p now = either (has_no_power p now) _ _ p.first refl (read_first (record p { called = now }) now)
until_first (Waiting order) p now = either (has_no_power p now) _ _ p.first refl (read_first (record p { called = now }) now)
until_first (Sending s) p now = course_first (sent_until s p.is_low now) (record p { called = now }) s now
until_first (Breaking since) p now = either (is_broken_off since now) _ _ p.first refl refl
until_first (Listening l) p now =
    heard_first (told_after (window_of p l) (since_edge p now)) (record p { called = now }) l.asks (window_at (window_of p l) (since_edge p now))

edge_first : (ph : Phase) (p : Port) (low : Bool) (now : ℕ) → (edge_in ph p low now).first ≡ p.first
edge_first Free p low now = refl
edge_first (Waiting order) p low now = refl
edge_first (Sending s) p low now = either (same (driven_in s) low) p (broken_at p s.order.frame now) p.first refl refl
edge_first (Breaking since) p low now = refl
edge_first (Listening l) p low now = refl

lost_first : (ph : Phase) (p : Port) (low : Bool) (now : ℕ) → (lost_in ph p low now).first ≡ p.first
lost_first Free p low now = refl
lost_first (Waiting order) p low now = refl
lost_first (Sending s) p low now = refl
lost_first (Breaking since) p low now = refl
lost_first (Listening l) p low now = refl

edged_first : (p : Port) (low : Bool) (now : ℕ) → (edge_after p low now).first ≡ p.first
edged_first p low now =
    either (is_backwards p now) p _ p.first refl
    (either (same_level p.is_low low) (lost p low now) (edged (until p now) low now) p.first (lost_first p.phase p low now)
    (edge_first (until p now).phase (until p now) low now ∙ until_first p.phase p now))

sent_first : (o : Option Refusal) (p : Port) (order : Order) (now : ℕ) → (send_after_by o p order now).first ≡ p.first
sent_first None p order now = either (is_gone (until p now) order) _ _ p.first (until_first p.phase p now) (until_first p.phase p now)
sent_first (Some refusal) p order now = refl

-- what does not begin a frame leaves the mark
quiet_mark : (a b : Bool) (m n first : Option ℕ) → (a ≡ false → b ≡ false) → m ≡ first → m ≡ (if not a && b then n else first)
quiet_mark true b m n first quiet is = is
quiet_mark false true m n first quiet is = absurd (let off : true ≡ false = quiet refl in cc)
quiet_mark false false m n first quiet is = is

-- the timer
timed_mark : (may late was : Bool) (q : Port) (order : Order) (now : ℕ) → was ≡ false → q.phase ≡ Waiting order
    → (if may then (if late then record q { is_over = true; phase = Free } else record q {
      is_over = false;
      first = if is_first order.half then Some now else None;
      phase = Sending (begun_at order now);
    }) else q).first
    ≡ (if not was && is_sending (if may then (if late then record q { is_over = true; phase = Free } else record q {
      is_over = false;
      first = if is_first order.half then Some now else None;
      phase = Sending (begun_at order now);
    }) else q).phase then (if is_first_in (if may then (if late then record q { is_over = true; phase = Free } else record q {
      is_over = false;
      first = if is_first order.half then Some now else None;
      phase = Sending (begun_at order now);
    }) else q).phase then Some now else None) else q.first)
timed_mark may late true q order now is waits = absurd (cc)
timed_mark true true false q order now is waits = refl
timed_mark true false false q order now is waits = refl
timed_mark false late false q order now is waits =
    subst (λ ph. q.first ≡ (if is_sending ph then (if is_first_in ph then Some now else None) else q.first)) (sym waits) refl

quiet_phase : (ph : Phase) (q : Port) (now : ℕ) → q.phase ≡ ph → is_sending ph ≡ false
    → (timed_in ph q now).first
    ≡ (if is_sending (timed_in ph q now).phase then (if is_first_in (timed_in ph q now).phase then Some now else None) else q.first)
quiet_phase Free q now is quiet =
    subst (λ ph. q.first ≡ (if is_sending ph then (if is_first_in ph then Some now else None) else q.first)) (sym is) refl
quiet_phase (Waiting order) q now is quiet = timed_mark (may_begin q order now) (is_too_late q order now) false q order now refl is
quiet_phase (Sending s) q now is quiet = absurd (cc)
quiet_phase (Breaking since) q now is quiet =
    subst (λ ph. q.first ≡ (if is_sending ph then (if is_first_in ph then Some now else None) else q.first)) (sym is) refl
quiet_phase (Listening l) q now is quiet =
    subst (λ ph. q.first ≡ (if is_sending ph then (if is_first_in ph then Some now else None) else q.first)) (sym is) refl

course_timed : (c : Course) (p : Port) (s : Sent) (now : ℕ) → (timed (on_course p s now c) now).first ≡ p.first
course_timed (course.Goes t) p s now = refl
course_timed course.Destroyed p s now = refl
course_timed course.Whole p s now = refl

sending_timed : (ph : Phase) (p : Port) (now : ℕ) → is_sending ph ≡ true → (timed (until_in ph (record p { called = now }) now) now).first ≡ p.first
sending_timed Free p now is = absurd (cc)
sending_timed (Waiting order) p now is = absurd (cc)
sending_timed (Sending s) p now is = course_timed (sent_until s p.is_low now) (record p { called = now }) s now
sending_timed (Breaking since) p now is = absurd (cc)
sending_timed (Listening l) p now is = absurd (cc)

timer_by : (sending back : Bool) (p : Port) (now : ℕ) → is_sending p.phase ≡ sending → is_backwards p now ≡ back
    → (if back then p else timed (until p now) now).first
    ≡ (if not sending && is_sending (if back then p else timed (until p now) now).phase
    then (if is_first_in (if back then p else timed (until p now) now).phase then Some now else None) else p.first)
timer_by true true p now is back = refl
timer_by true false p now is back = sending_timed p.phase p now is
timer_by false true p now is back =
    subst (λ b. p.first ≡ (if b then (if is_first_in p.phase then Some now else None) else p.first)) (sym is) refl
timer_by false false p now is back =
    quiet_phase (until p now).phase (until p now) now refl (until_still p.phase p now refl is)
    ∙ ap (λ f. if is_sending (timed (until p now) now).phase then (if is_first_in (timed (until p now) now).phase then Some now else None) else f)
    (until_first p.phase p now)

each_mark : (c : Call) (p : Port) → (after p c).first ≡ first_after p p.first c
each_mark (Sends order now) p =
    quiet_mark (is_sending p.phase) (is_sending (send_after p order now).phase) (send_after p order now).first
    (if is_first_in (send_after p order now).phase then Some now else None) p.first (λ q. send_quiet p order now q)
    (sent_first (refused p order now) p order now)
each_mark (Times now) p = timer_by (is_sending p.phase) (is_backwards p now) p now refl refl
each_mark (Turns low now) p =
    quiet_mark (is_sending p.phase) (is_sending (edge_after p low now).phase) (edge_after p low now).first
    (if is_first_in (edge_after p low now).phase then Some now else None) p.first (λ q. edge_quiet p low now q) (edged_first p low now)
each_mark (Loses low now) p =
    quiet_mark (is_sending p.phase) (is_sending (lost_after p low now).phase) (lost_after p low now).first
    (if is_first_in (lost_after p low now).phase then Some now else None) p.first (λ q. lost_quiet p low now q)
    (either (is_backwards p now) p (lost p low now) p.first refl (lost_first p.phase p low now))

marks : (calls : List Call) (p : Port) → (after_all p calls).first ≡ first_after_all p p.first calls
marks [] p = refl
marks (c ∷ calls) p = marks calls (after p c) ∙ ap (λ f. first_after_all (after p c) f calls) (each_mark c p)

-- the second frame
in_time : (first : Option ℕ) (now : ℕ) → is_in_time first now ≡ true → (t : ℕ) × (first ≡ Some t) × (now + 14178 ≤ t + 100000)
in_time None now is = absurd (cc)
in_time (Some t) now is = (t, refl, within) where
  within : now + 14178 ≤ t + 100000
  within = grind (arith, nat_tests)

late_not : (late : Bool) (q : Port) (s : Sent) (now : ℕ)
    → (if late then record q { is_over = true; phase = Free } else record q {
      is_over = false;
      first = if is_first s.order.half then Some now else None;
      phase = Sending (begun_at s.order now);
    }).phase ≡ Sending s → late ≡ false
late_not true q s now is = absurd (let off : Free ≡ Sending s = is in cc)
late_not false q s now is = refl

not_too_late : (second near : Bool) → (second && not near) ≡ false → second ≡ true → near ≡ true
not_too_late true true is so = refl
not_too_late true false is so = absurd (cc)
not_too_late false near is so = absurd (cc)

may_so : (may : Bool) (q : Port) (s : Sent) (now : ℕ) → may ≡ true → (if may then begun q s.order now else q).phase ≡ Sending s
    → is_too_late q s.order now ≡ false
may_so true q s now is sends = late_not (is_too_late q s.order now) q s now sends
may_so false q s now is sends = absurd (cc)

second_by : (back : Bool) (p : Port) (now : ℕ) (s : Sent) → is_sending p.phase ≡ false → Begins p s now
    → (if back then p else timed (until p now) now).phase ≡ Sending s → is_too_late (until p now) s.order now ≡ false
second_by true p now s quiet b sends =
    absurd (let off : true ≡ false = sym (ap (λ ph. is_sending ph) sends) ∙ quiet in cc)
second_by false p now s quiet b sends =
    may_so (may_begin (until p now) s.order now) (until p now) s now b.1
    (subst (λ ph. (timed_in ph (until p now) now).phase ≡ Sending s) b.0 sends)

pub pair_in_time : (p : Port) (calls : List Call) (now : ℕ) (s : Sent) → is_sending (after_all p calls).phase ≡ false
    → (timer_after (after_all p calls) now).phase ≡ Sending s → is_second s.order.half ≡ true
    → (t : ℕ) × (first_after_all p p.first calls ≡ Some t) × (now + 14178 ≤ t + 100000)
pair_in_time p calls now s quiet sends second =
    let q = after_all p calls in
    let late = second_by (is_backwards q now) q now s quiet (timer_begins q now s quiet sends) sends in
    let it = in_time (until q now).first now
    (not_too_late (is_second s.order.half) (is_in_time (until q now).first now) late second) in
    (it.0, sym (marks calls p) ∙ (sym (until_first q.phase q now) ∙ it.1), it.2)
