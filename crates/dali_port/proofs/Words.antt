use Rattle.std.proofs.Common.{◌≡◌, ℕ, Bool, true, false, ◌&&◌, not, Option, Some, None, refl, sym, ◌∙◌, subst, if◌then◌else◌, is_some}
use Rattle.std.specs.Prelude.{Ok, Err}
use Rattle.dali_frame.specs.declared.frames.{Forward.Forward, Answer.Answer}
use Rattle.dali_wire.specs.declared.receiver.{Told.Told, Frame.Frame}
use Rattle.dali_wire.specs.declared.receiver.Frame.TheVariants as read
use Rattle.dali_wire.specs.declared.window.Window.{Window}
use Rattle.dali_wire.specs.Reception.{receiver_at, told_of}
use Rattle.dali_wire.specs.Windows.{told_after, window_at}
use Rattle.dali_port.specs.Courses.{Course}
use Rattle.dali_port.specs.Courses as course
use Rattle.dali_port.specs.declared.orders.{Order.Order, Word.Word, Refusal.Refusal}
use Rattle.dali_port.specs.declared.orders.Refusal.TheVariants.{Backwards, Busy}
use Rattle.dali_port.specs.declared.orders.Word.TheVariants.{Lapsed, Destroyed}
use Rattle.dali_port.specs.State.{Port, Phase}
use Rattle.dali_port.specs.declared.state.Event.{Event}
use Rattle.dali_port.specs.State.{Free, Waiting, Sending, Breaking, Listening}
use Rattle.dali_port.specs.State.{Sent}
use Rattle.dali_port.specs.State.{After}
use Rattle.dali_port.specs.Frames.{driven_in, same, sent_until}
use Rattle.dali_port.specs.State.{window_of}
use Rattle.dali_port.specs.Orders.{is_later, heard_word, refusal_of}
use Rattle.dali_port.specs.Ports.{noted, noted_frame, noted_told, read_at, has_no_power, lapsed_in, is_broken_off, on_course, listened_by, since_edge}
use Rattle.dali_port.specs.Ports.{broken_at, until_in, event_in, until, event_until, lapsed_word, edge_in, edged, lost_in, lost, only}
use Rattle.dali_port.specs.Calls.{is_backwards, also, may_begin, is_too_late, timed_in, timed_word, timer_after, timer_told, is_free}
use Rattle.dali_port.specs.Calls.{same_level, edge_after, edge_told, lost_after, lost_told, refused, is_gone}
use Rattle.dali_port.specs.Calls.{send_after, send_told, send_after_by, send_told_by}
use Rattle.dali_port.specs.Laws.{is_busy, IsOneWord, TellsOne, HandsIn}
use Rattle.dali_port.specs.Runs.{Call, Sends, Times, Turns, Loses, HasOneWord}

-- EACH FRAME HAS ONE WORD, phase by phase and call by call.

-- one of two ports
phase_of_both : (b : Bool) (q r : Port) (ph : Phase) → q.phase ≡ ph → r.phase ≡ ph → (if b then q else r).phase ≡ ph
phase_of_both true q r ph one other = one
phase_of_both false q r ph one other = other

noted_keeps : (p : Port) (frame : Forward) (at : ℕ) → (noted p frame at).phase ≡ p.phase
noted_keeps p frame at = refl

frame_keeps : (p : Port) (frame : Frame) → (noted_frame p frame).phase ≡ p.phase
frame_keeps p (read.Forward frame) = noted_keeps p frame p.edge
frame_keeps p (read.Backward byte) = refl
frame_keeps p (read.Device number) = refl
frame_keeps p read.Damaged = refl

told_keeps : (p : Port) (told : Option Told) → (noted_told p told).phase ≡ p.phase
told_keeps p None = refl
told_keeps p (Some told) = frame_keeps p told.frame

pub read_keeps : (p : Port) (now : ℕ) → (read_at p now).phase ≡ p.phase
read_keeps p now =
    told_keeps (record p { receiver = receiver_at p.receiver (since_edge p now) }) (told_of p.receiver (since_edge p now))

-- a phase that stays tells nothing
stays_bool : (a : Bool) → (false ≡ a && not a) × (a && not a ≡ false)
stays_bool true = (refl, refl)
stays_bool false = (refl, refl)

stays : (ph : Phase) → IsOneWord ph ph None
stays ph = stays_bool (is_busy ph)

stays_as : (ph : Phase) (q : Port) → q.phase ≡ ph → IsOneWord ph q.phase None
stays_as ph q is = subst (λ x. IsOneWord ph x None) (sym is) (stays ph)

-- one of two ports, with its word
one_of : (b : Bool) (ph : Phase) (q r : Port) (v w : Option Word) → IsOneWord ph q.phase v → IsOneWord ph r.phase w
    → IsOneWord ph (if b then q else r).phase (if b then v else w)
one_of true ph q r v w one other = one
one_of false ph q r v w one other = other

same_word : (b : Bool) (ph : Phase) (q r : Port) → IsOneWord ph q.phase None → IsOneWord ph r.phase None → IsOneWord ph (if b then q else r).phase None
same_word true ph q r one other = one
same_word false ph q r one other = other

event_of : (b : Bool) (ph : Phase) (q r : Port) (e f : Event) → IsOneWord ph q.phase e.word → IsOneWord ph r.phase f.word
    → IsOneWord ph (if b then q else r).phase (if b then e else f).word
event_of true ph q r e f one other = one
event_of false ph q r e f one other = other

goes : (c : Course) (p : Port) (s : Sent) (now : ℕ) → IsOneWord (Sending s) (on_course p s now c).phase None
goes (course.Goes t) p s now = (refl, refl)
goes course.Destroyed p s now = (refl, refl)
goes course.Whole p s now = (refl, refl)

hears : (heard : Option Answer) (p : Port) (l : After) (w : Window)
    → IsOneWord (Listening l) (listened_by p l.asks w heard).phase (Rattle.std.specs.Option.option_map (λ h. heard_word l.asks h) heard)
hears None p l w = (refl, refl)
hears (Some heard) p l w = (refl, refl)

-- time
until_one_in : (ph : Phase) (p : Port) (now : ℕ) → p.phase ≡ ph
    → IsOneWord ph (until_in ph (record p { called = now }) now).phase (event_in ph p now).word
until_one_in Free p now is =
    event_of (has_no_power p now) Free _ _ _ _
    (subst (λ x. IsOneWord Free Free (lapsed_in x)) (sym is) (refl, refl))
    (stays_as Free (read_at (record p { called = now }) now) (read_keeps (record p { called = now }) now ∙ is))
until_one_in (Waiting order) p now is =
    event_of (has_no_power p now) (Waiting order) _ _ _ _
    (subst (λ x. IsOneWord (Waiting order) Free (lapsed_in x)) (sym is) (refl, refl))
    (stays_as (Waiting order) (read_at (record p { called = now }) now) (read_keeps (record p { called = now }) now ∙ is))
until_one_in (Sending s) p now is = goes (sent_until s p.is_low now) (record p { called = now }) s now
until_one_in (Breaking since) p now is =
    one_of (is_broken_off since now) (Breaking since) _ _ (Some Destroyed) None (refl, refl) (stays_as (Breaking since) (record p { called = now }) is)
until_one_in (Listening l) p now is =
    hears (told_after (window_of p l) (since_edge p now)) (record p { called = now }) l (window_at (window_of p l) (since_edge p now))

pub until_one : (p : Port) (now : ℕ) → IsOneWord p.phase (until p now).phase (event_until p now).word
until_one p now = until_one_in p.phase p now refl

-- a frame that begins, or lapses
begins_or_not : (may late : Bool) (order : Order) (s : Sent) (q r p : Port) → q.phase ≡ Free → r.phase ≡ Sending s → p.phase ≡ Waiting order
    → IsOneWord (Waiting order) (if may then (if late then q else r) else p).phase (if may && late then Some Lapsed else None)
begins_or_not true true order s q r p free sends waits = subst (λ x. IsOneWord (Waiting order) x (Some Lapsed)) (sym free) (refl, refl)
begins_or_not true false order s q r p free sends waits = subst (λ x. IsOneWord (Waiting order) x None) (sym sends) (refl, refl)
begins_or_not false late order s q r p free sends waits = stays_as (Waiting order) p waits

timed_one_in : (ph : Phase) (p : Port) (now : ℕ) → p.phase ≡ ph → IsOneWord ph (timed_in ph p now).phase (timed_word ph p now)
timed_one_in Free p now is = stays_as Free p is
timed_one_in (Waiting order) p now is =
    begins_or_not (may_begin p order now) (is_too_late p order now) order _ _ _ p refl refl is
timed_one_in (Sending s) p now is = stays_as (Sending s) p is
timed_one_in (Breaking since) p now is = stays_as (Breaking since) p is
timed_one_in (Listening l) p now is = stays_as (Listening l) p is

-- an edge, and one that may have been lost
lapses_or_not : (later : Bool) (order : Order) → IsOneWord (Waiting order) (if later then Free else Waiting order) (if later then Some Lapsed else None)
lapses_or_not true order = (refl, refl)
lapses_or_not false order = (refl, refl)

edge_one_in : (ph : Phase) (p : Port) (low : Bool) (now : ℕ) → p.phase ≡ ph → IsOneWord ph (edge_in ph p low now).phase (lapsed_word ph)
edge_one_in Free p low now is = stays_as Free p is
edge_one_in (Waiting order) p low now is = lapses_or_not (is_later order) order
edge_one_in (Sending s) p low now is =
    same_word (same (driven_in s) low) (Sending s) p (broken_at p s.order.frame now) (stays_as (Sending s) p is) (refl, refl)
edge_one_in (Breaking since) p low now is = stays_as (Breaking since) p is
edge_one_in (Listening l) p low now is = (refl, refl)

lost_one_in : (ph : Phase) (p : Port) (low : Bool) (now : ℕ) → p.phase ≡ ph → IsOneWord ph (lost_in ph p low now).phase (lapsed_word ph)
lost_one_in Free p low now is = stays_as Free p is
lost_one_in (Waiting order) p low now is = lapses_or_not (is_later order) order
lost_one_in (Sending s) p low now is = (refl, refl)
lost_one_in (Breaking since) p low now is = stays_as (Breaking since) p is
lost_one_in (Listening l) p low now is = (refl, refl)

-- one after the other
both_bool : (e : Event) (w : Option Word) (a b c : Bool) → (is_some e.word ≡ a && not b) → (b && not a ≡ false) → (is_some w ≡ b && not c)
    → (c && not b ≡ false) → (is_some (also e w).word ≡ a && not c) × (c && not a ≡ false)
both_bool e None true true true h1 h2 h3 h4 = (h1, refl)
both_bool e None true true false h1 h2 h3 h4 = absurd (cc)
both_bool e None true false true h1 h2 h3 h4 = absurd (cc)
both_bool e None true false false h1 h2 h3 h4 = (h1, refl)
both_bool e None false true c h1 h2 h3 h4 = absurd (cc)
both_bool e None false false true h1 h2 h3 h4 = absurd (cc)
both_bool e None false false false h1 h2 h3 h4 = (h1, refl)
both_bool e (Some w) true true true h1 h2 h3 h4 = absurd (cc)
both_bool e (Some w) true true false h1 h2 h3 h4 = (refl, refl)
both_bool e (Some w) true false c h1 h2 h3 h4 = absurd (cc)
both_bool e (Some w) false true c h1 h2 h3 h4 = absurd (cc)
both_bool e (Some w) false false c h1 h2 h3 h4 = absurd (cc)

both : (one two three : Phase) (e : Event) (w : Option Word) → IsOneWord one two e.word → IsOneWord two three w → IsOneWord one three (also e w).word
both one two three e w first second =
    both_bool e w (is_busy one) (is_busy two) (is_busy three) first.0 first.1 second.0 second.1

-- a call in time, or refused
in_time : (b : Bool) (p q : Port) (r : Refusal) (e : Event) → IsOneWord p.phase q.phase e.word
    → TellsOne p (if b then p else q) (if b then Err r else Ok e)
in_time true p q r e one = refl
in_time false p q r e one = one

one_edge : (b lost : Bool) (p x y : Port) (r : Refusal) (e f : Event) → IsOneWord p.phase x.phase e.word → IsOneWord p.phase y.phase f.word
    → TellsOne p (if b then p else (if lost then x else y)) (if b then Err r else (if lost then Ok e else Ok f))
one_edge true lost p x y r e f one other = refl
one_edge false true p x y r e f one other = one
one_edge false false p x y r e f one other = other

pub timer_one : (p : Port) (now : ℕ) → TellsOne p (timer_after p now) (timer_told p now)
timer_one p now =
    in_time (is_backwards p now) p _ _ _
    (both p.phase (until p now).phase _ (event_until p now) _ (until_one p now) (timed_one_in (until p now).phase (until p now) now refl))

pub lost_one : (p : Port) (low : Bool) (now : ℕ) → TellsOne p (lost_after p low now) (lost_told p low now)
lost_one p low now = in_time (is_backwards p now) p (lost p low now) _ (only (lapsed_word p.phase)) (lost_one_in p.phase p low now refl)

pub edge_one : (p : Port) (low : Bool) (now : ℕ) → TellsOne p (edge_after p low now) (edge_told p low now)
edge_one p low now =
    one_edge (is_backwards p now) (same_level p.is_low low) p (lost p low now) (edged (until p now) low now) _ (only (lapsed_word p.phase)) _
    (lost_one_in p.phase p low now refl)
    (both p.phase (until p now).phase _ (event_until p now) _ (until_one p now) (edge_one_in (until p now).phase (until p now) low now refl))

-- a frame is handed in
free_is : (ph : Phase) → is_free ph ≡ true → ph ≡ Free
free_is Free is = refl
free_is (Waiting order) is = absurd (cc)
free_is (Sending s) is = absurd (cc)
free_is (Breaking since) is = absurd (cc)
free_is (Listening l) is = absurd (cc)

-- none comes of nothing, so none was told
nothing : (b : Bool) → not b && not false ≡ false → b ≡ true
nothing true is = refl
nothing false is = absurd (cc)

taken_one : (gone : Bool) (order : Order) (q : Port) (e : Event) → is_some e.word ≡ false → is_free q.phase ≡ true
    → is_some (also e (if gone then Some Lapsed else None)).word
    ≡ is_free (if gone then record q { is_over = true } else record q { phase = Waiting order }).phase
taken_one true order q e none free = sym free
taken_one false order q e none free = none

not_refused : (back free : Bool) (o : Option Refusal) → (if back then Some Backwards else (if free then o else Some Busy)) ≡ None → free ≡ true
not_refused true free o is = absurd (cc)
not_refused false true o is = refl
not_refused false false o is = absurd (cc)

send_by : (o : Option Refusal) (p : Port) (order : Order) (now : ℕ) → refused p order now ≡ o
    → HandsIn p (send_after_by o p order now) (send_told_by o p order now)
send_by None p order now is =
    let free : is_free p.phase ≡ true = not_refused (is_backwards p now) (is_free p.phase) (refusal_of order) is in
    let was : p.phase ≡ Free = free_is p.phase free in
    let one : IsOneWord Free (until p now).phase (event_until p now).word =
    subst (λ x. IsOneWord x (until p now).phase (event_until p now).word) was (until_one p now) in
    (free, taken_one (is_gone (until p now) order) order (until p now) (event_until p now) one.0 (nothing (is_free (until p now).phase) one.1))
send_by (Some refusal) p order now is = refl

pub send_one : (p : Port) (order : Order) (now : ℕ) → HandsIn p (send_after p order now) (send_told p order now)
send_one p order now = send_by (refused p order now) p order now refl

pub was_free : (p : Port) (order : Order) (now : ℕ) → refused p order now ≡ None → p.phase ≡ Free
was_free p order now is = free_is p.phase (not_refused (is_backwards p now) (is_free p.phase) (refusal_of order) is)

pub one_word : (p : Port) (c : Call) → HasOneWord p c
one_word p (Sends order now) = send_one p order now
one_word p (Times now) = timer_one p now
one_word p (Turns low now) = edge_one p low now
one_word p (Loses low now) = lost_one p low now

-- one is not taken while another is under way
pub send_keeps : (back free : Bool) (o : Option Refusal) (p : Port) (order : Order) (now : ℕ) → not free ≡ true
    → send_after_by (if back then Some Backwards else (if free then o else Some Busy)) p order now ≡ p
send_keeps true free o p order now busy = refl
send_keeps false true o p order now busy = absurd (cc)
send_keeps false false o p order now busy = refl
