use Rattle.std.proofs.Common.{◌≡◌, ℕ, Bool, true, false, ◌&&◌, List, [], ◌∷◌, Option, Some, None, refl, sym, ◌∙◌, ap, subst, if◌then◌else◌}
use Rattle.std.specs.Option.{option_map}
use Rattle.dali_frame.specs.declared.frames.{Forward.Forward, Answer.Answer}
use Rattle.dali_wire.specs.declared.receiver.{Frame.Frame as Told-frame, Told.Told}
use Rattle.dali_wire.specs.declared.receiver.Frame.TheVariants as read
use Rattle.dali_wire.specs.declared.window.Window.{Window}
use Rattle.dali_wire.specs.Reception.{told_of, receiver_at}
use Rattle.dali_wire.specs.Windows.{told_after, window_at}
use Rattle.dali_port.specs.Courses.{Course}
use Rattle.dali_port.specs.Courses as course
use Rattle.std.specs.Prelude.{Ok, Err}
use Rattle.dali_port.specs.declared.orders.{Order.Order, Refusal.Refusal, Word.Word}
use Rattle.dali_port.specs.State.{Port, Phase}
use Rattle.dali_port.specs.declared.state.Event.{Event}
use Rattle.dali_port.specs.State.{Free, Waiting, Sending, Breaking, Listening}
use Rattle.dali_port.specs.declared.state.Read.TheVariants.{Frame, NoPower}
use Rattle.dali_port.specs.State.{Sent}
use Rattle.dali_port.specs.State.{window_of}
use Rattle.dali_port.specs.Orders.{is_randomise}
use Rattle.dali_port.specs.Frames.{driven_in, same, sent_until}
use Rattle.dali_port.specs.Ports.{follows, noted, noted_frame, noted_told, has_no_power, is_broken_off, broken_at, on_course, listened_by, since_edge}
use Rattle.dali_port.specs.Ports.{until_in, event_in, until, event_until, edge_in, edged, lost_in, lost}
use Rattle.dali_port.specs.Calls.{is_backwards, may_begin, is_too_late, is_drawn, timed_in, timed, timer_after, same_level}
use Rattle.dali_port.specs.Calls.{refused, is_gone, taken, taken_word, send_after_by, send_told_by, also}
use Rattle.dali_port.specs.Laws.{is_sending}
use Rattle.dali_port.specs.Runs.{Call, Sends, Times, Turns, Loses, after, after_all, read_in, frame_in, forward_in, sent_in}
use Rattle.dali_port.specs.Runs.{Marks, marked, marks_after, marks_after_all, marks_of}
use Rattle.dali_port.proofs.Words.{was_free}
use Rattle.dali_port.proofs.Begins.{until_still, timer_begins}
use Rattle.dali_port.proofs.Course.{course_goes}

-- WHAT A PORT KNOWS OF RANDOMISE is what it sent and read.

noted_by : (b follow : Bool) (at : ℕ) (m : Marks)
    → (if b then Some at else m.0, if b && follow then Some at else m.1) ≡ (if b then (Some at, if follow then Some at else m.1) else m)
noted_by true follow at m = refl
noted_by false follow at m = refl

noted_marks : (p : Port) (f : Forward) (at : ℕ) → marks_of (noted p f at) ≡ marked (marks_of p) (Some f) at
noted_marks p f at = noted_by (is_randomise f) (follows p.randomise at) at (marks_of p)

frame_marks : (p : Port) (frame : Told-frame) → marks_of (noted_frame p frame) ≡ marked (marks_of p) (forward_in frame) p.edge
frame_marks p (read.Forward f) = noted_marks p f p.edge
frame_marks p (read.Backward byte) = refl
frame_marks p (read.Device number) = refl
frame_marks p read.Damaged = refl

told_marks : (p : Port) (told : Option Told) → marks_of (noted_told p told) ≡ marked (marks_of p) (frame_in (option_map (λ t. Frame t) told)) p.edge
told_marks p None = refl
told_marks p (Some told) = frame_marks p told.frame

keep_if : (b : Bool) (q r : Port) (m : Marks) → marks_of q ≡ m → marks_of r ≡ m → marks_of (if b then q else r) ≡ m
keep_if true q r m one other = one
keep_if false q r m one other = other

no_power : (b : Bool) (m : Marks) (at : ℕ) → m ≡ marked m (frame_in (if b then None else Some NoPower)) at
no_power true m at = refl
no_power false m at = refl

rest_marks : (b powerless : Bool) (p x : Port) (e : Event) (told : Option Told) → marks_of x ≡ marks_of p
    → e.read ≡ (if powerless then None else Some NoPower)
    → marks_of (if b then x else noted_told p told)
    ≡ marked (marks_of p) (frame_in (if b then e else record { word = None; read = option_map (λ t. Frame t) told }).read) p.edge
rest_marks true powerless p x e told kept is =
    kept ∙ no_power powerless (marks_of p) p.edge ∙ ap (λ r. marked (marks_of p) (frame_in r) p.edge) (sym is)
rest_marks false powerless p x e told kept is = told_marks p told

course_marks : (c : Course) (p : Port) (s : Sent) (now : ℕ)
    → marks_of (on_course p s now c) ≡ marked (marks_of p) (sent_in (Sending s) (is_sending (on_course p s now c).phase)) now
course_marks (course.Goes t) p s now = refl
course_marks course.Destroyed p s now = noted_marks p s.order.frame now
course_marks course.Whole p s now = noted_marks p s.order.frame now

hears_marks : (heard : Option Answer) (p : Port) (asks : Bool) (w : Window) → marks_of (listened_by p asks w heard) ≡ marks_of p
hears_marks None p asks w = refl
hears_marks (Some heard) p asks w = refl

abbrev Until : Phase → Port → ℕ → Type 0
Until ph p now =
    marks_of (until_in ph (record p { called = now }) now)
    ≡ marked (marked (marks_of p) (frame_in (event_in ph p now).read) p.edge) (sent_in ph (is_sending (until_in ph (record p { called = now }) now).phase)) now

until_marks : (ph : Phase) (p : Port) (now : ℕ) → Until ph p now
until_marks Free p now =
    rest_marks (has_no_power p now) p.is_powerless (record p { called = now; receiver = receiver_at p.receiver (since_edge p now) }) _ _
    (told_of p.receiver (since_edge p now)) refl refl
until_marks (Waiting order) p now =
    rest_marks (has_no_power p now) p.is_powerless (record p { called = now; receiver = receiver_at p.receiver (since_edge p now) }) _ _
    (told_of p.receiver (since_edge p now)) refl refl
until_marks (Sending s) p now = course_marks (sent_until s p.is_low now) (record p { called = now }) s now
until_marks (Breaking since) p now = keep_if (is_broken_off since now) _ _ (marks_of p) refl refl
until_marks (Listening l) p now =
    hears_marks (told_after (window_of p l) (since_edge p now)) (record p { called = now }) l.asks (window_at (window_of p l) (since_edge p now))

-- the timer begins a frame, or none
timed_marks : (ph : Phase) (q : Port) (now : ℕ) → marks_of (timed_in ph q now) ≡ marks_of q
timed_marks Free q now = refl
timed_marks (Waiting order) q now =
    keep_if (may_begin q order now) _ q (marks_of q) (keep_if (is_too_late q order now) _ _ (marks_of q) refl refl) refl
timed_marks (Sending s) q now = refl
timed_marks (Breaking since) q now = refl
timed_marks (Listening l) q now = refl

timed_course : (c : Course) (q : Port) (s : Sent) (now : ℕ)
    → sent_in (Sending s) (is_sending (on_course q s now c).phase) ≡ sent_in (Sending s) (is_sending (timed (on_course q s now c) now).phase)
timed_course (course.Goes t) q s now = refl
timed_course course.Destroyed q s now = refl
timed_course course.Whole q s now = refl

timed_sent : (ph : Phase) (p : Port) (now : ℕ)
    → sent_in ph (is_sending (until_in ph (record p { called = now }) now).phase)
    ≡ sent_in ph (is_sending (timed (until_in ph (record p { called = now }) now) now).phase)
timed_sent Free p now = refl
timed_sent (Waiting order) p now = refl
timed_sent (Sending s) p now = timed_course (sent_until s p.is_low now) (record p { called = now }) s now
timed_sent (Breaking since) p now = refl
timed_sent (Listening l) p now = refl

stays : (ph : Phase) → sent_in ph (is_sending ph) ≡ None
stays Free = refl
stays (Waiting order) = refl
stays (Sending s) = refl
stays (Breaking since) = refl
stays (Listening l) = refl

also_read : (e : Event) (w : Option Word) → (also e w).read ≡ e.read
also_read e None = refl
also_read e (Some w) = refl

-- a refused call
none_ends : (p : Port) (now : ℕ) → marks_of p ≡ marked (marks_of p) (sent_in p.phase (is_sending p.phase)) now
none_ends p now = ap (λ f. marked (marks_of p) f now) (sym (stays p.phase))

timer_by : (b : Bool) (p : Port) (now : ℕ) (r : Refusal) (w : Option Word)
    → marks_of (if b then p else timed (until p now) now)
    ≡ marked (marked (marks_of p) (read_in (if b then Err r else Ok (also (event_until p now) w))) p.edge)
    (sent_in p.phase (is_sending (if b then p else timed (until p now) now).phase)) now
timer_by true p now r w = none_ends p now
timer_by false p now r w =
    timed_marks (until p now).phase (until p now) now ∙ until_marks p.phase p now
    ∙ ap (λ f. marked (marked (marks_of p) (frame_in (event_until p now).read) p.edge) f now) (timed_sent p.phase p now)
    ∙ ap (λ x. marked (marked (marks_of p) (frame_in x) p.edge) (sent_in p.phase (is_sending (timed (until p now) now).phase)) now)
    (sym (also_read (event_until p now) w))

-- an edge may have been lost
lost_by : (ph : Phase) (p : Port) (low : Bool) (now : ℕ)
    → marks_of (lost_in ph p low now) ≡ marked (marks_of p) (sent_in ph (is_sending (lost_in ph p low now).phase)) now
lost_by Free p low now = refl
lost_by (Waiting order) p low now = refl
lost_by (Sending s) p low now = noted_marks p s.order.frame now
lost_by (Breaking since) p low now = refl
lost_by (Listening l) p low now = refl

lost_if : (b : Bool) (p : Port) (low : Bool) (now : ℕ) (r : Refusal) (e : Event) → e.read ≡ None
    → marks_of (if b then p else lost p low now)
    ≡ marked (marked (marks_of p) (read_in (if b then Err r else Ok e)) p.edge)
    (sent_in p.phase (is_sending (if b then p else lost p low now).phase)) now
lost_if true p low now r e none = none_ends p now
lost_if false p low now r e none =
    lost_by p.phase p low now
    ∙ ap (λ x. marked (marked (marks_of p) (frame_in x) p.edge) (sent_in p.phase (is_sending (lost p low now).phase)) now) (sym none)

-- an edge
led : (b : Bool) (q : Port) (s t : Sent) (now : ℕ) → t.order ≡ s.order
    → marks_of (if b then record q { phase = Sending t } else broken_at (record q { phase = Sending t }) t.order.frame now)
    ≡ marked (marks_of q)
    (sent_in (Sending s) (is_sending (if b then record q { phase = Sending t } else broken_at (record q { phase = Sending t }) t.order.frame now).phase)) now
led true q s t now of = refl
led false q s t now of =
    noted_marks (record q { phase = Sending t }) t.order.frame now ∙ ap (λ o. marked (marks_of q) (Some o.frame) now) of

edge_course : (c : Course) (q : Port) (s : Sent) (low : Bool) (now : ℕ) → ((t : Sent) → c ≡ course.Goes t → t.order ≡ s.order)
    → marks_of (edged (on_course q s now c) low now)
    ≡ marked (marks_of q) (sent_in (Sending s) (is_sending (edged (on_course q s now c) low now).phase)) now
edge_course (course.Goes t) q s low now of = led (same (driven_in t) low) q s t now (of t refl)
edge_course course.Destroyed q s low now of = noted_marks q s.order.frame now
edge_course course.Whole q s low now of = noted_marks q s.order.frame now

quiet_edge : (ph : Phase) (q : Port) (low : Bool) (now : ℕ) → is_sending ph ≡ false → marks_of (edge_in ph q low now) ≡ marks_of q
quiet_edge Free q low now quiet = refl
quiet_edge (Waiting order) q low now quiet = refl
quiet_edge (Sending s) q low now quiet = absurd (cc)
quiet_edge (Breaking since) q low now quiet = refl
quiet_edge (Listening l) q low now quiet = refl

quiet_sent : (ph : Phase) (a b : Bool) → is_sending ph ≡ false → sent_in ph a ≡ sent_in ph b
quiet_sent Free a b quiet = refl
quiet_sent (Waiting order) a b quiet = refl
quiet_sent (Sending s) a b quiet = absurd (cc)
quiet_sent (Breaking since) a b quiet = refl
quiet_sent (Listening l) a b quiet = refl

abbrev Edged : Phase → Port → Bool → ℕ → Type 0
Edged ph p low now =
    marks_of (edged (until_in ph (record p { called = now }) now) low now)
    ≡ marked (marked (marks_of p) (frame_in (event_in ph p now).read) p.edge)
    (sent_in ph (is_sending (edged (until_in ph (record p { called = now }) now) low now).phase)) now

edge_quiet : (ph : Phase) (p : Port) (low : Bool) (now : ℕ) → is_sending ph ≡ false
    → is_sending (until_in ph (record p { called = now }) now).phase ≡ false → Edged ph p low now
edge_quiet ph p low now quiet still =
    quiet_edge (until_in ph (record p { called = now }) now).phase (until_in ph (record p { called = now }) now) low now still ∙ until_marks ph p now
    ∙ ap (λ f. marked (marked (marks_of p) (frame_in (event_in ph p now).read) p.edge) f now) (quiet_sent ph _ _ quiet)

edge_marks : (ph : Phase) (p : Port) (low : Bool) (now : ℕ) → p.phase ≡ ph → Edged ph p low now
edge_marks (Sending s) p low now is =
    edge_course (sent_until s p.is_low now) (record p { called = now }) s low now (λ t goes. (course_goes s t p.is_low now goes).0)
edge_marks Free p low now is = edge_quiet Free p low now refl (until_still Free p now is refl)
edge_marks (Waiting order) p low now is = edge_quiet (Waiting order) p low now refl (until_still (Waiting order) p now is refl)
edge_marks (Breaking since) p low now is = edge_quiet (Breaking since) p low now refl (until_still (Breaking since) p now is refl)
edge_marks (Listening l) p low now is = edge_quiet (Listening l) p low now refl (until_still (Listening l) p now is refl)

edge_if : (b gone : Bool) (p : Port) (low : Bool) (now : ℕ) (r : Refusal) (e : Event) (w : Option Word) → e.read ≡ None
    → marks_of (if b then p else (if gone then lost p low now else edged (until p now) low now))
    ≡ marked (marked (marks_of p) (read_in (if b then Err r else (if gone then Ok e else Ok (also (event_until p now) w)))) p.edge)
    (sent_in p.phase (is_sending (if b then p else (if gone then lost p low now else edged (until p now) low now)).phase)) now
edge_if true gone p low now r e w none = none_ends p now
edge_if false true p low now r e w none = lost_if false p low now r e none
edge_if false false p low now r e w none =
    edge_marks p.phase p low now refl
    ∙ ap (λ x. marked (marked (marks_of p) (frame_in x) p.edge) (sent_in p.phase (is_sending (edged (until p now) low now).phase)) now)
    (sym (also_read (event_until p now) w))

-- a frame is handed in
send_by : (o : Option Refusal) (p : Port) (order : Order) (now : ℕ) → refused p order now ≡ o
    → marks_of (send_after_by o p order now)
    ≡ marked (marked (marks_of p) (read_in (send_told_by o p order now)) p.edge) (sent_in p.phase (is_sending (send_after_by o p order now).phase)) now
send_by (Some refusal) p order now is = none_ends p now
send_by None p order now is =
    let free : p.phase ≡ Free = was_free p order now is in
    let quiet : is_sending p.phase ≡ false = ap (λ ph. is_sending ph) free in
    keep_if (is_gone (until p now) order) _ _ (marks_of (until p now)) refl refl ∙ until_marks p.phase p now
    ∙ ap (λ f. marked (marked (marks_of p) (frame_in (event_until p now).read) p.edge) f now) (quiet_sent p.phase _ _ quiet)
    ∙ ap (λ x. marked (marked (marks_of p) (frame_in x) p.edge) (sent_in p.phase (is_sending (taken (until p now) order).phase)) now)
    (sym (also_read (event_until p now) (taken_word (until p now) order)))

-- each call, and a run of them
each : (p : Port) (c : Call) → marks_of (after p c) ≡ marks_after p (marks_of p) c
each p (Sends order now) = send_by (refused p order now) p order now refl
each p (Times now) = timer_by (is_backwards p now) p now _ _
each p (Turns low now) = edge_if (is_backwards p now) (same_level p.is_low low) p low now _ _ _ refl
each p (Loses low now) = lost_if (is_backwards p now) p low now _ _ refl

pub known_all : (p : Port) (calls : List Call) → marks_of (after_all p calls) ≡ marks_after_all p (marks_of p) calls
known_all p [] = refl
known_all p (c ∷ calls) = known_all (after p c) calls ∙ ap (λ m. marks_after_all (after p c) m calls) (each p c)

third : (a b c : Bool) → a && (b && c) ≡ true → c ≡ true
third true true c is = is
third true false c is = absurd (cc)
third false b c is = absurd (cc)

drawn_by : (b : Bool) (q : Port) (now : ℕ) (s : Sent) → is_sending q.phase ≡ false → (if b then q else timed (until q now) now).phase ≡ Sending s
    → is_drawn (until q now).draws now ≡ true → is_drawn (marks_of (if b then q else timed (until q now) now)).1 now ≡ true
drawn_by true q now s quiet sends drawn =
    let no : true ≡ false = sym (ap (λ ph. is_sending ph) sends) ∙ quiet in absurd (cc)
drawn_by false q now s quiet sends drawn =
    subst (λ (m : Marks). is_drawn m.1 now ≡ true) (sym (timed_marks (until q now).phase (until q now) now)) drawn

pub begins_drawn : (p : Port) (calls : List Call) (now : ℕ) (s : Sent) → is_sending (after_all p calls).phase ≡ false
    → (timer_after (after_all p calls) now).phase ≡ Sending s
    → is_drawn (marks_after (after_all p calls) (marks_after_all p (marks_of p) calls) (Times now)).1 now ≡ true
begins_drawn p calls now s quiet sends =
    let q = after_all p calls in
    let begins = timer_begins q now s quiet sends in
    let drawn : is_drawn (until q now).draws now ≡ true = third _ _ (is_drawn (until q now).draws now) begins.1 in
    let here : is_drawn (marks_of (timer_after q now)).1 now ≡ true = drawn_by (is_backwards q now) q now s quiet sends drawn in
    let same_marks : marks_of (timer_after q now) ≡ marks_after q (marks_after_all p (marks_of p) calls) (Times now) =
    each q (Times now) ∙ ap (λ m. marks_after q m (Times now)) (known_all p calls) in
    subst (λ (m : Marks). is_drawn m.1 now ≡ true) same_marks here
