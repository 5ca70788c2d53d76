use Rattle.std.proofs.Common.{◌≡◌, ℕ, Bool, true, false, ◌&&◌, ◌||◌, not, List, [], ◌∷◌, Option, Some, None, refl, sym, ◌∙◌, ap, subst, if◌then◌else◌, is_none}
use Rattle.std.proofs.Common.{◌⊎◌, inl, inr, ◌+◌, ◌-◌, ◌^◌, ◌≤◌, min, nat_lt, arith}
use Rattle.std.proofs.lemmas.Bool.Decides.{nat_tests}
use Rattle.dali_frame.specs.declared.frames.Answer.{Answer}
use Rattle.dali_frame.specs.declared.frames.Answer.TheVariants.{Damaged}
use Rattle.dali_wire.specs.declared.receiver.{Frame.Frame, Told.Told, Reading.Reading, Receiver.Receiver}
use Rattle.dali_wire.specs.declared.receiver.Reading.TheVariants.{Idle}
use Rattle.dali_wire.specs.declared.receiver.Frame.TheVariants as read
use Rattle.dali_wire.specs.declared.window.Window.{Window}
use Rattle.dali_wire.specs.Reception.{told_of, receiver_at, reading_at}
use Rattle.dali_wire.specs.Windows.{told_after, window_at, is_idle, passed}
use Rattle.dali_port.specs.Courses.{Course}
use Rattle.dali_port.specs.Courses as course
use Rattle.dali_port.specs.declared.orders.{Order.Order, Refusal.Refusal}
use Rattle.dali_port.specs.Orders.{is_later, is_first, is_second, heard_word, refusal_of}
use Rattle.dali_port.specs.declared.orders.Refusal.TheVariants.{Backwards, Busy}
use Rattle.dali_port.specs.Frames.{sent_until, same, driven_in, begun_at}
use Rattle.dali_port.specs.State.{Port, Phase, Sent, Free, Waiting, Sending, Breaking, Listening, window_of}
use Rattle.dali_port.specs.Ports.{until, until_in, read_at, since_edge, noted_told, noted_frame, has_no_power, is_broken_off, listened_by, on_course}
use Rattle.dali_port.specs.Ports.{edge_in, edged, lost, lost_in, broken_at, is_destroyed, with_level}
use Rattle.dali_port.specs.Calls.{is_backwards, timed_in, timed, timer_after, begun, may_begin, is_too_late, same_level, is_gone, is_free, taken, send_after_by}
use Rattle.dali_port.specs.Laws.{is_sending}
use Rattle.dali_port.specs.Runs.{Call, Sends, Times, Turns, Loses, after, after_all}
use Rattle.dali_port.proofs.Begins.{timer_begins}
use Rattle.dali_bus_laws.specs.Breaks.{is_breaking}
use Rattle.dali_bus_laws.specs.Pairs.{begins}
use Rattle.dali_bus_laws.specs.Transactions.{is_own_in, is_own, alone_after, alone_after_all}

-- A BROKEN TRANSACTION IS KNOWN: a later frame begins only if the port was alone since its last frame.

later_waits : Phase → Bool
later_waits Free = false
later_waits (Waiting order) = is_later order
later_waits (Sending s) = false
later_waits (Breaking since) = false
later_waits (Listening l) = false

-- a port that is not over was alone, and a later frame waits only then
abbrev Knows : Port → Bool → Type 0
Knows p alone = (p.is_over ≡ false → alone ≡ true) × (later_waits p.phase ≡ true → p.is_over ≡ false)

over_knows : (p : Port) (alone : Bool) → p.is_over ≡ true → later_waits p.phase ≡ false → Knows p alone
over_knows p alone over none =
    (λ no. absurd (let off : true ≡ false = sym over ∙ no in cc), λ yes. absurd (let off : false ≡ true = sym none ∙ yes in cc))

kept : (p q : Port) (alone : Bool) → q.is_over ≡ p.is_over → later_waits q.phase ≡ false → Knows p alone → Knows q alone
kept p q alone same none k = (λ no. k.0 (sym same ∙ no), λ yes. absurd (let off : false ≡ true = sym none ∙ yes in cc))

kept_all : (p q : Port) (alone : Bool) → q.is_over ≡ p.is_over → q.phase ≡ p.phase → Knows p alone → Knows q alone
kept_all p q alone same ph k = (λ no. k.0 (sym same ∙ no), λ yes. same ∙ k.1 (ap (λ x. later_waits x) (sym ph) ∙ yes))

told_keeps : (p : Port) (o : Option Told) → ((noted_told p o).is_over ≡ p.is_over) × ((noted_told p o).phase ≡ p.phase)
told_keeps p None = (refl, refl)
told_keeps p (Some told) = by_frame told.frame where
  by_frame : (f : Frame) → ((noted_frame p f).is_over ≡ p.is_over) × ((noted_frame p f).phase ≡ p.phase)
  by_frame (read.Forward frame) = (refl, refl)
  by_frame (read.Backward byte) = (refl, refl)
  by_frame (read.Device number) = (refl, refl)
  by_frame read.Damaged = (refl, refl)

either : (b : Bool) (q r : Port) (alone : Bool) → Knows q alone → Knows r alone → Knows (if b then q else r) alone
either true q r alone one other = one
either false q r alone one other = other

rested_knows : (p : Port) (now : ℕ) (alone : Bool) → Knows p alone
    → Knows (if has_no_power p now then record p { is_powerless = true; is_over = true; phase = Free } else read_at p now) alone
unfolding later_waits
rested_knows p now alone k =
    let keeps = told_keeps (record p { receiver = receiver_at p.receiver (since_edge p now) }) (told_of p.receiver (since_edge p now)) in
    either (has_no_power p now) _ (read_at p now) alone (over_knows (record p { is_powerless = true; is_over = true; phase = Free }) alone refl refl)
    (kept_all p (read_at p now) alone keeps.0 keeps.1 k)

course_knows : (c : Course) (p : Port) (s : Sent) (now : ℕ) (alone : Bool) → Knows p alone → Knows (on_course p s now c) alone
unfolding later_waits
course_knows (course.Goes t) p s now alone k = kept p (on_course p s now (course.Goes t)) alone refl refl k
course_knows course.Destroyed p s now alone k = over_knows (on_course p s now course.Destroyed) alone refl refl
course_knows course.Whole p s now alone k = kept p (on_course p s now course.Whole) alone refl refl k

either_false : (a b : Bool) → (a || b) ≡ false → a ≡ false
either_false false b h = refl
either_false true b h = absurd (cc)

heard_knows : (heard : Option Answer) (p : Port) (asks : Bool) (w : Window) (alone : Bool) → Knows p alone → Knows (listened_by p asks w heard) alone
unfolding later_waits
heard_knows None p asks w alone k = kept p (listened_by p asks w None) alone refl refl k
heard_knows (Some heard) p asks w alone k =
    (λ no. k.0 (either_false p.is_over (is_destroyed (heard_word asks heard)) no), λ yes. absurd (let off : false ≡ true = yes in cc))

until_knows : (ph : Phase) (p : Port) (now : ℕ) (alone : Bool) → p.phase ≡ ph → Knows p alone → Knows (until_in ph (record p { called = now }) now) alone
unfolding later_waits
until_knows Free p now alone is k = rested_knows (record p { called = now }) now alone k
until_knows (Waiting order) p now alone is k = rested_knows (record p { called = now }) now alone k
until_knows (Sending s) p now alone is k = course_knows (sent_until s p.is_low now) (record p { called = now }) s now alone k
until_knows (Breaking since) p now alone is k =
    either (is_broken_off since now) _ (record p { called = now }) alone
    (λ no. k.0 no, λ yes. absurd (let off : false ≡ true = yes in cc)) k
until_knows (Listening l) p now alone is k =
    heard_knows (told_after (window_of p l) (since_edge p now)) (record p { called = now }) l.asks (window_at (window_of p l) (since_edge p now)) alone k

-- what is known after a call, if the mark stays
more : (a b c : Bool) → (a ≡ true → c ≡ true) → a ≡ true → (if b then true else a && c) ≡ true
more true true c f h = refl
more true false c f h = f refl
more false b c f h = absurd (cc)

Marked : Port → Port → Bool → Call → Type 0
Marked q p alone c = (q.is_over ≡ false → (if begins p c then true else alone && is_own p c) ≡ true) × (later_waits q.phase ≡ true → q.is_over ≡ false)

marked : (q p : Port) (alone : Bool) (c : Call) → (q.is_over ≡ false → is_own p c ≡ true) → Knows q alone → Marked q p alone c
unfolding Marked
marked q p alone c own k = (λ no. more alone (begins p c) (is_own p c) (λ _. own no) (k.0 no), k.1)

over_marked : (q p : Port) (alone : Bool) (c : Call) → q.is_over ≡ true → later_waits q.phase ≡ false → Marked q p alone c
unfolding Marked
over_marked q p alone c over none =
    (λ no. absurd (let off : true ≡ false = sym over ∙ no in cc), λ yes. absurd (let off : false ≡ true = sym none ∙ yes in cc))

one_of : (b : Bool) (q r p : Port) (alone : Bool) (c : Call) → (b ≡ true → Marked q p alone c) → (b ≡ false → Marked r p alone c)
    → Marked (if b then q else r) p alone c
one_of true q r p alone c one other = one refl
one_of false q r p alone c one other = other refl

lapsed : (later : Bool) (order : Order) → is_later order ≡ later → later_waits (if later then Free else Waiting order) ≡ false
unfolding later_waits
lapsed true order is = refl
lapsed false order is = is

lost_phase : (ph : Phase) (p : Port) (low : Bool) (now : ℕ) → p.phase ≡ ph → later_waits (lost_in ph p low now).phase ≡ false
unfolding later_waits
lost_phase Free p low now is = ap (λ x. later_waits x) is
lost_phase (Waiting order) p low now is = lapsed (is_later order) order refl
lost_phase (Sending s) p low now is = refl
lost_phase (Breaking since) p low now is = ap (λ x. later_waits x) is
lost_phase (Listening l) p low now is = refl

or_true : (a b : Bool) → b ≡ true → (a || b) ≡ true
or_true true b h = refl
or_true false b h = h

and_true : (a b : Bool) → a ≡ false → b ≡ true → (not a && b) ≡ true
and_true false b x h = h
and_true true b x h = absurd (cc)

led_marked : (b : Bool) (u p : Port) (s : Sent) (low : Bool) (now : ℕ) (alone : Bool) → u.phase ≡ Sending s → (until p now).phase ≡ Sending s → Knows u alone
    → same_level p.is_low low ≡ false
    → Marked (with_level (if b then u else broken_at u s.order.frame now) low now) p alone (Turns low now)
unfolding later_waits Marked
led_marked true u p s low now alone is at k other =
    marked (with_level u low now) p alone (Turns low now)
    (λ no. or_true (is_backwards p now) _ (and_true (same_level p.is_low low) _ other (ap (λ x. is_own_in x) at)))
    (kept_all u (with_level u low now) alone refl refl k)
led_marked false u p s low now alone is at k other =
    over_marked (with_level (broken_at u s.order.frame now) low now) p alone (Turns low now) refl refl

edge_marked : (ph : Phase) (u p : Port) (low : Bool) (now : ℕ) (alone : Bool) → (until p now).phase ≡ ph → u.phase ≡ ph → Knows u alone
    → same_level p.is_low low ≡ false → Marked (with_level (edge_in ph u low now) low now) p alone (Turns low now)
unfolding later_waits Marked
edge_marked Free u p low now alone at is k other =
    over_marked (with_level (edge_in Free u low now) low now) p alone (Turns low now) refl (ap (λ x. later_waits x) is)
edge_marked (Waiting order) u p low now alone at is k other =
    over_marked (with_level (edge_in (Waiting order) u low now) low now) p alone (Turns low now) refl (lapsed (is_later order) order refl)
edge_marked (Sending s) u p low now alone at is k other = led_marked (same (driven_in s) low) u p s low now alone is at k other
edge_marked (Breaking since) u p low now alone at is k other =
    marked (with_level u low now) p alone (Turns low now)
    (λ no. or_true (is_backwards p now) _ (and_true (same_level p.is_low low) _ other (ap (λ x. is_own_in x) at)))
    (kept_all u (with_level u low now) alone refl refl k)
edge_marked (Listening l) u p low now alone at is k other =
    marked (with_level (edge_in (Listening l) u low now) low now) p alone (Turns low now)
    (λ no. or_true (is_backwards p now) _ (and_true (same_level p.is_low low) _ other (ap (λ x. is_own_in x) at)))
    (kept u (with_level (edge_in (Listening l) u low now) low now) alone refl refl k)

-- a call that changes nothing
self_marked : (p : Port) (alone : Bool) (c : Call) → is_own p c ≡ true → Knows p alone → Marked p p alone c
self_marked p alone c own k = marked p p alone c (λ _. own) k

-- a frame that is handed in
rested_free : (b : Bool) (p q : Port) → p.phase ≡ Free → q.phase ≡ Free → (if b then p else q).phase ≡ Free
rested_free true p q one other = one
rested_free false p q one other = other

free_until : (p : Port) (now : ℕ) → p.phase ≡ Free → (until_in Free (record p { called = now }) now).phase ≡ Free
free_until p now is =
    let r : Port = record p { called = now } in
    rested_free (has_no_power r now) _ (read_at r now) refl
    ((told_keeps (record r { receiver = receiver_at r.receiver (since_edge r now) }) (told_of r.receiver (since_edge r now))).1 ∙ is)

not_gone : (later over none : Bool) → (later && (over || none)) ≡ false → later ≡ true → over ≡ false
not_gone true false none is so = refl
not_gone true true none is so = absurd (cc)
not_gone false over none is so = absurd (cc)

taken_marked : (gone : Bool) (u p : Port) (order : Order) (now : ℕ) (alone : Bool) → is_gone u order ≡ gone → u.phase ≡ Free → Knows u alone
    → Marked (if gone then record u { is_over = true } else record u { phase = Waiting order }) p alone (Sends order now)
unfolding later_waits Marked
taken_marked true u p order now alone is free k =
    over_marked (record u { is_over = true }) p alone (Sends order now) refl (ap (λ x. later_waits x) free)
taken_marked false u p order now alone is free k =
    marked (record u { phase = Waiting order }) p alone (Sends order now) (λ _. refl)
    (k.0, λ yes. not_gone (is_later order) u.is_over (is_second order.half && is_none u.first) is yes)

sends_marked : (ph : Phase) (o : Option Refusal) (p : Port) (order : Order) (now : ℕ) (alone : Bool) → p.phase ≡ ph → is_free ph ≡ true → Knows p alone
    → Marked (send_after_by o p order now) p alone (Sends order now)
sends_marked Free None p order now alone is free k =
    subst (λ ph. Marked (taken (until_in ph (record p { called = now }) now) order) p alone (Sends order now)) (sym is)
    (taken_marked (is_gone (until_in Free (record p { called = now }) now) order) (until_in Free (record p { called = now }) now) p order now alone refl
    (free_until p now is) (until_knows Free p now alone is k))
sends_marked Free (Some refusal) p order now alone is free k = self_marked p alone (Sends order now) refl k
sends_marked (Waiting x) o p order now alone is free k = absurd (cc)
sends_marked (Sending s) o p order now alone is free k = absurd (cc)
sends_marked (Breaking since) o p order now alone is free k = absurd (cc)
sends_marked (Listening l) o p order now alone is free k = absurd (cc)

busy_marked : (free back : Bool) (o : Option Refusal) (r b : Refusal) (p : Port) (order : Order) (now : ℕ) (alone : Bool) → is_free p.phase ≡ free
    → Knows p alone
    → Marked (send_after_by (if back then Some r else (if free then o else Some b)) p order now) p alone (Sends order now)
busy_marked free true o r b p order now alone is k = self_marked p alone (Sends order now) refl k
busy_marked true false o r b p order now alone is k = sends_marked p.phase o p order now alone refl is k
busy_marked false false o r b p order now alone is k = self_marked p alone (Sends order now) refl k

-- the timer: only a frame that begins makes a port that was over one that is not
late_knows : (late : Bool) (u : Port) (order : Order) (now : ℕ) (alone : Bool)
    → is_sending (if late then record u { is_over = true; phase = Free } else record u {
      is_over = false;
      first = if is_first order.half then Some now else None;
      phase = Sending (begun_at order now);
    }).phase ≡ false
    → Knows (if late then record u { is_over = true; phase = Free } else record u {
      is_over = false;
      first = if is_first order.half then Some now else None;
      phase = Sending (begun_at order now);
    }) alone
unfolding later_waits
late_knows true u order now alone quiet = over_knows (record u { is_over = true; phase = Free }) alone refl refl
late_knows false u order now alone quiet = absurd (let off : true ≡ false = quiet in cc)

may_knows : (may : Bool) (u : Port) (order : Order) (now : ℕ) (alone : Bool) → Knows u alone
    → is_sending (if may then begun u order now else u).phase ≡ false → Knows (if may then begun u order now else u) alone
may_knows true u order now alone k quiet = late_knows (is_too_late u order now) u order now alone quiet
may_knows false u order now alone k quiet = k

timed_knows : (ph : Phase) (u : Port) (now : ℕ) (alone : Bool) → Knows u alone → is_sending (timed_in ph u now).phase ≡ false
    → Knows (timed_in ph u now) alone
timed_knows Free u now alone k quiet = k
timed_knows (Waiting order) u now alone k quiet = may_knows (may_begin u order now) u order now alone k quiet
timed_knows (Sending s) u now alone k quiet = k
timed_knows (Breaking since) u now alone k quiet = k
timed_knows (Listening l) u now alone k quiet = k

course_timed : (c : Course) (p : Port) (s : Sent) (now : ℕ) (alone : Bool) → Knows p alone → Knows (timed (on_course p s now c) now) alone
course_timed (course.Goes t) p s now alone k = course_knows (course.Goes t) p s now alone k
course_timed course.Destroyed p s now alone k = course_knows course.Destroyed p s now alone k
course_timed course.Whole p s now alone k = course_knows course.Whole p s now alone k

sending_timed : (ph : Phase) (p : Port) (now : ℕ) (alone : Bool) → is_sending ph ≡ true → Knows p alone
    → Knows (timed (until_in ph (record p { called = now }) now) now) alone
sending_timed Free p now alone is k = absurd (cc)
sending_timed (Waiting order) p now alone is k = absurd (cc)
sending_timed (Sending s) p now alone is k = course_timed (sent_until s p.is_low now) (record p { called = now }) s now alone k
sending_timed (Breaking since) p now alone is k = absurd (cc)
sending_timed (Listening l) p now alone is k = absurd (cc)

timer_knows : (back : Bool) (p : Port) (now : ℕ) (alone : Bool) → Knows p alone
    → (is_sending (if back then p else timed (until p now) now).phase ≡ false) ⊎ (is_sending p.phase ≡ true)
    → Knows (if back then p else timed (until p now) now) alone
timer_knows true p now alone k either = k
timer_knows false p now alone k (inl quiet) =
    timed_knows (until p now).phase (until p now) now alone (until_knows p.phase p now alone refl k) quiet
timer_knows false p now alone k (inr sending) = sending_timed p.phase p now alone sending k

not_waits : (ph : Phase) → is_sending ph ≡ true → later_waits ph ≡ false
unfolding later_waits
not_waits Free is = absurd (cc)
not_waits (Waiting order) is = absurd (cc)
not_waits (Sending s) is = refl
not_waits (Breaking since) is = absurd (cc)
not_waits (Listening l) is = absurd (cc)

begun_so : (a b c : Bool) → a ≡ false → b ≡ true → (if not a && b then true else c) ≡ true
begun_so false true c x y = refl
begun_so true b c x y = absurd (cc)
begun_so false false c x y = absurd (cc)

timer_marked : (was is : Bool) (p : Port) (now : ℕ) (alone : Bool) → is_sending p.phase ≡ was → is_sending (timer_after p now).phase ≡ is
    → Knows p alone → Marked (timer_after p now) p alone (Times now)
unfolding Marked
timer_marked true is p now alone so sends k =
    marked (timer_after p now) p alone (Times now) (λ _. refl) (timer_knows (is_backwards p now) p now alone k (inr so))
timer_marked false false p now alone so sends k =
    marked (timer_after p now) p alone (Times now) (λ _. refl) (timer_knows (is_backwards p now) p now alone k (inl sends))
timer_marked false true p now alone so sends k = (
  λ no. begun_so (is_sending p.phase) (is_sending (timer_after p now).phase) (alone && true) so sends,
  λ yes. absurd (let off : false ≡ true = sym (not_waits (timer_after p now).phase sends) ∙ yes in cc),
)

lost_marked : (back : Bool) (p : Port) (low : Bool) (now : ℕ) (alone : Bool) → is_backwards p now ≡ back → Knows p alone
    → Marked (if back then p else lost p low now) p alone (Loses low now)
lost_marked true p low now alone is k = self_marked p alone (Loses low now) is k
lost_marked false p low now alone is k = over_marked (lost p low now) p alone (Loses low now) refl (lost_phase p.phase p low now refl)

turned_marked : (back gone : Bool) (p : Port) (low : Bool) (now : ℕ) (alone : Bool) → is_backwards p now ≡ back → same_level p.is_low low ≡ gone
    → Knows p alone
    → Marked (if back then p else (if gone then lost p low now else edged (until p now) low now)) p alone (Turns low now)
turned_marked true gone p low now alone is other k = self_marked p alone (Turns low now) (own_back (is_backwards p now) _ is) k where
  own_back : (a b : Bool) → a ≡ true → (a || b) ≡ true
  own_back true b h = refl
  own_back false b h = absurd (cc)
turned_marked false true p low now alone is other k = over_marked (lost p low now) p alone (Turns low now) refl (lost_phase p.phase p low now refl)
turned_marked false false p low now alone is other k =
    edge_marked (until p now).phase (until p now) p low now alone refl refl (until_knows p.phase p now alone refl k) other

each_marked : (c : Call) (p : Port) (alone : Bool) → Knows p alone → Marked (after p c) p alone c
each_marked (Sends order now) p alone k =
    busy_marked (is_free p.phase) (is_backwards p now) (refusal_of order) Backwards Busy p order now alone refl k
each_marked (Times now) p alone k =
    timer_marked (is_sending p.phase) (is_sending (timer_after p now).phase) p now alone refl refl k
each_marked (Turns low now) p alone k = turned_marked (is_backwards p now) (same_level p.is_low low) p low now alone refl refl k
each_marked (Loses low now) p alone k = lost_marked (is_backwards p now) p low now alone refl k

run_knows : (calls : List Call) (p : Port) (alone : Bool) → Knows p alone → Knows (after_all p calls) (alone_after_all p alone calls)
unfolding Marked
run_knows [] p alone k = k
run_knows (c ∷ calls) p alone k = run_knows calls (after p c) (alone_after p alone c) (each_marked c p alone k)

pub broken_known : (p : Port) (calls : List Call) (now : ℕ) (s : Sent) → p.is_over ≡ true → p.phase ≡ Free
    → is_sending (after_all p calls).phase ≡ false → (timer_after (after_all p calls) now).phase ≡ Sending s → is_later s.order ≡ true
    → alone_after_all p false calls ≡ true
unfolding later_waits
broken_known p calls now s over free quiet sends later =
    let q = after_all p calls in
    let k = run_knows calls p false (over_knows p false over (ap (λ x. later_waits x) free)) in
    let u = until_knows q.phase q now (alone_after_all p false calls) refl k in
    let begins = timer_begins q now s quiet sends in
    u.0 (u.1 (ap (λ x. later_waits x) begins.0 ∙ later))

-- AN EDGE AFTER REST is not its own: no backward frame may begin any more
told_phase : (p : Port) (o : Option Told) → is_own_in (noted_told p o).phase ≡ is_own_in p.phase
told_phase p o = ap (λ ph. is_own_in ph) (told_keeps p o).1

rested_phase : (off : Bool) (p : Port) (o : Option Told) (r : Receiver) → is_own_in p.phase ≡ false
    → is_own_in (if off then record p { is_powerless = true; is_over = true; phase = Free } else noted_told (record p { receiver = r }) o).phase ≡ false
rested_phase true p o r not_own = refl
rested_phase false p o r not_own = told_phase (record p { receiver = r }) o ∙ not_own

window_over : (idle passed : Bool) (p : Port) (asks : Bool) (w : Window) (heard : Answer) (later : Option Answer) → idle ≡ true → passed ≡ true
    → is_own_in (listened_by p asks w (if idle && passed then Some heard else later)).phase ≡ false
window_over true true p asks w heard later a b = refl
window_over true false p asks w heard later a b = absurd (cc)
window_over false passed p asks w heard later a b = absurd (cc)

long_since : (edge now : ℕ) → edge + 12401 ≤ now → 12401 ≤ min (now - edge) (2 ^ 32 - 1)
long_since edge now h = omega arith

past : (elapsed since : ℕ) → 12401 ≤ since → nat_lt 12400 (min (elapsed + since) (2 ^ 32 - 1)) ≡ true
past elapsed since h = grind (arith, nat_tests)

not_soon : (since : ℕ) → 12401 ≤ since → nat_lt since 2400 ≡ false
not_soon since h = grind (arith, nat_tests)

at_rest : (r : Reading) (low : Bool) (since : ℕ) → low ≡ false → 12401 ≤ since → is_idle (reading_at r low since) ≡ true
at_rest r true since high h = absurd (cc)
at_rest r false since high h = ap (λ b. is_idle (if b then r else Idle)) (not_soon since h)

until_other : (ph : Phase) (p : Port) (now : ℕ) → is_sending ph ≡ false → is_breaking ph ≡ false → p.phase ≡ ph → p.receiver.is_low ≡ false
    → p.edge + 12401 ≤ now → is_own_in (until_in ph (record p { called = now }) now).phase ≡ false
until_other Free p now a b is high h =
    rested_phase (has_no_power (record p { called = now }) now) (record p { called = now }) (told_of p.receiver (since_edge p now))
    (receiver_at p.receiver (since_edge p now)) (ap (λ ph. is_own_in ph) is)
until_other (Waiting order) p now a b is high h =
    rested_phase (has_no_power (record p { called = now }) now) (record p { called = now }) (told_of p.receiver (since_edge p now))
    (receiver_at p.receiver (since_edge p now)) (ap (λ ph. is_own_in ph) is)
until_other (Sending s) p now a b is high h = absurd (cc)
until_other (Breaking since) p now a b is high h = absurd (cc)
until_other (Listening l) p now a b is high h =
    window_over (is_idle (reading_at p.receiver.reading p.receiver.is_low (since_edge p now)))
    (nat_lt 12400 (min (l.elapsed + since_edge p now) (2 ^ 32 - 1))) (record p { called = now }) l.asks
    (window_at (window_of p l) (since_edge p now)) (window_at (window_of p l) (since_edge p now)).heard
    (if nat_lt 50000 (passed (window_of p l) (since_edge p now)) then Some Damaged else None)
    (at_rest p.receiver.reading p.receiver.is_low (since_edge p now) high (long_since p.edge now h))
    (past l.elapsed (since_edge p now) (long_since p.edge now h))

not_back : (called now : ℕ) → called ≤ now → nat_lt now called ≡ false
not_back called now h = grind (arith, nat_tests)

noticed_by : (back other own : Bool) → back ≡ false → own ≡ false → (back || (other && own)) ≡ false
noticed_by false true false a b = refl
noticed_by false false own a b = refl
noticed_by true other own a b = absurd (cc)
noticed_by false true true a b = absurd (cc)

pub noticed : (p : Port) (low : Bool) (now : ℕ) → is_sending p.phase ≡ false → is_breaking p.phase ≡ false → p.receiver.is_low ≡ false → p.called ≤ now
    → p.edge + 12401 ≤ now → is_own p (Turns low now) ≡ false
noticed p low now a b high order h =
    noticed_by (is_backwards p now) (not (same_level p.is_low low)) (is_own_in (until p now).phase) (not_back p.called now order)
    (until_other p.phase p now a b refl high h)
