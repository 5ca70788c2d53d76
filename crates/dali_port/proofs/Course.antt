use Rattle.std.proofs.Common.{◌≡◌, ℕ, ◌+◌, ◌-◌, ◌*◌, ◌≤◌, Bool, true, false, not, inl, inr, refl, sym, ◌∙◌, ap, subst, arith, if◌then◌else◌, nat_lt, nat_le}
use Rattle.std.proofs.lemmas.Bool.Decides.{nat_tests}
use Rattle.dali_port.specs.Courses.{Course}
use Rattle.dali_port.specs.Courses as course
use Rattle.dali_port.specs.State.{Port}
use Rattle.dali_port.specs.State.{Sending, Breaking, Listening}
use Rattle.dali_port.specs.State.{Sent}
use Rattle.dali_port.specs.Times.{half_bit}
use Rattle.dali_port.specs.Frames.{driven_in, same, agreed_by, compared_by, compared, turned, next_of, sent_beyond, sent_until}
use Rattle.dali_port.specs.Ports.{broken_at, until_in, until, edged, lost_in, lost, on_course}
use Rattle.dali_port.specs.Calls.{is_backwards, timed, timer_after, same_level, edge_after, lost_after}
use Rattle.dali_port.specs.Calls.{is_free, send_after}
use Rattle.dali_port.specs.Orders.{refusal_of}
use Rattle.dali_port.specs.declared.orders.Order.{Order}
use Rattle.dali_port.specs.Laws.{GoesOn}
use Rattle.dali_port.specs.Runs.{Call, Sends, Times, Turns, Loses, time_of, after}
use Rattle.dali_port.proofs.Words.{send_keeps}

-- A FRAME GOES ON half bit by half bit.

pub sent_is : (s t : Sent) → Sending s ≡ Sending t → s ≡ t
sent_is s t e = cc

pub goes_is : (b : Bool) (v u : Sent) → (if b then course.Destroyed else course.Goes v) ≡ course.Goes u → v ≡ u
goes_is true v u e = absurd (cc)
goes_is false v u e = cc

within : (s u : Sent) (a now : ℕ) → compared_by s a now ≡ course.Goes u → GoesOn s u now
within s u a now e =
    let same : record s { agreed = a } ≡ u = goes_is (nat_lt 40 (now - a)) _ u e in
    subst (λ (x : Sent). GoesOn s x now) same (refl, inl (refl, refl))

next_goes : (over late : Bool) (s v u : Sent) (turn a now : ℕ) → (v.order ≡ s.order) × (v.half ≡ s.half)
    → turn ≡ s.since + half_bit → turn ≤ now
    → (if over then course.Whole else (if late then course.Destroyed else compared_by (turned v turn) a now)) ≡ course.Goes u → GoesOn s u now
next_goes true late s v u turn a now are is before e = absurd (cc)
next_goes false true s v u turn a now are is before e = absurd (cc)
next_goes false false s v u turn a now are is before e =
    let same : record (turned v turn) { agreed = a } ≡ u = goes_is (nat_lt 40 (now - a)) _ u e in
    subst (λ (x : Sent). GoesOn s x now) same (are.0, inr (ap (λ h. next_of h) are.1, is, before))

beyond : (c : Course) (s u : Sent) (a turn lasted : ℕ) (low : Bool) (now : ℕ) → compared_by s a turn ≡ c → turn ≡ s.since + half_bit → turn ≤ now
    → sent_beyond c turn lasted low now ≡ course.Goes u → GoesOn s u now
beyond (course.Goes v) s u a turn lasted low now was is before e =
    let same : record s { agreed = a } ≡ v = goes_is (nat_lt 40 (turn - a)) _ v was in
    next_goes (nat_le 39 v.half) (nat_lt (2 * half_bit) lasted) s v u turn
    (agreed_by (driven_in (turned v turn)) low (turned v turn).agreed now) now
    (subst (λ (x : Sent). (x.order ≡ s.order) × (x.half ≡ s.half)) same (refl, refl)) is before e
beyond course.Destroyed s u a turn lasted low now was is before e = absurd (cc)
beyond course.Whole s u a turn lasted low now was is before e = absurd (cc)

turn_before : (since now : ℕ) → nat_lt (now - since) 417 ≡ false → since + 417 ≤ now
turn_before since now late = grind (arith, nat_tests)

course_by : (b : Bool) (s u : Sent) (low : Bool) (now : ℕ) → nat_lt (now - s.since) half_bit ≡ b
    → (if b then compared s low now else sent_beyond (compared s low (s.since + half_bit)) (s.since + half_bit) (now - s.since) low now) ≡ course.Goes u
    → GoesOn s u now
course_by true s u low now is e = within s u (agreed_by (driven_in s) low s.agreed now) now e
course_by false s u low now is e =
    beyond (compared s low (s.since + half_bit)) s u (agreed_by (driven_in s) low s.agreed (s.since + half_bit)) (s.since + half_bit)
    (now - s.since) low now refl refl (turn_before s.since now is) e

pub course_goes : (s u : Sent) (low : Bool) (now : ℕ) → sent_until s low now ≡ course.Goes u → GoesOn s u now
course_goes s u low now e = course_by (nat_lt (now - s.since) half_bit) s u low now refl e

-- at the timer, at an edge, and if one may have been lost
timed_course : (c : Course) (q : Port) (s t : Sent) (now : ℕ) → (timed (on_course q s now c) now).phase ≡ Sending t → c ≡ course.Goes t
timed_course (course.Goes u) q s t now e = ap (λ x. course.Goes x) (sent_is u t e)
timed_course course.Destroyed q s t now e = let no : Breaking now ≡ Sending t = e in absurd (cc)
timed_course course.Whole q s t now e = let no : Listening _ ≡ Sending t = e in absurd (cc)

not_led : (b : Bool) (q x : Port) (u t : Sent) (now : ℕ) → q.phase ≡ Sending u → x.phase ≡ Breaking now → (if b then q else x).phase ≡ Sending t → u ≡ t
not_led true q x u t now sends breaks e = sent_is u t (sym sends ∙ e)
not_led false q x u t now sends breaks e = let no : Breaking now ≡ Sending t = sym breaks ∙ e in absurd (cc)

edged_course : (c : Course) (q : Port) (s t : Sent) (low : Bool) (now : ℕ) → (edged (on_course q s now c) low now).phase ≡ Sending t → c ≡ course.Goes t
edged_course (course.Goes u) q s t low now e =
    ap (λ x. course.Goes x)
    (not_led (same (driven_in u) low) (record q { phase = Sending u }) (broken_at (record q { phase = Sending u }) u.order.frame now) u t now refl refl e)
edged_course course.Destroyed q s t low now e = let no : Breaking now ≡ Sending t = e in absurd (cc)
edged_course course.Whole q s t low now e = let no : Listening _ ≡ Sending t = e in absurd (cc)

stays_goes : (p : Port) (s t : Sent) (now : ℕ) → p.phase ≡ Sending s → p.phase ≡ Sending t → GoesOn s t now
stays_goes p s t now was is =
    subst (λ (x : Sent). GoesOn s x now) (sent_is s t (sym was ∙ is)) (refl, inl (refl, refl))

timer_by : (back : Bool) (p : Port) (now : ℕ) (s t : Sent) → p.phase ≡ Sending s
    → (if back then p else timed (until_in (Sending s) (record p { called = now }) now) now).phase ≡ Sending t → GoesOn s t now
timer_by true p now s t was is = stays_goes p s t now was is
timer_by false p now s t was is =
    course_goes s t p.is_low now (timed_course (sent_until s p.is_low now) (record p { called = now }) s t now is)

pub timer_goes : (p : Port) (now : ℕ) (s t : Sent) → p.phase ≡ Sending s → (timer_after p now).phase ≡ Sending t → GoesOn s t now
timer_goes p now s t was is =
    timer_by (is_backwards p now) p now s t was
    (subst (λ ph. (if is_backwards p now then p else timed (until_in ph (record p { called = now }) now) now).phase ≡ Sending t) was is)

both_phase : (back : Bool) (p q : Port) → (if back then p else q).phase ≡ (if back then p.phase else q.phase)
both_phase true p q = refl
both_phase false p q = refl

lost_phase : (back : Bool) (p : Port) (now : ℕ) (s t : Sent) → p.phase ≡ Sending s → (if back then p.phase else Breaking now) ≡ Sending t → GoesOn s t now
lost_phase true p now s t was is = stays_goes p s t now was is
lost_phase false p now s t was is = absurd (cc)

pub lost_goes : (p : Port) (low : Bool) (now : ℕ) (s t : Sent) → p.phase ≡ Sending s → (lost_after p low now).phase ≡ Sending t → GoesOn s t now
lost_goes p low now s t was is =
    let ph : (if is_backwards p now then p.phase else (lost_in p.phase p low now).phase) ≡ Sending t =
    sym (both_phase (is_backwards p now) p (lost p low now)) ∙ is in
    lost_phase (is_backwards p now) p now s t was
    (subst (λ x. (if is_backwards p now then p.phase else (lost_in x p low now).phase) ≡ Sending t) was ph)

edge_by : (back gone : Bool) (p : Port) (low : Bool) (now : ℕ) (s t : Sent) → p.phase ≡ Sending s
    → (if back then p.phase else (if gone then Breaking now else (edged (until_in (Sending s) (record p { called = now }) now) low now).phase)) ≡ Sending t
    → GoesOn s t now
edge_by true gone p low now s t was is = stays_goes p s t now was is
edge_by false true p low now s t was is = absurd (cc)
edge_by false false p low now s t was is =
    course_goes s t p.is_low now (edged_course (sent_until s p.is_low now) (record p { called = now }) s t low now is)

three_phase : (back gone : Bool) (p q r : Port)
    → (if back then p else (if gone then q else r)).phase ≡ (if back then p.phase else (if gone then q.phase else r.phase))
three_phase true gone p q r = refl
three_phase false true p q r = refl
three_phase false false p q r = refl

pub edge_goes : (p : Port) (low : Bool) (now : ℕ) (s t : Sent) → p.phase ≡ Sending s → (edge_after p low now).phase ≡ Sending t → GoesOn s t now
edge_goes p low now s t was is =
    edge_by (is_backwards p now) (same_level p.is_low low) p low now s t was
    (subst (λ x. (if is_backwards p now then p.phase else (if same_level p.is_low low then (lost_in x p low now).phase
    else (edged (until_in x (record p { called = now }) now) low now).phase)) ≡ Sending t) was
    (sym (three_phase (is_backwards p now) (same_level p.is_low low) p (lost p low now) (edged (until p now) low now)) ∙ is))

send_goes : (p : Port) (order : Order) (now : ℕ) (s t : Sent) → p.phase ≡ Sending s → (send_after p order now).phase ≡ Sending t → GoesOn s t now
send_goes p order now s t was is =
    stays_goes p s t now was
    (sym (ap (λ (x : Port). x.phase)
    (send_keeps (is_backwards p now) (is_free p.phase) (refusal_of order) p order now (ap (λ ph. not (is_free ph)) was))) ∙ is)

pub goes_on : (p : Port) (c : Call) (s t : Sent) → p.phase ≡ Sending s → (after p c).phase ≡ Sending t → GoesOn s t (time_of c)
goes_on p (Sends order now) s t was is = send_goes p order now s t was is
goes_on p (Times now) s t was is = timer_goes p now s t was is
goes_on p (Turns low now) s t was is = edge_goes p low now s t was is
goes_on p (Loses low now) s t was is = lost_goes p low now s t was is
