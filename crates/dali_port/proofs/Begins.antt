use Rattle.std.proofs.Common.{◌≡◌, ℕ, Bool, true, false, refl, sym, ◌∙◌, subst, if◌then◌else◌, Option, Some, None}
use Rattle.dali_frame.specs.declared.frames.Answer.{Answer}
use Rattle.dali_wire.specs.declared.window.Window.{Window}
use Rattle.dali_wire.specs.Windows.{told_after, window_at}
use Rattle.dali_port.specs.declared.orders.{Order.Order, Refusal.Refusal}
use Rattle.dali_port.specs.State.{Port, Phase}
use Rattle.dali_port.specs.State.{Free, Waiting, Sending, Breaking, Listening}
use Rattle.dali_port.specs.State.{Sent}
use Rattle.dali_port.specs.State.{window_of}
use Rattle.dali_port.specs.Orders.{is_later}
use Rattle.dali_port.specs.Frames.{begun_at}
use Rattle.dali_port.specs.Ports.{read_at, has_no_power, is_broken_off, listened_by, since_edge, until_in, until, edge_in, edged, lost_in, lost}
use Rattle.dali_port.specs.Calls.{drive_of, drive_in, is_backwards, may_begin, is_too_late, timed_in, timed, timer_after}
use Rattle.dali_port.specs.Calls.{same_level, edge_after, lost_after, refused, is_gone, send_after, send_after_by}
use Rattle.dali_port.specs.Laws.{IsDrivenLow, is_sending, Begins}
use Rattle.dali_port.specs.Runs.{Call, Sends, Times, Turns, Loses, after, BeginsBy}
use Rattle.dali_port.proofs.Words.{read_keeps}

-- WHAT IS DRIVEN LOW

low_in : (ph : Phase) (p : Port) → (drive_in ph p).is_low ≡ true → IsDrivenLow ph
low_in Free p is = absurd (cc)
low_in (Waiting order) p is = absurd (cc)
low_in (Sending s) p is = is
low_in (Breaking since) p is = tt {0}
low_in (Listening l) p is = absurd (cc)

pub low_is : (p : Port) → (drive_of p).is_low ≡ true → IsDrivenLow p.phase
low_is p is = low_in p.phase p is

-- WHEN A FRAME BEGINS

sent_is : (s t : Sent) → Sending s ≡ Sending t → s ≡ t
sent_is s t e = cc

not_both : (ph : Phase) (s : Sent) → is_sending ph ≡ false → ph ≡ Sending s → ⊥
not_both Free s quiet is = absurd (cc)
not_both (Waiting order) s quiet is = absurd (cc)
not_both (Sending t) s quiet is = absurd (cc)
not_both (Breaking since) s quiet is = absurd (cc)
not_both (Listening l) s quiet is = absurd (cc)

quiet_as : (ph : Phase) (q : Port) → q.phase ≡ ph → is_sending ph ≡ false → is_sending q.phase ≡ false
quiet_as ph q is quiet = subst (λ x. is_sending x ≡ false) (sym is) quiet

either : (b : Bool) (q r : Port) → is_sending q.phase ≡ false → is_sending r.phase ≡ false → is_sending (if b then q else r).phase ≡ false
either true q r one other = one
either false q r one other = other

after_hearing : (heard : Option Answer) (p : Port) (asks : Bool) (w : Window) → is_sending (listened_by p asks w heard).phase ≡ false
after_hearing None p asks w = refl
after_hearing (Some heard) p asks w = refl

pub until_still : (ph : Phase) (p : Port) (now : ℕ) → p.phase ≡ ph → is_sending ph ≡ false
    → is_sending (until_in ph (record p { called = now }) now).phase ≡ false
until_still Free p now is quiet =
    either (has_no_power p now) _ _ refl (quiet_as Free (read_at (record p { called = now }) now) (read_keeps (record p { called = now }) now ∙ is) refl)
until_still (Waiting order) p now is quiet =
    either (has_no_power p now) _ _ refl
    (quiet_as (Waiting order) (read_at (record p { called = now }) now) (read_keeps (record p { called = now }) now ∙ is) refl)
until_still (Sending s) p now is quiet = absurd (cc)
until_still (Breaking since) p now is quiet =
    either (is_broken_off since now) _ _ refl (quiet_as (Breaking since) (record p { called = now }) is refl)
until_still (Listening l) p now is quiet =
    after_hearing (told_after (window_of p l) (since_edge p now)) (record p { called = now }) l.asks (window_at (window_of p l) (since_edge p now))

until_quiet : (p : Port) (now : ℕ) → is_sending p.phase ≡ false → is_sending (until p now).phase ≡ false
until_quiet p now quiet = until_still p.phase p now refl quiet

begun_of : (may late : Bool) (order : Order) (now : ℕ) (s : Sent) (x y q : Port) → x.phase ≡ Free → y.phase ≡ Sending (begun_at order now)
    → q.phase ≡ Waiting order → (if may then (if late then x else y) else q).phase ≡ Sending s → (may ≡ true) × (begun_at order now ≡ s)
begun_of true true order now s x y q free sends waits is =
    let quiet : Free ≡ Sending s = sym free ∙ is in absurd (cc)
begun_of true false order now s x y q free sends waits is = (refl, sent_is (begun_at order now) s (sym sends ∙ is))
begun_of false late order now s x y q free sends waits is = let quiet : Waiting order ≡ Sending s = sym waits ∙ is in absurd (cc)

timed_begins : (ph : Phase) (q : Port) (now : ℕ) (s : Sent) → q.phase ≡ ph → is_sending ph ≡ false → (timed_in ph q now).phase ≡ Sending s
    → (ph ≡ Waiting s.order) × (may_begin q s.order now ≡ true) × (s ≡ begun_at s.order now)
timed_begins Free q now s is quiet sends = absurd (not_both Free s refl (sym is ∙ sends))
timed_begins (Waiting order) q now s is quiet sends =
    let it = begun_of (may_begin q order now) (is_too_late q order now) order now s _ _ q refl refl is sends in
    let may : may_begin q order now ≡ true = it.0 in
    let same : begun_at order now ≡ s = it.1 in
    subst (λ (x : Sent). (Waiting order ≡ Waiting x.order) × (may_begin q x.order now ≡ true) × (x ≡ begun_at x.order now)) same (refl, may, refl)
timed_begins (Sending t) q now s is quiet sends = absurd (cc)
timed_begins (Breaking since) q now s is quiet sends = absurd (not_both (Breaking since) s refl (sym is ∙ sends))
timed_begins (Listening l) q now s is quiet sends = absurd (not_both (Listening l) s refl (sym is ∙ sends))

timer_begins_by : (back : Bool) (p : Port) (now : ℕ) (s : Sent) → is_sending p.phase ≡ false
    → (if back then p else timed (until p now) now).phase ≡ Sending s → Begins p s now
timer_begins_by true p now s quiet sends = absurd (not_both p.phase s quiet sends)
timer_begins_by false p now s quiet sends = timed_begins (until p now).phase (until p now) now s refl (until_quiet p now quiet) sends

pub timer_begins : (p : Port) (now : ℕ) (s : Sent) → is_sending p.phase ≡ false → (timer_after p now).phase ≡ Sending s → Begins p s now
timer_begins p now s quiet sends = timer_begins_by (is_backwards p now) p now s quiet sends

lapses_quiet : (later : Bool) (order : Order) → is_sending (if later then Free else Waiting order) ≡ false
lapses_quiet true order = refl
lapses_quiet false order = refl

edge_quiet_in : (ph : Phase) (p : Port) (low : Bool) (now : ℕ) → p.phase ≡ ph → is_sending ph ≡ false → is_sending (edge_in ph p low now).phase ≡ false
edge_quiet_in Free p low now is quiet = quiet_as Free p is refl
edge_quiet_in (Waiting order) p low now is quiet = lapses_quiet (is_later order) order
edge_quiet_in (Sending s) p low now is quiet = absurd (cc)
edge_quiet_in (Breaking since) p low now is quiet = quiet_as (Breaking since) p is refl
edge_quiet_in (Listening l) p low now is quiet = refl

lost_quiet_in : (ph : Phase) (p : Port) (low : Bool) (now : ℕ) → p.phase ≡ ph → is_sending (lost_in ph p low now).phase ≡ false
lost_quiet_in Free p low now is = quiet_as Free p is refl
lost_quiet_in (Waiting order) p low now is = lapses_quiet (is_later order) order
lost_quiet_in (Sending s) p low now is = refl
lost_quiet_in (Breaking since) p low now is = quiet_as (Breaking since) p is refl
lost_quiet_in (Listening l) p low now is = refl

pub lost_quiet : (p : Port) (low : Bool) (now : ℕ) → is_sending p.phase ≡ false → is_sending (lost_after p low now).phase ≡ false
lost_quiet p low now quiet = either (is_backwards p now) p (lost p low now) quiet (lost_quiet_in p.phase p low now refl)

pub edge_quiet : (p : Port) (low : Bool) (now : ℕ) → is_sending p.phase ≡ false → is_sending (edge_after p low now).phase ≡ false
edge_quiet p low now quiet =
    either (is_backwards p now) p _ quiet
    (either (same_level p.is_low low) (lost p low now) (edged (until p now) low now) (lost_quiet_in p.phase p low now refl)
    (edge_quiet_in (until p now).phase (until p now) low now refl (until_quiet p now quiet)))

send_quiet_by : (o : Option Refusal) (p : Port) (order : Order) (now : ℕ) → is_sending p.phase ≡ false
    → is_sending (send_after_by o p order now).phase ≡ false
send_quiet_by None p order now quiet = either (is_gone (until p now) order) _ _ (until_quiet p now quiet) refl
send_quiet_by (Some refusal) p order now quiet = quiet

pub send_quiet : (p : Port) (order : Order) (now : ℕ) → is_sending p.phase ≡ false → is_sending (send_after p order now).phase ≡ false
send_quiet p order now quiet = send_quiet_by (refused p order now) p order now quiet

pub begins_by : (p : Port) (c : Call) (s : Sent) → is_sending p.phase ≡ false → (after p c).phase ≡ Sending s → BeginsBy p s c
begins_by p (Sends order now) s quiet sends = not_both (send_after p order now).phase s (send_quiet p order now quiet) sends
begins_by p (Times now) s quiet sends = timer_begins p now s quiet sends
begins_by p (Turns low now) s quiet sends = not_both (edge_after p low now).phase s (edge_quiet p low now quiet) sends
begins_by p (Loses low now) s quiet sends = not_both (lost_after p low now).phase s (lost_quiet p low now quiet) sends
