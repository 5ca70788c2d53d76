use Rattle.std.proofs.Common.{◌≡◌, ℕ, ◌+◌, ◌-◌, ◌*◌, ◌≤◌, ◌<◌, ◌^◌, ◌==◌, min, max, Bool, true, false, ◌&&◌, not, List, [], ◌∷◌, Option, Some, None, refl}
use Rattle.std.proofs.Common.{sym, ◌∙◌, ap, subst, arith, if◌then◌else◌, nat_lt, nat_le}
use Rattle.std.proofs.lemmas.Bool.Decides.{nat_tests}
use Rattle.std.specs.Option.{option_map}
use Rattle.dali_frame.specs.declared.frames.Answer.{Answer}
use Rattle.dali_wire.specs.declared.receiver.{Reading.Reading, Frame.Frame as Told-frame}
use Rattle.dali_wire.specs.declared.receiver.Reading.TheVariants as reading
use Rattle.dali_wire.specs.Reception.{told_of, receiver_at, reading_at}
use Rattle.dali_wire.specs.Windows.{told_after, window_at, is_idle}
use Rattle.dali_port.specs.Courses.{Course}
use Rattle.dali_port.specs.Courses as course
use Rattle.dali_port.specs.declared.orders.{Order.Order}
use Rattle.dali_port.specs.State.{Port, Phase, Sent, After, Free, Waiting, Sending, Breaking, Listening, window_of}
use Rattle.dali_port.specs.Times.{half_bit, settling_of}
use Rattle.dali_port.specs.Orders.{refusal_of, is_first}
use Rattle.dali_port.specs.Frames.{driven_in, same, agreed_by, compared_by, compared, turned, begun_at, sent_beyond, sent_until}
use Rattle.dali_port.specs.Ports.{since_edge, noted_told, read_at, has_no_power, rested, is_broken_off, broken_at, on_course}
use Rattle.dali_port.specs.Ports.{with_level, spoilt, listened_by, until_in, until, edge_in, edged, lost}
use Rattle.dali_port.specs.Calls.{is_backwards, may_begin, is_too_late, is_drawn, timed_in, timed, same_level, begins_at, draws_until, drive_in, drive_of}
use Rattle.dali_port.specs.Calls.{is_free}
use Rattle.dali_port.specs.Laws.{is_busy, is_waiting}
use Rattle.dali_port.specs.Runs.{Call, Sends, Times, Turns, Loses, time_of, after, after_all, one_if, words, taken_by, frames}
use Rattle.dali_port.specs.Bounds.{IsAtRest, drawn_by, ends_by, IsBy, IsSeen, AreInTime}
use Rattle.dali_port.proofs.Course.{goes_is}
use Rattle.dali_port.proofs.Ends.{words_are}
use Rattle.dali_port.proofs.Words.{send_keeps}

-- HOW LONG A FRAME TAKES

-- what is so of a port from rest on, until its frame ends by this moment
abbrev Holds : ℕ → ℕ → Phase → Port → Type 0
Holds end late Free p = Unit {0}
Holds end late (Waiting order) p = IsAtRest p × (ends_by p order late ≤ end)
Holds end late (Sending s) p =
    (s.half ≤ 39) × (p.edge ≤ p.called) × (p.called ≤ s.since + 417) × (s.since + 417 * (40 - s.half) + 50000 + late ≤ end)
Holds end late (Breaking since) p = (p.called ≤ end) × (since + 1300 ≤ end)
Holds end late (Listening l) p = (p.edge + 50000 ≤ l.elapsed + end) × (p.called ≤ end) × (p.edge ≤ end)

abbrev HoldsNow : ℕ → ℕ → Port → Type 0
HoldsNow end late p = Holds end late p.phase p

-- A FRAME THAT GOES ON is in time
abbrev Kept : Sent → Sent → ℕ → Type 0
Kept s u now = (u.half ≤ 39) × (now ≤ u.since + 417) × (u.since + 417 * (40 - u.half) ≡ s.since + 417 * (40 - s.half))

within_half : (since now : ℕ) → nat_lt (now - since) 417 ≡ true → now ≤ since + 417
within_half since now soon = grind (arith, nat_tests)

kept_within : (s u : Sent) (a now : ℕ) → s.half ≤ 39 → nat_lt (now - s.since) 417 ≡ true → compared_by s a now ≡ course.Goes u → Kept s u now
kept_within s u a now few soon e =
    let same_as : record s { agreed = a } ≡ u = goes_is (nat_lt 40 (now - a)) _ u e in
    subst (λ (x : Sent). Kept s x now) same_as (few, within_half s.since now soon, refl)

next_few : (h : ℕ) → nat_le 39 h ≡ false → min (h + 1) 255 ≤ 39
next_few h few = grind (arith, nat_tests)

next_soon : (since now : ℕ) → nat_lt 834 (now - since) ≡ false → now ≤ since + 417 + 417
next_soon since now soon = grind (arith, nat_tests)

less : (h : ℕ) → nat_le 39 h ≡ false → h < 39
less h few = grind (arith, nat_tests)

next_is : (since h : ℕ) → h < 39 → since + 417 + 417 * (40 - min (h + 1) 255) ≡ since + 417 * (40 - h)
next_is since h few = omega (arith, few)

kept_next : (over late : Bool) (s v u : Sent) (a now : ℕ) → v.half ≡ s.half → nat_le 39 s.half ≡ over → nat_lt 834 (now - s.since) ≡ late
    → (if over then course.Whole else (if late then course.Destroyed else compared_by (turned v (s.since + 417)) a now)) ≡ course.Goes u → Kept s u now
kept_next true late s v u a now is few soon e = absurd (cc)
kept_next false true s v u a now is few soon e = absurd (cc)
kept_next false false s v u a now is few soon e =
    let same_as : record (turned v (s.since + 417)) { agreed = a } ≡ u = goes_is (nat_lt 40 (now - a)) _ u e in
    subst (λ (x : Sent). Kept s x now) same_as
    (subst (λ h. (min (h + 1) 255 ≤ 39) × (now ≤ s.since + 417 + 417) × (s.since + 417 + 417 * (40 - min (h + 1) 255) ≡ s.since + 417 * (40 - s.half)))
    (sym is) (next_few s.half few, next_soon s.since now soon, next_is s.since s.half (less s.half few)))

kept_beyond : (c : Course) (s u : Sent) (a : ℕ) (low : Bool) (now : ℕ) → compared_by s a (s.since + 417) ≡ c
    → sent_beyond c (s.since + 417) (now - s.since) low now ≡ course.Goes u → Kept s u now
kept_beyond (course.Goes v) s u a low now was e =
    let same_as : record s { agreed = a } ≡ v = goes_is (nat_lt 40 (s.since + 417 - a)) _ v was in
    let is : v.half ≡ s.half = subst (λ (x : Sent). x.half ≡ s.half) same_as refl in
    kept_next (nat_le 39 v.half) (nat_lt 834 (now - s.since)) s v u
    (agreed_by (driven_in (turned v (s.since + 417))) low (turned v (s.since + 417)).agreed now) now is (ap (λ h. nat_le 39 h) (sym is)) refl e
kept_beyond course.Destroyed s u a low now was e = absurd (cc)
kept_beyond course.Whole s u a low now was e = absurd (cc)

kept_by : (b : Bool) (s u : Sent) (low : Bool) (now : ℕ) → nat_lt (now - s.since) 417 ≡ b → s.half ≤ 39
    → (if b then compared s low now else sent_beyond (compared s low (s.since + 417)) (s.since + 417) (now - s.since) low now) ≡ course.Goes u
    → Kept s u now
kept_by true s u low now is few e = kept_within s u (agreed_by (driven_in s) low s.agreed now) now few is e
kept_by false s u low now is few e =
    kept_beyond (compared s low (s.since + 417)) s u (agreed_by (driven_in s) low s.agreed (s.since + 417)) low now refl e

kept : (s u : Sent) (low : Bool) (now : ℕ) → s.half ≤ 39 → sent_until s low now ≡ course.Goes u → Kept s u now
kept s u low now few e = kept_by (nat_lt (now - s.since) half_bit) s u low now refl few e

-- WHAT BECOMES OF IT by this time
abbrev InTime : ℕ → ℕ → ℕ → Sent → ℕ → Type 0
InTime end late edge s now =
    (edge ≤ now) × (edge ≤ s.since + 417) × (now ≤ s.since + 417 + late) × (s.half ≤ 39) × (s.since + 417 * (40 - s.half) + 50000 + late ≤ end)

ends_soon : (since half now late end : ℕ) → now ≤ since + 417 + late → half ≤ 39 → since + 417 * (40 - half) + 50000 + late ≤ end → now + 1300 ≤ end
ends_soon since half now late end soon few by = omega (arith, soon, few, by)

now_soon : (now end : ℕ) → now + 1300 ≤ end → now ≤ end
now_soon now end soon = omega (arith, soon)

edge_soon : (edge since half late end : ℕ) → edge ≤ since + 417 → half ≤ 39 → since + 417 * (40 - half) + 50000 + late ≤ end → edge + 50000 ≤ end
edge_soon edge since half late end soon few by = omega (arith, soon, few, by)

more : (edge elapsed end : ℕ) → edge + 50000 ≤ end → edge + 50000 ≤ elapsed + end
more edge elapsed end soon = omega (arith, soon)

less_by : (edge end : ℕ) → edge + 50000 ≤ end → edge ≤ end
less_by edge end soon = omega (arith, soon)

same_by : (a b late end : ℕ) → a ≡ b → b + 50000 + late ≤ end → a + 50000 + late ≤ end
same_by a b late end is by = omega (arith, is, by)

course_holds : (c : Course) (q : Port) (s : Sent) (now late end : ℕ) → q.called ≡ now → ((u : Sent) → c ≡ course.Goes u → Kept s u now)
    → InTime end late q.edge s now → HoldsNow end late (on_course q s now c)
course_holds (course.Goes u) q s now late end at goes it =
    let on : Kept s u now = goes u refl in (
      on.0,
      subst (λ t. q.edge ≤ t) (sym at) it.0,
      subst (λ t. t ≤ u.since + 417) (sym at) on.1,
      same_by (u.since + 417 * (40 - u.half)) (s.since + 417 * (40 - s.half)) late end on.2 it.4,
    )
course_holds course.Destroyed q s now late end at goes it =
    let soon : now + 1300 ≤ end = ends_soon s.since s.half now late end it.2 it.3 it.4 in
    (subst (λ t. t ≤ end) (sym at) (now_soon now end soon), soon)
course_holds course.Whole q s now late end at goes it =
    let soon : q.edge + 50000 ≤ end = edge_soon q.edge s.since s.half late end it.1 it.3 it.4 in (
      more q.edge (min (q.edge - s.driven) (2 ^ 32 - 1)) end soon,
      subst (λ t. t ≤ end) (sym at) (now_soon now end (ends_soon s.since s.half now late end it.2 it.3 it.4)),
      less_by q.edge end soon,
    )

course_timed : (c : Course) (q : Port) (s : Sent) (now : ℕ) → timed (on_course q s now c) now ≡ on_course q s now c
course_timed (course.Goes u) q s now = refl
course_timed course.Destroyed q s now = refl
course_timed course.Whole q s now = refl

-- and at an edge
beyond : (edge elapsed now end : ℕ) → edge ≤ now → now ≤ end → edge + 50000 ≤ elapsed + end → elapsed ≤ 2 ^ 32 - 1
    → now + 50000 ≤ min (elapsed + min (now - edge) (2 ^ 32 - 1)) (2 ^ 32 - 1) + end
beyond edge elapsed now end order soon by few = omega (arith, order, soon, by, few)

clipped : (n : ℕ) → min n (2 ^ 32 - 1) ≤ 2 ^ 32 - 1
clipped n = omega arith

itself : (n : ℕ) → n ≤ n
itself n = omega arith

led : (b : Bool) (q : Port) (u : Sent) (low : Bool) (now late end : ℕ) → u.half ≤ 39 → now ≤ u.since + 417
    → u.since + 417 * (40 - u.half) + 50000 + late ≤ end → now + 1300 ≤ end
    → HoldsNow end late (with_level (if b then record q { phase = Sending u } else broken_at (record q { phase = Sending u }) u.order.frame now) low now)
led true q u low now late end few soon by breaks = (few, itself now, soon, by)
led false q u low now late end few soon by breaks = (now_soon now end breaks, breaks)

edge_holds : (c : Course) (q : Port) (s : Sent) (low : Bool) (now late end : ℕ) → ((u : Sent) → c ≡ course.Goes u → Kept s u now)
    → InTime end late q.edge s now → HoldsNow end late (edged (on_course q s now c) low now)
edge_holds (course.Goes u) q s low now late end goes it =
    let on : Kept s u now = goes u refl in
    led (same (driven_in u) low) q u low now late end on.0 on.1
    (same_by (u.since + 417 * (40 - u.half)) (s.since + 417 * (40 - s.half)) late end on.2 it.4)
    (ends_soon s.since s.half now late end it.2 it.3 it.4)
edge_holds course.Destroyed q s low now late end goes it =
    let soon : now + 1300 ≤ end = ends_soon s.since s.half now late end it.2 it.3 it.4 in
    (now_soon now end soon, soon)
edge_holds course.Whole q s low now late end goes it =
    let soon : q.edge + 50000 ≤ end = edge_soon q.edge s.since s.half late end it.1 it.3 it.4 in
    let by : now ≤ end = now_soon now end (ends_soon s.since s.half now late end it.2 it.3 it.4) in
    let elapsed : ℕ = min (q.edge - s.driven) (2 ^ 32 - 1) in
    (beyond q.edge elapsed now end it.0 by (more q.edge elapsed end soon) (clipped (q.edge - s.driven)), by, by)

-- A BREAK, and the edges in it
break_soon : (since now end : ℕ) → nat_le 1300 (now - since) ≡ false → since + 1300 ≤ end → now ≤ end
break_soon since now end on by = grind (arith, nat_tests)

broken_holds : (b : Bool) (q : Port) (since now late end : ℕ) → q.phase ≡ Breaking since → q.called ≡ now → nat_le 1300 (now - since) ≡ b
    → since + 1300 ≤ end → HoldsNow end late (timed (if b then record q { receiver = spoilt q.is_low; phase = Free } else q) now)
broken_holds true q since now late end is at on by = tt {0}
broken_holds false q since now late end is at on by =
    subst (λ ph. HoldsNow end late (timed_in ph q now)) (sym is)
    (subst (λ ph. Holds end late ph q) (sym is) (subst (λ t. t ≤ end) (sym at) (break_soon since now end on by), by))

broken_edge : (b : Bool) (q : Port) (since : ℕ) (low : Bool) (now late end : ℕ) → q.phase ≡ Breaking since → nat_le 1300 (now - since) ≡ b
    → since + 1300 ≤ end → HoldsNow end late (edged (if b then record q { receiver = spoilt q.is_low; phase = Free } else q) low now)
broken_edge true q since low now late end is on by = tt {0}
broken_edge false q since low now late end is on by =
    subst (λ ph. HoldsNow end late (with_level (edge_in ph q low now) low now)) (sym is)
    (subst (λ ph. Holds end late ph (with_level q low now)) (sym is) (break_soon since now end on by, by))

-- THE WINDOW
not_given_up : (over up : Bool) (heard bad : Answer) → (if over then Some heard else (if up then Some bad else None)) ≡ None → up ≡ false
not_given_up true up heard bad is = absurd (cc)
not_given_up false true heard bad is = absurd (cc)
not_given_up false false heard bad is = refl

still_soon : (edge elapsed now end : ℕ) → nat_lt 50000 (min (elapsed + min (now - edge) (2 ^ 32 - 1)) (2 ^ 32 - 1)) ≡ false
    → edge + 50000 ≤ elapsed + end → edge ≤ end → now ≤ end
still_soon edge elapsed now end on by soon = grind (arith, nat_tests)

still_beyond : (edge elapsed now end : ℕ) → nat_lt 50000 (min (elapsed + min (now - edge) (2 ^ 32 - 1)) (2 ^ 32 - 1)) ≡ false
    → edge + 50000 ≤ elapsed + end → now + 50000 ≤ min (elapsed + min (now - edge) (2 ^ 32 - 1)) (2 ^ 32 - 1) + end
still_beyond edge elapsed now end on by = grind (arith, nat_tests)

heard_holds : (heard : Option Answer) (q : Port) (l : After) (now late end : ℕ) → q.called ≡ now → told_after (window_of q l) (since_edge q now) ≡ heard
    → q.edge + 50000 ≤ l.elapsed + end → q.edge ≤ end
    → HoldsNow end late (timed (listened_by q l.asks (window_at (window_of q l) (since_edge q now)) heard) now)
heard_holds (Some heard) q l now late end at is by soon = tt {0}
heard_holds None q l now late end at is by soon =
    (by, subst (λ t. t ≤ end) (sym at) (still_soon q.edge l.elapsed now end (not_given_up _ _ _ _ is) by soon), soon)

heard_edge : (heard : Option Answer) (q : Port) (l : After) (low : Bool) (now late end : ℕ) → told_after (window_of q l) (since_edge q now) ≡ heard
    → q.edge + 50000 ≤ l.elapsed + end → q.edge ≤ end
    → HoldsNow end late (edged (listened_by q l.asks (window_at (window_of q l) (since_edge q now)) heard) low now)
heard_edge (Some heard) q l low now late end is by soon = tt {0}
heard_edge None q l low now late end is by soon =
    let ends : now ≤ end = still_soon q.edge l.elapsed now end (not_given_up _ _ _ _ is) by soon in
    (still_beyond q.edge l.elapsed now end (not_given_up _ _ _ _ is) by, ends, ends)

-- A BUS AT REST tells nothing
either_none : (b : Bool) (f : Option Told-frame) → f ≡ None → (if b then None else f) ≡ None
either_none true f is = refl
either_none false f is = is

rests : (r : Reading) (low : Bool) (lasted since : ℕ) → is_idle r ≡ true → told_of (record { reading = r; is_low = low; lasted = lasted }) since ≡ None
rests reading.Idle true lasted since is = refl
rests reading.Idle false lasted since is =
    ap (λ f. option_map (λ (frame : Told-frame). record { frame = frame; lasted = lasted; since = since }) f) (either_none (nat_lt since 2400) None refl)
rests reading.First low lasted since is = absurd (cc)
rests (reading.Between bits) low lasted since is = absurd (cc)
rests (reading.Middle bits) low lasted since is = absurd (cc)
rests reading.Spoilt low lasted since is = absurd (cc)

no_power : (low late : Bool) → low ≡ false → low && late ≡ false
no_power true late high = absurd (cc)
no_power false late high = refl

powered : (p : Port) (now : ℕ) (b : Bool) → b ≡ false
    → (if b then record p { is_powerless = true; is_over = true; phase = Free } else read_at p now) ≡ read_at p now
powered p now true isnt = absurd (cc)
powered p now false isnt = refl

at_rest : (p : Port) (now : ℕ) → p.is_low ≡ false → is_idle p.receiver.reading ≡ true
    → rested p now ≡ record p { receiver = receiver_at p.receiver (since_edge p now) }
at_rest p now high idle =
    let told : told_of p.receiver (since_edge p now) ≡ None = rests p.receiver.reading p.receiver.is_low p.receiver.lasted (since_edge p now) idle in
    powered p now (has_no_power p now) (no_power p.is_low _ high)
    ∙ ap (λ x. noted_told (record p { receiver = receiver_at p.receiver (since_edge p now) }) x) told

-- A FRAME THAT WAITS
settled_later : (edge rest now : ℕ) → nat_le rest (now - edge) ≡ true → 1 ≤ rest → edge ≤ now
settled_later edge rest now is some = grind (arith, nat_tests)

by_priority : (a b c d : Bool)
    → 1 ≤ (if a then 13500 else (if b then 14900 else (if c then 16300 else (if d then 17900 else 19500))))
by_priority true b c d = omega arith
by_priority false true c d = omega arith
by_priority false false true d = omega arith
by_priority false false false true = omega arith
by_priority false false false false = omega arith

settling_some : (n : ℕ) → 1 ≤ settling_of n
settling_some n = by_priority (n == 1) (n == 2) (n == 3) (n == 4)

some_rest : (settling drawn : ℕ) → 1 ≤ settling → 1 ≤ settling + drawn
some_rest settling drawn some = omega (arith, some)

rested_by : (low a b : Bool) → not low && (a && b) ≡ true → a ≡ true
rested_by true a b is = absurd (cc)
rested_by false true b is = refl
rested_by false false b is = absurd (cc)

begin_in_time : (draws : Option ℕ) (called rest now late : ℕ) → now ≤ max (max (min rest (2 ^ 64 - 1)) (draws_until draws)) called + late
    → now ≤ max called (max rest (drawn_by draws)) + late
begin_in_time None called rest now late is = omega (arith, is)
begin_in_time (Some draws) called rest now late is = omega (arith, is)

begin_ends : (now start late end : ℕ) → now ≤ start + late → start + (40 * 417 + 50000 + 2 * late) ≤ end → now + 417 * (40 - 0) + 50000 + late ≤ end
begin_ends now start late end is by = omega (arith, is, by)

zero_few : 0 ≤ 39
zero_few = omega arith

-- as long as it may not begin, the moment when it may is to come
not_rested : (edge rest now other : ℕ) → nat_le rest (now - edge) ≡ false → now ≤ max (edge + rest) other
not_rested edge rest now other is = grind (arith, nat_tests)

not_drawn : (draws now other : ℕ) → nat_le 100000 (now - draws) ≡ false → now ≤ max other (draws + 100000)
not_drawn draws now other is = grind (arith, nat_tests)

not_yet : (low a : Bool) (draws : Option ℕ) (edge rest now : ℕ) → low ≡ false → nat_le rest (now - edge) ≡ a
    → not low && (a && is_drawn draws now) ≡ false → now ≤ max (edge + rest) (drawn_by draws)
not_yet true a draws edge rest now high is isnt = absurd (cc)
not_yet false false draws edge rest now high is isnt = not_rested edge rest now (drawn_by draws) is
not_yet false true None edge rest now high is isnt = absurd (cc)
not_yet false true (Some draws) edge rest now high is isnt = not_drawn draws now (edge + rest) isnt

same_start : (called now start : ℕ) → now ≤ start → max now start ≤ max called start
same_start called now start is = omega (arith, is)

start_ends : (a b late end : ℕ) → a ≤ b → b + (40 * 417 + 50000 + 2 * late) ≤ end → a + (40 * 417 + 50000 + 2 * late) ≤ end
start_ends a b late end is by = omega (arith, is, by)

idle_if : (b : Bool) (r : Reading) → is_idle r ≡ true → is_idle (if b then r else reading.Idle) ≡ true
idle_if true r idle = idle
idle_if false r idle = refl

soon_after : (now : ℕ) → now ≤ now + 417
soon_after now = omega arith

idle_at : (r : Reading) (low : Bool) (since : ℕ) → is_idle r ≡ true → is_idle (reading_at r low since) ≡ true
idle_at r true since idle = idle
idle_at r false since idle = idle_if (nat_lt since 2400) r idle

wait_holds : (may gone : Bool) (q : Port) (order : Order) (now called late end : ℕ) → q.phase ≡ Waiting order → q.called ≡ now → IsAtRest q
    → may_begin q order now ≡ may → now ≤ max called (max (q.edge + (settling_of order.priority + order.drawn)) (drawn_by q.draws)) + late
    → max called (max (q.edge + (settling_of order.priority + order.drawn)) (drawn_by q.draws)) + (40 * 417 + 50000 + 2 * late) ≤ end
    → HoldsNow end late (if may then (if gone then record q { is_over = true; phase = Free } else record q {
      is_over = false;
      first = if is_first order.half then Some now else None;
      phase = Sending (begun_at order now);
    }) else q)
wait_holds true true q order now called late end is at rest may in_time by = tt {0}
wait_holds true false q order now called late end is at rest may in_time by = (
  zero_few,
  subst (λ t. q.edge ≤ t) (sym at)
      (settled_later q.edge (settling_of order.priority + order.drawn) now (rested_by q.is_low _ (is_drawn q.draws now) may)
      (some_rest (settling_of order.priority) order.drawn (settling_some order.priority))),
  subst (λ t. t ≤ now + 417) (sym at) (soon_after now),
  begin_ends now _ late end in_time by,
)
wait_holds false gone q order now called late end is at rest may in_time by =
    subst (λ ph. Holds end late ph q) (sym is) (
      rest,
      subst (λ t. max t (max (q.edge + (settling_of order.priority + order.drawn)) (drawn_by q.draws)) + (40 * 417 + 50000 + 2 * late) ≤ end) (sym at)
          (start_ends _ _ late end
          (same_start called now _
          (not_yet q.is_low (nat_le (settling_of order.priority + order.drawn) (now - q.edge)) q.draws q.edge
          (settling_of order.priority + order.drawn) now rest.0 refl may))
          by),
    )

-- AT THE TIMER, AND AT AN EDGE
by_rest : (low idle powerless : Bool) (begin power stop called late now : ℕ) → low ≡ false → idle ≡ true
    → IsBy (if low then (if powerless && false then None else Some power) else (if idle then Some begin else Some stop)) called late now
    → now ≤ max begin called + late
by_rest true idle powerless begin power stop called late now high rests by = absurd (cc)
by_rest false true powerless begin power stop called late now high rests by = by
by_rest false false powerless begin power stop called late now high rests by = absurd (cc)

in_half : (since called now late : ℕ) → called ≤ since + 417 → now ≤ max (min (since + 417) (2 ^ 64 - 1)) called + late → now ≤ since + 417 + late
in_half since called now late soon by = omega (arith, soon, by)

until_of : (a b c : ℕ) → a ≤ b → b ≤ c → a ≤ c
until_of a b c one two = omega (arith, one, two)

sends : (p : Port) (s : Sent) (now late end : ℕ) → Holds end late (Sending s) p → p.called ≤ now
    → now ≤ max (min (s.since + 417) (2 ^ 64 - 1)) p.called + late → InTime end late p.edge s now
sends p s now late end it before by = (
  until_of p.edge p.called now it.1 before,
  until_of p.edge p.called (s.since + 417) it.1 it.2,
  in_half s.since p.called now late it.2 by,
  it.0,
  it.3,
)

timer_in : (ph : Phase) (p : Port) (now late end : ℕ) → p.phase ≡ ph → is_busy ph ≡ true → Holds end late ph p → p.called ≤ now
    → IsBy (drive_in ph p).at p.called late now → HoldsNow end late (timed (until_in ph (record p { called = now }) now) now)
timer_in Free p now late end is busy it before by = absurd (cc)
timer_in (Waiting order) p now late end is busy it before by =
    let q : Port = record p { called = now; receiver = receiver_at p.receiver (since_edge p now) } in
    subst (λ (x : Port). HoldsNow end late (timed x now)) (sym (at_rest (record p { called = now }) now it.0.0 it.0.1))
    (subst (λ ph. HoldsNow end late (timed_in ph q now)) (sym is)
    (wait_holds (may_begin q order now) (is_too_late q order now) q order now p.called late end is refl
    (it.0.0, idle_at p.receiver.reading p.receiver.is_low (since_edge p now) it.0.1) refl
    (begin_in_time p.draws p.called (p.edge + (settling_of order.priority + order.drawn)) now late
    (by_rest p.is_low (is_idle p.receiver.reading) p.is_powerless (begins_at p order) _ _ p.called late now it.0.0 it.0.1 by))
    it.1))
timer_in (Sending s) p now late end is busy it before by =
    subst (λ (x : Port). HoldsNow end late x) (sym (course_timed (sent_until s p.is_low now) (record p { called = now }) s now))
    (course_holds (sent_until s p.is_low now) (record p { called = now }) s now late end refl (λ u e. kept s u p.is_low now it.0 e)
    (sends p s now late end it before by))
timer_in (Breaking since) p now late end is busy it before by =
    broken_holds (is_broken_off since now) (record p { called = now }) since now late end is refl refl it.1
timer_in (Listening l) p now late end is busy it before by =
    heard_holds (told_after (window_of p l) (since_edge p now)) (record p { called = now }) l now late end refl refl it.0 it.2

edge_at : (ph : Phase) (p : Port) (low : Bool) (now late end : ℕ) → p.phase ≡ ph → is_busy ph ≡ true → is_waiting ph ≡ false → Holds end late ph p
    → p.called ≤ now → IsBy (drive_in ph p).at p.called late now → HoldsNow end late (edged (until_in ph (record p { called = now }) now) low now)
edge_at Free p low now late end is busy on it before by = absurd (cc)
edge_at (Waiting order) p low now late end is busy on it before by = absurd (cc)
edge_at (Sending s) p low now late end is busy on it before by =
    edge_holds (sent_until s p.is_low now) (record p { called = now }) s low now late end (λ u e. kept s u p.is_low now it.0 e)
    (sends p s now late end it before by)
edge_at (Breaking since) p low now late end is busy on it before by =
    broken_edge (is_broken_off since now) (record p { called = now }) since low now late end is refl it.1
edge_at (Listening l) p low now late end is busy on it before by =
    heard_edge (told_after (window_of p l) (since_edge p now)) (record p { called = now }) l low now late end refl it.0 it.2

-- EACH CALL
order_of_times : (called now : ℕ) → nat_lt now called ≡ false → called ≤ now
order_of_times called now is = grind (arith, nat_tests)

timer_step : (b : Bool) (p : Port) (now late end : ℕ) → is_backwards p now ≡ b → is_busy p.phase ≡ true → HoldsNow end late p
    → IsBy (drive_of p).at p.called late now → HoldsNow end late (if b then p else timed (until p now) now)
timer_step true p now late end is busy it by = it
timer_step false p now late end is busy it by = timer_in p.phase p now late end refl busy it (order_of_times p.called now is) by

edge_step : (b gone : Bool) (p : Port) (low : Bool) (now late end : ℕ) → is_backwards p now ≡ b → gone ≡ false → is_waiting p.phase ≡ false
    → is_busy p.phase ≡ true → HoldsNow end late p → IsBy (drive_of p).at p.called late now
    → HoldsNow end late (if b then p else (if gone then lost p low now else edged (until p now) low now))
edge_step true gone p low now late end is seen on busy it by = it
edge_step false true p low now late end is seen on busy it by = absurd (cc)
edge_step false false p low now late end is seen on busy it by =
    edge_at p.phase p low now late end refl busy on it (order_of_times p.called now is) by

step : (p : Port) (c : Call) (late end : ℕ) → is_busy p.phase ≡ true → HoldsNow end late p → IsBy (drive_of p).at p.called late (time_of c) → IsSeen p c
    → HoldsNow end late (after p c)
step p (Sends order now) late end busy it by seen =
    subst (λ (x : Port). HoldsNow end late x) (sym (send_keeps (is_backwards p now) (is_free p.phase) (refusal_of order) p order now busy)) it
step p (Times now) late end busy it by seen = timer_step (is_backwards p now) p now late end refl busy it by
step p (Turns low now) late end busy it by seen =
    edge_step (is_backwards p now) (same_level p.is_low low) p low now late end refl seen.1 seen.0 busy it by
step p (Loses low now) late end busy it by seen = absurd seen

-- OVER A RUN
wait_by : (called start late end : ℕ) → max called start + (40 * 417 + 50000 + 2 * late) ≤ end → called ≤ end
wait_by called start late end by = omega (arith, by)

send_by : (called since half late end : ℕ) → called ≤ since + 417 → half ≤ 39 → since + 417 * (40 - half) + 50000 + late ≤ end → called ≤ end
send_by called since half late end soon few by = omega (arith, soon, few, by)

called_by : (ph : Phase) (p : Port) (late end : ℕ) → is_busy ph ≡ true → Holds end late ph p → p.called ≤ end
called_by Free p late end busy it = absurd (cc)
called_by (Waiting order) p late end busy it = wait_by p.called _ late end it.1
called_by (Sending s) p late end busy it = send_by p.called s.since s.half late end it.2 it.0 it.3
called_by (Breaking since) p late end busy it = it.0
called_by (Listening l) p late end busy it = it.1

none_more : (a b : ℕ) → a + b ≡ 0 → b ≡ 0
none_more a b is = omega (arith, is)

-- a frame that has ended is not under way later, if none is taken
not_again : (words fs : ℕ) (x y : Bool) → words + one_if y ≡ fs + one_if x → fs ≡ 0 → x ≡ false → y ≡ true → ⊥
not_again words fs true y is none done on = absurd (cc)
not_again words fs false false is none done on = absurd (cc)
not_again words fs false true is none done on = let no : words + 1 ≡ fs + 0 = is in omega (arith, no, none)

run_by : (b : Bool) (q : Port) (calls : List Call) (late end : ℕ) → is_busy q.phase ≡ b → HoldsNow end late q → AreInTime late q calls
    → frames q calls ≡ 0 → is_busy (after_all q calls).phase ≡ true → (after_all q calls).called ≤ end
run_by true q [] late end busy it in_time none on = called_by q.phase q late end busy it
run_by true q (c ∷ calls) late end busy it in_time none on =
    run_by (is_busy (after q c).phase) (after q c) calls late end refl (step q c late end busy it in_time.0 in_time.1) in_time.2
    (none_more (taken_by q c) (frames (after q c) calls) none) on
run_by false q calls late end busy it in_time none on =
    absurd (not_again (words q calls) (frames q calls) (is_busy q.phase) (is_busy (after_all q calls).phase) (words_are q calls) none busy on)

waits_busy : (ph : Phase) (order : Order) → ph ≡ Waiting order → is_busy ph ≡ true
waits_busy ph order is = ap (λ x. is_busy x) is

too_late : (called end : ℕ) → called ≤ end → end < called → ⊥
too_late called end one two = omega (arith, one, two)

one_word : (words fs : ℕ) (x y : Bool) → words + one_if y ≡ fs + one_if x → fs ≡ 0 → x ≡ true → y ≡ false → words ≡ 1
one_word words fs false y is none busy done = absurd (cc)
one_word words fs true true is none busy done = absurd (cc)
one_word words fs true false is none busy done = let so : words + 0 ≡ fs + 1 = is in omega (arith, so, none)

end_by : (b : Bool) (p : Port) (order : Order) (late : ℕ) (calls : List Call) → is_busy (after_all p calls).phase ≡ b → p.phase ≡ Waiting order
    → IsAtRest p → AreInTime late p calls → frames p calls ≡ 0 → ends_by p order late < (after_all p calls).called → words p calls ≡ 1
end_by true p order late calls on is rest in_time none past =
    absurd (too_late _ _
    (run_by true p calls late (ends_by p order late) (waits_busy p.phase order is)
    (subst (λ ph. Holds (ends_by p order late) late ph p) (sym is) (rest, itself (ends_by p order late))) in_time none on)
    past)
end_by false p order late calls on is rest in_time none past =
    one_word (words p calls) (frames p calls) (is_busy p.phase) (is_busy (after_all p calls).phase) (words_are p calls) none (waits_busy p.phase order is) on

pub frame_ends : (p : Port) (order : Order) (late : ℕ) (calls : List Call) → p.phase ≡ Waiting order → IsAtRest p → AreInTime late p calls
    → frames p calls ≡ 0 → ends_by p order late < (after_all p calls).called → words p calls ≡ 1
frame_ends p order late calls is rest in_time none past =
    end_by (is_busy (after_all p calls).phase) p order late calls refl is rest in_time none past
