use Rattle.std.proofs.Common.{◌≡◌, ℕ, ◌+◌, ◌-◌, ◌*◌, ◌≤◌, Bool, true, false, ◌⊎◌, inl, inr, List, [], ◌∷◌, ◌++◌, Option, Some, None, refl, sym, ◌∙◌}
use Rattle.std.proofs.Common.{ap, subst, arith, if◌then◌else◌, nat_lt, nat_le}
use Rattle.std.proofs.lemmas.Bool.Decides.{nat_tests}
use Rattle.dali_port.specs.Courses.{Course}
use Rattle.dali_port.specs.Courses as course
use Rattle.dali_port.specs.declared.orders.{Order.Order, Refusal.Refusal}
use Rattle.dali_port.specs.declared.orders.Refusal.TheVariants.{Backwards, Busy}
use Rattle.dali_port.specs.Orders.{refusal_of}
use Rattle.dali_port.specs.State.{Port, Phase, Sent, Free, Waiting, Sending, Breaking, Listening}
use Rattle.dali_port.specs.Times.{half_bit}
use Rattle.dali_port.specs.Frames.{driven_in, next_in, same, begun_at, compared, turned, sent_beyond, sent_until}
use Rattle.dali_port.specs.Ports.{broken_at, on_course, until_in, edged, with_level, lost_in}
use Rattle.dali_port.specs.Calls.{is_backwards, timed, same_level, is_free, send_after_by}
use Rattle.dali_port.specs.Laws.{is_sending}
use Rattle.dali_port.specs.Runs.{Call, Sends, Times, Turns, Loses, after}
use Rattle.dali_port.specs.Stretches.{Stretch, stretches, seen_in, seen_by, seen_by_all, longer, Follows, is_listening, IsWhole}
use Rattle.dali_port.proofs.Course.{sent_is}

-- NO LEVEL DIFFERED FOR TOO LONG while a frame was sent that is told as whole.

abbrev after_stretches : ℕ → List Stretch → ℕ
after_stretches before [] = before
after_stretches before (x ∷ rest) = after_stretches (longer before x) rest

joined : (before : ℕ) (xs ys : List Stretch) → Follows before xs → Follows (after_stretches before xs) ys → Follows before (xs ++ ys)
joined before [] ys one two = two
joined before (x ∷ xs) ys one two = (one.0, joined (longer before x) xs ys one.1 two)

-- what the course of a frame says of the stretches until now
abbrev Says : Course → List Stretch → ℕ → ℕ → Type 0
Says (course.Goes t) xs before now = Follows before xs × (t.agreed + after_stretches before xs ≡ now) × (now ≤ t.since + 417)
Says course.Destroyed xs before now = Unit {0}
Says course.Whole xs before now = Follows before xs

with_first : (c : Course) (x : Stretch) (rest : List Stretch) (before now : ℕ) → longer before x ≤ 40 → Says c rest (longer before x) now
    → Says c (x ∷ rest) before now
with_first (course.Goes t) x rest before now less says = ((less, says.0), says.1, says.2)
with_first course.Destroyed x rest before now less says = tt {0}
with_first course.Whole x rest before now less says = (less, says)

one_less : (agreed before from now : ℕ) → agreed + before ≡ from → from ≤ now → nat_lt 40 (now - agreed) ≡ false → before + (now - from) ≤ 40
one_less agreed before from now is more near = grind (arith, nat_tests)

one_sum : (agreed before from now : ℕ) → agreed + before ≡ from → from ≤ now → agreed + (before + (now - from)) ≡ now
one_sum agreed before from now is more = omega (arith, is, more)

zero_sum : (now : ℕ) → now + 0 ≡ now
zero_sum now = omega arith

zero_less : 0 ≤ 40
zero_less = omega arith

one_says : (m late : Bool) (t : Sent) (from now before : ℕ) → t.agreed + before ≡ from → from ≤ now → now ≤ t.since + 417
    → nat_lt 40 (now - (if m then now else t.agreed)) ≡ late
    → Says (if late then course.Destroyed else course.Goes (record t { agreed = if m then now else t.agreed })) ((m, now - from) ∷ []) before now
one_says m true t from now before is more less late = tt {0}
one_says true false t from now before is more less late = ((zero_less, tt {0}), zero_sum now, less)
one_says false false t from now before is more less late =
    ((one_less t.agreed before from now is more late, tt {0}), one_sum t.agreed before from now is more, less)

first_less : (m : Bool) (agreed before from turn : ℕ) → agreed + before ≡ from → from ≤ turn → nat_lt 40 (turn - (if m then turn else agreed)) ≡ false
    → longer before (m, turn - from) ≤ 40
first_less true agreed before from turn is more near = zero_less
first_less false agreed before from turn is more near = one_less agreed before from turn is more near

first_sum : (m : Bool) (agreed before from turn : ℕ) → agreed + before ≡ from → from ≤ turn
    → (if m then turn else agreed) + longer before (m, turn - from) ≡ turn
first_sum true agreed before from turn is more = zero_sum turn
first_sum false agreed before from turn is more = one_sum agreed before from turn is more

turn_past : (since now : ℕ) → nat_lt (now - since) 417 ≡ false → since + 417 ≤ now
turn_past since now late = grind (arith, nat_tests)

turn_near : (since now : ℕ) → nat_lt 834 (now - since) ≡ false → now ≤ since + 417 + 417
turn_near since now near = grind (arith, nat_tests)

within_half : (since now : ℕ) → nat_lt (now - since) 417 ≡ true → now ≤ since + 417
within_half since now early = grind (arith, nat_tests)

abbrev agreed_at : Sent → Bool → ℕ → ℕ
agreed_at s low turn = if same (driven_in s) low then turn else s.agreed

over_says : (over late : Bool) (s : Sent) (from : ℕ) (low : Bool) (now before : ℕ) → s.agreed + before ≡ from → from ≤ s.since + half_bit
    → s.since + half_bit ≤ now → nat_lt 40 (s.since + half_bit - agreed_at s low (s.since + half_bit)) ≡ false → nat_lt (2 * half_bit) (now - s.since) ≡ late
    → Says
    (if over then course.Whole else (if late then course.Destroyed
    else compared (turned (record s { agreed = agreed_at s low (s.since + half_bit) }) (s.since + half_bit)) low now))
    (if over then (same (driven_in s) low, s.since + half_bit - from) ∷ []
    else (same (driven_in s) low, s.since + half_bit - from) ∷ (same (next_in s) low, now - (s.since + half_bit)) ∷ [])
    before now
over_says true late s from low now before is turn past near late_is =
    (first_less (same (driven_in s) low) s.agreed before from (s.since + half_bit) is turn near, tt {0})
over_says false true s from low now before is turn past near late_is = tt {0}
over_says false false s from low now before is turn past near late_is =
    with_first _ (same (driven_in s) low, s.since + half_bit - from) ((same (next_in s) low, now - (s.since + half_bit)) ∷ []) before now
    (first_less (same (driven_in s) low) s.agreed before from (s.since + half_bit) is turn near)
    (one_says (same (next_in s) low) _ (turned (record s { agreed = agreed_at s low (s.since + half_bit) }) (s.since + half_bit)) (s.since + half_bit) now
    (longer before (same (driven_in s) low, s.since + half_bit - from))
    (first_sum (same (driven_in s) low) s.agreed before from (s.since + half_bit) is turn) past (turn_near s.since now late_is) refl)

beyond_says : (late : Bool) (s : Sent) (from : ℕ) (low : Bool) (now before : ℕ) → s.agreed + before ≡ from → from ≤ s.since + half_bit
    → s.since + half_bit ≤ now → nat_lt 40 (s.since + half_bit - agreed_at s low (s.since + half_bit)) ≡ late
    → Says
    (sent_beyond (if late then course.Destroyed else course.Goes (record s { agreed = agreed_at s low (s.since + half_bit) })) (s.since + half_bit)
    (now - s.since) low now)
    (if nat_le 39 s.half then (same (driven_in s) low, s.since + half_bit - from) ∷ []
    else (same (driven_in s) low, s.since + half_bit - from) ∷ (same (next_in s) low, now - (s.since + half_bit)) ∷ [])
    before now
beyond_says true s from low now before is turn past late_is = tt {0}
beyond_says false s from low now before is turn past late_is =
    over_says (nat_le 39 s.half) (nat_lt (2 * half_bit) (now - s.since)) s from low now before is turn past late_is refl

until_says : (early : Bool) (s : Sent) (from : ℕ) (low : Bool) (now before : ℕ) → s.agreed + before ≡ from → from ≤ s.since + half_bit → from ≤ now
    → nat_lt (now - s.since) half_bit ≡ early
    → Says
    (if early then compared s low now else sent_beyond (compared s low (s.since + half_bit)) (s.since + half_bit) (now - s.since) low now)
    (if early then (same (driven_in s) low, now - from) ∷ []
    else (if nat_le 39 s.half then (same (driven_in s) low, s.since + half_bit - from) ∷ []
    else (same (driven_in s) low, s.since + half_bit - from) ∷ (same (next_in s) low, now - (s.since + half_bit)) ∷ []))
    before now
until_says true s from low now before is turn more early_is =
    one_says (same (driven_in s) low) _ s from now before is more (within_half s.since now early_is) refl
until_says false s from low now before is turn more early_is =
    beyond_says _ s from low now before is turn (turn_past s.since now early_is) refl

sent_says : (s : Sent) (from : ℕ) (low : Bool) (now before : ℕ) → s.agreed + before ≡ from → from ≤ s.since + half_bit → from ≤ now
    → Says (sent_until s low now) (stretches s from low now) before now
sent_says s from low now before is turn more = until_says (nat_lt (now - s.since) half_bit) s from low now before is turn more refl

-- each call
abbrev Knows : Sent → ℕ → ℕ → Type 0
Knows s before now = (s.agreed + before ≡ now) × (now ≤ s.since + 417)

abbrev Kept : Port → List Stretch → ℕ → Type 0
Kept q xs before =
    (is_listening q.phase ≡ true) ⊎ (is_sending q.phase ≡ true)
    → Follows before xs × ((t : Sent) → q.phase ≡ Sending t → Knows t (after_stretches before xs) q.called)

stays : (p : Port) (s : Sent) (before : ℕ) → p.phase ≡ Sending s → Knows s before p.called → Kept p [] before
stays p s before was knows goes = (tt {0}, λ t e. subst (λ (x : Sent). Knows x before p.called) (sent_is s t (sym was ∙ e)) knows)

broken : (q : Port) (now : ℕ) (xs : List Stretch) (before : ℕ) → q.phase ≡ Breaking now → Kept q xs before
broken q now xs before is (inl goes) =
    let off : false ≡ true = sym (ap (λ ph. is_listening ph) is) ∙ goes in absurd (cc)
broken q now xs before is (inr goes) =
    let off : false ≡ true = sym (ap (λ ph. is_sending ph) is) ∙ goes in absurd (cc)

timed_kept : (c : Course) (q : Port) (s : Sent) (now : ℕ) (xs : List Stretch) (before : ℕ) → q.called ≡ now → Says c xs before now
    → Kept (timed (on_course q s now c) now) xs before
timed_kept (course.Goes u) q s now xs before at says =
    λ goes. (
      says.0,
      λ t e. subst (λ (x : Sent). Knows x (after_stretches before xs) q.called) (sent_is u t e)
          (subst (λ n. Knows u (after_stretches before xs) n) (sym at) (says.1, says.2)),
    )
timed_kept course.Destroyed q s now xs before at says = broken (broken_at q s.order.frame now) now xs before refl
timed_kept course.Whole q s now xs before at says = λ goes. (says, λ t e. let off : Listening _ ≡ Sending t = e in absurd (cc))

led_kept : (b : Bool) (q : Port) (u : Sent) (low : Bool) (now : ℕ) (xs : List Stretch) (before : ℕ) → Says (course.Goes u) xs before now
    → Kept
    (with_level
    (if b then record q { phase = Sending u } else broken_at (record q { phase = Sending u }) u.order.frame now) low now) xs before
led_kept true q u low now xs before says =
    λ goes. (says.0, λ t e. subst (λ (x : Sent). Knows x (after_stretches before xs) now) (sent_is u t e) (says.1, says.2))
led_kept false q u low now xs before says =
    broken (with_level (broken_at (record q { phase = Sending u }) u.order.frame now) low now) now xs before refl

edged_kept : (c : Course) (q : Port) (s : Sent) (low : Bool) (now : ℕ) (xs : List Stretch) (before : ℕ) → Says c xs before now
    → Kept (edged (on_course q s now c) low now) xs before
edged_kept (course.Goes u) q s low now xs before says = led_kept (same (driven_in u) low) q u low now xs before says
edged_kept course.Destroyed q s low now xs before says =
    broken (edged (broken_at q s.order.frame now) low now) now xs before refl
edged_kept course.Whole q s low now xs before says = λ goes. (says, λ t e. let off : Listening _ ≡ Sending t = e in absurd (cc))

not_before : (called now : ℕ) → nat_lt now called ≡ false → called ≤ now
not_before called now is = grind (arith, nat_tests)

timer_kept : (back : Bool) (p : Port) (s : Sent) (now before : ℕ) → nat_lt now p.called ≡ back → p.phase ≡ Sending s → Knows s before p.called
    → Kept (if back then p else timed (until_in (Sending s) (record p { called = now }) now) now)
    (if back then [] else stretches s p.called p.is_low now) before
timer_kept true p s now before is was knows = stays p s before was knows
timer_kept false p s now before is was knows =
    timed_kept (sent_until s p.is_low now) (record p { called = now }) s now (stretches s p.called p.is_low now) before refl
    (sent_says s p.called p.is_low now before knows.0 knows.1 (not_before p.called now is))

edge_kept : (back gone : Bool) (p : Port) (s : Sent) (low : Bool) (now before : ℕ) → nat_lt now p.called ≡ back → p.phase ≡ Sending s
    → Knows s before p.called
    → Kept
    (if back then p else (if gone then with_level (record (lost_in (Sending s) p low now) { is_over = true }) low now
    else edged (until_in (Sending s) (record p { called = now }) now) low now))
    (if back then [] else stretches s p.called p.is_low now) before
edge_kept true gone p s low now before is was knows = stays p s before was knows
edge_kept false true p s low now before is was knows =
    broken (with_level (record (lost_in (Sending s) p low now) { is_over = true }) low now) now (stretches s p.called p.is_low now) before refl
edge_kept false false p s low now before is was knows =
    edged_kept (sent_until s p.is_low now) (record p { called = now }) s low now (stretches s p.called p.is_low now) before
    (sent_says s p.called p.is_low now before knows.0 knows.1 (not_before p.called now is))

lost_kept : (back : Bool) (p : Port) (s : Sent) (low : Bool) (now before : ℕ) → p.phase ≡ Sending s → Knows s before p.called
    → Kept (if back then p else with_level (record (lost_in (Sending s) p low now) { is_over = true }) low now) [] before
lost_kept true p s low now before was knows = stays p s before was knows
lost_kept false p s low now before was knows =
    broken (with_level (record (lost_in (Sending s) p low now) { is_over = true }) low now) now [] before refl

send_kept : (back : Bool) (o : Option Refusal) (r q : Refusal) (p : Port) (s : Sent) (order : Order) (now before : ℕ) → p.phase ≡ Sending s
    → Knows s before p.called → Kept (send_after_by (if back then Some r else Some q) p order now) [] before
send_kept true o r q p s order now before was knows = stays p s before was knows
send_kept false o r q p s order now before was knows = stays p s before was knows

each_kept : (c : Call) (p : Port) (s : Sent) (before : ℕ) → p.phase ≡ Sending s → Knows s before p.called → Kept (after p c) (seen_by p c) before
each_kept (Sends order now) p s before was knows =
    subst
    (λ ph. Kept (send_after_by (if is_backwards p now then Some Backwards else (if is_free ph then refusal_of order else Some Busy)) p order now) [] before)
    (sym was) (send_kept (is_backwards p now) None Backwards Busy p s order now before was knows)
each_kept (Times now) p s before was knows =
    subst
    (λ ph. Kept (if is_backwards p now then p else timed (until_in ph (record p { called = now }) now) now)
    (if is_backwards p now then [] else seen_in ph p now) before)
    (sym was) (timer_kept (is_backwards p now) p s now before refl was knows)
each_kept (Turns low now) p s before was knows =
    subst
    (λ ph. Kept
    (if is_backwards p now then p else (if same_level p.is_low low
    then with_level (record (lost_in ph p low now) { is_over = true }) low now
    else edged (until_in ph (record p { called = now }) now) low now))
    (if is_backwards p now then [] else seen_in ph p now) before)
    (sym was) (edge_kept (is_backwards p now) (same_level p.is_low low) p s low now before refl was knows)
each_kept (Loses low now) p s before was knows =
    subst
    (λ ph. Kept (if is_backwards p now then p
    else with_level (record (lost_in ph p low now) { is_over = true }) low now) [] before)
    (sym was) (lost_kept (is_backwards p now) p s low now before was knows)

-- the calls of a frame
sends_some : (ph : Phase) → is_sending ph ≡ true → (t : Sent) × (ph ≡ Sending t)
sends_some Free is = absurd (cc)
sends_some (Waiting order) is = absurd (cc)
sends_some (Sending t) is = (t, refl)
sends_some (Breaking since) is = absurd (cc)
sends_some (Listening l) is = absurd (cc)

run_kept : (calls : List Call) (p : Port) (s : Sent) (before : ℕ) → p.phase ≡ Sending s → Knows s before p.called → IsWhole p calls
    → Follows before (seen_by_all p calls)
run_kept [] p s before was knows whole = absurd whole
run_kept (c ∷ calls) p s before was knows (inl last) =
    let kept = each_kept c p s before was knows (inl last.0) in
    joined before (seen_by p c) (seen_by_all (after p c) calls) kept.0
    (subst (λ xs. Follows (after_stretches before (seen_by p c)) (seen_by_all (after p c) xs)) (sym last.1) (tt {0}))
run_kept (c ∷ calls) p s before was knows (inr more) =
    let kept = each_kept c p s before was knows (inr more.0) in
    let sent = sends_some (after p c).phase more.0 in
    joined before (seen_by p c) (seen_by_all (after p c) calls) kept.0
    (run_kept calls (after p c) sent.0 (after_stretches before (seen_by p c)) sent.1 (kept.1 sent.0 sent.1) more.1)

begun_near : (now : ℕ) → now ≤ now + 417
begun_near now = omega arith

pub whole_agrees : (p : Port) (order : Order) (calls : List Call) → p.phase ≡ Sending (begun_at order p.called) → IsWhole p calls
    → Follows 0 (seen_by_all p calls)
whole_agrees p order calls was whole =
    run_kept calls p (begun_at order p.called) 0 was (zero_sum p.called, begun_near p.called) whole
