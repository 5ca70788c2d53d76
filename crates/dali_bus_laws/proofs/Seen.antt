use Rattle.std.proofs.Common.{◌≡◌, ℕ, zero, suc, ◌+◌, ◌-◌, ◌*◌, ◌<◌, ◌≤◌, min, Bool, true, false, inl, inr, List, [], ◌∷◌, ◌++◌, length, drop, refl, sym}
use Rattle.std.proofs.Common.{◌∙◌}
use Rattle.std.proofs.Common.{ap, subst, arith, if◌then◌else◌, nat_lt, nat_le, slice_index_or, Some}
use Rattle.std.proofs.Math.Seq.{drop-cons}
use Rattle.std.proofs.lemmas.Bool.Decides.{nat_tests}
use Rattle.dali_wire.specs.Levels.{sent_levels, forward_bits}
use Rattle.dali_wire.proofs.Sending.{length_sent}
use Rattle.dali_port.specs.Courses.{Course}
use Rattle.dali_port.specs.Courses as course
use Rattle.dali_port.specs.declared.orders.{Order.Order}
use Rattle.dali_port.specs.declared.orders.Refusal.TheVariants.{Backwards, Busy}
use Rattle.dali_port.specs.Orders.{refusal_of}
use Rattle.dali_port.specs.State.{Port, Sent, Sending, Breaking}
use Rattle.dali_port.specs.Frames.{driven_in, same, begun_at, compared, turned, sent_beyond, sent_until}
use Rattle.dali_port.specs.Ports.{broken_at, on_course, until_in, edged, with_level, lost_in}
use Rattle.dali_port.specs.Calls.{is_backwards, timed, same_level, is_free, send_after_by}
use Rattle.dali_port.specs.Laws.{is_sending}
use Rattle.dali_port.specs.Runs.{Call, Sends, Times, Turns, Loses, after, time_of}
use Rattle.dali_port.specs.Stretches.{is_listening, IsWhole}
use Rattle.dali_bus_laws.specs.Bus.{Edges}
use Rattle.dali_bus_laws.specs.Breaks.{IsHeld}
use Rattle.dali_bus_laws.specs.Pins.{edges_in, InOrder, AreEdgesOf}

-- THE EDGES THAT A PORT SEES while its frame is sent.

abbrev pub levels_in : Sent → List Bool
levels_in s = sent_levels (forward_bits s.order.frame)

-- the level that is driven, and those to come
abbrev pub to_come : Sent → List Bool
to_come s = drop s.half (levels_in s)

abbrev pub StartsFrom : ℕ → Edges → Type 0
StartsFrom at [] = Unit {0}
StartsFrom at (e ∷ edges) = at ≤ e.1

below_forty : (h n : ℕ) → h ≤ 39 → n ≡ 40 → h < n
below_forty h n less is = omega arith

at_half : (ls : List Bool) (h : ℕ) → h < length ls → drop h ls ≡ slice_index_or ls h false ∷ drop (suc h) ls
at_half ls h less = drop-cons ls h false less

forty : (s : Sent) → length (levels_in s) ≡ 40
forty s = length_sent 17 (0x10000 + 256 * s.order.frame.address_byte + s.order.frame.opcode_byte)

pub now_driven : (s : Sent) → s.half ≤ 39 → to_come s ≡ driven_in s ∷ drop (suc s.half) (levels_in s)
now_driven s less = at_half (levels_in s) s.half (below_forty s.half (length (levels_in s)) less (forty s))

none_left : (ls : List Bool) (n : ℕ) → length ls ≤ n → drop n ls ≡ []
none_left [] zero h = refl
none_left [] (suc n) h = refl
none_left (l ∷ ls) zero h = absurd (omega arith)
none_left (l ∷ ls) (suc n) h = none_left ls n (omega arith)

-- a level that the bus has already, one that an edge brings, and none more
pub skip : (d low : Bool) (at : ℕ) (ls : List Bool) (es : Edges) → same d low ≡ true → AreEdgesOf low (at + 417) ls es → AreEdgesOf low at (d ∷ ls) es
skip true true at ls es is h = h
skip false false at ls es is h = h
skip true false at ls es is h = absurd (cc)
skip false true at ls es is h = absurd (cc)

turn_one : (d low was : Bool) (at now : ℕ) (ls : List Bool) (es : Edges) → same d low ≡ true → same_level was low ≡ false → at ≤ now → now ≤ at + 40
    → AreEdgesOf low at (d ∷ ls) es → AreEdgesOf was at (d ∷ ls) ((low, now) ∷ es)
turn_one true true true at now ls es is other lo hi h = absurd (cc)
turn_one true true false at now ls es is other lo hi h = (refl, lo, hi, h)
turn_one false false true at now ls es is other lo hi h = (refl, lo, hi, h)
turn_one false false false at now ls es is other lo hi h = absurd (cc)
turn_one true false was at now ls es is other lo hi h = absurd (cc)
turn_one false true was at now ls es is other lo hi h = absurd (cc)

differs : (d low was : Bool) → same d low ≡ true → same_level was low ≡ false → same d was ≡ false
differs true true true is other = other
differs true true false is other = refl
differs false false true is other = refl
differs false false false is other = other
differs true false was is other = absurd (cc)
differs false true was is other = absurd (cc)

pub le_along : (a b c : ℕ) → a ≤ b → b ≤ c → a ≤ c
le_along a b c one two = omega arith

pub over : (low : Bool) (at now : ℕ) (es : Edges) → at ≤ now → StartsFrom now es → AreEdgesOf low at [] es
over true at now [] before starts = tt
over false at now [] before starts = tt
over true at now (e ∷ es) before starts = le_along at now e.1 before starts
over false at now (e ∷ es) before starts = le_along at now e.1 before starts

-- WHAT MAY BE SAID OF EDGES, level by level
abbrev pub Levels : Type 1
Levels = Bool → ℕ → List Bool → Edges → Type 0

pub record Rules (P : Levels) : Type 0 where
  pub skip : (d low : Bool) (at : ℕ) (ls : List Bool) (es : Edges) → same d low ≡ true → P low (at + 417) ls es → P low at (d ∷ ls) es
  pub turn : (d low was : Bool) (at now : ℕ) (ls : List Bool) (es : Edges) → same d low ≡ true → same_level was low ≡ false → at ≤ now → now ≤ at + 40
      → P low at (d ∷ ls) es → P was at (d ∷ ls) ((low, now) ∷ es)
  pub over : (low : Bool) (at now : ℕ) (es : Edges) → at ≤ now → StartsFrom now es → P low at [] es

are_edges : Rules AreEdgesOf
are_edges = record { skip = skip; turn = turn_one; over = over }

-- WHAT IS KNOWN OF A FRAME that is being sent: if the bus does not have the level that is driven, it is not yet 40 us since the half bit began
abbrev pub Known : Sent → Bool → ℕ → Type 0
Known s low now =
    (s.since ≤ now) × (now ≤ s.since + 417) × (s.half ≤ 39)
    × (same (driven_in s) low ≡ false → (s.agreed ≤ s.since) × (now ≤ s.agreed + 40))

abbrev Within : (P : Levels) → Course → Sent → Bool → ℕ → Type 0
Within P (course.Goes u) s low now =
    (u.order ≡ s.order) × Known u low now
    × ((es : Edges) → P low u.since (to_come u) es → P low s.since (to_come s) es)
Within P course.Destroyed s low now = Unit {0}
Within P course.Whole s low now = (es : Edges) → StartsFrom now es → P low s.since (to_come s) es

near : (agreed now : ℕ) → nat_lt 40 (now - agreed) ≡ false → now ≤ agreed + 40
near agreed now is = grind (arith, nat_tests)

within_one : (P : Levels) (r : Rules P) (m late : Bool) (v : Sent) (low : Bool) (now : ℕ) → same (driven_in v) low ≡ m → v.since ≤ now → now ≤ v.since + 417
    → v.half ≤ 39
    → (same (driven_in v) low ≡ false → v.agreed ≤ v.since) → nat_lt 40 (now - (if m then now else v.agreed)) ≡ late
    → Within P (if late then course.Destroyed else course.Goes (record v { agreed = if m then now else v.agreed })) v low now
within_one P r m true v low now is lo hi half less late = tt
within_one P r true false v low now is lo hi half less late =
    (refl, (lo, hi, half, λ no. absurd (let off : true ≡ false = sym is ∙ no in cc)), λ es h. h)
within_one P r false false v low now is lo hi half less late = (refl, (lo, hi, half, λ no. (less no, near v.agreed now late)), λ es h. h)

to_next : (P : Levels) (r : Rules P) (s : Sent) (low : Bool) (es : Edges) → same (driven_in s) low ≡ true → s.half ≤ 39
    → P low (s.since + 417) (drop (suc s.half) (levels_in s)) es → P low s.since (to_come s) es
to_next P r s low es is half h =
    subst (λ ls. P low s.since ls es) (sym (now_driven s half))
    (r.skip (driven_in s) low s.since (drop (suc s.half) (levels_in s)) es is h)

handed_on : (P : Levels) (r : Rules P) (c : Course) (t s : Sent) (low : Bool) (now : ℕ) → t.order ≡ s.order
    → ((es : Edges) → P low t.since (to_come t) es → P low s.since (to_come s) es) → Within P c t low now → Within P c s low now
handed_on P r (course.Goes u) t s low now order f h = (h.0 ∙ order, h.1, λ es g. f es (h.2 es g))
handed_on P r course.Destroyed t s low now order f h = tt
handed_on P r course.Whole t s low now order f h = λ es starts. f es (h es starts)

next_half : (h : ℕ) → h ≤ 39 → min (h + 1) 255 ≡ suc h
next_half h less = omega arith

not_last : (h : ℕ) → nat_le 39 h ≡ false → h + 1 ≤ 39
not_last h is = grind (arith, nat_tests)

last_half : (h n : ℕ) → nat_le 39 h ≡ true → n ≡ 40 → n ≤ suc h
last_half h n is all = grind (arith, nat_tests)

not_late : (since now : ℕ) → nat_lt 834 (now - since) ≡ false → now ≤ since + 417 + 417
not_late since now is = grind (arith, nat_tests)

turn_past : (since now : ℕ) → nat_lt (now - since) 417 ≡ false → since + 417 ≤ now
turn_past since now late = grind (arith, nat_tests)

within_half : (since now : ℕ) → nat_lt (now - since) 417 ≡ true → now ≤ since + 417
within_half since now early = grind (arith, nat_tests)

too_late : (since agreed : ℕ) → agreed ≤ since → nat_lt 40 (since + 417 - agreed) ≡ false → ⊥
too_late since agreed less is = grind (arith, nat_tests)

next_few : (h : ℕ) → h + 1 ≤ 39 → min (h + 1) 255 ≤ 39
next_few h few = omega arith

abbrev next_sent : Sent → Sent
next_sent s = turned (record s { agreed = s.since + 417 }) (s.since + 417)

over_within : (P : Levels) (r : Rules P) (is_over late : Bool) (s : Sent) (low : Bool) (now : ℕ) → same (driven_in s) low ≡ true → s.half ≤ 39
    → s.since + 417 ≤ now
    → nat_le 39 s.half ≡ is_over → nat_lt 834 (now - s.since) ≡ late
    → Within P (if is_over then course.Whole else (if late then course.Destroyed else compared (next_sent s) low now)) s low now
over_within P r true late s low now is half past last late_is =
    λ es starts. to_next P r s low es is half
    (subst (λ ls. P low (s.since + 417) ls es)
    (sym (none_left (levels_in s) (suc s.half) (last_half s.half (length (levels_in s)) last (forty s))))
    (r.over low (s.since + 417) now es past starts))
over_within P r false true s low now is half past last late_is = tt
over_within P r false false s low now is half past last late_is =
    handed_on P r (compared (next_sent s) low now) (next_sent s) s low now refl
    (λ es h. to_next P r s low es is half
    (subst (λ n. P low (s.since + 417) (drop n (levels_in s)) es) (next_half s.half half) h))
    (within_one P r (same (driven_in (next_sent s)) low) (nat_lt 40 (now - (if same (driven_in (next_sent s)) low then now else s.since + 417)))
    (next_sent s) low now refl past (not_late s.since now late_is) (next_few s.half (not_last s.half last)) (λ no. le_refl (s.since + 417)) refl)
  where
    le_refl : (n : ℕ) → n ≤ n
    le_refl n = omega arith

beyond_within : (P : Levels) (r : Rules P) (m late : Bool) (s : Sent) (low : Bool) (now : ℕ) → same (driven_in s) low ≡ m → s.half ≤ 39 → s.since + 417 ≤ now
    → (same (driven_in s) low ≡ false → s.agreed ≤ s.since) → nat_lt 40 (s.since + 417 - (if m then s.since + 417 else s.agreed)) ≡ late
    → Within P
    (sent_beyond (if late then course.Destroyed else course.Goes (record s { agreed = if m then s.since + 417 else s.agreed })) (s.since + 417)
    (now - s.since) low now) s low now
beyond_within P r m true s low now is half past less late = tt
beyond_within P r true false s low now is half past less late =
    over_within P r (nat_le 39 s.half) (nat_lt 834 (now - s.since)) s low now is half past refl refl
beyond_within P r false false s low now is half past less late = absurd (too_late s.since s.agreed (less is) late)

until_within : (P : Levels) (r : Rules P) (early : Bool) (s : Sent) (low : Bool) (called now : ℕ) → Known s low called → called ≤ now
    → nat_lt (now - s.since) 417 ≡ early
    → Within P
    (if early then compared s low now else sent_beyond (compared s low (s.since + 417)) (s.since + 417) (now - s.since) low now) s low now
until_within P r true s low called now known more is =
    within_one P r (same (driven_in s) low) (nat_lt 40 (now - (if same (driven_in s) low then now else s.agreed))) s low now refl
    (le_along s.since called now known.0 more) (within_half s.since now is) known.2 (λ no. (known.3 no).0) refl
until_within P r false s low called now known more is =
    beyond_within P r (same (driven_in s) low) (nat_lt 40 (s.since + 417 - (if same (driven_in s) low then s.since + 417 else s.agreed))) s low now refl
    known.2 (turn_past s.since now is) (λ no. (known.3 no).0) refl

sent_within : (P : Levels) (r : Rules P) (s : Sent) (low : Bool) (called now : ℕ) → Known s low called → called ≤ now
    → Within P (sent_until s low now) s low now
sent_within P r s low called now known more = until_within P r (nat_lt (now - s.since) 417) s low called now known more refl

-- EACH CALL: the edges from then on are those of the levels to come
abbrev pub with_edge : Call → Edges → Edges
with_edge (Sends order now) es = es
with_edge (Times now) es = es
with_edge (Turns low now) es = (low, now) ∷ es
with_edge (Loses low now) es = []

pub record Going (P : Levels) (q p : Port) (s : Sent) (at : ℕ) (c : Call) : Type 0 where
  pub u : Sent
  pub is : q.phase ≡ Sending u
  pub order : u.order ≡ s.order
  pub known : Known u q.is_low q.called
  pub called : q.called ≤ at
  pub edges : (es : Edges) → P q.is_low u.since (to_come u) es → P p.is_low s.since (to_come s) (with_edge c es)
  pub held : (from until : ℕ) (es : Edges) → at < until → IsHeld p.is_low from until (with_edge c es) → IsHeld q.is_low from until es

abbrev pub Step : (P : Levels) → Port → Port → Sent → ℕ → Call → Type 0
Step P q p s at c =
    (is_sending q.phase ≡ true → Going P q p s at c)
    × (is_listening q.phase ≡ true → (es : Edges) → StartsFrom at es → P p.is_low s.since (to_come s) (with_edge c es))

broken : (P : Levels) (q p : Port) (s : Sent) (at now : ℕ) (c : Call) → q.phase ≡ Breaking now → Step P q p s at c
broken P q p s at now c is = (
  λ goes. absurd (let off : false ≡ true = sym (ap (λ ph. is_sending ph) is) ∙ goes in cc),
  λ goes. absurd (let off : false ≡ true = sym (ap (λ ph. is_listening ph) is) ∙ goes in cc),
)

pub le_self : (n : ℕ) → n ≤ n
le_self n = omega arith

timed_step : (P : Levels) (r : Rules P) (k : Course) (p : Port) (s : Sent) (now : ℕ) → Within P k s p.is_low now
    → Step P (timed (on_course (record p { called = now }) s now k) now) p s now (Times now)
timed_step P r (course.Goes u) p s now h = (
  λ goes. record { u = u; is = refl; order = h.0; known = h.1; called = le_self now; edges = h.2; held = λ from until es less g. g },
  λ goes. absurd (let off : false ≡ true = goes in cc),
)
timed_step P r course.Destroyed p s now h = broken P (broken_at (record p { called = now }) s.order.frame now) p s now now (Times now) refl
timed_step P r course.Whole p s now h = (λ goes. absurd (let off : false ≡ true = goes in cc), λ goes es starts. h es starts)

soon : (since agreed now : ℕ) → (agreed ≤ since) × (now ≤ agreed + 40) → now ≤ since + 40
soon since agreed now h = let one : agreed ≤ since = h.0 in let two : now ≤ agreed + 40 = h.1 in omega arith

held_on : (was low : Bool) (now from until : ℕ) (es : Edges) → now < until → IsHeld was from until ((low, now) ∷ es) → IsHeld low from until es
held_on was low now from until es less (inl early) = early.1
held_on was low now from until es less (inr late) = let after : until ≤ now = late.1 in absurd (omega arith)

led_step : (P : Levels) (r : Rules P) (b : Bool) (p : Port) (s u : Sent) (low : Bool) (now : ℕ) → same (driven_in u) low ≡ b → same_level p.is_low low ≡ false
    → Within P (course.Goes u) s p.is_low now
    → Step P
    (with_level
    (if b then record p { called = now; phase = Sending u } else broken_at (record p { called = now; phase = Sending u }) u.order.frame now) low now)
    p s now (Turns low now)
led_step P r true p s u low now is other h = (
  λ goes. record {
    u = u;
    is = refl;
    order = h.0;
    known = (h.1.0, h.1.1, h.1.2, λ no. absurd (let off : true ≡ false = sym is ∙ no in cc));
    called = le_self now;
    edges = λ es g. h.2 ((low, now) ∷ es) (turns es g);
    held = λ from until es less g. held_on p.is_low low now from until es less g;
  },
  λ goes. absurd (let off : false ≡ true = goes in cc),
)
  where
    ahead : to_come u ≡ driven_in u ∷ drop (suc u.half) (levels_in u)
    ahead = now_driven u h.1.2

    turns : (es : Edges) → P low u.since (to_come u) es → P p.is_low u.since (to_come u) ((low, now) ∷ es)
    turns es g =
        subst (λ ls. P p.is_low u.since ls ((low, now) ∷ es)) (sym ahead)
        (r.turn (driven_in u) low p.is_low u.since now (drop (suc u.half) (levels_in u)) es is other h.1.0
        (soon u.since u.agreed now (h.1.3 (differs (driven_in u) low p.is_low is other)))
        (subst (λ ls. P low u.since ls es) ahead g))
led_step P r false p s u low now is other h =
    broken P (with_level (broken_at (record p { called = now; phase = Sending u }) u.order.frame now) low now) p s now now (Turns low now) refl

edged_step : (P : Levels) (r : Rules P) (k : Course) (p : Port) (s : Sent) (low : Bool) (now : ℕ) → same_level p.is_low low ≡ false → Within P k s p.is_low now
    → Step P (edged (on_course (record p { called = now }) s now k) low now) p s now (Turns low now)
edged_step P r (course.Goes u) p s low now other h = led_step P r (same (driven_in u) low) p s u low now refl other h
edged_step P r course.Destroyed p s low now other h =
    broken P (edged (broken_at (record p { called = now }) s.order.frame now) low now) p s now now (Turns low now) refl
edged_step P r course.Whole p s low now other h =
    (λ goes. absurd (let off : false ≡ true = goes in cc), λ goes es starts. h ((low, now) ∷ es) (le_self now))

turned_step : (P : Levels) (r : Rules P) (gone : Bool) (p : Port) (s : Sent) (low : Bool) (now : ℕ) → same_level p.is_low low ≡ gone → Known s p.is_low p.called
    → p.called ≤ now
    → Step P
    (if gone then with_level (record (lost_in (Sending s) p low now) { is_over = true }) low now
    else edged (until_in (Sending s) (record p { called = now }) now) low now) p s now (Turns low now)
turned_step P r true p s low now is known more =
    broken P (with_level (record (lost_in (Sending s) p low now) { is_over = true }) low now) p s now now (Turns low now) refl
turned_step P r false p s low now is known more =
    edged_step P r (sent_until s p.is_low now) p s low now is (sent_within P r s p.is_low p.called now known more)

forwards : (called now : ℕ) → called ≤ now → nat_lt now called ≡ false
forwards called now more = grind (arith, nat_tests)

stays : (P : Levels) (p : Port) (s : Sent) (order : Order) (now : ℕ) → p.phase ≡ Sending s → Known s p.is_low p.called → p.called ≤ now
    → Step P p p s now (Sends order now)
stays P p s order now was known more = (
  λ goes. record { u = s; is = was; order = refl; known = known; called = more; edges = λ es g. g; held = λ from until es less g. g },
  λ goes. absurd (let off : false ≡ true = sym (ap (λ ph. is_listening ph) was) ∙ goes in cc),
)

pub each_step : (P : Levels) (r : Rules P) (c : Call) (p : Port) (s : Sent) → p.phase ≡ Sending s → Known s p.is_low p.called → p.called ≤ time_of c
    → Step P (after p c) p s (time_of c) c
each_step P r (Sends order now) p s was known more =
    subst (λ ph. Step P
    (send_after_by (if is_backwards p now then Some Backwards else (if is_free ph then refusal_of order else Some Busy)) p order now) p s now
    (Sends order now))
    (sym was)
    (subst (λ b. Step P (send_after_by (if b then Some Backwards else Some Busy) p order now) p s now (Sends order now))
    (sym (forwards p.called now more)) (stays P p s order now was known more))
each_step P r (Times now) p s was known more =
    subst (λ ph. Step P (if is_backwards p now then p else timed (until_in ph (record p { called = now }) now) now) p s now (Times now))
    (sym was)
    (subst (λ b. Step P (if b then p else timed (until_in (Sending s) (record p { called = now }) now) now) p s now (Times now))
    (sym (forwards p.called now more))
    (timed_step P r (sent_until s p.is_low now) p s now (sent_within P r s p.is_low p.called now known more)))
each_step P r (Turns low now) p s was known more =
    subst (λ ph. Step P
    (if is_backwards p now then p else (if same_level p.is_low low then with_level (record (lost_in ph p low now) { is_over = true }) low now
    else edged (until_in ph (record p { called = now }) now) low now)) p s now (Turns low now))
    (sym was)
    (subst (λ b. Step P
    (if b then p else (if same_level p.is_low low then with_level (record (lost_in (Sending s) p low now) { is_over = true }) low now
    else edged (until_in (Sending s) (record p { called = now }) now) low now)) p s now (Turns low now))
    (sym (forwards p.called now more)) (turned_step P r (same_level p.is_low low) p s low now refl known more))
each_step P r (Loses low now) p s was known more =
    subst (λ ph. Step P
    (if is_backwards p now then p else with_level (record (lost_in ph p low now) { is_over = true }) low now) p s now (Loses low now))
    (sym was)
    (subst (λ b. Step P (if b then p else with_level (record (lost_in (Sending s) p low now) { is_over = true }) low now) p s now (Loses low now))
    (sym (forwards p.called now more))
    (broken P (with_level (record (lost_in (Sending s) p low now) { is_over = true }) low now) p s now now (Loses low now) refl))

-- the calls of a frame, and what follows them
pub edges_first : (c : Call) (calls : List Call) → edges_in (c ∷ calls) ≡ with_edge c (edges_in calls)
edges_first (Sends order now) calls = refl
edges_first (Times now) calls = refl
edges_first (Turns low now) calls = refl
edges_first (Loses low now) calls = refl

pub start_later : (from at : ℕ) (es : Edges) → from ≤ at → StartsFrom at es → StartsFrom from es
start_later from at [] less h = tt
start_later from at (e ∷ es) less h = le_along from at e.1 less h

pub starts : (calls : List Call) (from : ℕ) → InOrder from calls → StartsFrom from (edges_in calls)
starts [] from h = tt
starts (Sends order now ∷ calls) from h = start_later from now (edges_in calls) h.0 (starts calls now h.1)
starts (Times now ∷ calls) from h = start_later from now (edges_in calls) h.0 (starts calls now h.1)
starts (Turns low now ∷ calls) from h = h.0
starts (Loses low now ∷ calls) from h = tt

run_seen : (P : Levels) (r : Rules P) (calls more : List Call) (p : Port) (s : Sent) (at : ℕ) → p.phase ≡ Sending s → Known s p.is_low p.called → p.called ≤ at
    → IsWhole p calls
    → InOrder at (calls ++ more) → P p.is_low s.since (to_come s) (edges_in (calls ++ more))
run_seen P r [] more p s at was known before whole order = absurd whole
run_seen P r (c ∷ calls) more p s at was known before (inl last) order =
    let step = each_step P r c p s was known (le_along p.called at (time_of c) before order.0) in
    subst (λ es. P p.is_low s.since (to_come s) es) (sym (edges_first c (calls ++ more)))
    (step.1 last.0 (edges_in (calls ++ more)) (starts (calls ++ more) (time_of c) order.1))
run_seen P r (c ∷ calls) more p s at was known before (inr rest) order =
    let step = each_step P r c p s was known (le_along p.called at (time_of c) before order.0) in
    let going = step.0 rest.0 in
    subst (λ es. P p.is_low s.since (to_come s) es) (sym (edges_first c (calls ++ more)))
    (going.edges (edges_in (calls ++ more))
    (run_seen P r calls more (after p c) going.u (time_of c) going.is going.known going.called rest.1 order.1))

pub begun_known : (p : Port) (order : Order) → Known (begun_at order p.called) p.is_low p.called
begun_known p order = (le_self p.called, few p.called, zero_few, λ no. (le_self p.called, near_self p.called)) where
  few : (n : ℕ) → n ≤ n + 417
  few n = omega arith

  zero_few : 0 ≤ 39
  zero_few = omega arith

  near_self : (n : ℕ) → n ≤ n + 40
  near_self n = omega arith

pub whole_seen : (p : Port) (order : Order) (calls more : List Call) → p.phase ≡ Sending (begun_at order p.called) → p.is_low ≡ false → IsWhole p calls
    → InOrder p.called (calls ++ more) → AreEdgesOf false p.called (sent_levels (forward_bits order.frame)) (edges_in (calls ++ more))
whole_seen p order calls more was high whole in_order =
    subst (λ b. AreEdgesOf b p.called (sent_levels (forward_bits order.frame)) (edges_in (calls ++ more))) high
    (run_seen AreEdgesOf are_edges calls more p (begun_at order p.called) p.called was (begun_known p order) (le_self p.called) whole in_order)
