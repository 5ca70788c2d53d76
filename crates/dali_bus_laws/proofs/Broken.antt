use Rattle.std.proofs.Common.{◌≡◌, ℕ, zero, suc, ◌+◌, ◌-◌, ◌*◌, ◌^◌, ◌<◌, ◌≤◌, Bool, true, false, not, ◌⊎◌, inl, inr, List, [], ◌∷◌, ◌++◌, refl, sym}
use Rattle.std.proofs.Common.{◌∙◌, ap, subst, arith, Option, Some, None, nat_lt, nat_le, if◌then◌else◌, drop}
use Rattle.std.specs.Option.{option_map}
use Rattle.std.proofs.lemmas.Bool.Decides.{nat_tests}
use Rattle.dali_frame.specs.declared.frames.Forward.{Forward as Bits}
use Rattle.dali_wire.specs.Levels.{bits_of, levels_of, highs, sent_levels, forward_bits}
use Rattle.dali_wire.specs.Times.{IsHalf, IsWhole}
use Rattle.dali_wire.specs.Edges.{by_turns}
use Rattle.dali_wire.specs.Reception.{frame_read, read_edge, span_of, longer, span_before}
use Rattle.dali_wire.specs.declared.receiver.{Frame.Frame, Reading.Reading, Receiver.Receiver, Span.Span, Told.Told}
use Rattle.dali_wire.specs.declared.receiver.Frame.TheVariants.{Forward, Damaged}
use Rattle.dali_wire.specs.declared.receiver.Reading.TheVariants.{Idle, First, Between, Middle, Spoilt}
use Rattle.dali_wire.specs.declared.receiver.Span.TheVariants.{Short, Half, Whole, Wrong}
use Rattle.dali_wire.proofs.{EachTime.forward_read, Values.start_first}
use Rattle.dali_port.specs.State.{Port, Sent, Sending}
use Rattle.dali_port.specs.Frames.{driven_in, same, begun_at}
use Rattle.dali_port.specs.Calls.{same_level}
use Rattle.dali_port.specs.Runs.{Call, after, time_of}
use Rattle.dali_bus_laws.specs.Table.{table}
use Rattle.dali_bus_laws.specs.Bus.{Edges, IsSeen, Sees, SeesFrom, first_told, first_read, or_later}
use Rattle.dali_bus_laws.specs.Pins.{edges_in, spaced, InOrder, AreEdgesOf}
use Rattle.dali_bus_laws.specs.Breaks.{IsDestroyed, last_time, IsHeld, Alternate, BreaksOff}
use Rattle.dali_bus_laws.proofs.Seen.{Levels, Rules, Known, StartsFrom, to_come, levels_in, now_driven, over, each_step, starts, start_later}
use Rattle.dali_bus_laws.proofs.Seen.{edges_first, begun_known, le_along, le_self}
use Rattle.dali_bus_laws.proofs.Spans.{high_seen, break_seen}
use Rattle.dali_bus_laws.proofs.Taken.{Takes, AfterStop, ends, a_half, a_whole, next_least, next_most, cons_is, reads}
use Rattle.dali_bus_laws.proofs.Two.{Sorted, sorted}

-- A FRAME THAT IS DESTROYED is taken as it was sent or not at all: a receiver has read all of it before the break, or the break spoils it.

-- it is destroyed in a half bit that began at this time, and the bus is held low
abbrev pub IsCut : Bool → ℕ → Edges → Type 0
IsCut was at es = (d : ℕ) × (at ≤ d) × (d ≤ at + 1251) × StartsFrom at es × IsHeld was (d + 50) (d + 1300) es

-- the edges of levels, of which any may be the last
abbrev pub MayBreak : Levels
MayBreak was at [] es = AreEdgesOf was at [] es
MayBreak true at (true ∷ ls) es = IsCut true at es ⊎ MayBreak true (at + 417) ls es
MayBreak false at (false ∷ ls) es = IsCut false at es ⊎ MayBreak false (at + 417) ls es
MayBreak true at (false ∷ ls) es =
    IsCut true at es
    ⊎ ((e : Bool × ℕ) × (rest : Edges) × (es ≡ e ∷ rest) × (e.0 ≡ false) × (at ≤ e.1) × (e.1 ≤ at + 40)
    × (IsCut false at rest ⊎ MayBreak false (at + 417) ls rest))
MayBreak false at (true ∷ ls) es =
    IsCut false at es
    ⊎ ((e : Bool × ℕ) × (rest : Edges) × (es ≡ e ∷ rest) × (e.0 ≡ true) × (at ≤ e.1) × (e.1 ≤ at + 40)
    × (IsCut true at rest ⊎ MayBreak true (at + 417) ls rest))

skips : (d low : Bool) (at : ℕ) (ls : List Bool) (es : Edges) → same d low ≡ true → MayBreak low (at + 417) ls es → MayBreak low at (d ∷ ls) es
skips true true at ls es is h = inr h
skips false false at ls es is h = inr h
skips true false at ls es is h = absurd (cc)
skips false true at ls es is h = absurd (cc)

turns : (d low was : Bool) (at now : ℕ) (ls : List Bool) (es : Edges) → same d low ≡ true → same_level was low ≡ false → at ≤ now → now ≤ at + 40
    → MayBreak low at (d ∷ ls) es → MayBreak was at (d ∷ ls) ((low, now) ∷ es)
turns true true true at now ls es is other lo hi h = absurd (cc)
turns true true false at now ls es is other lo hi h = inr ((true, now), es, refl, refl, lo, hi, h)
turns false false true at now ls es is other lo hi h = inr ((false, now), es, refl, refl, lo, hi, h)
turns false false false at now ls es is other lo hi h = absurd (cc)
turns true false was at now ls es is other lo hi h = absurd (cc)
turns false true was at now ls es is other lo hi h = absurd (cc)

may_break : Rules MayBreak
may_break = record { skip = skips; turn = turns; over = over }

cut : (d low : Bool) (at : ℕ) (ls : List Bool) (es : Edges) → IsCut low at es → MayBreak low at (d ∷ ls) es
cut true true at ls es h = inl h
cut true false at ls es h = inl h
cut false true at ls es h = inl h
cut false false at ls es h = inl h

last_late : (calls more : List Call) (from : ℕ) → InOrder from (calls ++ more) → from ≤ last_time from calls
last_late [] more from h = le_self from
last_late (c ∷ calls) more from h = le_along from (time_of c) (last_time (time_of c) calls) h.0 (last_late calls more (time_of c) h.1)

soon_cut : (since called d : ℕ) → called ≤ since + 417 → d ≤ called + 834 → d ≤ since + 1251
soon_cut since called d a b = omega arith

before_end : (now last : ℕ) → now ≤ last → now < last + 1300
before_end now last h = omega arith

run_broken : (calls more : List Call) (p : Port) (s : Sent) (at : ℕ) → p.phase ≡ Sending s → Known s p.is_low p.called → p.called ≤ at
    → IsDestroyed table p calls → InOrder at (calls ++ more)
    → IsHeld p.is_low (last_time at calls + 50) (last_time at calls + 1300) (edges_in (calls ++ more))
    → MayBreak p.is_low s.since (to_come s) (edges_in (calls ++ more))
run_broken [] more p s at was known before broken order held = absurd broken
run_broken (c ∷ calls) more p s at was known before (inl last) order held =
    subst (λ ls. MayBreak p.is_low s.since ls (edges_in (c ∷ (calls ++ more)))) (sym (now_driven s known.2))
    (cut (driven_in s) p.is_low s.since (drop (suc s.half) (levels_in s)) (edges_in (c ∷ (calls ++ more))) (
      time_of c,
      le_along s.since p.called (time_of c) known.0 (le_along p.called at (time_of c) before order.0),
      soon_cut s.since p.called (time_of c) known.1 last.2,
      start_later s.since at (edges_in (c ∷ (calls ++ more))) (le_along s.since p.called at known.0 before) (starts (c ∷ (calls ++ more)) at order),
      subst (λ (cs : List Call).
          IsHeld p.is_low (last_time (time_of c) cs + 50) (last_time (time_of c) cs + 1300) (edges_in (c ∷ (calls ++ more)))) last.1 held,
    ))
run_broken (c ∷ calls) more p s at was known before (inr rest) order held =
    let step = each_step MayBreak may_break c p s was known (le_along p.called at (time_of c) before order.0) in
    let going = step.0 rest.0 in
    let held_next = going.held (last_time (time_of c) calls + 50) (last_time (time_of c) calls + 1300) (edges_in (calls ++ more))
    (before_end (time_of c) (last_time (time_of c) calls) (last_late calls more (time_of c) order.1))
    (subst (λ es. IsHeld p.is_low (last_time (time_of c) calls + 50) (last_time (time_of c) calls + 1300) es) (edges_first c (calls ++ more)) held) in
    subst (λ es. MayBreak p.is_low s.since (to_come s) es) (sym (edges_first c (calls ++ more)))
    (going.edges (edges_in (calls ++ more))
    (run_broken calls more (after p c) going.u (time_of c) going.is going.known going.called rest.1 order.1 held_next))

-- A RECEIVER that sees a break before any stop condition tells no forward frame
abbrev pub BreakSeen : Bool → Edges → Type 0
BreakSeen true [] = Unit {0}
BreakSeen false [] = ⊥
BreakSeen true (e ∷ es) = (e.0 ≡ false) × ((1000 < e.1) ⊎ BreakSeen false es)
BreakSeen false (e ∷ es) = (e.0 ≡ true) × (e.1 < 2400) × BreakSeen true es

spoilt_read : (w : Edges) (l : Bool) (lasted rest : ℕ) (g : Bits)
    → first_read (record { reading = Spoilt; is_low = l; lasted = lasted }) w rest ≡ Some (Forward g) → ⊥
spoilt_read [] true lasted rest g h = absurd (let off : None ≡ Some (Forward g) = h in cc)
spoilt_read [] false lasted rest g h = go (nat_lt rest 2400) h where
  go : (b : Bool) → option_map (λ (told : Told). told.frame)
      (option_map (λ frame. record { frame = frame; lasted = lasted; since = rest }) (if b then None else Some Damaged)) ≡ Some (Forward g) → ⊥
  go true e = absurd (let off : None ≡ Some (Forward g) = e in cc)
  go false e = absurd (let off : Some Damaged ≡ Some (Forward g) = e in cc)
spoilt_read (e ∷ w) true lasted rest g h = spoilt_read w e.0 _ rest g h
spoilt_read (e ∷ w) false lasted rest g h = go (nat_lt e.1 2400) (λ n. spoilt_read w e.0 n rest g) h where
  go : (b : Bool) → ((n : ℕ) → first_read (record { reading = Spoilt; is_low = e.0; lasted = n }) w rest ≡ Some (Forward g) → ⊥)
      → option_map (λ (told : Told). told.frame)
      (or_later (option_map (λ frame. record { frame = frame; lasted = lasted; since = e.1 }) (if b then None else Some Damaged))
      (first_told (record {
        reading = read_edge (if b then Spoilt else Idle) e.0 (span_before false e.0 e.1);
        is_low = e.0;
        lasted = longer (if b then Spoilt else Idle) lasted e.1;
      }) w rest)) ≡ Some (Forward g) → ⊥
  go true more k = more (longer Spoilt lasted e.1) k
  go false more k = absurd (let off : Some Damaged ≡ Some (Forward g) = k in cc)

-- on a low a frame has begun, and on a high it stands in no first half
fits : Reading → Bool → Bool
fits Idle low = not low
fits First low = low
fits (Between bits) low = true
fits (Middle bits) low = true
fits Spoilt low = true

bit_fits : (b l low : Bool) (bits : ℕ) → fits (if b then Spoilt else Middle (if l then 2 * bits else 2 * bits + 1)) low ≡ true
unfolding fits
bit_fits true l low bits = refl
bit_fits false l low bits = refl

rise_fits : (q : Reading) (k : Span) → fits q true ≡ true → fits (read_edge q false k) false ≡ true
unfolding fits
rise_fits Idle k h = absurd (cc)
rise_fits First Short h = refl
rise_fits First Half h = refl
rise_fits First Whole h = refl
rise_fits First Wrong h = refl
rise_fits (Between bits) Short h = refl
rise_fits (Between bits) Half h = bit_fits (nat_le 0x1000000 bits) false false bits
rise_fits (Between bits) Whole h = refl
rise_fits (Between bits) Wrong h = refl
rise_fits (Middle bits) Short h = refl
rise_fits (Middle bits) Half h = refl
rise_fits (Middle bits) Whole h = bit_fits (nat_le 0x1000000 bits) false false bits
rise_fits (Middle bits) Wrong h = refl
rise_fits Spoilt k h = refl

fall_fits : (q : Reading) (k : Span) → fits q false ≡ true → fits (read_edge q true k) true ≡ true
unfolding fits
fall_fits Idle k h = refl
fall_fits First k h = absurd (cc)
fall_fits (Between bits) Short h = refl
fall_fits (Between bits) Half h = bit_fits (nat_le 0x1000000 bits) true true bits
fall_fits (Between bits) Whole h = refl
fall_fits (Between bits) Wrong h = refl
fall_fits (Middle bits) Short h = refl
fall_fits (Middle bits) Half h = refl
fall_fits (Middle bits) Whole h = bit_fits (nat_le 0x1000000 bits) true true bits
fall_fits (Middle bits) Wrong h = refl
fall_fits Spoilt k h = refl

long_spoils : (q : Reading) → fits q true ≡ true → read_edge q false Wrong ≡ Spoilt
unfolding fits
long_spoils Idle h = absurd (cc)
long_spoils First h = refl
long_spoils (Between bits) h = refl
long_spoils (Middle bits) h = refl
long_spoils Spoilt h = refl

too_long : (n : ℕ) → 1000 < n → span_of n ≡ Wrong
too_long n h = grind (arith, nat_tests)

no_stop : (n : ℕ) → n < 2400 → nat_lt n 2400 ≡ true
no_stop n h = grind (arith, nat_tests)

break_read : (w : Edges) (q : Reading) (l : Bool) (lasted rest : ℕ) (g : Bits) → fits q l ≡ true → BreakSeen l w
    → first_read (record { reading = q; is_low = l; lasted = lasted }) w rest ≡ Some (Forward g) → ⊥
break_read [] q true lasted rest g fit broken h = absurd (let off : None ≡ Some (Forward g) = h in cc)
break_read [] q false lasted rest g fit broken h = absurd broken
break_read (e ∷ w) q true lasted rest g fit broken h =
    low_read broken.1
    (λ more. break_read w (read_edge q false (span_of e.1)) false (longer q lasted e.1) rest g (rise_fits q (span_of e.1) fit) more risen)
  where
    risen : first_read (record { reading = read_edge q false (span_of e.1); is_low = false; lasted = longer q lasted e.1 }) w rest ≡ Some (Forward g)
    risen =
        subst (λ l. first_read (record { reading = read_edge q l (span_before true l e.1); is_low = l; lasted = longer q lasted e.1 }) w rest
        ≡ Some (Forward g))
        broken.0 h

    low_read : (1000 < e.1) ⊎ BreakSeen false w → (BreakSeen false w → ⊥) → ⊥
    low_read (inl long) rec =
        spoilt_read w false _ rest g
        (subst (λ x. first_read (record { reading = x; is_low = false; lasted = longer q lasted e.1 }) w rest ≡ Some (Forward g))
        (ap (λ k. read_edge q false k) (too_long e.1 long) ∙ long_spoils q fit) risen)
    low_read (inr more) rec = rec more
break_read (e ∷ w) q false lasted rest g fit broken h =
    break_read w (read_edge q true (span_of e.1)) true _ rest g (fall_fits q (span_of e.1) fit) broken.2 fallen
  where
    soon : option_map (λ (told : Told). told.frame)
        (or_later (option_map (λ frame. record { frame = frame; lasted = lasted; since = e.1 }) (if true then None else frame_read q))
        (first_told (record {
          reading = read_edge (if true then q else Idle) e.0 (span_before false e.0 e.1);
          is_low = e.0;
          lasted = longer (if true then q else Idle) lasted e.1;
        }) w rest)) ≡ Some (Forward g)
    soon =
        subst (λ b. option_map (λ (told : Told). told.frame)
        (or_later (option_map (λ frame. record { frame = frame; lasted = lasted; since = e.1 }) (if b then None else frame_read q))
        (first_told (record {
          reading = read_edge (if b then q else Idle) e.0 (span_before false e.0 e.1);
          is_low = e.0;
          lasted = longer (if b then q else Idle) lasted e.1;
        }) w rest)) ≡ Some (Forward g)) (no_stop e.1 broken.1) h

    fallen : first_read (record { reading = read_edge q true (span_of e.1); is_low = true; lasted = longer q lasted e.1 }) w rest ≡ Some (Forward g)
    fallen =
        subst (λ l. first_read (record { reading = read_edge q l (span_before false l e.1); is_low = l; lasted = longer q lasted e.1 }) w rest
        ≡ Some (Forward g))
        broken.0 soon

-- what is held low in the port's view is a break in that of each receiver
abbrev pub Near : ℕ → ℕ → Type 0
Near m d = (m ≤ d + 50) × (d ≤ m + 2200)

high_few : (m d at : ℕ) → d ≤ m + 2200 → at ≤ d + 50 → at - m ≤ 2250
high_few m d at a b = omega arith

low_many : (m d at : ℕ) → m ≤ d + 50 → d + 1300 ≤ at → 1250 ≤ at - m
low_many m d at a b = omega arith

later_near : (m d at : ℕ) → d ≤ m + 2200 → m ≤ at → d ≤ at + 2200
later_near m d at a b = omega arith

held_seen : (es bus w : Edges) (was : Bool) (m d : ℕ) → IsHeld was (d + 50) (d + 1300) es → Sorted m es → Alternate was bus
    → Sees table bus (spaced m es) → Sees table bus w → Near m d → BreakSeen was w
held_seen [] [] [] true m d held order by sees seen close = tt
held_seen [] [] [] false m d held order by sees seen close = absurd (let off : false ≡ true = held in cc)
held_seen [] [] (s ∷ w) was m d held order by sees seen close = absurd seen
held_seen [] (b ∷ bus) w was m d held order by sees seen close = absurd sees
held_seen (e ∷ es) [] w was m d held order by sees seen close = absurd sees
held_seen (e ∷ es) (b ∷ bus) [] was m d held order by sees seen close = absurd seen
held_seen (e ∷ es) (b ∷ bus) (s ∷ w) true m d (inl early) order by sees seen close =
    let rest = held_seen es bus w false e.1 d
    (subst (λ l. IsHeld l (d + 50) (d + 1300) es) (sees.0 ∙ by.0) early.1) order.1 (subst (λ l. Alternate l bus) by.0 by.1) sees.2 seen.2
    (early.0, later_near m d e.1 close.1 order.0) in
    (seen.0 ∙ by.0, inr rest)
held_seen (e ∷ es) (b ∷ bus) (s ∷ w) false m d (inl early) order by sees seen close =
    let rest = held_seen es bus w true e.1 d
    (subst (λ l. IsHeld l (d + 50) (d + 1300) es) (sees.0 ∙ by.0) early.1) order.1 (subst (λ l. Alternate l bus) by.0 by.1) sees.2 seen.2
    (early.0, later_near m d e.1 close.1 order.0) in
    (seen.0 ∙ by.0, high_seen b.1 (e.1 - m) s.1 sees.1 seen.1 (high_few m d e.1 close.1 early.0), rest)
held_seen (e ∷ es) (b ∷ bus) (s ∷ w) true m d (inr late) order by sees seen close =
    (seen.0 ∙ by.0, inl (break_seen b.1 (e.1 - m) s.1 sees.1 seen.1 (low_many m d e.1 close.0 late.1)))
held_seen (e ∷ es) (b ∷ bus) (s ∷ w) false m d (inr late) order by sees seen close = absurd (let off : false ≡ true = late.0 in cc)

near_cut : (last at d : ℕ) → last ≤ at + 40 → at ≤ last + 900 → at ≤ d → d ≤ at + 1251 → Near last d
near_cut last at d a b c e = (omega arith, omega arith)

cut_seen : (was : Bool) (at last : ℕ) (es bus w : Edges) → IsCut was at es → last ≤ at + 40 → at ≤ last + 900 → Sorted last es → Alternate was bus
    → Sees table bus (spaced last es) → Sees table bus w → BreakSeen was w
cut_seen was at last es bus w h a b order by sees seen =
    held_seen es bus w was last h.0 h.4 order by sees seen (near_cut last at h.0 a b h.1 h.2)

-- one edge of a frame that may be cut
pub record EdgeOr (x : Bool) (at last : ℕ) (ls : List Bool) (w : Edges) : Type 0 where
  pub moment : ℕ
  pub passed : ℕ
  pub gap : ℕ
  pub es : Edges
  pub bus : Edges
  pub rest : Edges
  pub is : w ≡ (not x, gap) ∷ rest
  pub least : at ≤ moment
  pub most : moment ≤ at + 40
  pub edges : IsCut (not x) at es ⊎ MayBreak (not x) (at + 417) ls es
  pub one : IsSeen table passed (moment - last)
  pub two : IsSeen table passed gap
  pub sorted : Sorted moment es
  pub by : Alternate (not x) bus
  pub sees : Sees table bus (spaced moment es)
  pub seen : Sees table bus rest

edge_by : (x : Bool) (at last : ℕ) (ls : List Bool) (e : Bool × ℕ) (es bus w : Edges) → e.0 ≡ not x → at ≤ e.1 → e.1 ≤ at + 40
    → IsCut (not x) at es ⊎ MayBreak (not x) (at + 417) ls es → Sorted last (e ∷ es) → Alternate x bus → Sees table bus (spaced last (e ∷ es))
    → Sees table bus w → EdgeOr x at last ls w
edge_by x at last ls e es [] w low lo hi edges order by sees seen = absurd sees
edge_by x at last ls e es (b ∷ bus) [] low lo hi edges order by sees seen = absurd seen
edge_by x at last ls e es (b ∷ bus) (s ∷ w) low lo hi edges order by sees seen = record {
  moment = e.1;
  passed = b.1;
  gap = s.1;
  es = es;
  bus = bus;
  rest = w;
  is = ap (λ l. (l, s.1) ∷ w) (seen.0 ∙ (sym sees.0 ∙ low));
  least = lo;
  most = hi;
  edges = edges;
  one = sees.1;
  two = seen.1;
  sorted = order.1;
  by = subst (λ l. Alternate l bus) by.0 by.1;
  sees = sees.2;
  seen = seen.2;
}

edge_or : (x : Bool) (at last : ℕ) (ls : List Bool) (es bus w : Edges) → MayBreak x at (not x ∷ ls) es → last ≤ at + 40 → at ≤ last + 900
    → Sorted last es → Alternate x bus → Sees table bus (spaced last es) → Sees table bus w → EdgeOr x at last ls w ⊎ BreakSeen x w
edge_or true at last ls es bus w (inl h) a b order by sees seen = inr (cut_seen true at last es bus w h a b order by sees seen)
edge_or false at last ls es bus w (inl h) a b order by sees seen = inr (cut_seen false at last es bus w h a b order by sees seen)
edge_or true at last ls es bus w (inr h) a b order by sees seen =
    inl (edge_by true at last ls h.0 h.1 bus w h.3 h.4 h.5 h.6 (subst (λ (x : Edges). Sorted last x) h.2 order) by
    (subst (λ (x : Edges). Sees table bus (spaced last x)) h.2 sees) seen)
edge_or false at last ls es bus w (inr h) a b order by sees seen =
    inl (edge_by false at last ls h.0 h.1 bus w h.3 h.4 h.5 h.6 (subst (λ (x : Edges). Sorted last x) h.2 order) by
    (subst (λ (x : Edges). Sees table bus (spaced last x)) h.2 sees) seen)

wrapped : (x : Bool) (gap : ℕ) (rest w : Edges) → w ≡ (not x, gap) ∷ rest → gap < 2400 → BreakSeen (not x) rest → BreakSeen x w
wrapped true gap rest w is few h = subst (λ (v : Edges). BreakSeen true v) (sym is) (refl, inr h)
wrapped false gap rest w is few h = subst (λ (v : Edges). BreakSeen false v) (sym is) (refl, few, h)

past_one : (at moment : ℕ) → at ≤ moment → at ≤ moment + 900
past_one at moment h = omega arith

after_edge : (T : Type 0) (x : Bool) (at last : ℕ) (ls : List Bool) (w : Edges) (e : EdgeOr x at last ls w) → e.gap < 2400
    → (MayBreak (not x) (at + 417) ls e.es → T ⊎ BreakSeen (not x) e.rest) → T ⊎ BreakSeen x w
after_edge T x at last ls w e few f = go e.edges where
  also : T ⊎ BreakSeen (not x) e.rest → T ⊎ BreakSeen x w
  also (inl t) = inl t
  also (inr h) = inr (wrapped x e.gap e.rest w e.is few h)

  go : IsCut (not x) at e.es ⊎ MayBreak (not x) (at + 417) ls e.es → T ⊎ BreakSeen x w
  go (inl h) =
      inr (wrapped x e.gap e.rest w e.is few
      (cut_seen (not x) at e.moment e.es e.bus e.rest h e.most (past_one at e.moment e.least) e.sorted e.by e.sees e.seen))
  go (inr h) = also (f h)

-- the stop condition
stop_near : (at d moment : ℕ) → at ≤ moment → d ≤ at + 1251 → d ≤ moment + 2200
stop_near at d moment a b = omega arith

not_stop : (n : ℕ) → nat_le 2400 n ≡ false → n < 2400
not_stop n h = grind (arith, nat_tests)

is_stop : (n : ℕ) → nat_le 2400 n ≡ true → 2400 ≤ n
is_stop n h = grind (arith, nat_tests)

stop_cut : (at last : ℕ) (es bus w : Edges) → IsCut false at es → Sorted last es → Alternate false bus → Sees table bus (spaced last es) → Sees table bus w
    → AfterStop w ⊎ BreakSeen false w
stop_cut at last [] bus w h order by sees seen = absurd (let off : false ≡ true = h.4 in cc)
stop_cut at last (e ∷ es) [] w h order by sees seen = absurd sees
stop_cut at last (e ∷ es) (b ∷ bus) [] h order by sees seen = absurd seen
stop_cut at last (e ∷ es) (b ∷ bus) (s ∷ w) h order by sees seen = go (nat_le 2400 s.1) refl h.4 where
  go : (l : Bool) → nat_le 2400 s.1 ≡ l → IsHeld false (h.0 + 50) (h.0 + 1300) (e ∷ es) → AfterStop (s ∷ w) ⊎ BreakSeen false (s ∷ w)
  go true long held = inl (is_stop s.1 long)
  go false short (inl early) =
      inr (
        seen.0 ∙ by.0,
        not_stop s.1 short,
        held_seen es bus w true e.1 h.0
            (subst (λ l. IsHeld l (h.0 + 50) (h.0 + 1300) es) (sees.0 ∙ by.0) early.1) order.1 (subst (λ l. Alternate l bus) by.0 by.1) sees.2 seen.2
            (early.0, stop_near at h.0 e.1 h.3 h.2),
      )
  go false short (inr late) = absurd (let off : false ≡ true = late.0 in cc)

stop_more : (n at last : ℕ) → last + 2462 ≤ at + 417 * suc n → last + 2462 ≤ at + 417 + 417 * n
stop_more n at last h = omega arith

stop_none : (at last : ℕ) → last + 2462 ≤ at + 417 * 0 → last + 2462 ≤ at
stop_none at last h = omega arith

stop_fate : (n at last : ℕ) (es bus w : Edges) → last + 2462 ≤ at + 417 * n → MayBreak false at (highs n) es → Sorted last es → Alternate false bus
    → Sees table bus (spaced last es) → Sees table bus w → AfterStop w ⊎ BreakSeen false w
stop_fate zero at last es bus w long h order by sees seen = inl (ends at last es bus w (stop_none at last long) h sees seen)
stop_fate (suc n) at last es bus w long (inl h) order by sees seen = stop_cut at last es bus w h order by sees seen
stop_fate (suc n) at last es bus w long (inr h) order by sees seen = stop_fate n (at + 417) last es bus w (stop_more n at last long) h order by sees seen

few_half : (n : ℕ) → IsHalf n → n < 2400
few_half n h = let most : n ≤ 500 = h.1 in omega arith

few_whole : (n : ℕ) → IsWhole n → n < 2400
few_whole n h = let most : n ≤ 1000 = h.1 in omega arith

six : (at last : ℕ) → last + 417 ≤ at + 40 → last + 2462 ≤ at + 417 * 6
six at last h = omega arith

five : (at last : ℕ) → last ≤ at + 40 → last + 2462 ≤ at + 417 + 417 * 5
five at last h = omega arith

near_a : (at last : ℕ) → last + 417 ≤ at + 40 → last ≤ at + 40
near_a at last h = omega arith

near_b : (at last : ℕ) → at ≤ last + 417 → at ≤ last + 900
near_b at last h = omega arith

near_c : (at last : ℕ) → last + 417 ≤ at + 40 → last ≤ at + 417 + 40
near_c at last h = omega arith

near_d : (at last : ℕ) → at ≤ last + 417 → at + 417 ≤ last + 900
near_d at last h = omega arith

near_e : (at moment : ℕ) → moment ≤ at + 40 → moment ≤ at + 417 + 40
near_e at moment h = omega arith

near_f : (at moment : ℕ) → at ≤ moment → at + 417 ≤ moment + 900
near_f at moment h = omega arith

-- what becomes of the bits, from the edge in the middle of one on
abbrev Fate : Bool → List Bool → Edges → Type 0
Fate x bits w = Takes x bits w ⊎ BreakSeen x w

none_fate : (x : Bool) (at last : ℕ) (es bus w : Edges) → at ≤ last + 417 → last + 417 ≤ at + 40 → MayBreak x at (highs 6) es → Sorted last es
    → Alternate x bus → Sees table bus (spaced last es) → Sees table bus w → Fate x [] w
none_fate false at last es bus w lo hi h order by sees seen = go (stop_fate 6 at last es bus w (six at last hi) h order by sees seen) where
  go : AfterStop w ⊎ BreakSeen false w → Fate false [] w
  go (inl stop) = inl (record { times = []; more = w; is = refl; are = tt; stop = stop })
  go (inr broken) = inr broken
none_fate true at last es bus w lo hi h order by sees seen =
    go (edge_or true at last (highs 5) es bus w h (near_a at last hi) (near_b at last lo) order by sees seen)
  where
    go : EdgeOr true at last (highs 5) w ⊎ BreakSeen true w → Fate true [] w
    go (inr broken) = inr broken
    go (inl e) =
        let half : IsHalf e.gap = a_half at last e.moment e.passed e.gap lo hi e.least e.most e.one e.two in
        let made : AfterStop e.rest ⊎ BreakSeen false e.rest → Takes true [] w ⊎ BreakSeen false e.rest =
        λ o. elim o [ inl stop ↦ inl (record { times = e.gap ∷ []; more = e.rest; is = e.is; are = half; stop = stop }) | inr broken ↦ inr broken ] in
        after_edge (Takes true [] w) true at last (highs 5) w e (few_half e.gap half)
        (λ more. made (stop_fate 5 (at + 417) e.moment e.es e.bus e.rest (five at e.moment e.most) more e.sorted e.by e.sees e.seen))

whole_takes : (x : Bool) (bits : List Bool) (gap : ℕ) (rest w : Edges) → w ≡ (not x, gap) ∷ rest → IsWhole gap → Takes (not x) bits rest
    → Takes x (x ∷ bits) w
whole_takes true bits gap rest w is whole t =
    record { times = gap ∷ t.times; more = t.more; is = cons_is w rest _ (false, gap) is t.is; are = (whole, t.are); stop = t.stop }
whole_takes false bits gap rest w is whole t =
    record { times = gap ∷ t.times; more = t.more; is = cons_is w rest _ (true, gap) is t.is; are = (whole, t.are); stop = t.stop }

half_takes : (x : Bool) (bits : List Bool) (one two : ℕ) (mid rest w : Edges) → w ≡ (not x, one) ∷ mid → mid ≡ (x, two) ∷ rest → IsHalf one → IsHalf two
    → Takes x bits rest → Takes x (not x ∷ bits) w
half_takes true bits one two mid rest w is next a b t = record {
  times = one ∷ two ∷ t.times;
  more = t.more;
  is = cons_is w mid _ (false, one) is (cons_is mid rest _ (true, two) next t.is);
  are = (a, b, t.are);
  stop = t.stop;
}
half_takes false bits one two mid rest w is next a b t = record {
  times = one ∷ two ∷ t.times;
  more = t.more;
  is = cons_is w mid _ (true, one) is (cons_is mid rest _ (false, two) next t.is);
  are = (a, b, t.are);
  stop = t.stop;
}

-- a bit that is like the one before it, whose middle is the next edge
abbrev Rest : Bool → List Bool → ℕ → ℕ → List Bool → Edges → Type 0
Rest x bits at last ls w = (e : EdgeOr x (at + 417) last ls w) → MayBreak (not x) (at + 417 + 417) ls e.es → Fate (not x) bits e.rest

alike : (x : Bool) (bits : List Bool) (at last : ℕ) (ls : List Bool) (w : Edges) → at ≤ last + 417 → last + 417 ≤ at + 40 → Rest x bits at last ls w
    → EdgeOr x (at + 417) last ls w ⊎ BreakSeen x w → Fate x (x ∷ bits) w
alike x bits at last ls w lo hi more (inr broken) = inr broken
alike x bits at last ls w lo hi more (inl e) =
    after_edge (Takes x (x ∷ bits) w) x (at + 417) last ls w e (few_whole e.gap whole)
    (λ h. elim (more e h) [ inl t ↦ inl (whole_takes x bits e.gap e.rest w e.is whole t) | inr broken ↦ inr broken ])
  where
    whole : IsWhole e.gap
    whole = a_whole at last e.moment e.passed e.gap lo hi e.least e.most e.one e.two

-- one that is not: an edge between the two, and one in its middle
abbrev Mid : Bool → ℕ → ℕ → List Bool → Edges → Type 0
Mid x at last ls w = EdgeOr x at last (x ∷ ls) w

abbrev Rests : Bool → List Bool → ℕ → ℕ → List Bool → Edges → Type 0
Rests x bits at last ls w =
    (e : Mid x at last ls w) (f : EdgeOr (not x) (at + 417) e.moment ls e.rest) → MayBreak (not (not x)) (at + 417 + 417) ls f.es → Fate x bits f.rest

first_half : (x : Bool) (at last : ℕ) (ls : List Bool) (w : Edges) (e : Mid x at last ls w) → at ≤ last + 417 → last + 417 ≤ at + 40 → IsHalf e.gap
first_half x at last ls w e lo hi = a_half at last e.moment e.passed e.gap lo hi e.least e.most e.one e.two

second_half : (x : Bool) (at last : ℕ) (ls : List Bool) (w : Edges) (e : Mid x at last ls w) (f : EdgeOr (not x) (at + 417) e.moment ls e.rest) → IsHalf f.gap
second_half x at last ls w e f =
    a_half (at + 417) e.moment f.moment f.passed f.gap (next_least at e.moment e.least) (next_most at e.moment e.most) f.least f.most f.one f.two

unlike_low : (bits : List Bool) (at last : ℕ) (ls : List Bool) (w : Edges) → at ≤ last + 417 → last + 417 ≤ at + 40 → Rests true bits at last ls w
    → Mid true at last ls w ⊎ BreakSeen true w → Fate true (false ∷ bits) w
unlike_low bits at last ls w lo hi more (inr broken) = inr broken
unlike_low bits at last ls w lo hi more (inl e) =
    after_edge (Takes true (false ∷ bits) w) true at last (true ∷ ls) w e (few_half e.gap (first_half true at last ls w e lo hi))
    (λ h. elim
    (edge_or false (at + 417) e.moment ls e.es e.bus e.rest h (near_e at e.moment e.most) (near_f at e.moment e.least) e.sorted e.by e.sees e.seen) [
      | inr broken ↦ inr broken
      | inl f ↦ after_edge (Takes true (false ∷ bits) w) false (at + 417) e.moment ls e.rest f (few_half f.gap (second_half true at last ls w e f))
          (λ k. elim (more e f k) [
            | inl t ↦ inl (half_takes true bits e.gap f.gap e.rest f.rest w e.is f.is (first_half true at last ls w e lo hi)
                (second_half true at last ls w e f) t)
            | inr broken ↦ inr broken
          ])
    ])

unlike_high : (bits : List Bool) (at last : ℕ) (ls : List Bool) (w : Edges) → at ≤ last + 417 → last + 417 ≤ at + 40 → Rests false bits at last ls w
    → Mid false at last ls w ⊎ BreakSeen false w → Fate false (true ∷ bits) w
unlike_high bits at last ls w lo hi more (inr broken) = inr broken
unlike_high bits at last ls w lo hi more (inl e) =
    after_edge (Takes false (true ∷ bits) w) false at last (false ∷ ls) w e (few_half e.gap (first_half false at last ls w e lo hi))
    (λ h. elim
    (edge_or true (at + 417) e.moment ls e.es e.bus e.rest h (near_e at e.moment e.most) (near_f at e.moment e.least) e.sorted e.by e.sees e.seen) [
      | inr broken ↦ inr broken
      | inl f ↦ after_edge (Takes false (true ∷ bits) w) true (at + 417) e.moment ls e.rest f (few_half f.gap (second_half false at last ls w e f))
          (λ k. elim (more e f k) [
            | inl t ↦ inl (half_takes false bits e.gap f.gap e.rest f.rest w e.is f.is (first_half false at last ls w e lo hi)
                (second_half false at last ls w e f) t)
            | inr broken ↦ inr broken
          ])
    ])

fates : (bits : List Bool) (x : Bool) (at last : ℕ) (es bus w : Edges) → at ≤ last + 417 → last + 417 ≤ at + 40
    → MayBreak x at (levels_of bits ++ highs 6) es → Sorted last es → Alternate x bus → Sees table bus (spaced last es) → Sees table bus w → Fate x bits w
fates [] x at last es bus w lo hi h order by sees seen = none_fate x at last es bus w lo hi h order by sees seen
fates (true ∷ bits) true at last es bus w lo hi (inl h) order by sees seen =
    inr (cut_seen true at last es bus w h (near_a at last hi) (near_b at last lo) order by sees seen)
fates (false ∷ bits) false at last es bus w lo hi (inl h) order by sees seen =
    inr (cut_seen false at last es bus w h (near_a at last hi) (near_b at last lo) order by sees seen)
fates (true ∷ bits) true at last es bus w lo hi (inr h) order by sees seen =
    alike true bits at last (levels_of bits ++ highs 6) w lo hi
    (λ e more. fates bits false (at + 417 + 417) e.moment e.es e.bus e.rest (next_least (at + 417) e.moment e.least)
    (next_most (at + 417) e.moment e.most) more e.sorted e.by e.sees e.seen)
    (edge_or true (at + 417) last (levels_of bits ++ highs 6) es bus w h (near_c at last hi) (near_d at last lo) order by sees seen)
fates (false ∷ bits) false at last es bus w lo hi (inr h) order by sees seen =
    alike false bits at last (levels_of bits ++ highs 6) w lo hi
    (λ e more. fates bits true (at + 417 + 417) e.moment e.es e.bus e.rest (next_least (at + 417) e.moment e.least)
    (next_most (at + 417) e.moment e.most) more e.sorted e.by e.sees e.seen)
    (edge_or false (at + 417) last (levels_of bits ++ highs 6) es bus w h (near_c at last hi) (near_d at last lo) order by sees seen)
fates (true ∷ bits) false at last es bus w lo hi h order by sees seen =
    unlike_high bits at last (levels_of bits ++ highs 6) w lo hi
    (λ e f more. fates bits false (at + 417 + 417) f.moment f.es f.bus f.rest (next_least (at + 417) f.moment f.least)
    (next_most (at + 417) f.moment f.most) more f.sorted f.by f.sees f.seen)
    (edge_or false at last (false ∷ (levels_of bits ++ highs 6)) es bus w h (near_a at last hi) (near_b at last lo) order by sees seen)
fates (false ∷ bits) true at last es bus w lo hi h order by sees seen =
    unlike_low bits at last (levels_of bits ++ highs 6) w lo hi
    (λ e f more. fates bits true (at + 417 + 417) f.moment f.es f.bus f.rest (next_least (at + 417) f.moment f.least)
    (next_most (at + 417) f.moment f.most) more f.sorted f.by f.sees f.seen)
    (edge_or true at last (true ∷ (levels_of bits ++ highs 6)) es bus w h (near_a at last hi) (near_b at last lo) order by sees seen)

-- the whole frame, of a receiver at rest
first_low : (w : Edges) (since lasted rest : ℕ) (f : Frame)
    → first_read (record { reading = Idle; is_low = false; lasted = lasted }) ((true, since) ∷ w) rest ≡ Some f
    → first_read (record { reading = First; is_low = true; lasted = 0 }) w rest ≡ Some f
first_low w since lasted rest f h = go (nat_lt since 2400) h where
  go : (b : Bool) → option_map (λ (told : Told). told.frame)
      (or_later (option_map (λ frame. record { frame = frame; lasted = lasted; since = since }) (if b then None else None))
      (first_told (record {
        reading = read_edge (if b then Idle else Idle) true (span_of since);
        is_low = true;
        lasted = longer (if b then Idle else Idle) lasted since;
      }) w rest)) ≡ Some f → first_read (record { reading = First; is_low = true; lasted = 0 }) w rest ≡ Some f
  go true e = e
  go false e = e

idle_broken : (w : Edges) (since lasted rest : ℕ) (g : Bits) → BreakSeen true w
    → first_read (record { reading = Idle; is_low = false; lasted = lasted }) ((true, since) ∷ w) rest ≡ Some (Forward g) → ⊥
unfolding fits
idle_broken w since lasted rest g broken h = break_read w First true 0 rest g refl broken (first_low w since lasted rest (Forward g) h)

same_frame : (f g : Bits) (o : Option Frame) → o ≡ Some (Forward f) → o ≡ Some (Forward g) → g ≡ f
same_frame f g o a b = let e : Some (Forward g) ≡ Some (Forward f) = sym b ∙ a in cc

first_cut : (at : ℕ) (e : Bool × ℕ) (es : Edges) (b : Bool × ℕ) (bus w : Edges) → IsCut false at (e ∷ es) → Sorted at (e ∷ es) → e.0 ≡ b.0
    → Alternate false (b ∷ bus) → Sees table bus (spaced e.1 es) → Sees table bus w → BreakSeen true w
first_cut at e es b bus w h order level by sees seen = go h.4 where
  go : IsHeld false (h.0 + 50) (h.0 + 1300) (e ∷ es) → BreakSeen true w
  go (inl early) =
      held_seen es bus w true e.1 h.0 (subst (λ l. IsHeld l (h.0 + 50) (h.0 + 1300) es) (level ∙ by.0) early.1) order.1
      (subst (λ l. Alternate l bus) by.0 by.1) sees seen (early.0, stop_near at h.0 e.1 h.3 h.2)
  go (inr late) = absurd (let off : false ≡ true = late.0 in cc)

-- what a receiver makes of the edges behind the first one
abbrev Made : Bits → ℕ → ℕ → ℕ → Edges → Type 0
Made f since lasted rest w =
    (first_read (record { reading = Idle; is_low = false; lasted = lasted }) ((true, since) ∷ w) rest ≡ Some (Forward f)) ⊎ BreakSeen true w

made : (f : Bits) (at : ℕ) (e : Bool × ℕ) (es bus w : Edges) (since lasted rest : ℕ) → f.address_byte < 256 → f.opcode_byte < 256 → 2400 ≤ rest
    → at ≤ e.1 → e.1 ≤ at + 40
    → IsCut true at es ⊎ MayBreak true (at + 417) (false ∷ (levels_of (bits_of 16 (256 * f.address_byte + f.opcode_byte)) ++ highs 6)) es
    → Sorted e.1 es → Alternate true bus → Sees table bus (spaced e.1 es) → Sees table bus w → Made f since lasted rest w
made f at e es bus w since lasted rest small smaller long lo hi (inl h) order by sees seen =
    inr (cut_seen true at e.1 es bus w h hi (past_one at e.1 lo) order by sees seen)
made f at e es bus w since lasted rest small smaller long lo hi (inr h) order by sees seen =
    go (edge_or true (at + 417) e.1 ls es bus w h (near_e at e.1 hi) (near_f at e.1 lo) order by sees seen)
  where
    bits : List Bool
    bits = bits_of 16 (256 * f.address_byte + f.opcode_byte)

    ls : List Bool
    ls = levels_of bits ++ highs 6

    go : EdgeOr true (at + 417) e.1 ls w ⊎ BreakSeen true w → Made f since lasted rest w
    go (inr broken) = inr broken
    go (inl g) =
        let half : IsHalf g.gap =
        a_half (at + 417) e.1 g.moment g.passed g.gap (next_least at e.1 lo) (next_most at e.1 hi) g.least g.most g.one g.two in
        after_edge (first_read (record { reading = Idle; is_low = false; lasted = lasted }) ((true, since) ∷ w) rest ≡ Some (Forward f))
        true (at + 417) e.1 ls w g (few_half g.gap half)
        (λ more. elim
        (fates bits false (at + 417 + 417) g.moment g.es g.bus g.rest (next_least (at + 417) g.moment g.least)
        (next_most (at + 417) g.moment g.most) more g.sorted g.by g.sees g.seen) [
          | inr broken ↦ inr broken
          | inl t ↦ inl
              (subst (λ (v : Edges). first_read (record { reading = Idle; is_low = false; lasted = lasted }) ((true, since) ∷ v) rest ≡ Some (Forward f))
              (sym (cons_is w g.rest (by_turns true t.times ++ t.more) (false, g.gap) g.is t.is))
              (reads (since ∷ g.gap ∷ t.times) Idle false lasted t.more rest (Forward f)
              (forward_read f since g.gap t.times small smaller half t.are) t.stop long))
        ])

frame_broken : (f g : Bits) (at : ℕ) (es bus w : Edges) (lasted rest : ℕ) → f.address_byte < 256 → f.opcode_byte < 256 → 2400 ≤ rest
    → MayBreak false at (sent_levels (forward_bits f)) es → Sorted at es → Alternate false bus → SeesFrom table bus (spaced at es) → SeesFrom table bus w
    → first_read (record { reading = Idle; is_low = false; lasted = lasted }) w rest ≡ Some (Forward g) → g ≡ f
frame_broken f g at es bus w lasted rest small smaller long edges order by sees seen h = go es bus w begun order by sees seen h where
  bits : List Bool
  bits = bits_of 16 (256 * f.address_byte + f.opcode_byte)

  same_bits : (0x10000 + 256 * f.address_byte) + f.opcode_byte ≡ 2 ^ 16 + (256 * f.address_byte + f.opcode_byte)
  same_bits = omega arith

  begun : MayBreak false at (levels_of (true ∷ bits) ++ highs 6) es
  begun =
      subst (λ bs. MayBreak false at (levels_of bs ++ highs 6) es)
      (ap (λ n. bits_of 17 n) same_bits ∙ start_first 16 (256 * f.address_byte + f.opcode_byte)) edges

  read_of : (s : Bool × ℕ) (w : Edges) → s.0 ≡ true → Made f s.1 lasted rest w
      → first_read (record { reading = Idle; is_low = false; lasted = lasted }) (s ∷ w) rest ≡ Some (Forward g) → g ≡ f
  read_of s w low m h =
      let here = subst (λ l. first_read (record { reading = Idle; is_low = false; lasted = lasted }) ((l, s.1) ∷ w) rest ≡ Some (Forward g)) low h in
      elim m [ inl whole ↦ same_frame f g _ whole here | inr broken ↦ absurd (idle_broken w s.1 lasted rest g broken here) ]

  go : (es bus w : Edges) → MayBreak false at (levels_of (true ∷ bits) ++ highs 6) es → Sorted at es → Alternate false bus
      → SeesFrom table bus (spaced at es) → SeesFrom table bus w
      → first_read (record { reading = Idle; is_low = false; lasted = lasted }) w rest ≡ Some (Forward g) → g ≡ f
  go [] bus w (inl cut) order by sees seen h = absurd (let off : false ≡ true = cut.4 in cc)
  go [] bus w (inr edge) order by sees seen h = absurd (cc)
  go (e ∷ es) [] w edges order by sees seen h = absurd sees
  go (e ∷ es) (b ∷ bus) [] edges order by sees seen h = absurd seen
  go (e ∷ es) (b ∷ bus) (s ∷ w) (inl cut) order by sees seen h =
      read_of s w (seen.0 ∙ by.0) (inr (first_cut at e es b bus w cut order sees.0 by sees.1 seen.1)) h
  go (e ∷ es) (b ∷ bus) (s ∷ w) (inr edge) order by sees seen h =
      let first : e ≡ edge.0 = ap (λ (x : Edges). elim x as (λ _. Bool × ℕ) [ [] ↦ e | y ∷ ys ↦ y ]) edge.2 in
      let next : es ≡ edge.1 = ap (λ (x : Edges). elim x as (λ _. Edges) [ [] ↦ es | y ∷ ys ↦ ys ]) edge.2 in
      read_of s w (seen.0 ∙ by.0)
      (made f at e es bus w s.1 lasted rest small smaller long (subst (λ (x : Bool × ℕ). at ≤ x.1) (sym first) edge.4)
      (subst (λ (x : Bool × ℕ). x.1 ≤ at + 40) (sym first) edge.5)
      (subst (λ (x : Edges). IsCut true at x ⊎ MayBreak true (at + 417) (false ∷ (levels_of bits ++ highs 6)) x) (sym next) edge.6)
      order.1 (subst (λ l. Alternate l bus) by.0 by.1) sees.1 seen.1) h

pub broken_taken : (bus seen : Edges) (f g : Bits) (r : Receiver) (rest : ℕ) → BreaksOff table bus f → SeesFrom table bus seen → r.reading ≡ Idle
    → r.is_low ≡ false → 2400 ≤ rest → first_read r seen rest ≡ Some (Forward g) → g ≡ f
broken_taken bus seen f g r rest a sees idle high long h =
    frame_broken f g a.port.called (edges_in (a.calls ++ a.more)) bus seen r.lasted rest a.address a.opcode long edges
    (sorted (a.calls ++ a.more) a.port.called a.in_order) a.alternate a.sees sees
    (subst (λ l. first_read (record { reading = Idle; is_low = l; lasted = r.lasted }) seen rest ≡ Some (Forward g)) high
    (subst (λ q. first_read (record { reading = q; is_low = r.is_low; lasted = r.lasted }) seen rest ≡ Some (Forward g)) idle h))
  where
    edges : MayBreak false a.port.called (sent_levels (forward_bits f)) (edges_in (a.calls ++ a.more))
    edges =
        subst (λ (x : Bits). MayBreak false a.port.called (sent_levels (forward_bits x)) (edges_in (a.calls ++ a.more))) a.is
        (subst (λ l. MayBreak l a.port.called (sent_levels (forward_bits a.order.frame)) (edges_in (a.calls ++ a.more))) a.begun.high
        (run_broken a.calls a.more a.port (begun_at a.order a.port.called) a.port.called a.begun.phase (begun_known a.port a.order)
        (le_self a.port.called) a.destroyed a.in_order
        (subst (λ l. IsHeld l (last_time a.port.called a.calls + 50) (last_time a.port.called a.calls + 1300) (edges_in (a.calls ++ a.more)))
        (sym a.begun.high) a.held)))
