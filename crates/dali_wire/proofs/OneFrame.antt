use Rattle.std.proofs.Common.{◌≡◌, ℕ, ◌+◌, ◌*◌, ◌%◌, ◌-◌, ◌^◌, ◌<◌, ◌≤◌, min, Bool, true, false, Some, List, [], ◌∷◌, ◌++◌, length, ◌⊎◌, inl, inr, refl, sym}
use Rattle.std.proofs.Common.{ap, subst, ◌∙◌, arith, nat_lt, nat_le, ◌&&◌, if◌then◌else◌}
use Rattle.std.proofs.{Math.Pow.pow_mono, lemmas.Bool.Decides.nat_tests}
use Rattle.dali_frame.specs.declared.frames.Answer.{Answer, TheVariants.Silence, TheVariants.Byte, TheVariants.Damaged}
use Rattle.dali_wire.specs.Edges.{window_after_all, time_of, by_turns, rises, AtMostOnePulse, high_before, IsOneAnswer}
use Rattle.dali_wire.specs.{Grid.value_of, Levels.bits_of, Reception.span_of, Reception.span_before, Reception.with_bit, Reception.read_edge}
use Rattle.dali_wire.specs.{Reception.frame_of, Reception.frame_read, Reception.longer, Reception.reading_at, Times.IsHalf, Times.IsWhole, Times.AreTimes}
use Rattle.dali_wire.specs.Windows.{answer_in, heard_beside, heard_with, is_idle, window_after, window_at_first, told_after}
use Rattle.dali_wire.specs.declared.receiver.Frame.{Frame, TheVariants.Forward, TheVariants.Backward, TheVariants.Device, TheVariants.Damaged as Broken}
use Rattle.dali_wire.specs.declared.receiver.Reading.{Reading, TheVariants.Idle, TheVariants.First, TheVariants.Between, TheVariants.Middle, TheVariants.Spoilt}
use Rattle.dali_wire.specs.declared.receiver.Span.{Span, TheVariants.Short, TheVariants.Half, TheVariants.Whole, TheVariants.Wrong}
use Rattle.dali_wire.proofs.{Asking.begun, Heard.longer_is, Joint.byte_is, Rests.state, Rests.TellsOf, Rests.told_is, Rests.damaged_tells}
use Rattle.dali_wire.proofs.Rests.{goes_on, step, falls, IsBusy, not_idle, edge_busy, IsNeverBusy, never_busy, idle_falls, rises_short, first_ends}
use Rattle.dali_wire.proofs.Rests.{is_early, never_early, missed_after_pulse, missed_late, echo_passes, early_time}
use Rattle.dali_wire.proofs.{Rests.frame_not_silent, Rests.spoilt_tells, Spans.lately, Values.few_bits, Values.bits_back, Values.below, Values.above}

-- A BYTE IS HEARD of one backward frame alone, that began in its time, and of at most one pulse beside it.
in_time : (f : Frame) (begun byte : ℕ) → answer_in f begun ≡ Byte byte → (f ≡ Backward byte) × (2400 ≤ begun) × (begun ≤ 12400)
in_time (Forward x) begun byte h = absurd (cc)
in_time (Device x) begun byte h = absurd (cc)
in_time Broken begun byte h = absurd (cc)
in_time (Backward b) begun byte h = go (nat_le 2400 begun) (nat_le begun 12400) refl refl h where
  go : (least most : Bool) → nat_le 2400 begun ≡ least → nat_le begun 12400 ≡ most → (if least && most then Byte b else Damaged) ≡ Byte byte
      → (Backward b ≡ Backward byte) × (2400 ≤ begun) × (begun ≤ 12400)
  go true true low high e = (cc, grind (arith, nat_tests), grind (arith, nat_tests))
  go true false low high e = absurd (cc)
  go false most low high e = absurd (cc)

byte_busy : (byte heard : ℕ) → IsNeverBusy (Byte byte) (Byte heard)
byte_busy byte heard = never_busy (Byte byte) (Byte heard) (λ d. cc) (λ t now. (
  (λ is. cc),
  (λ edges w rest is told. let no : Byte byte ≡ Damaged = damaged_tells edges w rest (Byte byte) is told in cc),
))

-- THE TIMES that a time may be
is_half : (s : ℕ) → span_of s ≡ Half → IsHalf s
is_half s h = (grind (arith, nat_tests), grind (arith, nat_tests))

is_whole : (s : ℕ) → span_of s ≡ Whole → IsWhole s
is_whole s h = (grind (arith, nat_tests), grind (arith, nat_tests))

-- WHAT FOLLOWS A FRAME: a stop condition, and then one pulse or nothing
abbrev IsAfter : Bool → List ℕ → Type 0
IsAfter p [] = Unit {0}
IsAfter false (high ∷ low ∷ []) = low < 100
IsAfter p _ = ⊥

record Tail (p : Bool) (rest begin : ℕ) : Type 0 where
  after : List ℕ
  pulse : IsAfter p after
  stop : 2400 ≤ high_before after rest
  least : 2400 ≤ begin
  most : begin ≤ 12400

record Stops (v : ℕ) (p : Bool) (edges : List (Bool × ℕ)) (rest begin byte : ℕ) : Type 0 where
  tail : Tail p rest begin
  edges_are : edges ≡ by_turns true tail.after
  is : frame_of v ≡ Backward byte

-- the frame of these bits, heard so long after it began
heard_in_time : (v lasted begin since byte : ℕ) → begin + lasted + since < 2 ^ 32
    → answer_in (frame_of v) (min (begin + lasted + since) (2 ^ 32 - 1) - since - lasted) ≡ Byte byte
    → (frame_of v ≡ Backward byte) × (2400 ≤ begin) × (begin ≤ 12400)
heard_in_time v lasted begin since byte small told =
    let back : min (begin + lasted + since) (2 ^ 32 - 1) - since - lasted ≡ begin = begun (begin + lasted) since lasted small ∙ omega arith in
    in_time (frame_of v) begin byte (subst (λ (b : ℕ). answer_in (frame_of v) b ≡ Byte byte) back told)

module _ (r : Reading) (v : ℕ) (busy : IsBusy r) (read : frame_read r ≡ Some (frame_of v)) where
  stops_last : (lasted begin : ℕ) (p : Bool) (rest byte : ℕ) → begin + lasted + rest < 2 ^ 32
      → told_after (state r false lasted (begin + lasted) Silence p) rest ≡ Some (Byte byte) → Stops v p [] rest begin byte
  stops_last lasted begin p rest byte small told =
      elim (told_is (state r false lasted (begin + lasted) Silence p) rest (Byte byte) told) [
        | inl d ↦ absurd (cc)
        | inr x ↦ go (nat_lt rest 2400) refl x.0 x.1
      ]
    where
      go : (b : Bool) → nat_lt rest 2400 ≡ b → is_idle (reading_at r false rest) ≡ true
          → Byte byte ≡ heard_with (state r false lasted (begin + lasted) Silence p) rest → Stops v p [] rest begin byte
      go true test idle is = let no = not_idle r busy in let idle_is = rw test at idle in absurd (cc)
      go false test idle is =
          let told_is = rw (test, read) at is in
          let all = heard_in_time v lasted begin rest byte small (sym told_is) in
          let tail : Tail p rest begin = record { after = []; pulse = tt; stop = lately rest test; least = all.1; most = all.2 } in
          record { tail = tail; edges_are = refl; is = all.0 }

  heard_of : (lasted elapsed : ℕ) (p : Bool) (t : ℕ) → nat_lt t 2400 ≡ false → heard_with (state r false lasted elapsed Silence p) t
      ≡ answer_in (frame_of v) (min (elapsed + t) (2 ^ 32 - 1) - t - lasted)
  heard_of lasted elapsed p t over = rw (over, read) refl

  stops_edge : (e : Bool × ℕ) (edges : List (Bool × ℕ)) (lasted begin : ℕ) (p : Bool) (rest byte : ℕ) → begin + lasted + e.1 < 2 ^ 32
      → nat_lt e.1 2400 ≡ false → TellsOf (state r false lasted (begin + lasted) Silence p) (e ∷ edges) rest (Byte byte)
      → Stops v p (e ∷ edges) rest begin byte
  stops_edge e edges lasted begin p rest byte small over told = go e.0 e.1 small over told where
    ends : (t : ℕ) (a : Answer) → begin + lasted + t < 2 ^ 32 → nat_lt t 2400 ≡ false
        → answer_in (frame_of v) (min (begin + lasted + t) (2 ^ 32 - 1) - t - lasted) ≡ a
        → TellsOf (state First true 0 (min (begin + lasted + t) (2 ^ 32 - 1)) a p) edges rest (Byte byte)
        → Stops v p ((true, t) ∷ edges) rest begin byte
    ends t Silence small over is told = absurd (frame_not_silent (frame_of v) _ is)
    ends t Damaged small over is told =
        let no : Byte byte ≡ Damaged =
        damaged_tells edges (state First true 0 (min (begin + lasted + t) (2 ^ 32 - 1)) Damaged p) rest (Byte byte) refl told in
        absurd (cc)
    ends t (Byte heard) small over is told =
        let ends = first_ends (Byte byte) (Byte heard) (λ d. cc) (byte_busy byte heard) edges 0 (min (begin + lasted + t) (2 ^ 32 - 1)) p rest told in
        let all = heard_in_time v lasted begin t byte small (is ∙ sym ends.1) in
        let pulse = subst (λ (q : Bool). IsAfter q (t ∷ ends.0.0 ∷ [])) (sym ends.0.3) ends.0.2 in
        let tail : Tail p rest begin = record { after = t ∷ ends.0.0 ∷ []; pulse = pulse; stop = lately t over; least = all.1; most = all.2 } in
        record { tail = tail; edges_are = ap (λ es. (true, t) ∷ es) ends.0.1; is = all.0 }

    go : (low : Bool) (t : ℕ) → begin + lasted + t < 2 ^ 32 → nat_lt t 2400 ≡ false
        → TellsOf (state r false lasted (begin + lasted) Silence p) ((low, t) ∷ edges) rest (Byte byte)
        → Stops v p ((low, t) ∷ edges) rest begin byte
    go false t small over told =
        let no : Byte byte ≡ Damaged =
        damaged_tells edges (window_after (state r false lasted (begin + lasted) Silence p) false t) rest (Byte byte)
        (rw (over, never_early (begin + lasted) t over) refl) told in
        absurd (cc)
    go true t small over told =
        let now = subst (λ w. TellsOf w edges rest (Byte byte)) (falls r t lasted (begin + lasted) Silence p over) told in
        let heard = heard_of lasted (begin + lasted) p t over in
        ends t (answer_in (frame_of v) (min (begin + lasted + t) (2 ^ 32 - 1) - t - lasted)) small over refl
        (subst (λ (a : Answer). TellsOf (state First true 0 (min (begin + lasted + t) (2 ^ 32 - 1)) a p) edges rest (Byte byte)) heard now)

-- FROM THE MIDDLE OF A BIT, after which the bus is low or high
abbrev flip : Bool → Bool
flip true = false
flip false = true

record Reads (v : ℕ) (low p : Bool) (edges : List (Bool × ℕ)) (rest begin byte : ℕ) : Type 0 where
  bits : List Bool
  times : List ℕ
  tail : Tail p rest begin
  edges_are : edges ≡ by_turns (flip low) (times ++ tail.after)
  are : AreTimes low bits times
  is : frame_of (value_of v bits) ≡ Backward byte

module _ (v t : ℕ) (p : Bool) (edges : List (Bool × ℕ)) (rest begin byte : ℕ) where
  -- no bit more, after this half
  none_high : Stops v p edges rest begin byte → Reads v false p edges rest begin byte
  none_high s = record { bits = []; times = []; tail = s.tail; edges_are = s.edges_are; are = tt; is = s.is }

  none_low : IsHalf t → Stops v p edges rest begin byte → Reads v true p ((false, t) ∷ edges) rest begin byte
  none_low half s =
      record { bits = []; times = t ∷ []; tail = s.tail; edges_are = ap (λ es. (false, t) ∷ es) s.edges_are; are = half; is = s.is }

  -- one more, by one edge or by two
  one_whole : IsWhole t → Reads (2 * v + 1) false p edges rest begin byte → Reads v true p ((false, t) ∷ edges) rest begin byte
  one_whole whole s =
      let same = ap (λ es. (false, t) ∷ es) s.edges_are in
      record { bits = true ∷ s.bits; times = t ∷ s.times; tail = s.tail; edges_are = same; are = (whole, s.are); is = s.is }

  zero_whole : IsWhole t → Reads (2 * v) true p edges rest begin byte → Reads v false p ((true, t) ∷ edges) rest begin byte
  zero_whole whole s =
      let same = ap (λ es. (true, t) ∷ es) s.edges_are in
      record { bits = false ∷ s.bits; times = t ∷ s.times; tail = s.tail; edges_are = same; are = (whole, s.are); is = s.is }

  one_half : (u : ℕ) → IsHalf t → IsHalf u → Reads (2 * v + 1) false p edges rest begin byte
      → Reads v false p ((true, t) ∷ (false, u) ∷ edges) rest begin byte
  one_half u half again s =
      let same = ap (λ es. (true, t) ∷ (false, u) ∷ es) s.edges_are in
      record { bits = true ∷ s.bits; times = t ∷ u ∷ s.times; tail = s.tail; edges_are = same; are = (half, again, s.are); is = s.is }

  zero_half : (u : ℕ) → IsHalf t → IsHalf u → Reads (2 * v) true p edges rest begin byte
      → Reads v true p ((false, t) ∷ (true, u) ∷ edges) rest begin byte
  zero_half u half again s =
      let same = ap (λ es. (false, t) ∷ (true, u) ∷ es) s.edges_are in
      record { bits = false ∷ s.bits; times = t ∷ u ∷ s.times; tail = s.tail; edges_are = same; are = (half, again, s.are); is = s.is }

-- one edge further, if no stop condition is over
next : (r : Reading) (was low : Bool) (t lasted begin : ℕ) (p : Bool) → is_idle r ≡ false → goes_on was t ≡ true
    → is_idle (read_edge r low (span_before was low t)) ≡ false → begin + lasted + t < 2 ^ 32
    → window_after (state r was lasted (begin + lasted) Silence p) low t
    ≡ state (read_edge r low (span_before was low t)) low (lasted + t) (begin + (lasted + t)) Silence p
next r was low t lasted begin p busy on goes small =
    let now : min (begin + lasted + t) (2 ^ 32 - 1) ≡ begin + (lasted + t) = omega arith in
    step r was low t lasted (begin + lasted) Silence p on goes ∙ rw (longer_is r lasted t busy (omega arith), now) refl

never_spoilt : (edges : List (Bool × ℕ)) (low p : Bool) (lasted elapsed rest byte : ℕ)
    → TellsOf (state Spoilt low lasted elapsed Silence p) edges rest (Byte byte) → ⊥
never_spoilt edges low p lasted elapsed rest byte told =
    let no : Byte byte ≡ Damaged = spoilt_tells edges low lasted elapsed Silence p rest (Byte byte) told in
    cc

abbrev FromMiddle : List (Bool × ℕ) → Type 0
FromMiddle edges = (v : ℕ) (low : Bool) (lasted begin : ℕ) (p : Bool) (rest byte : ℕ) → begin + lasted + (time_of edges + rest) < 2 ^ 32
    → TellsOf (state (Middle v) low lasted (begin + lasted) Silence p) edges rest (Byte byte) → Reads v low p edges rest begin byte

abbrev FromBetween : List (Bool × ℕ) → Type 0
FromBetween edges = (v : ℕ) (low : Bool) (t lasted begin : ℕ) (p : Bool) (rest byte : ℕ) → IsHalf t
    → begin + lasted + (time_of edges + rest) < 2 ^ 32
    → TellsOf (state (Between v) low lasted (begin + lasted) Silence p) edges rest (Byte byte)
    → Reads v (flip low) p ((low, t) ∷ edges) rest begin byte

module _ (edges : List (Bool × ℕ)) (more : FromMiddle edges × FromBetween edges) where
  module _ (lasted begin : ℕ) (p : Bool) (rest byte : ℕ) (small : begin + lasted + (time_of edges + rest) < 2 ^ 32) where
    with_one : (v : ℕ) → TellsOf (state (with_bit v false) false lasted (begin + lasted) Silence p) edges rest (Byte byte)
        → Reads (2 * v + 1) false p edges rest begin byte
    with_one v told = go (nat_le 0x1000000 v) told where
      go : (b : Bool) → TellsOf (state (if b then Spoilt else Middle (2 * v + 1)) false lasted (begin + lasted) Silence p) edges rest (Byte byte)
          → Reads (2 * v + 1) false p edges rest begin byte
      go true t = absurd (never_spoilt edges false p lasted (begin + lasted) rest byte t)
      go false t = more.0 (2 * v + 1) false lasted begin p rest byte small t

    with_zero : (v : ℕ) → TellsOf (state (with_bit v true) true lasted (begin + lasted) Silence p) edges rest (Byte byte)
        → Reads (2 * v) true p edges rest begin byte
    with_zero v told = go (nat_le 0x1000000 v) told where
      go : (b : Bool) → TellsOf (state (if b then Spoilt else Middle (2 * v)) true lasted (begin + lasted) Silence p) edges rest (Byte byte)
          → Reads (2 * v) true p edges rest begin byte
      go true t = absurd (never_spoilt edges true p lasted (begin + lasted) rest byte t)
      go false t = more.0 (2 * v) true lasted begin p rest byte small t

    -- by what the time before the edge was
    middle_kind : (v t : ℕ) (was low : Bool) (k : Span) → span_before was low t ≡ k
        → TellsOf (state (read_edge (Middle v) low k) low lasted (begin + lasted) Silence p) edges rest (Byte byte)
        → Reads v was p ((low, t) ∷ edges) rest begin byte
    middle_kind v t was low Short is told = absurd (never_spoilt edges low p lasted (begin + lasted) rest byte told)
    middle_kind v t was low Wrong is told = absurd (never_spoilt edges low p lasted (begin + lasted) rest byte told)
    middle_kind v t true true Half is told = absurd (cc)
    middle_kind v t false false Half is told = absurd (cc)
    middle_kind v t true true Whole is told = absurd (cc)
    middle_kind v t false false Whole is told = absurd (cc)
    middle_kind v t true false Half is told = more.1 v false t lasted begin p rest byte (is_half t is) small told
    middle_kind v t false true Half is told = more.1 v true t lasted begin p rest byte (is_half t is) small told
    middle_kind v t true false Whole is told = one_whole v t p edges rest begin byte (is_whole t is) (with_one v told)
    middle_kind v t false true Whole is told = zero_whole v t p edges rest begin byte (is_whole t is) (with_zero v told)

    between_kind : (v before t : ℕ) (was low : Bool) (k : Span) → IsHalf before → span_before was low t ≡ k
        → TellsOf (state (read_edge (Between v) low k) low lasted (begin + lasted) Silence p) edges rest (Byte byte)
        → Reads v (flip was) p ((was, before) ∷ (low, t) ∷ edges) rest begin byte
    between_kind v before t was low Short half is told = absurd (never_spoilt edges low p lasted (begin + lasted) rest byte told)
    between_kind v before t was low Wrong half is told = absurd (never_spoilt edges low p lasted (begin + lasted) rest byte told)
    between_kind v before t was low Whole half is told = absurd (never_spoilt edges low p lasted (begin + lasted) rest byte told)
    between_kind v before t true true Half half is told = absurd (cc)
    between_kind v before t false false Half half is told = absurd (cc)
    between_kind v before t true false Half half is told = one_half v before p edges rest begin byte t half (is_half t is) (with_one v told)
    between_kind v before t false true Half half is told = zero_half v before p edges rest begin byte t half (is_half t is) (with_zero v told)

  from_middle : (e : Bool × ℕ) → FromMiddle (e ∷ edges)
  from_middle e v was lasted begin p rest byte small told = go was e.0 e.1 (goes_on was e.1) refl small told where
    go : (was low : Bool) (t : ℕ) (b : Bool) → goes_on was t ≡ b → begin + lasted + (t + time_of edges + rest) < 2 ^ 32
        → TellsOf (state (Middle v) was lasted (begin + lasted) Silence p) ((low, t) ∷ edges) rest (Byte byte)
        → Reads v was p ((low, t) ∷ edges) rest begin byte
    go was low t true on small told =
        let goes = not_idle (read_edge (Middle v) low (span_before was low t)) (edge_busy (Middle v) low (span_before was low t) tt) in
        let is = next (Middle v) was low t lasted begin p refl on goes (omega arith) in
        middle_kind (lasted + t) begin p rest byte (omega arith) v t was low (span_before was low t) refl
        (subst (λ w. TellsOf w edges rest (Byte byte)) is told)
    go true low t false on small told = absurd (cc)
    go false low t false on small told =
        none_high v t p ((low, t) ∷ edges) rest begin byte
        (stops_edge (Middle v) v tt refl (low, t) edges lasted begin p rest byte (omega arith) on told)

  from_between : (e : Bool × ℕ) → FromBetween (e ∷ edges)
  from_between e v was before lasted begin p rest byte half small told = go was e.0 e.1 (goes_on was e.1) refl small told where
    go : (was low : Bool) (t : ℕ) (b : Bool) → goes_on was t ≡ b → begin + lasted + (t + time_of edges + rest) < 2 ^ 32
        → TellsOf (state (Between v) was lasted (begin + lasted) Silence p) ((low, t) ∷ edges) rest (Byte byte)
        → Reads v (flip was) p ((was, before) ∷ (low, t) ∷ edges) rest begin byte
    go was low t true on small told =
        let goes = not_idle (read_edge (Between v) low (span_before was low t)) (edge_busy (Between v) low (span_before was low t) tt) in
        let is = next (Between v) was low t lasted begin p refl on goes (omega arith) in
        between_kind (lasted + t) begin p rest byte (omega arith) v before t was low (span_before was low t) half refl
        (subst (λ w. TellsOf w edges rest (Byte byte)) is told)
    go true low t false on small told = absurd (cc)
    go false low t false on small told =
        none_low v before p ((low, t) ∷ edges) rest begin byte half
        (stops_edge (Between v) v tt refl (low, t) edges lasted begin p rest byte (omega arith) on told)

-- a bus that is low when the window is asked
never_low : (r : Reading) (lasted elapsed : ℕ) (p : Bool) (rest byte : ℕ) → is_idle r ≡ false
    → told_after (state r true lasted elapsed Silence p) rest ≡ Some (Byte byte) → ⊥
never_low r lasted elapsed p rest byte busy told =
    elim (told_is (state r true lasted elapsed Silence p) rest (Byte byte) told) [ inl d ↦ cc | inr x ↦ let idle = x.0 in cc ]

reads : (edges : List (Bool × ℕ)) → FromMiddle edges × FromBetween edges
reads [] = (middle, between) where
  middle : FromMiddle []
  middle v true lasted begin p rest byte small told = absurd (never_low (Middle v) lasted (begin + lasted) p rest byte refl told)
  middle v false lasted begin p rest byte small told =
      none_high v 0 p [] rest begin byte (stops_last (Middle v) v tt refl lasted begin p rest byte (omega arith) told)

  between : FromBetween []
  between v true before lasted begin p rest byte half small told = absurd (never_low (Between v) lasted (begin + lasted) p rest byte refl told)
  between v false before lasted begin p rest byte half small told =
      none_low v before p [] rest begin byte half (stops_last (Between v) v tt refl lasted begin p rest byte (omega arith) told)
reads (e ∷ edges) = (from_middle edges (reads edges) e, from_between edges (reads edges) e)

-- FROM THE FIRST LOW: a start bit and then bits, or a pulse
record Begins (p : Bool) (edges : List (Bool × ℕ)) (rest begin byte : ℕ) : Type 0 where
  first : ℕ
  more : List (Bool × ℕ)
  edges_are : edges ≡ (false, first) ∷ more
  start : IsHalf first
  reads : Reads 1 false p more rest begin byte

record GoesOver (p : Bool) (edges : List (Bool × ℕ)) (rest begin byte : ℕ) : Type 0 where
  low : ℕ
  more : List (Bool × ℕ)
  lasted : ℕ
  edges_are : edges ≡ (false, low) ∷ more
  few : low < 100
  new : p ≡ false
  small : begin + low + (time_of more + rest) < 2 ^ 32
  told : TellsOf (state Idle false lasted (begin + low) Silence true) more rest (Byte byte)

abbrev Starts : Bool → List (Bool × ℕ) → ℕ → ℕ → ℕ → Type 0
Starts p edges rest begin byte = Begins p edges rest begin byte ⊎ GoesOver p edges rest begin byte

module _ (edges : List (Bool × ℕ)) (begin u : ℕ) (rest byte : ℕ) (small : begin + (u + time_of edges + rest) < 2 ^ 32) where
  pulse_or_not : (p b : Bool) → nat_lt u 100 ≡ b
      → TellsOf (state Idle false (min (0 + u) (2 ^ 32 - 1)) (begin + u) (heard_beside true b p Silence) true) edges rest (Byte byte)
      → GoesOver p ((false, u) ∷ edges) rest begin byte
  pulse_or_not false true test told = record {
    low = u;
    more = edges;
    lasted = min (0 + u) (2 ^ 32 - 1);
    edges_are = refl;
    few = grind (arith, nat_tests);
    new = refl;
    small = omega arith;
    told = told;
  }
  pulse_or_not true true test told = let no : Byte byte ≡ Damaged = damaged_tells edges _ rest (Byte byte) refl told in absurd (cc)
  pulse_or_not p false test told = let no : Byte byte ≡ Damaged = damaged_tells edges _ rest (Byte byte) refl told in absurd (cc)

  first_kind : (p low : Bool) (k : Span) → span_before true low u ≡ k → TellsOf (state First true 0 begin Silence p) ((low, u) ∷ edges) rest (Byte byte)
      → Starts p ((low, u) ∷ edges) rest begin byte
  first_kind p true k is told =
      let now = subst (λ w. TellsOf w edges rest (Byte byte)) (step First true true u 0 begin Silence p refl refl) told in
      absurd (never_spoilt edges true p (longer First 0 u) (min (begin + u) (2 ^ 32 - 1)) rest byte now)
  first_kind p false Short is told =
      let now : min (begin + u) (2 ^ 32 - 1) ≡ begin + u = omega arith in
      let over = rw now at (subst (λ w. TellsOf w edges rest (Byte byte)) (rises_short u 0 begin Silence p is) told) in
      inr (pulse_or_not p (nat_lt u 100) refl over)
  first_kind p false Half is told =
      let lasts : longer First 0 u ≡ 0 + u = longer_is First 0 u refl (omega arith) in
      let now : min (begin + u) (2 ^ 32 - 1) ≡ begin + (0 + u) = omega arith in
      let goes : is_idle (read_edge First false (span_of u)) ≡ false = rw is refl in
      let middle : window_after (state First true 0 begin Silence p) false u ≡ state (Middle 1) false (0 + u) (begin + (0 + u)) Silence p =
      step First true false u 0 begin Silence p refl goes ∙ rw (is, lasts, now) refl in
      let told_now = subst (λ w. TellsOf w edges rest (Byte byte)) middle told in
      inl (record {
        first = u;
        more = edges;
        edges_are = refl;
        start = is_half u is;
        reads = (reads edges).0 1 false (0 + u) begin p rest byte (omega arith) told_now;
      })
  first_kind p false Whole is told =
      let goes : is_idle (read_edge First false (span_of u)) ≡ false = rw is refl in
      let spoilt : window_after (state First true 0 begin Silence p) false u
      ≡ state Spoilt false (longer First 0 u) (min (begin + u) (2 ^ 32 - 1)) Silence p =
      step First true false u 0 begin Silence p refl goes ∙ rw is refl in
      absurd (never_spoilt edges false p (longer First 0 u) (min (begin + u) (2 ^ 32 - 1)) rest byte
      (subst (λ w. TellsOf w edges rest (Byte byte)) spoilt told))
  first_kind p false Wrong is told =
      let goes : is_idle (read_edge First false (span_of u)) ≡ false = rw is refl in
      let spoilt : window_after (state First true 0 begin Silence p) false u
      ≡ state Spoilt false (longer First 0 u) (min (begin + u) (2 ^ 32 - 1)) Silence p =
      step First true false u 0 begin Silence p refl goes ∙ rw is refl in
      absurd (never_spoilt edges false p (longer First 0 u) (min (begin + u) (2 ^ 32 - 1)) rest byte
      (subst (λ w. TellsOf w edges rest (Byte byte)) spoilt told))

from_first : (edges : List (Bool × ℕ)) (begin : ℕ) (p : Bool) (rest byte : ℕ) → begin + (time_of edges + rest) < 2 ^ 32
    → TellsOf (state First true 0 begin Silence p) edges rest (Byte byte) → Starts p edges rest begin byte
from_first [] begin p rest byte small told = absurd (never_low First 0 begin p rest byte refl told)
from_first (e ∷ edges) begin p rest byte small told = first_kind edges begin e.1 rest byte small p e.0 (span_before true e.0 e.1) refl told

-- FROM REST, so long after the forward frame
record Falls (p : Bool) (edges : List (Bool × ℕ)) (rest elapsed byte : ℕ) : Type 0 where
  high : ℕ
  more : List (Bool × ℕ)
  edges_are : edges ≡ (true, high) ∷ more
  starts : Starts p more rest (elapsed + high) byte

never_rests : (lasted elapsed : ℕ) (p : Bool) (rest byte : ℕ) → told_after (state Idle false lasted elapsed Silence p) rest ≡ Some (Byte byte) → ⊥
never_rests lasted elapsed p rest byte told = elim (told_is (state Idle false lasted elapsed Silence p) rest (Byte byte) told) [
  | inl d ↦ cc
  | inr x ↦ go (nat_lt rest 2400) refl x.1
]
  where
    go : (b : Bool) → nat_lt rest 2400 ≡ b → Byte byte ≡ heard_with (state Idle false lasted elapsed Silence p) rest → ⊥
    go true test is = let no = rw test at is in cc
    go false test is = let no = rw test at is in cc

from_high : (edges : List (Bool × ℕ)) (t lasted elapsed : ℕ) (p : Bool) (rest byte : ℕ) → elapsed + (t + time_of edges + rest) < 2 ^ 32
    → TellsOf (state Idle false lasted elapsed Silence p) ((true, t) ∷ edges) rest (Byte byte) → Falls p ((true, t) ∷ edges) rest elapsed byte
from_high edges t lasted elapsed p rest byte small told =
    let now : min (elapsed + t) (2 ^ 32 - 1) ≡ elapsed + t = omega arith in
    let first = rw now at (subst (λ w. TellsOf w edges rest (Byte byte)) (idle_falls t lasted elapsed Silence p) told) in
    record { high = t; more = edges; edges_are = refl; starts = from_first edges (elapsed + t) p rest byte (omega arith) first }

-- after a pulse
from_rest : (edges : List (Bool × ℕ)) (lasted elapsed rest byte : ℕ) → elapsed + (time_of edges + rest) < 2 ^ 32
    → TellsOf (state Idle false lasted elapsed Silence true) edges rest (Byte byte) → Falls true edges rest elapsed byte
from_rest [] lasted elapsed rest byte small told = absurd (never_rests lasted elapsed true rest byte told)
from_rest (e ∷ edges) lasted elapsed rest byte small told = go e.0 e.1 small told where
  go : (low : Bool) (t : ℕ) → elapsed + (t + time_of edges + rest) < 2 ^ 32
      → TellsOf (state Idle false lasted elapsed Silence true) ((low, t) ∷ edges) rest (Byte byte) → Falls true ((low, t) ∷ edges) rest elapsed byte
  go false t small told =
      let no : Byte byte ≡ Damaged =
      damaged_tells edges (window_after (state Idle false lasted elapsed Silence true) false t) rest (Byte byte)
      (missed_after_pulse t lasted elapsed Silence) told in
      absurd (cc)
  go true t small told = from_high edges t lasted elapsed true rest byte small told

-- THE BITS of the byte
its_bits : (bits : List Bool) (byte : ℕ) → frame_of (value_of 1 bits) ≡ Backward byte → bits ≡ bits_of 8 byte
its_bits bits byte is =
    let number = byte_is (value_of 1 bits) byte is in
    let back = bits_back 1 bits in
    let w : ℕ = back.0 in
    let under : w < 2 ^ length bits = back.1 in
    let value : value_of 1 bits ≡ 1 * 2 ^ length bits + w = back.2 in
    let few : length bits ≤ 8 = few_bits bits number.0 in
    let long : length bits ≡ 8 = go (nat_le 8 (length bits)) refl few w under value number.2 in
    let same : w ≡ byte = rest_is (length bits) w long under (value_of 1 bits) value number.1 in
    subst (λ (n : ℕ). bits ≡ bits_of 8 n) same (subst (λ (n : ℕ). bits ≡ bits_of n w) long (sym back.3))
  where
    go : (b : Bool) → nat_le 8 (length bits) ≡ b → length bits ≤ 8 → (w : ℕ) → w < 2 ^ length bits
        → value_of 1 bits ≡ 1 * 2 ^ length bits + w → 256 ≤ value_of 1 bits → length bits ≡ 8
    go true test few w under value large = let many : 8 ≤ length bits = below 8 (length bits) test in omega arith
    go false test few w under value large =
        let less : length bits < 8 = above 8 (length bits) test in
        let most : 2 ^ length bits ≤ 2 ^ 7 = pow_mono {i = length bits} {j = 7} (omega arith) in
        absurd (omega arith)

    rest_is : (n w : ℕ) → n ≡ 8 → w < 2 ^ n → (v : ℕ) → v ≡ 1 * 2 ^ n + w → v % 256 ≡ byte → w ≡ byte
    rest_is n w eight under v value rest =
        let small : w < 256 = subst (λ (k : ℕ). w < 2 ^ k) eight under in
        let whole : v ≡ 1 * 256 + w = subst (λ (k : ℕ). v ≡ 1 * 2 ^ k + w) eight value in
        omega arith

nothing_before : (after : List ℕ) → IsAfter false after → AtMostOnePulse [] after
nothing_before [] h = tt
nothing_before (high ∷ []) h = absurd h
nothing_before (high ∷ low ∷ []) h = h
nothing_before (high ∷ low ∷ x ∷ after) h = absurd h

pulse_before : (high low : ℕ) (after : List ℕ) → low < 100 → IsAfter true after → AtMostOnePulse (high ∷ low ∷ []) after
pulse_before high low [] few h = few
pulse_before high low (x ∷ after) few h = absurd (h)

-- so long after the forward frame, after echoes alone
record OneFrom (elapsed : ℕ) (edges : List (Bool × ℕ)) (rest byte : ℕ) : Type 0 where
  echoes : List ℕ
  before : List ℕ
  high : ℕ
  first : ℕ
  times : List ℕ
  after : List ℕ
  edges_are : edges ≡ rises echoes ++ by_turns true (before ++ (high ∷ first ∷ times) ++ after)
  early : elapsed + time_of (rises echoes) < 2400
  start : IsHalf first
  bits : AreTimes false (bits_of 8 byte) times
  pulses : AtMostOnePulse before after
  least : 2400 ≤ elapsed + time_of (rises echoes) + time_of (by_turns true before) + high
  most : elapsed + time_of (rises echoes) + time_of (by_turns true before) + high ≤ 12400
  stop : 2400 ≤ high_before after rest

module _ (elapsed rest byte : ℕ) (few : elapsed < 2400) where
  at_once : (high : ℕ) (more : List (Bool × ℕ)) → Begins false more rest (elapsed + high) byte → OneFrom elapsed ((true, high) ∷ more) rest byte
  at_once high more b = record {
    echoes = [];
    before = [];
    high = high;
    first = b.first;
    times = b.reads.times;
    after = b.reads.tail.after;
    edges_are = ap (λ es. (true, high) ∷ es) (b.edges_are ∙ ap (λ es. (false, b.first) ∷ es) b.reads.edges_are);
    early = omega (arith, few);
    start = b.start;
    bits = subst (λ bs. AreTimes false bs b.reads.times) (its_bits b.reads.bits byte b.reads.is) b.reads.are;
    pulses = nothing_before b.reads.tail.after b.reads.tail.pulse;
    least = omega (arith, b.reads.tail.least);
    most = omega (arith, b.reads.tail.most);
    stop = b.reads.tail.stop;
  }

  later : (before low high : ℕ) (more : List (Bool × ℕ)) → low < 100 → Begins true more rest (elapsed + before + low + high) byte
      → OneFrom elapsed ((true, before) ∷ (false, low) ∷ (true, high) ∷ more) rest byte
  later before low high more short b = record {
    echoes = [];
    before = before ∷ low ∷ [];
    high = high;
    first = b.first;
    times = b.reads.times;
    after = b.reads.tail.after;
    edges_are = ap (λ es. (true, before) ∷ (false, low) ∷ (true, high) ∷ es) (b.edges_are ∙ ap (λ es. (false, b.first) ∷ es) b.reads.edges_are);
    early = omega (arith, few);
    start = b.start;
    bits = subst (λ bs. AreTimes false bs b.reads.times) (its_bits b.reads.bits byte b.reads.is) b.reads.are;
    pulses = pulse_before before low b.reads.tail.after short b.reads.tail.pulse;
    least = omega (arith, b.reads.tail.least);
    most = omega (arith, b.reads.tail.most);
    stop = b.reads.tail.stop;
  }

  again : (before : ℕ) (more : List (Bool × ℕ)) → GoesOver false more rest (elapsed + before) byte → OneFrom elapsed ((true, before) ∷ more) rest byte
  again before more o = ends (from_rest o.more o.lasted (elapsed + before + o.low) rest byte o.small o.told) where
    ends : Falls true o.more rest (elapsed + before + o.low) byte → OneFrom elapsed ((true, before) ∷ more) rest byte
    ends f = elim f.starts [ inl b ↦ here b | inr o ↦ let no = o.new in absurd (cc) ] where
      here : Begins true f.more rest (elapsed + before + o.low + f.high) byte → OneFrom elapsed ((true, before) ∷ more) rest byte
      here b =
          subst (λ es. OneFrom elapsed es rest byte)
          (sym (ap (λ es. (true, before) ∷ es) (o.edges_are ∙ ap (λ es. (false, o.low) ∷ es) f.edges_are)))
          (later before o.low f.high f.more o.few b)

  from_low : (edges : List (Bool × ℕ)) → Falls false edges rest elapsed byte → OneFrom elapsed edges rest byte
  from_low edges f =
      subst (λ es. OneFrom elapsed es rest byte) (sym f.edges_are)
      (elim f.starts [ inl b ↦ at_once f.high f.more b | inr o ↦ again f.high f.more o ])

  after_echo : (t : ℕ) (edges : List (Bool × ℕ)) → OneFrom (elapsed + t) edges rest byte → OneFrom elapsed ((false, t) ∷ edges) rest byte
  after_echo t edges one = record {
    echoes = t ∷ one.echoes;
    before = one.before;
    high = one.high;
    first = one.first;
    times = one.times;
    after = one.after;
    edges_are = ap (λ es. (false, t) ∷ es) one.edges_are;
    early = omega (arith, one.early);
    start = one.start;
    bits = one.bits;
    pulses = one.pulses;
    least = omega (arith, one.least);
    most = omega (arith, one.most);
    stop = one.stop;
  }

abbrev OneByte : List (Bool × ℕ) → Type 0
OneByte edges = (elapsed rest byte : ℕ) → elapsed < 2400 → elapsed + (time_of edges + rest) < 2 ^ 32
    → TellsOf (state Idle false 0 elapsed Silence false) edges rest (Byte byte) → OneFrom elapsed edges rest byte

one_from : (edges : List (Bool × ℕ)) → OneByte edges
one_from [] elapsed rest byte few small told = absurd (never_rests 0 elapsed false rest byte told)
one_from (e ∷ edges) elapsed rest byte few small told = go e.0 e.1 (is_early elapsed e.1) refl (one_from edges) small told where
  go : (low : Bool) (t : ℕ) (b : Bool) → is_early elapsed t ≡ b → OneByte edges → elapsed + (t + time_of edges + rest) < 2 ^ 32
      → TellsOf (state Idle false 0 elapsed Silence false) ((low, t) ∷ edges) rest (Byte byte) → OneFrom elapsed ((low, t) ∷ edges) rest byte
  go true t b is more small told =
      from_low elapsed rest byte few ((true, t) ∷ edges) (from_high edges t 0 elapsed false rest byte small told)
  go false t true is more small told =
      let time = early_time t elapsed is in
      let now = rw time.0 at (subst (λ w. TellsOf w edges rest (Byte byte)) (echo_passes t elapsed Silence is) told) in
      after_echo elapsed rest byte few t edges (more (elapsed + t) rest byte time.1 (omega arith) now)
  go false t false is more small told =
      let no : Byte byte ≡ Damaged =
      damaged_tells edges (window_after (state Idle false 0 elapsed Silence false) false t) rest (Byte byte) (missed_late t 0 elapsed Silence false is) told in
      absurd (cc)

pub one_frame : (edges : List (Bool × ℕ)) (rest byte : ℕ) → time_of edges + rest < 2 ^ 32
    → told_after (window_after_all window_at_first edges) rest ≡ Some (Byte byte) → IsOneAnswer edges rest byte
one_frame edges rest byte small told = is (one_from edges 0 rest byte (omega arith) (omega arith) told) where
  is : OneFrom 0 edges rest byte → IsOneAnswer edges rest byte
  is one = record {
    echoes = one.echoes;
    before = one.before;
    high = one.high;
    first = one.first;
    times = one.times;
    after = one.after;
    edges_are = one.edges_are;
    early = omega (arith, one.early);
    start = one.start;
    bits = one.bits;
    pulses = one.pulses;
    least = omega (arith, one.least);
    most = omega (arith, one.most);
    stop = one.stop;
  }
