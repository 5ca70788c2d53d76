use Rattle.std.proofs.Common.{◌≡◌, ℕ, ◌+◌, ◌-◌, ◌*◌, ◌^◌, ◌<◌, ◌≤◌, min, Bool, true, false, Some, List, [], ◌∷◌, length, refl, sym, ap, subst, ◌∙◌, arith}
use Rattle.std.proofs.Common.{nat_lt, nat_le, if◌then◌else◌}
use Rattle.std.{proofs.lemmas.Bool.Decides.nat_tests, specs.List.AllByRecursion}
use Rattle.dali_frame.specs.declared.frames.Answer.TheVariants.{Silence, Byte}
use Rattle.dali_wire.specs.{Edges.window_after_all, Edges.by_turns, Levels.bits_of, Reception.span_of, Reception.span_before, Reception.with_bit}
use Rattle.dali_wire.specs.{Reception.read_edge, Reception.frame_read, Reception.longer, Times.IsHalf, Times.AreTimes, Times.HasRead}
use Rattle.dali_wire.specs.Windows.{is_idle, passed, window_after, window_at_first, told_after}
use Rattle.dali_wire.specs.declared.receiver.{Frame.Frame, Frame.TheVariants.Backward, Reading.Reading}
use Rattle.dali_wire.specs.declared.receiver.Reading.TheVariants.{Idle, First, Between, Middle, Spoilt}
use Rattle.dali_wire.specs.declared.receiver.Span.{Span, TheVariants.Short, TheVariants.Half, TheVariants.Whole, TheVariants.Wrong}
use Rattle.dali_wire.specs.declared.window.Window.{Window}
use Rattle.dali_wire.proofs.{Asking.begun, EachTime.backward_read, Spans.soon, Spans.late, Values.length_bits}

-- AN ANSWER ALONE IS HEARD. While its edges come nothing is told, and the window knows when it began.
abbrev window_through : Window → Bool → List ℕ → Window
window_through w low times = window_after_all w (by_turns low times)

abbrev hearing : Reading → Bool → ℕ → ℕ → Window
hearing r low lasted begin =
    record { receiver = record { reading = r; is_low = low; lasted = lasted }; elapsed = begin + lasted; heard = Silence; has_pulse = false }

bit_goes_on : (v : ℕ) (low : Bool) → is_idle (with_bit v low) ≡ false
bit_goes_on v low = go (nat_le 0x1000000 v) where
  go : (b : Bool) → is_idle (if b then Spoilt else Middle (if low then 2 * v else 2 * v + 1)) ≡ false
  go true = refl
  go false = refl

edge_goes_on : (r : Reading) (low : Bool) (k : Span) → is_idle r ≡ false → (k ≡ Short → ⊥) → is_idle (read_edge r low k) ≡ false
edge_goes_on Idle low k busy long = absurd (cc)
edge_goes_on First low Short busy long = absurd (long refl)
edge_goes_on First low Half busy long = refl
edge_goes_on First low Whole busy long = refl
edge_goes_on First low Wrong busy long = refl
edge_goes_on (Middle v) low Short busy long = refl
edge_goes_on (Middle v) low Half busy long = refl
edge_goes_on (Middle v) low Whole busy long = bit_goes_on v low
edge_goes_on (Middle v) low Wrong busy long = refl
edge_goes_on (Between v) low Short busy long = refl
edge_goes_on (Between v) low Half busy long = bit_goes_on v low
edge_goes_on (Between v) low Whole busy long = refl
edge_goes_on (Between v) low Wrong busy long = refl
edge_goes_on Spoilt low Short busy long = refl
edge_goes_on Spoilt low Half busy long = refl
edge_goes_on Spoilt low Whole busy long = refl
edge_goes_on Spoilt low Wrong busy long = refl

long_enough : (t : ℕ) → 334 ≤ t → span_of t ≡ Short → ⊥
long_enough t least short = grind (arith, nat_tests)

pub longer_is : (r : Reading) (lasted t : ℕ) → is_idle r ≡ false → lasted + t < 2 ^ 32 → longer r lasted t ≡ lasted + t
longer_is Idle lasted t busy small = absurd (cc)
longer_is First lasted t busy small = omega arith
longer_is (Between v) lasted t busy small = omega arith
longer_is (Middle v) lasted t busy small = omega arith
longer_is Spoilt lasted t busy small = omega arith

one_edge : (r : Reading) (was low : Bool) (lasted begin t : ℕ) → is_idle r ≡ false → t ≤ 1000 → begin + lasted + t < 2 ^ 32
    → is_idle (read_edge r low (span_before was low t)) ≡ false
    → window_after (hearing r was lasted begin) low t ≡ hearing (read_edge r low (span_before was low t)) low (lasted + t) begin
one_edge r true low lasted begin t busy few small goes =
    let now : min (begin + lasted + t) (2 ^ 32 - 1) ≡ begin + (lasted + t) = omega arith in
    rw (longer_is r lasted t busy (omega arith), now, goes) refl
one_edge r false low lasted begin t busy few small goes =
    let now : min (begin + lasted + t) (2 ^ 32 - 1) ≡ begin + (lasted + t) = omega arith in
    rw (soon t (omega arith), longer_is r lasted t busy (omega arith), now, goes) refl

abbrev IsInFrame : ℕ → Type 0
IsInFrame t = (334 ≤ t) × (t ≤ 1000)

record Ends (w : Window) (begin most : ℕ) (f : Frame) : Type 0 where
  reading : Reading
  lasted : ℕ
  is : w ≡ hearing reading false lasted begin
  read : frame_read reading ≡ Some f
  few : lasted ≤ most

through : (times : List ℕ) (r : Reading) (lasted begin : ℕ) (f : Frame) → is_idle r ≡ false → AllByRecursion IsInFrame times
    → begin + lasted + 1000 * length times < 2 ^ 32
    → (HasRead r true times f → Ends (window_through (hearing r true lasted begin) false times) begin (lasted + 1000 * length times) f)
    × (HasRead r false times f → Ends (window_through (hearing r false lasted begin) true times) begin (lasted + 1000 * length times) f)
through [] r lasted begin f busy all small = (
  (λ h. absurd (cc)),
  (λ h. record { reading = r; lasted = lasted; is = refl; read = h.0; few = omega arith }),
)
through (t ∷ times) r lasted begin f busy all small = (
  (λ h.
      let next = edge_goes_on r false (span_of t) busy (long_enough t all.0.0) in
      let rest = through times (read_edge r false (span_of t)) (lasted + t) begin f next all.1 (omega (arith, all.0.1)) in
      let ends = rest.1 h.1 in
      let one = one_edge r true false lasted begin t busy all.0.1 (omega (arith, all.0.1)) next in
      record {
        reading = ends.reading;
        lasted = ends.lasted;
        is = ap (λ w. window_through w true times) one ∙ ends.is;
        read = ends.read;
        few = omega (arith, ends.few, all.0.1);
      }),
  (λ h.
      let next = edge_goes_on r true (span_of t) busy (long_enough t all.0.0) in
      let rest = through times (read_edge r true (span_of t)) (lasted + t) begin f next all.1 (omega (arith, all.0.1)) in
      let early : nat_lt t 2400 ≡ true = soon t (omega (arith, all.0.1)) in
      let read : HasRead (read_edge r true (span_of t)) true times f = rw early at h.1 in
      let ends = rest.0 read in
      let one = one_edge r false true lasted begin t busy all.0.1 (omega (arith, all.0.1)) next in
      record {
        reading = ends.reading;
        lasted = ends.lasted;
        is = ap (λ w. window_through w false times) one ∙ ends.is;
        read = ends.read;
        few = omega (arith, ends.few, all.0.1);
      }),
)

-- the times of a frame are few, and each within it
few_times : (bits : List Bool) (low : Bool) (times : List ℕ) → AreTimes low bits times
    → (length times ≤ 2 * length bits + 1) × AllByRecursion IsInFrame times
few_times [] true [] h = absurd h
few_times [] true (rise ∷ []) h = (omega arith, ((h.0, omega (arith, h.1)), tt))
few_times [] true (rise ∷ x ∷ times) h = absurd h
few_times [] false [] h = (omega arith, tt)
few_times [] false (x ∷ times) h = absurd h
few_times (true ∷ bits) true [] h = absurd h
few_times (true ∷ bits) true (rise ∷ times) h =
    let more = few_times bits false times h.1 in
    (omega (arith, more.0), ((omega (arith, h.0.0), h.0.1), more.1))
few_times (false ∷ bits) false [] h = absurd h
few_times (false ∷ bits) false (fall ∷ times) h =
    let more = few_times bits true times h.1 in
    (omega (arith, more.0), ((omega (arith, h.0.0), h.0.1), more.1))
few_times (true ∷ bits) false [] h = absurd h
few_times (true ∷ bits) false (fall ∷ []) h = absurd h
few_times (true ∷ bits) false (fall ∷ rise ∷ times) h =
    let more = few_times bits false times h.2 in
    (omega (arith, more.0), ((h.0.0, omega (arith, h.0.1)), ((h.1.0, omega (arith, h.1.1)), more.1)))
few_times (false ∷ bits) true [] h = absurd h
few_times (false ∷ bits) true (rise ∷ []) h = absurd h
few_times (false ∷ bits) true (rise ∷ fall ∷ times) h =
    let more = few_times bits true times h.2 in
    (omega (arith, more.0), ((h.0.0, omega (arith, h.0.1)), ((h.1.0, omega (arith, h.1.1)), more.1)))

told_last : (r : Reading) (lasted begin rest byte : ℕ) → frame_read r ≡ Some (Backward byte) → 2400 ≤ begin → begin ≤ 12400 → 2400 ≤ rest
    → begin + lasted + rest < 2 ^ 32 → 12400 < passed (hearing r false lasted begin) rest
    → told_after (hearing r false lasted begin) rest ≡ Some (Byte byte)
told_last r lasted begin rest byte read least most stop small over =
    let back : min (begin + lasted + rest) (2 ^ 32 - 1) - rest - lasted ≡ begin = begun (begin + lasted) rest lasted small ∙ omega arith in
    let past : nat_lt 12400 (min (begin + lasted + rest) (2 ^ 32 - 1)) ≡ true = grind (arith, nat_tests) in
    let low : nat_le 2400 begin ≡ true = grind (arith, nat_tests) in
    let high : nat_le begin 12400 ≡ true = grind (arith, nat_tests) in
    rw (late rest stop, read, past, back, low, high) refl

told_of_it : (w : Window) (r : Reading) (lasted begin rest byte : ℕ) → w ≡ hearing r false lasted begin → frame_read r ≡ Some (Backward byte) → 2400 ≤ begin
    → begin ≤ 12400 → 2400 ≤ rest → begin + lasted + rest < 2 ^ 32 → 12400 < passed w rest → told_after w rest ≡ Some (Byte byte)
told_of_it w r lasted begin rest byte is read least most stop small over =
    subst (λ x. told_after x rest ≡ Some (Byte byte)) (sym is)
    (told_last r lasted begin rest byte read least most stop small (subst (λ x. 12400 < passed x rest) is over))

pub answer_heard : (begin first rest byte : ℕ) (times : List ℕ) → byte < 256 → 2400 ≤ begin → begin ≤ 12400 → IsHalf first
    → AreTimes false (bits_of 8 byte) times → 2400 ≤ rest → rest < 2 ^ 31
    → 12400 < passed (window_through window_at_first true (begin ∷ first ∷ times)) rest
    → told_after (window_through window_at_first true (begin ∷ first ∷ times)) rest ≡ Some (Byte byte)
answer_heard begin first rest byte times fits least most half are stop soon_asked over =
    let many = few_times (bits_of 8 byte) false times are in
    let bits : length (bits_of 8 byte) ≡ 8 = length_bits 8 byte in
    let few : length times ≤ 17 = omega (arith, many.0, bits) in
    let old : nat_lt begin 2400 ≡ false = late begin least in
    let now : min (0 + begin) (2 ^ 32 - 1) ≡ begin + 0 = omega arith in
    let begins : window_after window_at_first true begin ≡ hearing First true 0 begin = rw (old, now) refl in
    let read : HasRead First true (first ∷ times) (Backward byte) = rw old at ((backward_read byte begin first times fits half are).1) in
    let all : AllByRecursion IsInFrame (first ∷ times) = ((half.0, omega (arith, half.1)), many.1) in
    let ends = (through (first ∷ times) First 0 begin (Backward byte) refl all (omega (arith, few))).0 read in
    let is : window_through window_at_first true (begin ∷ first ∷ times) ≡ hearing ends.reading false ends.lasted begin =
    ◌∙◌ {c = hearing ends.reading false ends.lasted begin} (ap (λ w. window_through w false (first ∷ times)) begins) ends.is in
    told_of_it (window_through window_at_first true (begin ∷ first ∷ times)) ends.reading ends.lasted begin rest byte is ends.read least most stop
    (omega (arith, few, ends.few)) over
