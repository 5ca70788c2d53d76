use Rattle.std.proofs.Common.{◌≡◌, ℕ, ◌+◌, ◌*◌, ◌<◌, ◌≤◌, Bool, true, false, List, [], ◌∷◌, refl, sym, subst, arith, nat_lt, nat_le, if◌then◌else◌}
use Rattle.std.proofs.lemmas.Bool.Decides.{nat_tests}
use Rattle.dali_frame.specs.declared.frames.Forward.{Forward as Sent}
use Rattle.dali_wire.specs.{Grid.value_of, Levels.bits_of, Reception.span_of, Reception.with_bit, Reception.read_edge, Reception.frame_of}
use Rattle.dali_wire.specs.Times.{IsHalf, IsWhole, AreTimes, HasRead}
use Rattle.dali_wire.specs.declared.receiver.{Frame.Frame, Frame.TheVariants.Forward, Frame.TheVariants.Backward, Reading.Reading}
use Rattle.dali_wire.specs.declared.receiver.Reading.TheVariants.{Idle, First, Between, Middle, Spoilt}
use Rattle.dali_wire.specs.declared.receiver.Span.{Span, TheVariants.Half, TheVariants.Whole}
use Rattle.dali_wire.proofs.ReadBack.{quiet, idle_quiet, idle_is, byte_told, frame_told}
use Rattle.dali_wire.proofs.{Spans.half_is, Spans.soon, Values.value_grows, Values.is_above}

-- EVERY FRAME IS READ BACK, whatever each of its times is within the tolerance.

whole_time : (s : ℕ) → IsWhole s → span_of s ≡ Whole
whole_time s h = let lo : 667 ≤ s = h.0 in let hi : s ≤ 1000 = h.1 in grind (arith, nat_tests)

half_time : (s : ℕ) → IsHalf s → span_of s ≡ Half
half_time s h = half_is s h.0 h.1

-- a time in which no stop condition is over
stays : (r : Reading) (s : ℕ) → s < 2400 → r ≡ (if nat_lt s 2400 then r else Idle)
stays r s h = subst (λ (b : Bool). r ≡ (if b then r else Idle)) (sym (soon s h)) refl

room : (v : ℕ) (bits : List Bool) (k : ℕ) → 2 * v ≤ k → value_of k bits < 0x2000000 → nat_le 0x1000000 v ≡ false
room v bits k more small = let grows : k ≤ value_of k bits = value_grows k bits in is_above 0x1000000 v (omega arith)

-- an edge to the high, and to the low
rises : (r : Reading) (k : Span) (s : ℕ) (times : List ℕ) (f : Frame) → span_of s ≡ k → HasRead (read_edge r false k) false times f
    → HasRead r true (s ∷ times) f
rises r k s times f is h = (refl, subst (λ (x : Span). HasRead (read_edge r false x) false times f) (sym is) h)

falls : (r : Reading) (k : Span) (s : ℕ) (times : List ℕ) (f : Frame) → s < 2400 → span_of s ≡ k → HasRead (read_edge r true k) true times f
    → HasRead r false (s ∷ times) f
falls r k s times f early is h = (
  quiet r s early,
  subst (λ (q : Reading). HasRead (read_edge q true (span_of s)) true times f) (stays r s early)
      (subst (λ (x : Span). HasRead (read_edge r true x) true times f) (sym is) h),
)

one_bit : (v : ℕ) (times : List ℕ) (f : Frame) → nat_le 0x1000000 v ≡ false → HasRead (Middle (2 * v + 1)) false times f
    → HasRead (with_bit v false) false times f
one_bit v times f small h = subst (λ (b : Bool). HasRead (if b then Spoilt else Middle (2 * v + 1)) false times f) (sym small) h

zero_bit : (v : ℕ) (times : List ℕ) (f : Frame) → nat_le 0x1000000 v ≡ false → HasRead (Middle (2 * v)) true times f
    → HasRead (with_bit v true) true times f
zero_bit v times f small h = subst (λ (b : Bool). HasRead (if b then Spoilt else Middle (2 * v)) true times f) (sym small) h

reads : (bits : List Bool) (v : ℕ) (l : Bool) (times : List ℕ) → value_of v bits < 0x2000000 → AreTimes l bits times
    → HasRead (Middle v) l times (frame_of (value_of v bits))
reads [] v true [] small h = absurd h
reads [] v true (rise ∷ []) small h = rises (Middle v) Half rise [] (frame_of v) (half_time rise h) (refl, refl)
reads [] v true (rise ∷ x ∷ times) small h = absurd h
reads [] v false [] small h = (refl, refl)
reads [] v false (x ∷ times) small h = absurd h
reads (true ∷ bits) v true [] small h = absurd h
reads (true ∷ bits) v true (rise ∷ times) small h =
    let fits : nat_le 0x1000000 v ≡ false = room v bits (2 * v + 1) (omega arith) small in
    let f : Frame = frame_of (value_of (2 * v + 1) bits) in
    rises (Middle v) Whole rise times f (whole_time rise h.0)
    (one_bit v times f fits (reads bits (2 * v + 1) false times small h.1))
reads (false ∷ bits) v false [] small h = absurd h
reads (false ∷ bits) v false (fall ∷ times) small h =
    let fits : nat_le 0x1000000 v ≡ false = room v bits (2 * v) (omega arith) small in
    let f : Frame = frame_of (value_of (2 * v) bits) in
    let most : fall ≤ 1000 = h.0.1 in
    falls (Middle v) Whole fall times f (omega arith) (whole_time fall h.0)
    (zero_bit v times f fits (reads bits (2 * v) true times small h.1))
reads (true ∷ bits) v false [] small h = absurd h
reads (true ∷ bits) v false (fall ∷ []) small h = absurd h
reads (true ∷ bits) v false (fall ∷ rise ∷ times) small h =
    let fits : nat_le 0x1000000 v ≡ false = room v bits (2 * v + 1) (omega arith) small in
    let f : Frame = frame_of (value_of (2 * v + 1) bits) in
    let most : fall ≤ 500 = h.0.1 in
    falls (Middle v) Half fall (rise ∷ times) f (omega arith) (half_time fall h.0)
    (rises (Between v) Half rise times f (half_time rise h.1)
    (one_bit v times f fits (reads bits (2 * v + 1) false times small h.2)))
reads (false ∷ bits) v true [] small h = absurd h
reads (false ∷ bits) v true (rise ∷ []) small h = absurd h
reads (false ∷ bits) v true (rise ∷ fall ∷ times) small h =
    let fits : nat_le 0x1000000 v ≡ false = room v bits (2 * v) (omega arith) small in
    let f : Frame = frame_of (value_of (2 * v) bits) in
    let most : fall ≤ 500 = h.1.1 in
    rises (Middle v) Half rise (fall ∷ times) f (half_time rise h.0)
    (falls (Between v) Half fall times f (omega arith) (half_time fall h.1)
    (zero_bit v times f fits (reads bits (2 * v) true times small h.2)))

from_start : (bits : List Bool) (since first : ℕ) (times : List ℕ) → value_of 1 bits < 0x2000000 → IsHalf first → AreTimes false bits times
    → HasRead Idle false (since ∷ first ∷ times) (frame_of (value_of 1 bits))
from_start bits since first times small half h = (
  idle_quiet since,
  subst (λ (r : Reading). HasRead (read_edge r true (span_of since)) true (first ∷ times) (frame_of (value_of 1 bits)))
      (idle_is (nat_lt since 2400))
      (rises First Half first times (frame_of (value_of 1 bits)) (half_time first half) (reads bits 1 false times small h)),
)

pub backward_read : (byte since first : ℕ) (times : List ℕ) → byte < 256 → IsHalf first → AreTimes false (bits_of 8 byte) times
    → HasRead Idle false (since ∷ first ∷ times) (Backward byte)
backward_read byte since first times small half h =
    let told = byte_told byte small in
    subst (λ (f : Frame). HasRead Idle false (since ∷ first ∷ times) f) told.1 (from_start (bits_of 8 byte) since first times told.0 half h)

pub forward_read : (f : Sent) (since first : ℕ) (times : List ℕ) → f.address_byte < 256 → f.opcode_byte < 256 → IsHalf first
    → AreTimes false (bits_of 16 (256 * f.address_byte + f.opcode_byte)) times
    → HasRead Idle false (since ∷ first ∷ times) (Forward f)
forward_read f since first times small smaller half h =
    let told = frame_told f small smaller in
    subst (λ (g : Frame). HasRead Idle false (since ∷ first ∷ times) g) told.1
    (from_start (bits_of 16 (256 * f.address_byte + f.opcode_byte)) since first times told.0 half h)
