use Rattle.std.proofs.Common.{◌≡◌, ℕ, zero, suc, ◌+◌, ◌*◌, ◌/◌, ◌%◌, ◌<◌, ◌≤◌, Bool, true, false, List, [], ◌∷◌, ◌++◌, Some, None, refl, sym, subst, arith}
use Rattle.std.proofs.Common.{nat_lt, nat_le, if◌then◌else◌}
use Rattle.std.proofs.lemmas.Bool.Decides.{nat_tests}
use Rattle.dali_frame.specs.declared.frames.Forward.{Forward as Sent}
use Rattle.dali_wire.specs.{Grid.Tells, Grid.value_of, Levels.bits_of, Levels.levels_of, Levels.highs, Levels.forward_bits, Levels.backward_bits}
use Rattle.dali_wire.specs.Reception.{span_of, with_bit, read_edge, frame_of, frame_read, ended}
use Rattle.dali_wire.specs.declared.receiver.{Frame.Frame, Frame.TheVariants.Forward, Frame.TheVariants.Backward, Reading.Reading}
use Rattle.dali_wire.specs.declared.receiver.Reading.TheVariants.{Idle, First, Between, Middle, Spoilt}
use Rattle.dali_wire.{specs.declared.receiver.Span.Span, proofs.Spans.half_is, proofs.Spans.whole_is, proofs.Spans.soon, proofs.Spans.late}
use Rattle.dali_wire.proofs.Values.{value_grows, value_back, start_first, is_above, is_below}

-- EVERY FRAME IS READ BACK from its levels.

pub quiet : (r : Reading) (s : ℕ) → s < 2400 → ended r false s ≡ None
quiet r s h = subst (λ (b : Bool). (if b then None else frame_read r) ≡ None) (sym (soon s h)) refl

pub idle_quiet : (s : ℕ) → ended Idle false s ≡ None
idle_quiet s = go (nat_lt s 2400) where
  go : (b : Bool) → (if b then None else frame_read Idle) ≡ None
  go true = refl
  go false = refl

pub idle_is : (b : Bool) → Idle ≡ (if b then Idle else Idle)
idle_is true = refl
idle_is false = refl

-- which frame the bits of a byte are, and those of a forward frame
pub byte_told : (byte : ℕ) → byte < 256 → (value_of 1 (bits_of 8 byte) < 0x2000000) × (frame_of (value_of 1 (bits_of 8 byte)) ≡ Backward byte)
byte_told byte small =
    let value : value_of 1 (bits_of 8 byte) ≡ 1 * 256 + byte = value_back 8 1 byte small in
    let frame : frame_of (1 * 256 + byte) ≡ Backward byte = grind (arith, nat_tests) in
    (omega (arith, value), rw value frame)

pub frame_told : (f : Sent) → f.address_byte < 256 → f.opcode_byte < 256
    → (value_of 1 (bits_of 16 (256 * f.address_byte + f.opcode_byte)) < 0x2000000)
    × (frame_of (value_of 1 (bits_of 16 (256 * f.address_byte + f.opcode_byte))) ≡ Forward f)
frame_told f small smaller =
    let w : ℕ = 256 * f.address_byte + f.opcode_byte in
    let value : value_of 1 (bits_of 16 w) ≡ 1 * 65536 + w = value_back 16 1 w (omega arith) in
    let high : (1 * 65536 + w) / 256 % 256 ≡ f.address_byte = omega arith in
    let low : (1 * 65536 + w) % 256 ≡ f.opcode_byte = omega arith in
    let least : nat_le 0x10000 (1 * 65536 + w) ≡ true = is_below 0x10000 (1 * 65536 + w) (omega arith) in
    let frame : frame_of (1 * 65536 + w) ≡ Forward f = grind (arith, nat_tests) in
    (omega (arith, value), rw value frame)

-- a stop condition
rests : (t : ℕ) (r : Reading) (f : Frame) → frame_read r ≡ Some f → (m s : ℕ) → 2400 ≤ s + m * t → Tells t r false s (highs m) f
rests t r f is zero s h =
    let over : 2400 ≤ s = omega arith in
    subst (λ (b : Bool). (if b then None else frame_read r) ≡ Some f) (sym (late s over)) is
rests t r f is (suc m) s h = let more : 2400 ≤ (s + t) + m * t = grind arith in (refl, rests t r f is m (s + t) more)

module _ (t : ℕ) (lo : 334 ≤ t) (hi : t ≤ 500) where
  rises : (v : ℕ) (l : Bool) (levels : List Bool) (f : Frame) → Tells t (with_bit v false) false t levels f
      → Tells t (Middle v) l t (true ∷ false ∷ levels) f
  rises v true levels f h =
      (refl, (refl, subst (λ (k : Span). Tells t (read_edge (Middle v) false k) false t levels f) (sym (whole_is t lo hi)) h))
  rises v false levels f h =
      let soon_is : nat_lt t 2400 ≡ true = soon t (omega arith) in
      let here = subst (λ (k : Span). Tells t (read_edge (read_edge (Middle v) true k) false k) false t levels f) (sym (half_is t lo hi)) h in
      let there = subst
      (λ (b : Bool). Tells t (read_edge (read_edge (if b then Middle v else Idle) true (span_of t)) false (span_of t)) false t levels f)
      (sym soon_is) here in
      (quiet (Middle v) t (omega arith), (refl, there))

  falls : (v : ℕ) (l : Bool) (levels : List Bool) (f : Frame) → Tells t (with_bit v true) true t levels f
      → Tells t (Middle v) l t (false ∷ true ∷ levels) f
  falls v false levels f h =
      let soon_is : nat_lt (t + t) 2400 ≡ true = soon (t + t) (omega arith) in
      let here = subst (λ (k : Span). Tells t (read_edge (Middle v) true k) true t levels f) (sym (whole_is t lo hi)) h in
      let there = subst (λ (b : Bool). Tells t (read_edge (if b then Middle v else Idle) true (span_of (t + t))) true t levels f) (sym soon_is) here in
      (refl, (quiet (Middle v) (t + t) (omega arith), there))
  falls v true levels f h =
      let soon_is : nat_lt t 2400 ≡ true = soon t (omega arith) in
      let here = subst (λ (k : Span). Tells t (read_edge (read_edge (Middle v) false k) true k) true t levels f) (sym (half_is t lo hi)) h in
      let there = subst
      (λ (b : Bool). Tells t (read_edge (if b then (read_edge (Middle v) false (span_of t)) else Idle) true (span_of t)) true t levels f)
      (sym soon_is) here in
      (refl, (quiet (read_edge (Middle v) false (span_of t)) t (omega arith), there))

  reads : (bits : List Bool) (v : ℕ) (l : Bool) (m : ℕ) → value_of v bits < 0x2000000 → 2400 ≤ m * t
      → Tells t (Middle v) l t (levels_of bits ++ highs m) (frame_of (value_of v bits))
  reads [] v false m small h = rests t (Middle v) (frame_of v) refl m t (omega arith)
  reads [] v true zero small h = absurd (omega arith)
  reads [] v true (suc m) small h =
      let over : 2400 ≤ t + m * t = grind arith in (
        refl,
        subst (λ (k : Span). Tells t (read_edge (Middle v) false k) false t (highs m) (frame_of v)) (sym (half_is t lo hi))
            (rests t (Between v) (frame_of v) refl m t over),
      )
  reads (true ∷ bits) v l m small h =
      let grows : 2 * v + 1 ≤ value_of (2 * v + 1) bits = value_grows (2 * v + 1) bits in
      let room : nat_le 0x1000000 v ≡ false = is_above 0x1000000 v (omega arith) in
      rises v l (levels_of bits ++ highs m) (frame_of (value_of v (true ∷ bits)))
      (subst
      (λ (b : Bool). Tells t (if b then Spoilt else Middle (2 * v + 1)) false t (levels_of bits ++ highs m) (frame_of (value_of (2 * v + 1) bits)))
      (sym room) (reads bits (2 * v + 1) false m small h))
  reads (false ∷ bits) v l m small h =
      let grows : 2 * v ≤ value_of (2 * v) bits = value_grows (2 * v) bits in
      let room : nat_le 0x1000000 v ≡ false = is_above 0x1000000 v (omega arith) in
      falls v l (levels_of bits ++ highs m) (frame_of (value_of v (false ∷ bits)))
      (subst
      (λ (b : Bool). Tells t (if b then Spoilt else Middle (2 * v)) true t (levels_of bits ++ highs m) (frame_of (value_of (2 * v) bits)))
      (sym room) (reads bits (2 * v) true m small h))

  from_start : (bits : List Bool) (s m : ℕ) → value_of 1 bits < 0x2000000 → 2400 ≤ m * t
      → Tells t Idle false s (levels_of (true ∷ bits) ++ highs m) (frame_of (value_of 1 bits))
  from_start bits s m small h =
      let middle = subst (λ (k : Span). Tells t (read_edge First false k) false t (levels_of bits ++ highs m) (frame_of (value_of 1 bits)))
      (sym (half_is t lo hi)) (reads bits 1 false m small h) in
      let first = subst
      (λ (r : Reading). Tells t (read_edge r true (span_of s)) true t (false ∷ (levels_of bits ++ highs m)) (frame_of (value_of 1 bits)))
      (idle_is (nat_lt s 2400)) (refl, middle) in
      (idle_quiet s, first)

  pub backward_back : (byte s m : ℕ) → byte < 256 → 2400 ≤ m * t
      → Tells t Idle false s (levels_of (backward_bits byte) ++ highs m) (Backward byte)
  backward_back byte s m small h =
      let bits : backward_bits byte ≡ true ∷ bits_of 8 byte = start_first 8 byte in
      let told = byte_told byte small in
      subst (λ (ls : List Bool). Tells t Idle false s (levels_of ls ++ highs m) (Backward byte)) (sym bits)
      (subst (λ (f : Frame). Tells t Idle false s (levels_of (true ∷ bits_of 8 byte) ++ highs m) f) told.1
      (from_start (bits_of 8 byte) s m told.0 h))

  pub forward_back : (f : Sent) (s m : ℕ) → f.address_byte < 256 → f.opcode_byte < 256 → 2400 ≤ m * t
      → Tells t Idle false s (levels_of (forward_bits f) ++ highs m) (Forward f)
  forward_back f s m small smaller h =
      let w : ℕ = 256 * f.address_byte + f.opcode_byte in
      let same : 0x10000 + 256 * f.address_byte + f.opcode_byte ≡ 0x10000 + w = omega arith in
      let bits : forward_bits f ≡ true ∷ bits_of 16 w = rw same (start_first 16 w) in
      let told = frame_told f small smaller in
      subst (λ (ls : List Bool). Tells t Idle false s (levels_of ls ++ highs m) (Forward f)) (sym bits)
      (subst (λ (g : Frame). Tells t Idle false s (levels_of (true ∷ bits_of 16 w) ++ highs m) g) told.1
      (from_start (bits_of 16 w) s m told.0 h))
