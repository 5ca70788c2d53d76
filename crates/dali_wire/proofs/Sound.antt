use Rattle.std.proofs.Common.{◌≡◌, ℕ, zero, suc, ◌+◌, ◌*◌, ◌<◌, ◌≤◌, Bool, true, false, List, [], ◌∷◌, Some, None, ◌⊎◌, inl, inr, refl, sym, ap, subst, arith}
use Rattle.std.proofs.Common.{nat_lt, nat_le, if◌then◌else◌}
use Rattle.std.specs.List.{AllByRecursion}
use Rattle.dali_wire.specs.{Grid.Tells, Grid.IsWritten, Grid.IsHeard, Grid.IsPassedOver, Levels.highs}
use Rattle.dali_wire.specs.Reception.{span_of, with_bit, read_edge, frame_of, frame_read, ended, reading_at}
use Rattle.dali_wire.specs.declared.receiver.{Frame.Frame, Frame.TheVariants.Damaged, Reading.Reading, Reading.TheVariants.Idle, Reading.TheVariants.First}
use Rattle.dali_wire.specs.declared.receiver.{Reading.TheVariants.Between, Reading.TheVariants.Middle, Reading.TheVariants.Spoilt, Span.Span}
use Rattle.dali_wire.proofs.Spans.{half_is, whole_is, short_is, soon, IsLong, long_between, long_middle, long_first}

-- WHAT IS TOLD WAS ON THE BUS: a frame that is not damaged is told of the levels of its bits and of a stop condition.

-- if nothing is told yet, the frame that is being read stays
quiet_stays : (r : Reading) (g : Frame) (s : ℕ) → frame_read r ≡ Some g → ended r false s ≡ None → reading_at r false s ≡ r
quiet_stays r g s is quiet = go (nat_lt s 2400) quiet where
  go : (b : Bool) → (if b then None else frame_read r) ≡ None → (if b then r else Idle) ≡ r
  go true q = refl
  go false q = absurd (cc)

ended_is : (r : Reading) (f g : Frame) (s : ℕ) → frame_read r ≡ Some g → ended r false s ≡ Some f → f ≡ g
ended_is r f g s is told = go (nat_lt s 2400) told where
  go : (b : Bool) → (if b then None else frame_read r) ≡ Some f → f ≡ g
  go true q = absurd (cc)
  go false q = cc

too_soon : (r : Reading) (f : Frame) (s : ℕ) → s < 2400 → ended r false s ≡ Some f → ⊥
too_soon r f s h told =
    let none : None ≡ Some f = subst (λ (b : Bool). (if b then None else frame_read r) ≡ Some f) (soon s h) told in
    cc

spoilt_tells : (t : ℕ) (low : Bool) (s : ℕ) (levels : List Bool) (f : Frame) → Tells t Spoilt low s levels f → f ≡ Damaged
spoilt_tells t true s [] f h = absurd (cc)
spoilt_tells t false s [] f h = ended_is Spoilt f Damaged s refl h
spoilt_tells t true s (true ∷ levels) f h = spoilt_tells t true (s + t) levels f h.1
spoilt_tells t true s (false ∷ levels) f h = spoilt_tells t false t levels f h.1
spoilt_tells t false s (false ∷ levels) f h = spoilt_tells t false (s + t) levels f h.1
spoilt_tells t false s (true ∷ levels) f h =
    spoilt_tells t true t levels f
    (subst (λ (r : Reading). Tells t (read_edge r true (span_of s)) true t levels f) (quiet_stays Spoilt Damaged s refl h.0) h.1)

-- a low that lasts too long
long_low : (t : ℕ) (r : Reading) (s : ℕ) (levels : List Bool) (f : Frame) → IsLong r s → Tells t r true s levels f → f ≡ Damaged
long_low t r s [] f long h = absurd (cc)
long_low t r s (true ∷ levels) f long h = long_low t r (s + t) levels f (λ s' low more. long s' low (omega arith)) h.1
long_low t r s (false ∷ levels) f long h =
    spoilt_tells t false t levels f
    (subst (λ (q : Reading). Tells t q false t levels f) (long s false (omega arith)) h.1)

-- a high that lasts longer than two half bits: a stop condition, or a fault
long_high : (t : ℕ) (r : Reading) (g : Frame) (s : ℕ) (levels : List Bool) (f : Frame) → frame_read r ≡ Some g → IsLong r s
    → Tells t r false s levels f → (f ≡ Damaged) ⊎ ((m : ℕ) × ((levels ≡ highs m) × (f ≡ g)))
long_high t r g s [] f is long h = inr (zero, (refl, ended_is r f g s is h))
long_high t r g s (false ∷ levels) f is long h =
    elim (long_high t r g (s + t) levels f is (λ s' low more. long s' low (omega arith)) h.1) [
      | inl d ↦ inl d
      | inr w ↦ inr (suc w.0, (ap (λ ls. false ∷ ls) w.1.0, w.1.1))
    ]
long_high t r g s (true ∷ levels) f is long h =
    let stays : reading_at r false s ≡ r = quiet_stays r g s is h.0 in
    let spoilt : Tells t Spoilt true t levels f =
    subst (λ (q : Reading). Tells t q true t levels f) (long s true (omega arith))
    (subst (λ (q : Reading). Tells t (read_edge q true (span_of s)) true t levels f) stays h.1) in
    inl (spoilt_tells t true t levels f spoilt)

stopped : (t : ℕ) (r : Reading) (v s : ℕ) (levels : List Bool) (f : Frame) → frame_read r ≡ Some (frame_of v) → IsLong r s → s < 2400
    → Tells t r false s levels f → (f ≡ Damaged) ⊎ IsWritten v (false ∷ false ∷ levels) f
stopped t r v s [] f is long early h = absurd (too_soon r f s early h)
stopped t r v s (x ∷ levels) f is long early h =
    elim (long_high t r (frame_of v) s (x ∷ levels) f is long h) [ inl d ↦ inl d | inr w ↦ inr (whole w.0 w.1.0 w.1.1) ]
  where
    whole : (m : ℕ) → x ∷ levels ≡ highs m → f ≡ frame_of v → IsWritten v (false ∷ false ∷ x ∷ levels) f
    whole zero e frame = absurd (cc)
    whole (suc m) e frame = record {
      bits = [];
      rest = suc (suc (suc m));
      levels = ap (λ ls. false ∷ false ∷ ls) e;
      long = omega arith;
      is = frame;
    }

module _ (t : ℕ) (lo : 334 ≤ t) (hi : t ≤ 500) where
  -- the two halves of a bit, from the middle of the bit before
  risen : (v : ℕ) (l : Bool) (levels : List Bool) (f : Frame) → Tells t (Middle v) l t (true ∷ false ∷ levels) f
      → Tells t (with_bit v false) false t levels f
  risen v true levels f h =
      subst (λ (k : Span). Tells t (read_edge (Middle v) false k) false t levels f) (whole_is t lo hi) h.1.1
  risen v false levels f h =
      let soon_is : nat_lt t 2400 ≡ true = soon t (omega arith) in
      let here = subst
      (λ (b : Bool). Tells t (read_edge (read_edge (if b then Middle v else Idle) true (span_of t)) false (span_of t)) false t levels f)
      soon_is h.1.1 in
      subst (λ (k : Span). Tells t (read_edge (read_edge (Middle v) true k) false k) false t levels f) (half_is t lo hi) here

  fallen : (v : ℕ) (l : Bool) (levels : List Bool) (f : Frame) → Tells t (Middle v) l t (false ∷ true ∷ levels) f
      → Tells t (with_bit v true) true t levels f
  fallen v false levels f h =
      let soon_is : nat_lt (t + t) 2400 ≡ true = soon (t + t) (omega arith) in
      let here = subst
      (λ (b : Bool). Tells t (read_edge (if b then Middle v else Idle) true (span_of (t + t))) true t levels f)
      soon_is h.1.1 in
      subst (λ (k : Span). Tells t (read_edge (Middle v) true k) true t levels f) (whole_is t lo hi) here
  fallen v true levels f h =
      let soon_is : nat_lt t 2400 ≡ true = soon t (omega arith) in
      let here = subst
      (λ (b : Bool). Tells t (read_edge (if b then (read_edge (Middle v) false (span_of t)) else Idle) true (span_of t)) true t levels f)
      soon_is h.1.1 in
      subst (λ (k : Span). Tells t (read_edge (read_edge (Middle v) false k) true k) true t levels f) (half_is t lo hi) here

  low_low : (v : ℕ) (l : Bool) (levels : List Bool) (f : Frame) → Tells t (Middle v) l t (true ∷ true ∷ levels) f → f ≡ Damaged
  low_low v true levels f h = long_low t (Middle v) (t + t + t) levels f (long_middle v (t + t + t) (omega arith)) h.1.1
  low_low v false levels f h =
      let soon_is : nat_lt t 2400 ≡ true = soon t (omega arith) in
      let here = subst
      (λ (b : Bool). Tells t (read_edge (if b then Middle v else Idle) true (span_of t)) true (t + t) levels f)
      soon_is h.1.1 in
      let between = subst (λ (k : Span). Tells t (read_edge (Middle v) true k) true (t + t) levels f) (half_is t lo hi) here in
      long_low t (Between v) (t + t) levels f (long_between v (t + t) (omega arith)) between

  high_high : (v : ℕ) (l : Bool) (levels : List Bool) (f : Frame) → Tells t (Middle v) l t (false ∷ false ∷ levels) f
      → (f ≡ Damaged) ⊎ IsWritten v (false ∷ false ∷ levels) f
  high_high v false levels f h =
      stopped t (Middle v) v (t + t + t) levels f refl (long_middle v (t + t + t) (omega arith)) (omega arith) h.1.1
  high_high v true levels f h =
      let between = subst (λ (k : Span). Tells t (read_edge (Middle v) false k) false (t + t) levels f) (half_is t lo hi) h.1.1 in
      stopped t (Between v) v (t + t) levels f refl (long_between v (t + t) (omega arith)) (omega arith) between

  -- one bit more
  with_one : (v : ℕ) (levels : List Bool) (f : Frame) → (f ≡ Damaged) ⊎ IsWritten (2 * v + 1) levels f
      → (f ≡ Damaged) ⊎ IsWritten v (true ∷ false ∷ levels) f
  with_one v levels f (inl d) = inl d
  with_one v levels f (inr w) = inr (record {
    bits = true ∷ w.bits;
    rest = w.rest;
    levels = ap (λ ls. true ∷ false ∷ ls) w.levels;
    long = w.long;
    is = w.is;
  })

  with_zero : (v : ℕ) (levels : List Bool) (f : Frame) → (f ≡ Damaged) ⊎ IsWritten (2 * v) levels f
      → (f ≡ Damaged) ⊎ IsWritten v (false ∷ true ∷ levels) f
  with_zero v levels f (inl d) = inl d
  with_zero v levels f (inr w) = inr (record {
    bits = false ∷ w.bits;
    rest = w.rest;
    levels = ap (λ ls. false ∷ true ∷ ls) w.levels;
    long = w.long;
    is = w.is;
  })

  -- from the middle of a bit
  pub from_middle : (v : ℕ) (l : Bool) (levels : List Bool) (f : Frame) → Tells t (Middle v) l t levels f
      → (f ≡ Damaged) ⊎ IsWritten v levels f
  from_middle v true [] f h = absurd (cc)
  from_middle v false [] f h = absurd (too_soon (Middle v) f t (omega arith) h)
  from_middle v true (true ∷ []) f h = let none : None ≡ Some f = h.1 in absurd (cc)
  from_middle v false (true ∷ []) f h = let none : None ≡ Some f = h.1 in absurd (cc)
  from_middle v true (false ∷ []) f h = absurd (too_soon (read_edge (Middle v) false (span_of t)) f t (omega arith) h.1)
  from_middle v false (false ∷ []) f h = absurd (too_soon (Middle v) f (t + t) (omega arith) h.1)
  from_middle v l (true ∷ true ∷ levels) f h = inl (low_low v l levels f h)
  from_middle v l (false ∷ false ∷ levels) f h = high_high v l levels f h
  from_middle v l (true ∷ false ∷ levels) f h = go (nat_le 0x1000000 v) (from_middle (2 * v + 1) false levels f) (risen v l levels f h) where
    go : (b : Bool) → (Tells t (Middle (2 * v + 1)) false t levels f → (f ≡ Damaged) ⊎ IsWritten (2 * v + 1) levels f)
        → Tells t (if b then Spoilt else Middle (2 * v + 1)) false t levels f → (f ≡ Damaged) ⊎ IsWritten v (true ∷ false ∷ levels) f
    go true more next = inl (spoilt_tells t false t levels f next)
    go false more next = with_one v levels f (more next)
  from_middle v l (false ∷ true ∷ levels) f h = go (nat_le 0x1000000 v) (from_middle (2 * v) true levels f) (fallen v l levels f h) where
    go : (b : Bool) → (Tells t (Middle (2 * v)) true t levels f → (f ≡ Damaged) ⊎ IsWritten (2 * v) levels f)
        → Tells t (if b then Spoilt else Middle (2 * v)) true t levels f → (f ≡ Damaged) ⊎ IsWritten v (false ∷ true ∷ levels) f
    go true more next = inl (spoilt_tells t true t levels f next)
    go false more next = with_zero v levels f (more next)

  from_first : (levels : List Bool) (f : Frame) → Tells t First true t levels f
      → (f ≡ Damaged) ⊎ IsWritten 0 (true ∷ levels) f
  from_first [] f h = absurd (cc)
  from_first (true ∷ levels) f h = inl (long_low t First (t + t) levels f (long_first (t + t) (omega arith)) h.1)
  from_first (false ∷ levels) f h =
      let middle = subst (λ (k : Span). Tells t (read_edge First false k) false t levels f) (half_is t lo hi) h.1 in
      with_one 0 levels f (from_middle 1 false levels f middle)

-- from a bus at rest: highs may come first
idle_stays : (b : Bool) → (if b then Idle else Idle) ≡ Idle
idle_stays true = refl
idle_stays false = refl

idle_quiet : (b : Bool) → (if b then None else frame_read Idle) ≡ None
idle_quiet true = refl
idle_quiet false = refl

idle_tells : (b : Bool) (f : Frame) → (if b then None else None) ≡ Some f → ⊥
idle_tells true f e = cc
idle_tells false f e = cc

further : (low : List Bool) (f : Frame) → (f ≡ Damaged) ⊎ IsHeard low f → (f ≡ Damaged) ⊎ IsHeard (false ∷ low) f
further levels f (inl d) = inl d
further levels f (inr w) = inr (record {
  lead = suc w.lead;
  after = w.after;
  levels = ap (λ ls. false ∷ ls) w.levels;
  written = w.written;
})

begun : (levels : List Bool) (f : Frame) → (f ≡ Damaged) ⊎ IsWritten 0 (true ∷ levels) f → (f ≡ Damaged) ⊎ IsHeard (true ∷ levels) f
begun levels f (inl d) = inl d
begun levels f (inr w) = inr (record { lead = zero; after = levels; levels = refl; written = w })

pub from_idle : (t : ℕ) → 334 ≤ t → t ≤ 500 → (s : ℕ) (levels : List Bool) (f : Frame) → Tells t Idle false s levels f
    → (f ≡ Damaged) ⊎ IsHeard levels f
from_idle t lo hi s [] f h = absurd (idle_tells (nat_lt s 2400) f h)
from_idle t lo hi s (false ∷ levels) f h = further levels f (from_idle t lo hi (s + t) levels f h.1)
from_idle t lo hi s (true ∷ levels) f h =
    let first = subst (λ (r : Reading). Tells t (read_edge r true (span_of s)) true t levels f) (idle_stays (nat_lt s 2400)) h.1 in
    begun levels f (from_first t lo hi levels f first)

-- noise is passed over
pub passed_over : (noise : List (ℕ × ℕ)) → AllByRecursion (λ n. n.1 < 334) noise → IsPassedOver Idle noise
passed_over [] h = refl
passed_over (n ∷ noise) h =
    let rests : reading_at Idle false n.0 ≡ Idle = idle_stays (nat_lt n.0 2400) in
    let more : IsPassedOver (read_edge First false (span_of n.1)) noise =
    subst (λ (k : Span). IsPassedOver (read_edge First false k) noise) (sym (short_is n.1 h.0)) (passed_over noise h.1) in (
      idle_quiet (nat_lt n.0 2400),
      refl,
      subst (λ (r : Reading). IsPassedOver (read_edge (read_edge r true (span_of n.0)) false (span_of n.1)) noise) (sym rests) more,
    )
