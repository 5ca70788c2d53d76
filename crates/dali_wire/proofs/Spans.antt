use Rattle.std.proofs.Common.{◌≡◌, ℕ, ◌+◌, ◌<◌, ◌≤◌, Bool, true, false, refl, arith, nat_lt}
use Rattle.std.proofs.lemmas.Bool.Decides.{nat_tests}
use Rattle.dali_wire.specs.{Reception.span_of, Reception.read_edge, declared.receiver.Reading.Reading}
use Rattle.dali_wire.specs.declared.receiver.Reading.TheVariants.{First, Between, Middle, Spoilt}
use Rattle.dali_wire.specs.declared.receiver.Span.{Span, TheVariants.Short, TheVariants.Half, TheVariants.Whole, TheVariants.Wrong}

-- THE TIMES OF ONE, TWO AND MORE HALF BITS.
pub half_is : (t : ℕ) → 334 ≤ t → t ≤ 500 → span_of t ≡ Half
half_is t lo hi = grind (arith, nat_tests)

pub whole_is : (t : ℕ) → 334 ≤ t → t ≤ 500 → span_of (t + t) ≡ Whole
whole_is t lo hi = grind (arith, nat_tests)

pub short_is : (s : ℕ) → s < 334 → span_of s ≡ Short
short_is s h = grind (arith, nat_tests)

pub soon : (s : ℕ) → s < 2400 → nat_lt s 2400 ≡ true
soon s h = grind (arith, nat_tests)

pub late : (s : ℕ) → 2400 ≤ s → nat_lt s 2400 ≡ false
late s h = grind (arith, nat_tests)

pub lately : (s : ℕ) → nat_lt s 2400 ≡ false → 2400 ≤ s
lately s h = grind (arith, nat_tests)

short_time : (s : ℕ) → span_of s ≡ Short → s < 334
short_time s h = grind (arith, nat_tests)

half_time : (s : ℕ) → span_of s ≡ Half → s ≤ 500
half_time s h = grind (arith, nat_tests)

whole_time : (s : ℕ) → span_of s ≡ Whole → s ≤ 1000
whole_time s h = grind (arith, nat_tests)

-- a level that lasts longer than it may
abbrev pub IsLong : Reading → ℕ → Type 0
IsLong reading since = (s : ℕ) (low : Bool) → since ≤ s → read_edge reading low (span_of s) ≡ Spoilt

pub long_between : (v since : ℕ) → 500 < since → IsLong (Between v) since
long_between v since h s low more = go (span_of s) refl where
  go : (k : Span) → span_of s ≡ k → read_edge (Between v) low k ≡ Spoilt
  go Short e = refl
  go Half e = let most : s ≤ 500 = half_time s e in absurd (omega arith)
  go Whole e = refl
  go Wrong e = refl

pub long_middle : (v since : ℕ) → 1000 < since → IsLong (Middle v) since
long_middle v since h s low more = go (span_of s) refl where
  go : (k : Span) → span_of s ≡ k → read_edge (Middle v) low k ≡ Spoilt
  go Short e = refl
  go Half e = let most : s ≤ 500 = half_time s e in absurd (omega arith)
  go Whole e = let most : s ≤ 1000 = whole_time s e in absurd (omega arith)
  go Wrong e = refl

pub long_first : (since : ℕ) → 500 < since → IsLong First since
long_first since h s low more = go (span_of s) refl where
  go : (k : Span) → span_of s ≡ k → read_edge First low k ≡ Spoilt
  go Short e = let most : s < 334 = short_time s e in absurd (omega arith)
  go Half e = let most : s ≤ 500 = half_time s e in absurd (omega arith)
  go Whole e = refl
  go Wrong e = refl
