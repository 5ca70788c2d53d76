use Rattle.std.proofs.Common.{ℕ, ◌+◌, ◌*◌, ◌<◌, ◌≤◌, [], ◌∷◌, refl, arith}
use Rattle.dali_wire.specs.Times.{IsHalf, IsWhole}
use Rattle.dali_bus_laws.specs.Table.{table}
use Rattle.dali_bus_laws.specs.Bus.{Edges, IsSeen, Sees, SeesFrom}

-- WHAT TWO PARTIES COUNT between two edges of one bus. From 377 to 457 us of a port is a half bit of each receiver, from 794 to 874 are two, and
-- from 2,462 us on a stop condition.

pub half_seen : (passed v w : ℕ) → IsSeen table passed v → IsSeen table passed w → 377 ≤ v → v ≤ 457 → IsHalf w
half_seen passed v w one two lo hi =
    let a : 995 * one.time ≤ 1000 * (v + 1) = one.counts.0 in
    let b : 1000 * v ≤ 1005 * (one.time + 1) = one.counts.1 in
    let c : 995 * two.time ≤ 1000 * (w + 1) = two.counts.0 in
    let d : 1000 * w ≤ 1005 * (two.time + 1) = two.counts.1 in
    let e : passed ≤ one.time + 18 = one.more in
    let f : one.time ≤ passed + 18 = one.less in
    let g : passed ≤ two.time + 18 = two.more in
    let h : two.time ≤ passed + 18 = two.less in
    within one.time two.time a b c d e f g h
  where
    within : (x y : ℕ) → 995 * x ≤ 1000 * (v + 1) → 1000 * v ≤ 1005 * (x + 1) → 995 * y ≤ 1000 * (w + 1) → 1000 * w ≤ 1005 * (y + 1)
        → passed ≤ x + 18 → x ≤ passed + 18 → passed ≤ y + 18 → y ≤ passed + 18 → (334 ≤ w) × (w ≤ 500)
    within x y a b c d e f g h = (omega arith, omega arith)

pub whole_seen : (passed v w : ℕ) → IsSeen table passed v → IsSeen table passed w → 794 ≤ v → v ≤ 874 → IsWhole w
whole_seen passed v w one two lo hi = within one.time two.time one.counts.0 one.counts.1 two.counts.0 two.counts.1 one.more one.less two.more two.less where
  within : (x y : ℕ) → 995 * x ≤ 1000 * (v + 1) → 1000 * v ≤ 1005 * (x + 1) → 995 * y ≤ 1000 * (w + 1) → 1000 * w ≤ 1005 * (y + 1)
      → passed ≤ x + 18 → x ≤ passed + 18 → passed ≤ y + 18 → y ≤ passed + 18 → (667 ≤ w) × (w ≤ 1000)
  within x y a b c d e f g h = (omega arith, omega arith)

pub stop_seen : (passed v w : ℕ) → IsSeen table passed v → IsSeen table passed w → 2462 ≤ v → 2400 ≤ w
stop_seen passed v w one two lo = within one.time two.time one.counts.1 two.counts.0 one.less two.more where
  within : (x y : ℕ) → 1000 * v ≤ 1005 * (x + 1) → 995 * y ≤ 1000 * (w + 1) → x ≤ passed + 18 → passed ≤ y + 18 → 2400 ≤ w
  within x y b c f g = omega arith

-- a high that is no stop condition yet, and a low that is a break
pub high_seen : (passed v w : ℕ) → IsSeen table passed v → IsSeen table passed w → v ≤ 2250 → w < 2400
high_seen passed v w one two hi = within one.time two.time one.counts.0 two.counts.1 one.more two.less where
  within : (x y : ℕ) → 995 * x ≤ 1000 * (v + 1) → 1000 * w ≤ 1005 * (y + 1) → passed ≤ x + 18 → y ≤ passed + 18 → w < 2400
  within x y a b c d = omega arith

pub break_seen : (passed v w : ℕ) → IsSeen table passed v → IsSeen table passed w → 1250 ≤ v → 1000 < w
break_seen passed v w one two lo = within one.time two.time one.counts.1 two.counts.0 one.less two.more where
  within : (x y : ℕ) → 1000 * v ≤ 1005 * (x + 1) → 995 * y ≤ 1000 * (w + 1) → x ≤ passed + 18 → passed ≤ y + 18 → 1000 < w
  within x y a b c d = omega arith

-- what passed, if a port counts no more than two half bits
pub soon_seen : (passed v : ℕ) → IsSeen table passed v → v ≤ 874 → passed < 2000
soon_seen passed v one hi = within one.time one.counts.0 one.more where
  within : (x : ℕ) → 995 * x ≤ 1000 * (v + 1) → passed ≤ x + 18 → passed < 2000
  within x a e = omega arith

-- the bus itself is a view of it
exact : (passed : ℕ) → IsSeen table passed passed
exact passed = record { time = passed; more = omega arith; less = omega arith; counts = (omega arith, omega arith) }

itself : (bus : Edges) → Sees table bus bus
itself [] = tt
itself (e ∷ bus) = (refl, exact e.1, itself bus)

pub itself_from : (bus : Edges) → SeesFrom table bus bus
itself_from [] = tt
itself_from (e ∷ bus) = (refl, itself bus)
