use Rattle.std.proofs.Common.{◌<◌, length, arith}
use Rattle.dali_script.proofs.{Fronts.address_at, Matching.matching_one, Matching.matching_marked}
use Rattle.dali_script.proofs.pairs.maybe_unmatched.Goals.{then-not-shares_random_at, else-not-shares_random_at}
use Rattle.dali_script.proofs.pairs.maybe_unmatched.Goals as goal

pub bounds-places-address : goal.bounds-places-address
bounds-places-address c =
    let p = c.index-pairs-from.result in
    let inside : c.loop-place.place < length c.args.pairs.now = omega (arith, c.loop-place-test.true) in
    rw (c.from-address.ensures, c.address.ensures)
    (c.requires.short p.0 (address_at c.args.pairs.now c.loop-place.place p inside (rw c.from.ensures at c.index-pairs-from.is)))

pub bounds-marks-address : goal.bounds-marks-address
bounds-marks-address c =
    let p = c.index-pairs-from.result in
    let inside : c.loop-place.place < length c.args.pairs.now = omega (arith, c.loop-place-test.true) in
    rw (c.from-address.ensures, c.address.ensures)
    (c.requires.short p.0 (address_at c.args.pairs.now c.loop-place.place p inside (rw c.from.ensures at c.index-pairs-from.is)))

pub loop-place-preserved : goal.loop-place-preserved
loop-place-preserved c =
    let xs = c.args.pairs.now in
    let ys = c.args.others.now in
    let i = c.loop-place.place in
    let p = c.index-pairs-from.result in
    let inside : i < length xs = omega (arith, c.loop-place-test.true) in
    let is = rw c.from.ensures at c.index-pairs-from.is in
    elim c.if-not-shares_random_at.branch [
      | then-not-shares_random_at w ↦
          rw (w.marks-is, c.from-address.ensures, c.address.ensures) (matching_marked xs ys i p c.loop-place.marks inside is
          (c.requires.short p.0 (address_at xs i p inside is)) c.loop-place.invariant)
      | else-not-shares_random_at w ↦
          rw w.marks-is (matching_one xs ys i p c.loop-place.marks inside is (c.shares_random_at.ensures w.if-not-shares_random_at.false)
          c.loop-place.invariant)
    ]
