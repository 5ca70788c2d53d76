use Rattle.std.proofs.Common.{◌<◌, length, arith}
use Rattle.dali_script.proofs.{Fronts.address_at, Lists.marking_none, Lists.marking_more, Lists.marking_all}
use Rattle.dali_script.proofs.pairs.marks.Goals as goal

pub bounds-marks-from : goal.bounds-marks-from
bounds-marks-from c =
    let p = c.index-pairs-from.result in
    let inside : c.loop-place.place < length c.args.pairs.now = omega (arith, c.loop-place-test.true) in
    rw (c.from-in-loop-place.ensures, c.address.ensures)
    (c.requires.short p.0 (address_at c.args.pairs.now c.loop-place.place p inside (rw c.from.ensures at c.index-pairs-from.is)))

pub loop-place-init : goal.loop-place-init
loop-place-init c = marking_none c.args.pairs.now

pub loop-place-preserved : goal.loop-place-preserved
loop-place-preserved c =
    let p = c.index-pairs-from.result in
    let inside : c.loop-place.place < length c.args.pairs.now = omega (arith, c.loop-place-test.true) in
    let is = rw c.from.ensures at c.index-pairs-from.is in
    rw (c.from-in-loop-place.ensures, c.address.ensures)
    (marking_more c.args.pairs.now c.loop-place.place p c.loop-place.marks inside is
    (c.requires.short p.0 (address_at c.args.pairs.now c.loop-place.place p inside is)) c.loop-place.invariant)

pub returns : goal.returns
returns c = marking_all c.args.pairs.now c.loop-place.place c.loop-place.marks (omega (arith, c.loop-place-test.false)) c.loop-place.invariant
