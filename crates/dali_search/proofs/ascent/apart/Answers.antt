use Rattle.std.proofs.Common.{arith}
use Rattle.dali_search.specs.Ascending.{apart, apart_below}
use Rattle.dali_search.proofs.{Blocks.counted, Blocks.counted_all, ascent.apart.Goals.then-one-other, ascent.apart.Goals.else-one-other}
use Rattle.dali_search.proofs.ascent.apart.Goals as goal

pub loop-preserved : goal.loop-preserved
loop-preserved c =
    let both = counted c.loop.counter c.loop.bits (apart_below 24 c.args.one c.args.other) c.loop.one c.loop.other c.loop-test.true c.loop.invariant.counted in
    elim c.if-one-other.branch [
      | then-one-other w ↦ rw (w.one-is, w.other-is, w.bits-is) (record { counted = both.1 w.if-one-other.true; few = omega (arith, c.loop.invariant.few) })
      | else-one-other w ↦ rw (w.one-is, w.other-is, w.bits-is) (record { counted = both.0 w.if-one-other.false; few = omega (arith, c.loop.invariant.few) })
    ]

pub returns-clause-value : goal.returns-clause-value
unfolding apart
returns-clause-value c =
    counted_all c.loop.counter c.loop.bits (apart_below 24 c.args.one c.args.other) c.loop.one c.loop.other c.loop.auto.counter-end c.loop-test.false
    c.loop.invariant.counted
