use Rattle.std.proofs.Common.{sym, arith}
use Rattle.dali_ring.proofs.Rings.{best_at, best_on}
use Rattle.dali_ring.proofs.ring.Ring.best.Goals as goal

pub returns-then-is_some : goal.returns-then-is_some
returns-then-is_some g c =
    best_at _ _ _ c.loop-number.number _ c.self.view_is c.from.ensures c.loop-number.auto.number _ c.first.ensures c.loop-number.invariant
    (sym c.if-is_some.ensures) _ (c.of.ensures.range.1 (c.loop-number.auto.number, omega (arith, c.loop-number-test.true))) c.of.ensures.value

pub loop-number-preserved : goal.loop-number-preserved
loop-number-preserved g c =
    best_on _ _ _ c.loop-number.number _ c.self.view_is c.from.ensures c.loop-number.auto.number _ c.first.ensures c.loop-number.invariant
    (sym c.if-is_some.ensures)
