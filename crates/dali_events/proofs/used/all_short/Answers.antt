use Rattle.std.proofs.{Common.{◌<◌, arith, subst, All}, lemmas.List.{take_all, Elements.All-more}}
use Rattle.dali_events.proofs.used.all_short.Goals as goal

pub loop-at-preserved : goal.loop-at-preserved
loop-at-preserved c =
    All-more (λ u. u.short < 64) c.args.used.now c.loop-at.at c.index-used-at.result c.loop-at-test.true c.loop-at.invariant
    c.number-number.ensures.range

pub returns : goal.returns
returns c = subst (λ xs. All (λ u. u.short < 64) xs) (take_all c.loop-at.at c.args.used.now (omega (arith, c.loop-at-test.false))) c.loop-at.invariant
