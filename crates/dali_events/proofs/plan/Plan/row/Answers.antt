use Rattle.std.proofs.Common.{◌<◌, sym, subst}
use Rattle.dali_events.proofs.Plans.{there_in}
use Rattle.dali_events.proofs.plan.Plan.row.Goals as goal

pub place-requires : goal.place-requires
place-requires c =
    subst (λ n. c.used-item.result.gear < n) (sym c.loop-used.invariant.count)
    (there_in c.args.self.now c.used-used-items.ensures.used c.used-used-items.result.now c.used-used-items.ensures.value c.loop-used.used-index
    c.used-item.result c.loop-used-test.true c.used-item.is)
