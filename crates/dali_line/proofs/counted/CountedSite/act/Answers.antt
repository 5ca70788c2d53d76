use Rattle.std.proofs.Common.{refl}
use Rattle.dali_events.specs.declared.event.Event.TheVariants as event
use Rattle.dali_line.proofs.Counts.{step_counted}
use Rattle.dali_line.proofs.counted.CountedSite.act.Goals as goal

pub invariant_of-self-2 : goal.invariant_of-self-2
invariant_of-self-2 g c =
    let step = c.in_ok-receipt.ensures.step in
    record {
      exact = step_counted _ _ _ _ (event.Acted c.controller-c.result c.args.input c.in_ok-receipt.receipt.order)
          _ _ c.audit.new.self.exact c.raise.ensures.tally c.controller-c.ensures step.0 refl step.1;
    }
