use Rattle.dali_events.proofs.Plans.{few_used}
use Rattle.dali_events.proofs.plan.Plan.used.Goals as goal

pub returns-clause-few : goal.returns-clause-few
returns-clause-few c = rw (← c.self.view_is) (few_used _ c.self.invariant.0.used)
