use Rattle.std.proofs.Common.{rules, refl}
use Rattle.dali_world.proofs.Logs.{opens}
use Rattle.dali_world.proofs.site.SiteState.new.Goals as goal

pub invariant_of-result : goal.invariant_of-result
invariant_of-result c = rw c.in_ok-log.ensures.items (opens c.args.plan c.args.queue_capacity c.args.log_capacity _ _ _ (search rules) (search rules)
    (search rules) (search rules) (search rules) (search rules) refl)
