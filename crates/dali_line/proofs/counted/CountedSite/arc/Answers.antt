use Rattle.std.proofs.Common.{◌<◌, refl, arith}
use Rattle.dali_events.specs.declared.event.Event.TheVariants as event
use Rattle.dali_line.proofs.Counts.{step_counted}
use Rattle.dali_line.proofs.counted.CountedSite.arc.Goals as goal

pub raise-requires : goal.raise-requires
raise-requires g c =
    let up = c.in_ok-arc.ensures.offered.0.allowed.0 in
    let known = up.known in
    let few = c.audit.ensures.few in
    let same = c.controller.ensures in
    omega arith

pub invariant_of-self-2 : goal.invariant_of-self-2
invariant_of-self-2 g c =
    let logs = c.in_ok-arc.ensures.offered.0 in
    let known = logs.allowed.0.known in
    let few = c.audit.ensures.few in
    let there : c.controller.result < 4 = omega arith in
    record {
      exact = step_counted _ _ _ _ (event.Offered c.controller.result c.args.frame)
          _ _ c.audit.new.self.exact c.raise.ensures.tally c.controller.ensures there refl logs.logged;
    }
