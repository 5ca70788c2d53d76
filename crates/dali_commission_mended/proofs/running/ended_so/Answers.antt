use Rattle.std.proofs.Common.{refl, subst}
use Rattle.dali_commissioning.specs.declared.fault.CommissionFault.TheVariants.{Store}
use Rattle.dali_commission_said.specs.Reports.{RunSaid}
use Rattle.dali_commission_asked.specs.Ending.{pass_at_last}
use Rattle.dali_commission_mended.proofs.running.ended_so.Goals as goal

pub returns-in-Err-clause-stops : goal.returns-in-Err-clause-stops
returns-in-Err-clause-stops g c = (Store c.in-Err.ensures.failed.0, c.in-Err.ensures.failed.1, refl)

pub returns-in-Ok-asked-clause-ends : goal.returns-in-Ok-asked-clause-ends
returns-in-Ok-asked-clause-ends g c = (
  c.in-Ok.after,
  c.in-Ok-asked.last,
  c.in-Ok.ensures.read,
  c.in-Ok-asked.ensures.asked,
  c.came_of.ensures.ended,
  subst (λ n. RunSaid (pass_at_last c.args.pass.now c.in-Ok-asked.last) c.args.before.now c.in-Ok.after c.args.aim n
      c.came_of.result.report.said.items) c.lines-lines.ensures c.came_of.ensures.said,
  c.came_of.ensures.reports,
)
