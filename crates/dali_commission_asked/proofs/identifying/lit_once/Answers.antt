use Rattle.std.proofs.Common.{◌∙◌, ap}
use Rattle.dali_commissioning.specs.declared.fault.CommissionFault.TheVariants.{Driver}
use Rattle.dali_commission_said.specs.Failures.{failure_of}
use Rattle.dali_commission_asked.proofs.identifying.lit_once.Goals as goal

pub returns-in-Err-clause-failed : goal.returns-in-Err-clause-failed
returns-in-Err-clause-failed g c = (
  Driver c.in-Err.fault,
  c.in-Err.ensures.failed,
  c.failure_of.ensures ∙ ap (failure_of (Driver c.in-Err.fault)) c.lines.ensures,
)
