use Rattle.std.proofs.Common.{◌∙◌, ap}
use Rattle.dali_controller.specs.Machine.{at_first}
use Rattle.dali_controller.proofs.machine.Machine.new.Goals as goal

pub invariant_of-result : goal.invariant_of-result
invariant_of-result c = c.new.ensures.whole c.copy.result

pub returns : goal.returns
returns c = c.new.ensures.first c.copy.result ∙ ap (at_first c.args.id) c.copy.ensures
