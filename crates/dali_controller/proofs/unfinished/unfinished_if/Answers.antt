use Rattle.std.proofs.Common.{sym}
use Rattle.dali_controller.proofs.Courses.{surely_finished}
use Rattle.dali_controller.proofs.unfinished.unfinished_if.Goals as goal

pub returns-else-maybe-clause-unfinished : goal.returns-else-maybe-clause-unfinished
returns-else-maybe-clause-unfinished c = sym (surely_finished c.args.kept.now c.args.address (c.requires.sure c.if-maybe.false))
