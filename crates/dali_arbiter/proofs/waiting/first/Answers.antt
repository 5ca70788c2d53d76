use Rattle.std.proofs.Common.{sym, ◌∙◌}
use Rattle.dali_arbiter.proofs.FirstList.{front_is, none_best}
use Rattle.dali_arbiter.proofs.waiting.first.Goals as goal

pub returns-in_err-priority : goal.returns-in_err-priority
returns-in_err-priority c = c.from_residual.ensures ∙ sym (none_best c.args.waiting.now.lists 1 (sym c.best.ensures ∙ c.in_err-priority.was))

pub returns : goal.returns
returns c = c.front.ensures ∙ front_is c.args.waiting.now.lists _ (sym c.best.ensures ∙ c.in_ok-priority.was)
