use Rattle.std.proofs.Common.{sym, ◌∙◌}
use Rattle.dali_arbiter.proofs.FirstList.{some_best, front_some}
use Rattle.dali_arbiter.proofs.waiting.take_first.Goals as goal

pub unwrap-priority-requires : goal.unwrap-priority-requires
unwrap-priority-requires c = rw c.best.ensures (some_best c.args.waiting.now.lists 1 c.requires)

pub unwrap-requires : goal.unwrap-requires
unwrap-requires c = rw c.pop.ensures.first (front_some c.args.waiting.now.lists _ (sym c.best.ensures ∙ c.unwrap-priority.ensures))
