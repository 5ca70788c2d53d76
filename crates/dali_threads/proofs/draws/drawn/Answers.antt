use Rattle.std.proofs.Common.{rules}
use Rattle.dali_threads.proofs.Numbers.{stand_once, are_drawn}
use Rattle.dali_threads.proofs.draws.drawn.Goals as goal

pub returns-clause-drawn : goal.returns-clause-drawn
returns-clause-drawn c = are_drawn c.args.seed _ _ (search rules)

pub returns-clause-once : goal.returns-clause-once
returns-clause-once c = stand_once _ c.len.ensures.unique
