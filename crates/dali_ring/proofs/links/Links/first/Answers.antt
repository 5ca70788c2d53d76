use Rattle.std.proofs.Common.{[]}
use Rattle.dali_ring.proofs.Waiting.{first_at}
use Rattle.dali_ring.proofs.links.Links.first.Goals as goal

pub behind-requires-clause-place : goal.behind-requires-clause-place
behind-requires-clause-place g c = ([], _, first_at _ _ _ c.requires.linked c.args.list)

pub returns : goal.returns
returns g c = c.behind.ensures [] _ (first_at _ _ _ c.requires.linked c.args.list)
