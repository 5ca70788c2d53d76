use Rattle.std.proofs.Common.{refl}
use Rattle.dali_search.proofs.Narrowing.{narrows_at_first}
use Rattle.dali_search.proofs.search.Search.new.Goals as goal

pub invariant_of-result : goal.invariant_of-result
invariant_of-result c = (rw c.probe.ensures narrows_at_first, refl)
