use Rattle.dali_replacement.proofs.Looked.{looked_from_nowhere}
use Rattle.dali_replacement.proofs.permit.OthersThere.look.Goals as goal

pub returns-in-Nowhere-clause-seen : goal.returns-in-Nowhere-clause-seen
returns-in-Nowhere-clause-seen g c = looked_from_nowhere _ _ _ _ _ _ _ c.in-Nowhere.is c.table.ensures c.look_beside.ensures.seen
