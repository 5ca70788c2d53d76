use Rattle.dali_commission_stores.proofs.Lent.{closed_well}
use Rattle.dali_commission_stores.proofs.records.lend_seen.Goals as goal

pub returns-clause-made : goal.returns-clause-made
returns-clause-made g c =
    closed_well g.F.Stores.made _ _ _ _ _ c.ended.result c.in_ok-open.ensures.made c.close-closed.ensures c.ended.ensures.closed
