use Rattle.dali_commission_mended.proofs.Mended.{ends_so}
use Rattle.dali_commission_mended.proofs.mending.came_to_or_not.Goals as goal

pub returns-in-Ok : goal.returns-in-Ok
returns-in-Ok g c = ends_so _ _ _ _ _ _ _ _ c.args.site.now.wanted.now _ _ _ _ _ _ c.in-Ok.came.report c.in-Ok.came.ended c.in-Ok.ensures.mends
