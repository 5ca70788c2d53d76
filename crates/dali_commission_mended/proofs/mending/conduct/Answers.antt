use Rattle.std.proofs.Common.{sym, ◌∙◌}
use Rattle.dali_mending.specs.Mending.{put_next, told_to}
use Rattle.dali_commission_asked.proofs.Frames.{one_more}
use Rattle.dali_commission_mended.proofs.mending.conduct.Goals as goal

pub loop-preserved : goal.loop-preserved
loop-preserved g c =
    one_more put_next told_to _ _ _ c.in-Some.put c.in-Ok.told _ _ _ c.loop.invariant (sym c.put.ensures ∙ c.in-Some.is) c.in-Ok.ensures.of_bus
    c.in-Ok.ensures.wrote c.in-Ok.ensures.told c.told.ensures.told
