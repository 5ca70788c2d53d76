use Rattle.std.proofs.Common.{sym, ◌∙◌}
use Rattle.dali_commission_cleared.specs.Erasing.{erasing_next, erasing_told}
use Rattle.dali_commission_asked.proofs.Frames.{one_more}
use Rattle.dali_commission_cleared.proofs.clearing.erase.Goals as goal

pub loop-preserved : goal.loop-preserved
loop-preserved g c =
    one_more erasing_next erasing_told _ _ _ c.in-Some.put c.in-Ok.told _ _ _ c.loop.invariant (sym c.put.ensures ∙ c.in-Some.is)
    c.in-Ok.ensures.of_bus c.in-Ok.ensures.wrote c.in-Ok.ensures.told c.told.ensures
