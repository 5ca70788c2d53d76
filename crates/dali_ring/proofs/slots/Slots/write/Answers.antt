use Rattle.std.proofs.Common.{◌∙◌}
use Rattle.dali_ring.proofs.Puts.{put_inside}
use Rattle.dali_ring.proofs.slots.Slots.write.Goals as goal

pub returns : goal.returns
returns g c = c.put.ensures.items ∙ put_inside _ _ _ _ c.self.view_is c.requires
