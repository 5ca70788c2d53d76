use Rattle.std.proofs.Common.{[], refl}
use Rattle.dali_commissioning.{specs.Drivers.Talk}
use Rattle.dali_commission_cleared.specs.Clearing.{HaveErased}
use Rattle.dali_commission_cleared.specs.declared.eraser.Eraser.{Eraser}

pub none_erased : (e : Eraser) (x : Talk) → HaveErased e e x x
none_erased e x = ([], (refl, refl))
