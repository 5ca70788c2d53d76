use Rattle.std.proofs.Common.{[], refl}
use Rattle.dali_commissioning.{specs.Drivers.Talk}
use Rattle.dali_mending.specs.{Mending.Mending}
use Rattle.dali_commission_mended.specs.Mends.{HasPut}

-- no frame was put, and one more
pub none : (m : Mending) (x : Talk) → HasPut m m x x
none m x = ([], (refl, refl))
