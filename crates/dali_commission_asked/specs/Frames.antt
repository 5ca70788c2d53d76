use Rattle.std.specs.Prelude.{◌≡◌, List, [], ◌∷◌, Option, Some}
use Rattle.dali_script.specs.declared.orders.Input.{Input}
use Rattle.dali_commissioning.specs.Census.{IsPut}
use Rattle.dali_commissioning.specs.Drivers.{Talk}
use Rattle.dali_mending.specs.declared.mending.Put.{Put}

-- A MACHINE IS CONDUCTED, by which frame it says next and what it is after what it is told: each
-- frame is put, and it is told what came of that; last first
abbrev pub IsFrame : {M : Type 0} → (M → Option Put) → (M → Input → M) → M → Input → M → Talk
    → Talk → Type 0
IsFrame next after m told n x y =
    (put : Put)
    × (next m ≡ Some put)
    × IsPut put.priority put.frame put.half told x y
    × (n ≡ after m told)

abbrev pub AreFrames : {M : Type 0} → (M → Option Put) → (M → Input → M) → M → List Input → M
    → Talk → Talk → Type 0
AreFrames next after m [] n x y = (n ≡ m) × (y ≡ x)
AreFrames {M = M} next after m (told ∷ before) n x y =
    (mid : M)
    × (at : Talk)
    × AreFrames next after m before mid x at
    × IsFrame next after mid told n at y
