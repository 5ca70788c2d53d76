use Rattle.std.specs.Prelude.{ℕ, Bool, true, false, List, [], ◌∷◌, length}
use Rattle.dali_script.specs.Records.{Kept}
use Rattle.dali_commission_said.specs.declared.said.Said.{Said}
use Rattle.dali_commission_said.specs.declared.said.Said.TheVariants as said

-- the end of an earlier call's swap
abbrev pub FinishTold : (Said → Type 0) → ℕ → Bool → Type 0
FinishTold told a true = told (said.Exchanged a)
FinishTold told a false = told (said.TakenBack a)

-- which gear has a short address now, and how many are in the first of its tables
abbrev pub gear_in : List Kept → ℕ
gear_in [] = 0
gear_in (new ∷ more) = length new.enrolled

abbrev pub ConfirmedTold : (Said → Type 0) → ℕ → ℕ → List Kept → Type 0
ConfirmedTold told a r news = told (said.Replaced a r (gear_in news))
