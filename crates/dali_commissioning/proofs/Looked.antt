use Rattle.std.proofs.Common.{◌≡◌, ℕ, Option, Some, None, refl}
use Rattle.dali_script.specs.{Records.Kept, declared.orders.Input.TheVariants.Survey}
use Rattle.dali_reserve.specs.Store.{HasRecords}
use Rattle.dali_commissioning.specs.{declared.looking.Looking.Looking, Acts.RunsLeaveRules, Unaddressed.asking_beside, Unaddressed.AreLostSo}
use Rattle.dali_commissioning.specs.Drivers.{Talk, IsFailed, IsCut}
use Rattle.dali_commissioning.specs.Looking.{keep_of, wanted_of, HoldsAll, IsSurveyLeft, HasAskedBeside, HasNotLooked}
use Rattle.dali_commissioning.specs.declared.fault.CommissionFault.{CommissionFault}
use Rattle.dali_commissioning.specs.declared.fault.CommissionFault.TheVariants as fault

-- WHY GEAR WITHOUT SHORT ADDRESS ARE NOT LOOKED FOR TO THE END: the survey was left and wanted no address, or those beside the one that it
-- wanted one for could not be asked.

pub not_surveyed : (k : Kept) (reason : CommissionFault) (x y : Talk) → IsFailed reason y → (reason ≡ fault.QuestionLost → ⊥)
    → IsSurveyLeft k None reason x y → HasNotLooked k reason x y
not_surveyed k (fault.Driver f) x y failed kept left = failed
not_surveyed k fault.QuestionLost x y failed kept left = absurd (kept refl)
not_surveyed k (fault.Store e) x y failed kept left = left
not_surveyed k fault.StepsSpent x y failed kept left = left
not_surveyed k fault.RunsSpent x y failed kept left = left

pub not_asked_beside : (k : Kept) (r : ℕ) (reason : CommissionFault) (x at y : Talk) → IsCut reason y
    → (reason ≡ fault.QuestionLost → AreLostSo (asking_beside r) at y) → (before : CommissionFault) → IsSurveyLeft k (Some r) before x at
    → HasNotLooked k reason x y
not_asked_beside k r (fault.Driver f) x at y cut lost before left = cut
not_asked_beside k r fault.QuestionLost x at y cut lost before left = (r, (before, at, left, lost refl))
not_asked_beside k r (fault.Store e) x at y cut lost before left = absurd cut
not_asked_beside k r fault.StepsSpent x at y cut lost before left = absurd cut
not_asked_beside k r fault.RunsSpent x at y cut lost before left = absurd cut
