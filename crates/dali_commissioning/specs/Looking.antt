use Rattle.std.specs.Prelude.{◌≡◌, ℕ, true, false, List, Option, Some, None}
use Rattle.dali_script.specs.declared.records.Record.{Record}
use Rattle.dali_script.specs.declared.records.Record.TheVariants.{Reserve, Enrol, Release}
use Rattle.dali_script.specs.Records.{Kept}
use Rattle.dali_script.specs.declared.orders.End.TheVariants.{AllFound}
use Rattle.dali_script.specs.declared.orders.Input.TheVariants.{Survey}
use Rattle.dali_reserve.specs.Store.{HasRecords, IsReplay}
use Rattle.dali_commissioning.specs.declared.conducting.Ended.{Ended}
use Rattle.dali_commissioning.specs.declared.conducting.Ended.TheVariants.{Done}
use Rattle.dali_commissioning.specs.declared.looking.Looking.{Looking}
use Rattle.dali_commissioning.specs.declared.newcomers.Newcomers.{Newcomers}
use Rattle.dali_commissioning.specs.declared.newcomers.Newcomers.TheVariants.{Nobody, One, Several}
use Rattle.dali_commissioning.specs.declared.newcomers.Newcomers.TheVariants.{Unclear}
use Rattle.dali_commissioning.specs.declared.fault.CommissionFault.{CommissionFault}
use Rattle.dali_commissioning.specs.declared.fault.CommissionFault.TheVariants as fault
use Rattle.dali_commissioning.specs.Acts.{RunsLeaveRules}
use Rattle.dali_commissioning.specs.Drivers.{Talk}
use Rattle.dali_commissioning.specs.Runs.{Run, AreRuns, EndWith}
use Rattle.dali_commissioning.specs.Unaddressed.{asking_beside, AreLeftOver, AreLostSo}

-- A LOOK: records in memory, and for which gear an address was wanted
abbrev pub keep_of : Looking → Kept
keep_of s = s.keep

abbrev pub wanted_of : Looking → Option ℕ
wanted_of s = s.wanted

-- for which gear a record reserves an address
abbrev pub reserved_by : Record → Option ℕ
reserved_by (Reserve a r) = Some r
reserved_by (Enrol a r) = None
reserved_by (Release a r) = None

-- what a survey says that wanted to give no address
abbrev pub without_any : Ended → Newcomers
without_any (Done AllFound) = Nobody
without_any ended = Unclear ended

-- A SURVEY OVER THESE RECORDS in memory, which are what such a store holds: it came to its end
abbrev pub HoldsAll : Looking → List Record → Type 0
HoldsAll s xs = IsReplay (keep_of s).block xs (keep_of s)

abbrev pub IsSurveyed : Kept → Ended → Talk → Talk → Type 0
IsSurveyed k ended x y =
    (was : Looking)
    × (keep : Looking)
    × (runs : List Run)
    × (keep_of was ≡ k)
    × AreRuns (λ s. Unit {0}) (λ s. HasRecords (keep_of s)) HoldsAll (keep_of was).block Survey
    was keep x y runs
    × EndWith ended runs

-- or it was left for this, and an address was wanted for this gear, if for any
abbrev pub IsSurveyLeft : Kept → Option ℕ → CommissionFault → Talk → Talk → Type 0
IsSurveyLeft k wanted reason x y =
    (was : Looking)
    × (keep : Looking)
    × (keep_of was ≡ k)
    × (wanted_of keep ≡ wanted)
    × RunsLeaveRules (λ s. Unit {0}) (λ s. HasRecords (keep_of s)) HoldsAll (keep_of was).block
    Survey reason was keep x y

-- IT IS LOOKED FOR GEAR WITHOUT SHORT ADDRESS by a survey over these records. If it wants an
-- address for one the others are asked.
abbrev pub HasAskedBeside : Kept → ℕ → (Talk → Type 0) → Talk → Type 0
HasAskedBeside k r then x =
    (reason : CommissionFault) × (at : Talk) × IsSurveyLeft k (Some r) reason x at × then at

abbrev pub HasLookedFor : Kept → Newcomers → Talk → Talk → Type 0
HasLookedFor k Nobody x y = IsSurveyed k (Done AllFound) x y
HasLookedFor k (One r) x y =
    HasAskedBeside k r (λ at. AreLeftOver (asking_beside r) false at y) x
HasLookedFor k Several x y =
    (r : ℕ) × HasAskedBeside k r (λ at. AreLeftOver (asking_beside r) true at y) x
HasLookedFor k (Unclear ended) x y = IsSurveyed k ended x y

-- Why that is not learned
abbrev pub HasNotLooked : Kept → CommissionFault → Talk → Talk → Type 0
HasNotLooked k (fault.Driver f) x y = y.fault ≡ Some f
HasNotLooked k fault.QuestionLost x y =
    (r : ℕ) × HasAskedBeside k r (λ at. AreLostSo (asking_beside r) at y) x
HasNotLooked k (fault.Store e) x y = IsSurveyLeft k None (fault.Store e) x y
HasNotLooked k fault.StepsSpent x y = IsSurveyLeft k None fault.StepsSpent x y
HasNotLooked k fault.RunsSpent x y = IsSurveyLeft k None fault.RunsSpent x y
