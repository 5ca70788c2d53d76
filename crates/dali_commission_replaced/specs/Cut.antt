use Rattle.std.specs.Prelude.{◌≡◌, ◌⊎◌, ℕ, Bool, true, false, List, [], Result, IfOk, IfErr, length}
use Rattle.dali_script.specs.declared.block.Block.{Block}
use Rattle.dali_script.specs.declared.records.Record.{Record}
use Rattle.dali_script.specs.Records.{Kept}
use Rattle.dali_commissioning.specs.declared.census.Reply.{Reply}
use Rattle.dali_commissioning.specs.declared.conducting.PassEnd.{PassEnd}
use Rattle.dali_commissioning.specs.declared.fault.CommissionFault.{CommissionFault}
use Rattle.dali_commissioning.specs.declared.verdict.Place.{Place}
use Rattle.dali_commissioning.specs.Census.{IsAnswered}
use Rattle.dali_commissioning.specs.Drivers.{Talk, IsCut}
use Rattle.dali_commissioning.specs.Places.{places}
use Rattle.dali_replacement.specs.declared.come.Come.{Come}
use Rattle.dali_replacement.specs.declared.refusal.ReplaceFault.{ReplaceFault}
use Rattle.dali_replacement.specs.declared.refusal.ReplaceRefusal.TheVariants as refusal
use Rattle.dali_replacement.specs.Come.{may_be_heard}
use Rattle.dali_replacement.specs.Permit.{HasGiven, HasNotGiven, IsNotVacant, IsNotConfirmed}
use Rattle.dali_replacement.specs.Standing.{AreHeard, AreThere}
use Rattle.dali_commission_said.specs.declared.failure.Failure.{Failure}
use Rattle.dali_commission_said.specs.declared.failure.Failure.TheVariants.{NotReplaced}
use Rattle.dali_commission_said.specs.declared.failure.Failure.TheVariants.{NobodyAnswered}
use Rattle.dali_commission_said.specs.declared.report.Report.{Report}
use Rattle.dali_commission_said.specs.Failures.{failure_of, fault_of, not_given}
use Rattle.dali_commission_asked.specs.Came.{IsCutAs}

-- WHAT A STEP OF A REPLACEMENT PUTS THAT FAILS is a beginning of what it would have put.

-- One is missing that is not known to be gone, by what stands under each short address. That is
-- reported, if any gear was heard.
abbrev pub IsMissing : Bool → ℕ → List Place → Failure → Report → Report → Type 0
IsMissing true a places failure before after =
    (failure ≡ NotReplaced a refusal.NotThere)
    × (after ≡ record before { places = record { items = places } })
IsMissing false a places failure before after = (failure ≡ NobodyAnswered) × (after ≡ before)

-- All others are not there: another gear answers at the short address than may be heard there; or
-- what is asked is cut short; or all were asked, and one is missing.
abbrev pub HasNotAskedOthers : Bool → ℕ → Come → Kept → List ℕ → Failure → Report → Report → Talk
    → Talk → Type 0
HasNotAskedOthers heard a come table gone failure before after x y =
    ((why : ReplaceFault)
    × (line : ℕ)
    × (failure ≡ fault_of a why line)
    × IsNotVacant a come why x y
    × (after ≡ before))
    ⊎ ((reply : Reply)
    × (at : Talk)
    × IsAnswered a reply x at
    × (may_be_heard come reply ≡ true)
    × (((line : ℕ) × IsCutAs failure line y × (after ≡ before))
    ⊎ ((replies : List Reply)
    × (length replies ≡ 64)
    × AreHeard table 0 replies at y
    × (AreThere 0 gone (places table [] replies) → ⊥)
    × IsMissing heard a (places table [] replies) failure before after)))

-- The address is not given over new records that are open: they could not be filled, or the surveys
-- were left; or the records cannot be read then, or what is asked at last is cut short.
abbrev pub IsGivingCut : {S : Type 0} (is_up is_sound : S → Type 0)
    (holds : S → List Record → Type 0) (kept_of : S → Kept) → Block → ℕ → Kept → Failure → S
    → Talk → Talk → Type 0
IsGivingCut {S = S} is_up is_sound holds kept_of block a table failure keep x y =
    ((reason : CommissionFault)
    × (line : ℕ)
    × (failure ≡ failure_of reason line)
    × HasNotGiven is_up is_sound holds kept_of block a table reason keep x y)
    ⊎ ((pass : PassEnd)
    × (mid : S)
    × (at : Talk)
    × HasGiven is_up is_sound holds kept_of block a table mid x at pass
    × ((y ≡ at) ⊎ ((line : ℕ) × IsCutAs failure line y)))

-- The giver's new records do not have the new gear: it is asked why.
abbrev pub IsNotInFirst : ℕ → Failure → Talk → Talk → Type 0
IsNotInFirst a failure x y =
    (heard : Result Reply CommissionFault)
    × (line : ℕ)
    × IfOk heard (λ reply. IsAnswered a reply x y)
    × (failure ≡ not_given a heard line)
    × IfErr heard (λ reason. IsCut reason y)

-- The new gear is not the one that is heard, by these new tables.
abbrev pub IsNotHeardOf : ℕ → List Kept → Failure → Talk → Talk → Type 0
IsNotHeardOf a news failure x y =
    (why : ReplaceFault)
    × (line : ℕ)
    × (failure ≡ fault_of a why line)
    × IsNotConfirmed a news why x y
