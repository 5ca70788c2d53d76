use Rattle.std.specs.Prelude.{◌≡◌, ◌⊎◌, ℕ, false, List, [], ◌∷◌, Some, None, Result, Ok, Err}
use Rattle.dali_script.specs.declared.block.Block.{Block}
use Rattle.dali_script.specs.declared.orders.Input.TheVariants.{Survey}
use Rattle.dali_script.specs.declared.records.Record.{Record}
use Rattle.dali_script.specs.Records.{Kept, Assignment, without_records}
use Rattle.dali_commissioning.specs.declared.census.Reply.{Reply}
use Rattle.dali_commissioning.specs.declared.conducting.PassEnd.{PassEnd}
use Rattle.dali_commissioning.specs.declared.fault.CommissionFault.{CommissionFault}
use Rattle.dali_commissioning.specs.declared.fault.CommissionFault.TheVariants as fault
use Rattle.dali_commissioning.specs.Acts.{RunsLeaveRules}
use Rattle.dali_commissioning.specs.Census.{AreCounted}
use Rattle.dali_commissioning.specs.Drivers.{Talk}
use Rattle.dali_replacement.specs.Tables.{Keeps, Reserves}
use Rattle.dali_mending.specs.Mending.{Mending, mending_begun}
use Rattle.dali_commission_said.specs.declared.failure.Failure.{Failure}
use Rattle.dali_commission_said.specs.declared.failure.Failure.TheVariants.{NobodyAnswered}
use Rattle.dali_commission_said.specs.declared.report.Report.{Report}
use Rattle.dali_commission_said.specs.Failures.{failure_of}
use Rattle.dali_commission_said.specs.Reports.{no_report}
use Rattle.dali_commission_tasks.specs.declared.tasks.Mend.{Mend}
use Rattle.dali_commission_asked.specs.Came.{IsCutAs}
use Rattle.dali_commission_asked.specs.Sharing.{meant_from, refused_from, is_any_bare}
use Rattle.dali_commission_mended.specs.Hanging.{AreLookedFor}
use Rattle.dali_commission_mended.specs.Mends.{HasPut, IsMended, AreMended, HasSurveyed, MendsFrom}

-- WHAT A MEND PUTS THAT FAILS is a beginning of what it would have put: whatever comes before is as
-- it is if it ends well.

-- The mending of a short address ends by the driver's fault, or by too many frames;
abbrev pub IsPutCut : CommissionFault → Mending → Talk → Talk → Type 0
IsPutCut (fault.Driver f) m x y = y.fault ≡ Some f
IsPutCut fault.StepsSpent m x y = (n : Mending) × HasPut m n x y
IsPutCut fault.QuestionLost m x y = ⊥
IsPutCut (fault.Store e) m x y = ⊥
IsPutCut fault.RunsSpent m x y = ⊥

-- those before it were mended. Or there is no memory for what came of one.
abbrev pub AreMendsCut : Kept → List ℕ → Failure → Talk → Talk → Type 0
AreMendsCut table [] failure x y = ⊥
AreMendsCut table (a ∷ more) failure x y =
    ((reason : CommissionFault)
    × (line : ℕ)
    × (failure ≡ failure_of reason line)
    × IsPutCut reason (mending_begun a table.enrolled) x y)
    ⊎ ((m : Mending)
    × (at : Talk)
    × IsMended table a m x at
    × ((y ≡ at) ⊎ AreMendsCut table more failure at y))

-- The surveys behind it are left, or the store cannot be filled, and they put nothing;
abbrev pub AreSurveysLeft : {S : Type 0} (is_up is_sound : S → Type 0)
    (holds : S → List Record → Type 0) (kept_of : S → Kept) → Block → Kept → List Assignment
    → CommissionFault → S → Talk → Talk → Type 0
AreSurveysLeft {S = S} is_up is_sound holds kept_of block table hanging reason keep x y =
    (filled : S)
    × Keeps table (kept_of filled)
    × Reserves hanging table (kept_of filled)
    × RunsLeaveRules is_up is_sound holds block Survey reason filled keep x y

abbrev pub AreSurveysCut : {S : Type 0} (is_up is_sound : S → Type 0)
    (holds : S → List Record → Type 0) (kept_of : S → Kept) → Block → Kept → List Assignment
    → CommissionFault → S → Talk → Talk → Type 0
AreSurveysCut is_up is_sound holds kept_of block table hanging (fault.Driver f) keep x y =
    y.fault ≡ Some f
AreSurveysCut is_up is_sound holds kept_of block table hanging fault.QuestionLost keep x y = ⊥
AreSurveysCut is_up is_sound holds kept_of block table hanging (fault.Store e) keep x y =
    (y ≡ x)
    ⊎ AreSurveysLeft is_up is_sound holds kept_of block table hanging (fault.Store e) keep x y
AreSurveysCut is_up is_sound holds kept_of block table hanging fault.StepsSpent keep x y =
    AreSurveysLeft is_up is_sound holds kept_of block table hanging fault.StepsSpent keep x y
AreSurveysCut is_up is_sound holds kept_of block table hanging fault.RunsSpent keep x y =
    AreSurveysLeft is_up is_sound holds kept_of block table hanging fault.RunsSpent keep x y

-- or what is asked at last is cut short, or the records cannot be read then.
abbrev pub IsEndCut : Failure → Talk → Talk → Type 0
IsEndCut failure x y = (y ≡ x) ⊎ ((line : ℕ) × IsCutAs failure line y)

abbrev pub FollowsCut : {S : Type 0} (is_up is_sound : S → Type 0)
    (holds : S → List Record → Type 0) (kept_of : S → Kept) → Block → Kept → List Assignment
    → List Reply → List Mending → Failure → S → Talk → Talk → Type 0
FollowsCut {S = S} is_up is_sound holds kept_of block table hanging replies ms failure keep x y =
    (is_any_bare replies ms ≡ false)
    × (((reason : CommissionFault)
    × (line : ℕ)
    × (failure ≡ failure_of reason line)
    × AreSurveysCut is_up is_sound holds kept_of block table hanging reason keep x y)
    ⊎ ((pass : PassEnd)
    × (mid : S)
    × (at : Talk)
    × HasSurveyed is_up is_sound holds kept_of block table hanging mid x at pass
    × IsEndCut failure at y))

abbrev pub MendedCut : {S : Type 0} (is_up is_sound : S → Type 0)
    (holds : S → List Record → Type 0) (kept_of : S → Kept) → Block → Kept → Mend
    → List Assignment → List Reply → Failure → S → Talk → Talk → Type 0
MendedCut is_up is_sound holds kept_of block table wanted hanging replies failure keep x y =
    AreMendsCut table (meant_from wanted.named.items 0 replies) failure x y
    ⊎ ((ms : List Mending)
    × (at : Talk)
    × AreMended table (meant_from wanted.named.items 0 replies) [] ms x at
    × FollowsCut is_up is_sound holds kept_of block table hanging replies ms failure keep at y)

-- Before that gear were looked for, or that is cut short;
abbrev pub BesideCut : {S : Type 0} (is_up is_sound : S → Type 0)
    (holds : S → List Record → Type 0) (kept_of : S → Kept) → Block → Kept → List Block → Mend
    → List Assignment → List Reply → Failure → S → Talk → Talk → Type 0
BesideCut is_up is_sound holds kept_of block table others wanted hanging replies failure keep x y =
    (refused_from table others wanted hanging 0 replies ≡ None)
    × MendedCut is_up is_sound holds kept_of block table wanted hanging replies failure keep x y

abbrev pub ToCut : {S : Type 0} (is_up is_sound : S → Type 0) (holds : S → List Record → Type 0)
    (kept_of : S → Kept) → Block → Kept → Kept → List Block → Mend → List Reply → Failure → S
    → Talk → Talk → Type 0
ToCut is_up is_sound holds kept_of block table records others wanted replies failure keep x y =
    ((line : ℕ) × IsCutAs failure line y)
    ⊎ ((hanging : List Assignment)
    × (at : Talk)
    × AreLookedFor table records others wanted (meant_from wanted.named.items 0 replies) 0 replies
    [] hanging x at
    × BesideCut is_up is_sound holds kept_of block table others wanted hanging replies failure keep
    at y)

-- and at first each short address was asked, or that is cut short, or no gear answers at any.
abbrev pub FromCut : {S : Type 0} (is_up is_sound : S → Type 0)
    (holds : S → List Record → Type 0) (kept_of : S → Kept) → Block → Kept → Kept → List Block
    → Mend → Failure → S → Talk → Talk → Type 0
FromCut is_up is_sound holds kept_of block table records others wanted failure keep x y =
    ((line : ℕ) × IsCutAs failure line y)
    ⊎ ((replies : List Reply)
    × (at : Talk)
    × AreCounted (without_records table.block) others 0 replies x at
    × (((failure ≡ NobodyAnswered) × (y ≡ at))
    ⊎ ToCut is_up is_sound holds kept_of block table records others wanted replies failure keep at
    y))

-- A MEND ENDS SO, well or not. Nothing is reported of one that is cut short.
abbrev pub EndsMend : {S : Type 0} (is_up is_sound : S → Type 0)
    (holds : S → List Record → Type 0) (kept_of : S → Kept) → Block → Kept → Kept → List Block
    → Mend → List Mending → S → S → Talk → Talk → ℕ → Report → Result (Unit {0}) Failure → Type 0
EndsMend is_up is_sound holds kept_of block table records others wanted ms was keep x y frames
    report (Ok done) =
    MendsFrom is_up is_sound holds kept_of block table records others wanted ms was keep x y frames
    report (Ok done)
EndsMend is_up is_sound holds kept_of block table records others wanted ms was keep x y frames
    report (Err failure) =
    MendsFrom is_up is_sound holds kept_of block table records others wanted ms was keep x y frames
    report (Err failure)
    ⊎ (FromCut is_up is_sound holds kept_of block table records others wanted failure keep x y
    × (report ≡ no_report))
